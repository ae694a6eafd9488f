use Rattle.std.proofs.Common.{List, ℕ, map, sym, ap, ◌∙◌}
use Rattle.std.proofs.lemmas.List.{length-map}
use Rattle.arena_objects.specs.Iterables.{items_in}
use Rattle.py_primitives.specs.Texts.{texts_between}
use Rattle.prim_walks.specs.Plain.{plain, plain_heap}
use Rattle.prim_walks.proofs.LeafTexts.{tuple_looked, tuple_between}
use Rattle.prim_walks.proofs.tuples.tuple_end.Goals as goal
use Rattle.std.specs.Prelude.{codes}

pub returns-clause-written : goal.returns-clause-written
returns-clause-written g c write raw =
    let texts = g.C.Constants.text_of c.args.consts.now in
    let tuples = g.C.Constants.items_of c.args.consts.now in
    let h = c.args.arena.now in
    let items = items_in tuples h c.args.v in
    let own = plain_heap texts tuples h in
    tuple_looked texts tuples h write raw c.args.v c.look_at.result c.requires.tuple c.requires.leads c.look_at.ensures.shown
    ∙ (tuple_between own write (map (plain texts tuples) items) c.item_count.result (c.item_count.ensures ∙ sym (length-map items (plain texts tuples)))
    ∙ sym (ap (λ (end : List ℕ). texts_between own write (codes "(") end (map (plain texts tuples) items)) c.end_of.ensures.end))
