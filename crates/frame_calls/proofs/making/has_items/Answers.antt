use Rattle.std.proofs.Common.{map, sym, ap, ◌∙◌}
use Rattle.frame_moves.specs.arena_objects.Iterables.{items_in}
use Rattle.frame_moves.specs.prim_walks.Looks.{seen}
use Rattle.frame_moves.specs.prim_walks.declared.look.Look.{Look}
use Rattle.frame_moves.specs.prim_walks.Plain.{plain}
use Rattle.frame_calls.proofs.Tuples.{tuple_of}
use Rattle.frame_calls.proofs.making.has_items.Goals as goal

pub returns-in-Tuple-clause-tuple : goal.returns-in-Tuple-clause-tuple
returns-in-Tuple-clause-tuple g c truth =
    let texts = g.C.Constants.text_of c.args.consts.now in
    let tuples = g.C.Constants.items_of c.args.consts.now in
    let h = c.args.arena.now in
    tuple_of texts tuples h (map (plain texts tuples) (items_in tuples h c.args.v)) c.args.v c.requires.known.leads
    (sym (sym (ap (λ (l : Look). seen texts tuples h c.args.v l) c.in-Tuple.is) ∙ c.look_at.ensures.shown))
