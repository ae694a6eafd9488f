use Rattle.std.proofs.Common.{sym, ◌∙◌}
use Rattle.prim_builtins.specs.py_primitives.Calls.{list_from}
use Rattle.prim_builtins.specs.prim_walks.Plain.{plain, plain_heap}
use Rattle.prim_collections.proofs.Kept.{other_raises}
use Rattle.prim_collections.proofs.lists.list_of.Goals as goal

pub returns-then-not-is_iterable : goal.returns-then-not-is_iterable
returns-then-not-is_iterable g c =
    let texts = g.C.Constants.text_of c.args.consts.now in
    let tuples = g.C.Constants.items_of c.args.consts.now in
    let h = c.args.arena.now in
    let next = list_from (plain_heap texts tuples h) (plain texts tuples c.args.v) in
    other_raises texts tuples h c.args.v (sym c.is_iterable.ensures ∙ c.if-not-is_iterable.true) c.requires.leads c.requires.all_told c.type_of.result (c.type_of.ensures texts tuples) next
