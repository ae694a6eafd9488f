use Rattle.std.proofs.Common.{ℕ, List, sym, ap, ◌∙◌}
use Rattle.prim_faults.specs.mpy_base.Val.{Val}
use Rattle.prim_faults.specs.py_primitives.Faults.{NotIterable}
use Rattle.prim_faults.specs.py_primitives.Outcome.{raises}
use Rattle.prim_faults.specs.prim_walks.Plain.{plain, plain_heap}
use Rattle.prim_faults.proofs.Outcomes.{gives_outcome, raises_outcome}
use Rattle.prim_operators.proofs.ItemsShown.{iterates, iterates_not}
use Rattle.prim_operators.proofs.items.use_iter.Goals as goal

pub returns-then-is_iterable : goal.returns-then-is_iterable
returns-then-is_iterable g c =
    let texts = g.C.Constants.text_of c.args.consts.now in
    let tuples = g.C.Constants.items_of c.args.consts.now in
    let h = c.args.arena.now in
    let heap = plain_heap texts tuples h in
    gives_outcome texts tuples h c.args.v _ c.requires.all_told c.requires.leads c.requires.told
    (iterates heap (plain texts tuples c.args.v) _ (sym c.if-is_iterable.true ∙ c.is_iterable.ensures texts tuples))

pub returns-else-is_iterable : goal.returns-else-is_iterable
returns-else-is_iterable g c =
    let texts = g.C.Constants.text_of c.args.consts.now in
    let tuples = g.C.Constants.items_of c.args.consts.now in
    let h = c.args.arena.now in
    let heap = plain_heap texts tuples h in
    raises_outcome texts tuples h _ _ c.requires.all_told tt
    (iterates_not heap (plain texts tuples c.args.v) _ (sym c.if-is_iterable.false ∙ c.is_iterable.ensures texts tuples)
    ∙ ap (λ (t : List ℕ). raises {A = Val} (NotIterable t) heap) (sym (c.type_of.ensures texts tuples)))
