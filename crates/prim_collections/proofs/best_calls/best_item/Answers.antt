use Rattle.std.proofs.Common.{◌≡◌, true, false, sym, ◌∙◌, subst}
use Rattle.prim_builtins.specs.mpy_base.Val.{Val}
use Rattle.prim_builtins.specs.py_values.Shown.{shown}
use Rattle.prim_builtins.specs.py_primitives.Outcome.{Outcome}
use Rattle.prim_builtins.specs.py_primitives.Calls.{best_of, made_letter}
use Rattle.prim_builtins.specs.prim_walks.Plain.{plain, plain_heap}
use Rattle.prim_builtins.specs.prim_faults.Outcomes.{IsOutcome}
use Rattle.prim_collections.specs.Collected.{is_str, is_iterable}
use Rattle.prim_collections.specs.Best.{plain_extreme}
use Rattle.prim_collections.proofs.Kept.{other_raises}
use Rattle.prim_collections.proofs.BestOutcomes.{items_searched}
use Rattle.prim_collections.proofs.best_calls.best_item.Goals as goal

pub returns-then-is_iterable : goal.returns-then-is_iterable
returns-then-is_iterable g c =
    let texts = g.C.Constants.text_of c.args.consts.now in
    let tuples = g.C.Constants.items_of c.args.consts.now in
    let h = c.args.arena.now in
    let heap = plain_heap texts tuples h in
    let sign = plain_extreme c.args.extreme in
    let v = c.args.over in
    let iterable : is_iterable v ≡ true = sym c.is_iterable.ensures ∙ c.if-is_iterable.true in
    let other : is_str v ≡ false = sym c.is_str.ensures ∙ c.if-is_str.false in
    subst (λ (o : Outcome Val). IsOutcome texts tuples h h c.best_value.result o) (sym (items_searched texts tuples h sign v c.requires.leads iterable other c.items_law.ensures.nested)) c.best_value.ensures

pub returns-else-is_iterable : goal.returns-else-is_iterable
returns-else-is_iterable g c =
    let texts = g.C.Constants.text_of c.args.consts.now in
    let tuples = g.C.Constants.items_of c.args.consts.now in
    let h = c.args.arena.now in
    let heap = plain_heap texts tuples h in
    let sign = plain_extreme c.args.extreme in
    let v = c.args.over in
    let none : is_iterable v ≡ false = sym c.is_iterable.ensures ∙ c.if-is_iterable.false in
    other_raises texts tuples h v none c.requires.leads c.requires.all_told c.type_of.result (c.type_of.ensures texts tuples) (best_of heap sign (made_letter heap (shown heap (plain texts tuples v))))
