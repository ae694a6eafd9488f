use Rattle.std.proofs.Common.{◌<◌, length, map, sym, subst, arith}
use Rattle.std.proofs.lemmas.List.{length-map}
use Rattle.prim_builtins.specs.arena_heap.declared.value.Value.{Value}
use Rattle.prim_builtins.specs.mpy_base.Val.{Val}
use Rattle.prim_builtins.specs.py_primitives.Outcome.{Outcome}
use Rattle.prim_builtins.specs.prim_walks.Plain.{plain, plain_heap}
use Rattle.prim_builtins.specs.prim_faults.Outcomes.{IsOutcome}
use Rattle.prim_collections.specs.Best.{plain_extreme}
use Rattle.prim_collections.proofs.BestOutcomes.{many_called}
use Rattle.prim_collections.proofs.best_calls.best_of_arguments.Goals as goal

pub returns-else-args-eq1 : goal.returns-else-args-eq1
returns-else-args-eq1 g c =
    let texts = g.C.Constants.text_of c.args.consts.now in
    let tuples = g.C.Constants.items_of c.args.consts.now in
    let h = c.args.arena.now in
    let heap = plain_heap texts tuples h in
    let sign = plain_extreme c.args.extreme in
    let args = c.args.args.now in
    let p : Value → Val = plain texts tuples in
    let many : 1 < length (map p args) = omega (arith, length-map args p, c.if-args-eq1.false, c.requires.some) in
    subst (λ (o : Outcome Val). IsOutcome texts tuples h h c.best_value.result o) (sym (many_called heap sign (map p args) many)) c.best_value.ensures
