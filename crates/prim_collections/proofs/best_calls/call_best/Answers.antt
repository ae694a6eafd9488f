use Rattle.std.proofs.Common.{◌≡◌, ◌<◌, List, [], length, map, sym, ap, subst, arith}
use Rattle.std.proofs.lemmas.List.{length-map}
use Rattle.prim_builtins.specs.arena_heap.declared.value.Value.{Value}
use Rattle.prim_builtins.specs.mpy_base.Val.{Val}
use Rattle.prim_builtins.specs.py_primitives.Outcome.{Outcome}
use Rattle.prim_builtins.specs.py_primitives.Calls.{AtLeast}
use Rattle.prim_builtins.specs.prim_walks.Plain.{plain, plain_pair, plain_heap}
use Rattle.prim_builtins.specs.prim_faults.Outcomes.{IsOutcome}
use Rattle.prim_collections.specs.Best.{plain_extreme, extreme_builtin}
use Rattle.prim_builtins.proofs.Calls.{refused}
use Rattle.prim_collections.proofs.BestOutcomes.{best_called, counts_known}
use Rattle.prim_collections.proofs.best_calls.call_best.Goals as goal

pub returns-in-Ok : goal.returns-in-Ok
returns-in-Ok g c =
    let texts = g.C.Constants.text_of c.args.consts.now in
    let tuples = g.C.Constants.items_of c.args.consts.now in
    let h = c.args.arena.now in
    let heap = plain_heap texts tuples h in
    let sign = plain_extreme c.args.extreme in
    let args = c.args.args.now in
    let p : Value → Val = plain texts tuples in
    let some : 0 < length (map p args) = omega (arith, length-map args p, c.in-Ok.ensures.some) in
    let keys = map (plain_pair texts tuples) c.args.keys.now in
    let none : keys ≡ [] = ap (λ (ks : List (Value × Value)). map (plain_pair texts tuples) ks) c.in-Ok.ensures.no_keywords in
    subst (λ (o : Outcome Val). IsOutcome texts tuples h c.best_of_arguments.new.arena c.best_of_arguments.result o) (sym (best_called c.args.extreme heap (map p args) keys none some)) c.best_of_arguments.ensures

pub returns-in-Err : goal.returns-in-Err
returns-in-Err g c =
    let texts = g.C.Constants.text_of c.args.consts.now in
    let tuples = g.C.Constants.items_of c.args.consts.now in
    let h = c.args.arena.now in
    let heap = plain_heap texts tuples h in
    let sign = plain_extreme c.args.extreme in
    refused texts tuples h c.args.args.now c.args.keys.now (extreme_builtin c.args.extreme) (AtLeast 1) c.in-Err.fault c.requires.all_told c.in-Err.ensures.refused (counts_known c.args.extreme)
