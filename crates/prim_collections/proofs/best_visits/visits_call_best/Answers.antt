use Rattle.std.proofs.Common.{◌≡◌, ◌<◌, List, [], length, map, min, sym, ap, ◌∙◌, arith}
use Rattle.std.proofs.lemmas.List.{length-map}
use Rattle.prim_builtins.specs.arena_heap.declared.value.Value.{Value}
use Rattle.prim_builtins.specs.mpy_base.Val.{Val}
use Rattle.prim_builtins.specs.py_primitives.Outcome.{Outcome}
use Rattle.prim_builtins.specs.py_primitives.Calls.{call}
use Rattle.prim_builtins.specs.prim_walks.Plain.{plain, plain_pair, plain_heap}
use Rattle.prim_collections.specs.Best.{plain_extreme, extreme_builtin}
use Rattle.prim_collections.proofs.BestOutcomes.{best_called, counts_known}
use Rattle.prim_collections.proofs.best_visits.visits_call_best.Goals as goal

pub returns-in-Ok : goal.returns-in-Ok
returns-in-Ok g c =
    let texts = g.C.Constants.text_of c.args.consts.now in
    let tuples = g.C.Constants.items_of c.args.consts.now in
    let h = c.args.arena.now in
    let heap = plain_heap texts tuples h in
    let sign = plain_extreme c.args.extreme in
    let args = c.args.args.now in
    let p : Value → Val = plain texts tuples in
    let some : 0 < length (map p args) = omega (arith, length-map args p, c.in-Ok.ensures.some) in
    let keys = map (plain_pair texts tuples) c.args.keys.now in
    let none : keys ≡ [] = ap (λ (ks : List (Value × Value)). map (plain_pair texts tuples) ks) c.in-Ok.ensures.no_keywords in
    c.visits_of_arguments.ensures ∙ ap (λ (o : Outcome Val). min o.visits c.args.most) (sym (best_called c.args.extreme heap (map p args) keys none some))

pub returns-in-Err : goal.returns-in-Err
returns-in-Err g c =
    let texts = g.C.Constants.text_of c.args.consts.now in
    let tuples = g.C.Constants.items_of c.args.consts.now in
    let h = c.args.arena.now in
    let heap = plain_heap texts tuples h in
    let sign = plain_extreme c.args.extreme in
    let b = extreme_builtin c.args.extreme in
    let none : (call heap b (map (plain texts tuples) c.args.args.now) (map (plain_pair texts tuples) c.args.keys.now)).visits ≡ 0 =
    ap (λ (o : Outcome Val). o.visits) (c.in-Err.ensures.refused.raised texts tuples h b (counts_known c.args.extreme)) in
    omega (arith, none)
