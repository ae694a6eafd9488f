use Rattle.std.proofs.Common.{◌≡◌, ◌<◌, ◌≤◌, suc, length, map, drop, Option, Some, Result, Ok, sym, ap, ◌∙◌, arith}
use Rattle.std.specs.declared.cmp.Ordering.{Ordering}
use Rattle.prim_builtins.specs.arena_heap.declared.value.Value.{Value}
use Rattle.prim_builtins.specs.mpy_base.Val.{Val}
use Rattle.prim_builtins.specs.py_values.Equality.{Walk}
use Rattle.prim_builtins.specs.py_primitives.Order as meaning
use Rattle.prim_builtins.specs.py_primitives.Order.{has_sign, best_from}
use Rattle.prim_builtins.specs.prim_walks.Plain.{plain, plain_heap}
use Rattle.prim_builtins.specs.prim_walks.Orders.{plain_unordered, plain_order}
use Rattle.prim_builtins.specs.prim_walks.declared.orders.Unordered.{Unordered}
use Rattle.prim_builtins.specs.prim_faults.Faults.{IsKnown}
use Rattle.prim_collections.specs.Best.{plain_extreme, best_among, values_of}
use Rattle.prim_collections.proofs.BestSteps.{chosen_one, best_begins, best_ends, step_visits, visits_unordered, visits_deep, visits_most}
use Rattle.prim_collections.proofs.searches.visits_best.Goals as goal

pub loop-at-init : goal.loop-at-init
loop-at-init g c =
    let texts = g.C.Constants.text_of c.args.consts.now in
    let tuples = g.C.Constants.items_of c.args.consts.now in
    let h = c.args.arena.now in
    let heap = plain_heap texts tuples h in
    let sign = plain_extreme c.args.extreme in
    let p : Value → Val = plain texts tuples in
    let xs = values_of tuples h c.args.from in
    let first = c.candidate-best.result in
    let total : (best_among heap sign (map p xs)).visits ≡ suc (best_from heap sign (Ok (p first)) (map p (drop 1 xs))).visits =
    ap (λ (walk : Walk (Result Val meaning.Unordered)). walk.visits) (best_begins heap sign p xs c.requires.some)
    ∙ ap (λ (w : Value). suc (best_from heap sign (Ok (p w)) (map p (drop 1 xs))).visits) (sym c.candidate-best.ensures.value) in
    (omega (arith, total, c.if-most-eq0.false), omega arith, c.candidate-best.ensures.known)

pub loop-at-preserved : goal.loop-at-preserved
loop-at-preserved g c =
    let texts = g.C.Constants.text_of c.args.consts.now in
    let tuples = g.C.Constants.items_of c.args.consts.now in
    let h = c.args.arena.now in
    let heap = plain_heap texts tuples h in
    let sign = plain_extreme c.args.extreme in
    let p : Value → Val = plain texts tuples in
    let xs = values_of tuples h c.args.from in
    let at = c.loop-at.at in
    let b = c.loop-at.best in
    let v = c.candidate-v.result in
    let lt : at < length xs = omega (arith, c.loop-at-test.true, c.candidate_count-at-end.ensures) in
    let read : Result Ordering Unordered → Option (Result Ordering meaning.Unordered) = λ r. Some (plain_order texts tuples r) in
    let more = step_visits heap sign p xs at lt v b c.candidate-v.ensures.value c.in-Some-Ok.found c.better-best.result (sym c.in-Some-Ok.ensures.answer ∙ ap read c.in-Some-Ok.field-0-is) c.better-best.ensures in (
      omega (arith, c.loop-at.invariant.0, c.visits_candidate-left.ensures, more, c.if-left-eq0.false),
      omega (arith, c.loop-at.invariant.1),
      chosen_one (IsKnown texts tuples h.objects) (has_sign sign c.in-Some-Ok.found) v b c.better-best.result c.better-best.ensures c.candidate-v.ensures.known c.loop-at.invariant.2,
    )

pub returns-then-left-eq0 : goal.returns-then-left-eq0
returns-then-left-eq0 g c =
    let texts = g.C.Constants.text_of c.args.consts.now in
    let tuples = g.C.Constants.items_of c.args.consts.now in
    let h = c.args.arena.now in
    let heap = plain_heap texts tuples h in
    let sign = plain_extreme c.args.extreme in
    let p : Value → Val = plain texts tuples in
    let xs = values_of tuples h c.args.from in
    let at = c.loop-at.at in
    let b = c.loop-at.best in
    let v = c.candidate-v.result in
    let lt : at < length xs = omega (arith, c.loop-at-test.true, c.candidate_count-at-end.ensures) in
    let read : Result Ordering Unordered → Option (Result Ordering meaning.Unordered) = λ r. Some (plain_order texts tuples r) in
    let most = visits_most heap sign p xs at lt v b c.candidate-v.ensures.value in
    omega (arith, c.loop-at.invariant.0, c.visits_candidate-left.ensures, most, c.if-left-eq0.true)

pub returns-in-Some-Err : goal.returns-in-Some-Err
returns-in-Some-Err g c =
    let texts = g.C.Constants.text_of c.args.consts.now in
    let tuples = g.C.Constants.items_of c.args.consts.now in
    let h = c.args.arena.now in
    let heap = plain_heap texts tuples h in
    let sign = plain_extreme c.args.extreme in
    let p : Value → Val = plain texts tuples in
    let xs = values_of tuples h c.args.from in
    let at = c.loop-at.at in
    let b = c.loop-at.best in
    let v = c.candidate-v.result in
    let lt : at < length xs = omega (arith, c.loop-at-test.true, c.candidate_count-at-end.ensures) in
    let read : Result Ordering Unordered → Option (Result Ordering meaning.Unordered) = λ r. Some (plain_order texts tuples r) in
    let last = visits_unordered heap sign p xs at lt v b c.candidate-v.ensures.value (plain_unordered texts tuples c.in-Some-Err._e) (sym c.in-Some-Err.ensures.answer ∙ ap read c.in-Some-Err.field-0-is) in
    omega (arith, c.loop-at.invariant.0, c.loop-at.invariant.1, c.visits_candidate-left.ensures, last, c.if-left-eq0.false)

pub returns-in-None : goal.returns-in-None
returns-in-None g c =
    let texts = g.C.Constants.text_of c.args.consts.now in
    let tuples = g.C.Constants.items_of c.args.consts.now in
    let h = c.args.arena.now in
    let heap = plain_heap texts tuples h in
    let sign = plain_extreme c.args.extreme in
    let p : Value → Val = plain texts tuples in
    let xs = values_of tuples h c.args.from in
    let at = c.loop-at.at in
    let b = c.loop-at.best in
    let v = c.candidate-v.result in
    let lt : at < length xs = omega (arith, c.loop-at-test.true, c.candidate_count-at-end.ensures) in
    let read : Result Ordering Unordered → Option (Result Ordering meaning.Unordered) = λ r. Some (plain_order texts tuples r) in
    let last = visits_deep heap sign p xs at lt v b c.candidate-v.ensures.value (sym c.in-None.ensures.answer) in
    omega (arith, c.loop-at.invariant.0, c.loop-at.invariant.1, c.visits_candidate-left.ensures, last, c.if-left-eq0.false)

pub returns : goal.returns
returns g c =
    let texts = g.C.Constants.text_of c.args.consts.now in
    let tuples = g.C.Constants.items_of c.args.consts.now in
    let h = c.args.arena.now in
    let heap = plain_heap texts tuples h in
    let sign = plain_extreme c.args.extreme in
    let p : Value → Val = plain texts tuples in
    let xs = values_of tuples h c.args.from in
    let le : length xs ≤ c.loop-at.at = omega (arith, c.loop-at-test.false, c.candidate_count-at-end.ensures) in
    let none = ap (λ (walk : Walk (Result Val meaning.Unordered)). walk.visits) (best_ends heap sign p xs c.loop-at.at (p c.loop-at.best) le) in
    omega (arith, c.loop-at.invariant.0, c.loop-at.invariant.1, none)
