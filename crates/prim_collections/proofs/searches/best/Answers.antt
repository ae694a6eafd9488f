use Rattle.std.proofs.Common.{◌<◌, ◌≤◌, length, map, drop, Option, Some, Result, Ok, sym, ap, ◌∙◌, arith}
use Rattle.std.specs.declared.cmp.Ordering.{Ordering}
use Rattle.prim_builtins.specs.arena_heap.declared.value.Value.{Value}
use Rattle.prim_builtins.specs.mpy_base.Val.{Val}
use Rattle.prim_builtins.specs.py_values.Equality.{Walk}
use Rattle.prim_builtins.specs.py_primitives.Order as meaning
use Rattle.prim_builtins.specs.py_primitives.Order.{has_sign, best_from}
use Rattle.prim_builtins.specs.prim_walks.Plain.{plain, plain_heap}
use Rattle.prim_builtins.specs.prim_walks.Orders.{plain_unordered, plain_order}
use Rattle.prim_builtins.specs.prim_walks.declared.orders.Unordered.{Unordered}
use Rattle.prim_builtins.specs.prim_faults.Faults.{IsKnown}
use Rattle.prim_collections.specs.Best.{plain_extreme, values_of}
use Rattle.prim_collections.proofs.BestSteps.{chosen_one, best_begins, best_ends, step_answer, step_unordered, step_deep}
use Rattle.prim_collections.proofs.searches.best.Goals as goal

pub loop-at-init : goal.loop-at-init
loop-at-init g c =
    let texts = g.C.Constants.text_of c.args.consts.now in
    let tuples = g.C.Constants.items_of c.args.consts.now in
    let h = c.args.arena.now in
    let heap = plain_heap texts tuples h in
    let sign = plain_extreme c.args.extreme in
    let p : Value → Val = plain texts tuples in
    let xs = values_of tuples h c.args.from in
    let first = c.candidate-best.result in (
      ap (λ (walk : Walk (Result Val meaning.Unordered)). walk.answer) (best_begins heap sign p xs c.requires.some)
          ∙ ap (λ (w : Value). (best_from heap sign (Ok (p w)) (map p (drop 1 xs))).answer) (sym c.candidate-best.ensures.value),
      c.candidate-best.ensures.known,
    )

pub loop-at-preserved : goal.loop-at-preserved
loop-at-preserved g c =
    let texts = g.C.Constants.text_of c.args.consts.now in
    let tuples = g.C.Constants.items_of c.args.consts.now in
    let h = c.args.arena.now in
    let heap = plain_heap texts tuples h in
    let sign = plain_extreme c.args.extreme in
    let p : Value → Val = plain texts tuples in
    let xs = values_of tuples h c.args.from in
    let at = c.loop-at.at in
    let b = c.loop-at.best in
    let v = c.candidate-v.result in
    let lt : at < length xs = omega (arith, c.loop-at-test.true, c.candidate_count-at-end.ensures) in
    let read : Result Ordering Unordered → Option (Result Ordering meaning.Unordered) = λ r. Some (plain_order texts tuples r) in (
      c.loop-at.invariant.0 ∙ step_answer heap sign p xs at lt v b c.candidate-v.ensures.value c.in-Some-Ok.found c.better-best.result (sym c.in-Some-Ok.ensures.answer ∙ ap read c.in-Some-Ok.field-0-is) c.better-best.ensures,
      chosen_one (IsKnown texts tuples h.objects) (has_sign sign c.in-Some-Ok.found) v b c.better-best.result c.better-best.ensures c.candidate-v.ensures.known c.loop-at.invariant.1,
    )

pub returns-in-Some-Err-clause-answer : goal.returns-in-Some-Err-clause-answer
returns-in-Some-Err-clause-answer g c =
    let texts = g.C.Constants.text_of c.args.consts.now in
    let tuples = g.C.Constants.items_of c.args.consts.now in
    let h = c.args.arena.now in
    let heap = plain_heap texts tuples h in
    let sign = plain_extreme c.args.extreme in
    let p : Value → Val = plain texts tuples in
    let xs = values_of tuples h c.args.from in
    let at = c.loop-at.at in
    let b = c.loop-at.best in
    let v = c.candidate-v.result in
    let lt : at < length xs = omega (arith, c.loop-at-test.true, c.candidate_count-at-end.ensures) in
    let read : Result Ordering Unordered → Option (Result Ordering meaning.Unordered) = λ r. Some (plain_order texts tuples r) in
    let e = c.in-Some-Err.e in
    sym (c.loop-at.invariant.0 ∙ step_unordered heap sign p xs at lt v b c.candidate-v.ensures.value (plain_unordered texts tuples e) (sym c.in-Some-Err.ensures.answer ∙ ap read c.in-Some-Err.field-0-is))

pub returns-in-None-clause-answer : goal.returns-in-None-clause-answer
returns-in-None-clause-answer g c =
    let texts = g.C.Constants.text_of c.args.consts.now in
    let tuples = g.C.Constants.items_of c.args.consts.now in
    let h = c.args.arena.now in
    let heap = plain_heap texts tuples h in
    let sign = plain_extreme c.args.extreme in
    let p : Value → Val = plain texts tuples in
    let xs = values_of tuples h c.args.from in
    let at = c.loop-at.at in
    let b = c.loop-at.best in
    let v = c.candidate-v.result in
    let lt : at < length xs = omega (arith, c.loop-at-test.true, c.candidate_count-at-end.ensures) in
    let read : Result Ordering Unordered → Option (Result Ordering meaning.Unordered) = λ r. Some (plain_order texts tuples r) in
    sym (c.loop-at.invariant.0 ∙ step_deep heap sign p xs at lt v b c.candidate-v.ensures.value (sym c.in-None.ensures.answer))

pub returns-clause-answer : goal.returns-clause-answer
returns-clause-answer g c =
    let texts = g.C.Constants.text_of c.args.consts.now in
    let tuples = g.C.Constants.items_of c.args.consts.now in
    let h = c.args.arena.now in
    let heap = plain_heap texts tuples h in
    let sign = plain_extreme c.args.extreme in
    let p : Value → Val = plain texts tuples in
    let xs = values_of tuples h c.args.from in
    let le : length xs ≤ c.loop-at.at = omega (arith, c.loop-at-test.false, c.candidate_count-at-end.ensures) in
    sym (c.loop-at.invariant.0 ∙ ap (λ (walk : Walk (Result Val meaning.Unordered)). walk.answer) (best_ends heap sign p xs c.loop-at.at (p c.loop-at.best) le))
