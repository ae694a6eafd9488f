use Rattle.std.proofs.Common.{◌≡◌, ℕ, ◌+◌, ◌*◌, ◌<◌, List, length, get_or, set, sym, ap₂, ◌∙◌, arith}
use Rattle.std.proofs.lemmas.List.FromFn.{length-map-range_with_len, get_or-map-range_with_len}
use Rattle.prim_operators.specs.arena_heap.declared.value.Value.{Value}
use Rattle.prim_operators.specs.arena_heap.declared.value.Value.TheVariants as values
use Rattle.prim_operators.specs.arena_objects.Iterables.{texts_from}
use Rattle.prim_operators.proofs.TextFills.{partly_more, partly_all}
use Rattle.prim_assignments.proofs.unpacking.fill_letters.Goals as goal

pub loop-at-preserved : goal.loop-at-preserved
loop-at-preserved c =
    let f : ℕ → Value = λ k. values.Text (record { cell = c.args.first + 2 * k }) in
    let slots = c.args.slots.now in
    let n = length slots in
    let at = c.loop-at.at in
    let all = texts_from c.args.first n in
    let within : at < n = c.loop-at-test.true in
    let read : f at ≡ get_or all at values.None = sym (get_or-map-range_with_len f 0 n at at values.None within (omega arith)) in
    let few : at < length all = omega (arith, length-map-range_with_len f 0 n, within) in
    ap₂ (λ (xs : List Value) (v : Value). set xs at v) c.loop-at.invariant read ∙ partly_more all slots at values.None few within

pub returns : goal.returns
returns c =
    let f : ℕ → Value = λ k. values.Text (record { cell = c.args.first + 2 * k }) in
    let slots = c.args.slots.now in
    let n = length slots in
    let at = c.loop-at.at in
    let ends : n ≡ at = omega (arith, c.loop-at-test.false, c.loop-at.auto.at-end) in
    c.loop-at.invariant ∙ partly_all (texts_from c.args.first n) slots at (length-map-range_with_len f 0 n ∙ ends) ends
