use Rattle.std.proofs.Common.{◌≡◌, List, ℕ, ℤ, pos, Bool, true, false, ◌++◌, w32, to_z, of_z, sym, ap, ◌∙◌}
use Rattle.std.specs.Prelude.{codes, if◌then◌else◌}
use Rattle.std.specs.Fmt.{signed_decimal}
use Rattle.std.specs.Ordering.{int_eq}
use Rattle.std.proofs.lemmas.Int.{to_z-of_z}
use Rattle.prim_walks.proofs.PenSteps.{wrote_then, wrote_as}
use Rattle.prim_walks.proofs.leaves.put_range.Goals as goal

-- the text of a range, by whether its step is one
abbrev text_by : ℤ → ℤ → Bool → ℤ → List ℕ
text_by start stop is_one step =
    codes "range(" ++ signed_decimal start ++ codes ", " ++ signed_decimal stop ++ (if is_one then codes ")" else codes ", " ++ signed_decimal step ++ codes ")")

abbrev wrap : ℤ → ℤ
wrap z = to_z w32 (of_z w32 z)

pub returns-then-is_one : goal.returns-then-is_one
returns-then-is_one g c =
    let a = c.args in
    let start : wrap a.start ≡ a.start = to_z-of_z w32 a.start c.ranges.start in
    let stop : wrap a.stop ≡ a.stop = to_z-of_z w32 a.stop c.ranges.stop in
    let step : wrap a.step ≡ a.step = to_z-of_z w32 a.step c.ranges.step in
    let test : int_eq a.step (pos 1) ≡ true = sym (ap (λ (z : ℤ). int_eq z (pos 1)) step) ∙ (sym c.is_one_number-is_one.ensures ∙ c.if-is_one.true) in
    wrote_as (wrote_then (wrote_then (wrote_then (wrote_then c.put.ensures c.put_number.ensures) c.put-2.ensures) c.put_number-2.ensures) c.put-then-is_one.ensures)
    (ap (λ (z : ℤ). text_by z (wrap a.stop) true a.step) start ∙ (ap (λ (z : ℤ). text_by a.start z true a.step) stop ∙ sym (ap (λ (b : Bool). text_by a.start a.stop b a.step) test)))

pub returns-else-is_one : goal.returns-else-is_one
returns-else-is_one g c =
    let a = c.args in
    let start : wrap a.start ≡ a.start = to_z-of_z w32 a.start c.ranges.start in
    let stop : wrap a.stop ≡ a.stop = to_z-of_z w32 a.stop c.ranges.stop in
    let step : wrap a.step ≡ a.step = to_z-of_z w32 a.step c.ranges.step in
    let test : int_eq a.step (pos 1) ≡ false = sym (ap (λ (z : ℤ). int_eq z (pos 1)) step) ∙ (sym c.is_one_number-is_one.ensures ∙ c.if-is_one.false) in
    wrote_as (wrote_then (wrote_then (wrote_then (wrote_then c.put.ensures c.put_number.ensures) c.put-2.ensures) c.put_number-2.ensures)
    (wrote_then (wrote_then c.put-else-is_one.ensures c.put_number-else-is_one.ensures) c.put-else-is_one-2.ensures))
    (ap (λ (z : ℤ). text_by z (wrap a.stop) false (wrap a.step)) start
    ∙ (ap (λ (z : ℤ). text_by a.start z false (wrap a.step)) stop ∙ (ap (λ (z : ℤ). text_by a.start a.stop false z) step ∙ sym (ap (λ (b : Bool). text_by a.start a.stop b a.step) test))))
