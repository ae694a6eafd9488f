-- In a code of few bytes no jump is too far, where those without a sign go forward.
use Rattle.std.proofs.Common.{◌≡◌, ◌⊎◌, ℕ, zero, suc, ◌+◌, ◌-◌, ◌<◌, ◌≤◌, Bool, true, false, List, length, get_or, pos, ◌-ℤ◌, refl, sym, ap, subst, ◌∙◌, inl, inr, arith}
use Rattle.std.specs.List.{sum_by}
use Rattle.std.proofs.lemmas.Int.{ints}
use Rattle.std.proofs.lemmas.List.{get_or-map}
use Rattle.mpy_tree.specs.bc_ops.Table.{code_of, form_of}
use Rattle.mpy_tree.specs.bc_ops.Code.{is_signed}
use Rattle.mpy_tree.specs.bc_ops.Offset.{Fits}
use Rattle.bc_labels.specs.declared.labelled.Labelled.{Labelled}
use Rattle.bc_labels.specs.declared.labelled.Labelled.TheVariants.{At, Jump, Unwind}
use Rattle.bc_labels.specs.Labels.{signed_of, target_of}
use Rattle.bc_labels.specs.Labels as labels
use Rattle.bc_labels.specs.Places.{item_at, width_at, offset_size, size_of, place, offset}
use Rattle.bc_labels.specs.Choice.{FitsAt, IsTooFar}
use Rattle.bc_labels.proofs.Reading.{length-instrs}
use Rattle.mpy_tree.specs.declared.module.Item.{Item}
use Rattle.mpy_tree.specs.declared.module.Item.TheVariants as items
use Rattle.mpy_writer.specs.declared.tables.Tables.{Tables}
use Rattle.mpy_writer.specs.File.{item_of, labelled_from}
use Rattle.mpy_writer.specs.Wide.{wide_size}
use Rattle.mpy_writer.proofs.Positions.{double, halved, all, whole, label_is, item_is, label_found}
use Rattle.mpy_writer.proofs.Widest.{items_fewer}

-- a jump at a place goes to one of so many items, forward where its offset has no sign
abbrev pub GoesAhead : (count at : ℕ) → Item → Type 0
GoesAhead count at (items.Jump op position) = (position < count) × ((is_signed (form_of (code_of op)) ≡ true) ⊎ (at < position))
GoesAhead count at (items.Unwind position byte) = position < count
GoesAhead count at item = Unit {0}

-- an offset between places of few bytes
near_enough : (signed : Bool) (a b : ℕ) → a ≤ 16000 → b ≤ 16000 → (signed ≡ true) ⊎ (b ≤ a) → Fits signed true (pos a -ℤ pos b)
near_enough true a b h k ahead = record { least = omega (arith, ints, h, k); below = omega (arith, ints, h, k) }
near_enough false a b h k (inl e) = cc
near_enough false a b h k (inr ahead) = record { least = omega (arith, ints, ahead); below = omega (arith, ints, h, ahead) }

double_up : (p q : ℕ) → p ≤ q → double p ≤ double q
double_up zero q le = omega arith
double_up (suc p) zero le = absurd (omega (arith, le))
double_up (suc p) (suc q) le = let rest = double_up p q (omega (arith, le)) in omega (arith, rest)

place_step : (xs : List Labelled) (ws : List Bool) (i more : ℕ) → place xs ws i ≤ place xs ws (i + more)
place_step xs ws i zero = let same : i + 0 ≡ i = omega arith in let e = ap (place xs ws) same in omega (arith, e)
place_step xs ws i (suc more) =
    let same : i + suc more ≡ suc (i + more) = omega arith in
    let e = ap (place xs ws) same in
    let rest = place_step xs ws i more in
    omega (arith, e, rest)

-- places never fall
place_up : (xs : List Labelled) (ws : List Bool) (i j : ℕ) → i ≤ j → place xs ws i ≤ place xs ws j
place_up xs ws i j le =
    let same : i + (j - i) ≡ j = omega (arith, le) in
    let e = ap (place xs ws) same in
    let h = place_step xs ws i (j - i) in
    omega (arith, e, h)

module _ (tables : Tables) (ys : List Item) (ws : List Bool) (few : sum_by (wide_size tables) ys ≤ 16000) where
  abbrev them : List Labelled
  them = all tables ys

  few_place : (i : ℕ) → i ≤ length them → place them ws i ≤ 16000
  few_place i le =
      let up = place_up them ws i (length them) le in
      let bytes = length-instrs them ws (length them) in
      let most = items_fewer tables ys ws in
      omega (arith, up, bytes, most, few)

  -- a jump at a place
  jump_fits : (i p : ℕ) → i ≡ suc (double p) → i < length them → (it : Labelled) → item_at them i ≡ it → (y : Item) → it ≡ item_of tables y → GoesAhead (length ys) p y → labels.is_jump it ≡ true → FitsAt them ws i true
  jump_fits i p is lt it e (items.Plain instr) same ahead jumps = let none = sym (ap labels.is_jump same) ∙ jumps in cc
  jump_fits i p is lt it e (items.Named op text) same ahead jumps = let none = sym (ap labels.is_jump same) ∙ jumps in cc
  jump_fits i p is lt it e (items.Object object) same ahead jumps = let none = sym (ap labels.is_jump same) ∙ jumps in cc
  jump_fits i p is lt it e (items.Jump op q) same ahead jumps =
      let there : item_at them i ≡ Jump op q = e ∙ same in
      let signed : signed_of (item_at them i) ≡ is_signed (form_of (code_of op)) = ap signed_of there in
      let target : target_of them (item_at them i) ≡ double q = ap (target_of them) there ∙ label_found tables ys q ahead.0 in
      let a = place them ws (target_of them (item_at them i)) in
      let b = place them ws i + 1 + offset_size (width_at ws i) in
      let at : a ≡ place them ws (double q) = ap (place them ws) target in
      let size = ap (λ (x : Labelled). place them ws i + size_of x (width_at ws i)) there in
      let next = few_place (suc i) lt in
      let within = double_up q (length ys) (let l = ahead.0 in omega (arith, l)) in
      let last = few_place (double q) (omega (arith, within, whole tables ys)) in
      subst (λ (s : Bool). Fits s true (offset them ws i)) (sym signed)
      (near_enough (is_signed (form_of (code_of op))) a b (omega (arith, at, last)) (omega (arith, size, next))
      (elim ahead.1 [
        | inl one ↦ inl one
        | inr forward ↦
            let up = double_up (suc p) q forward in
            let further = place_up them ws (suc i) (double q) (omega (arith, is, up)) in
            inr (omega (arith, at, size, further))
      ]))
  jump_fits i p is lt it e (items.Unwind q byte) same ahead jumps =
      let there : item_at them i ≡ Unwind q byte = e ∙ same in
      let signed : signed_of (item_at them i) ≡ true = ap signed_of there in
      let target : target_of them (item_at them i) ≡ double q = ap (target_of them) there ∙ label_found tables ys q ahead in
      let a = place them ws (target_of them (item_at them i)) in
      let b = place them ws i + 1 + offset_size (width_at ws i) in
      let at : a ≡ place them ws (double q) = ap (place them ws) target in
      let size = ap (λ (x : Labelled). place them ws i + size_of x (width_at ws i)) there in
      let next = few_place (suc i) lt in
      let within = double_up q (length ys) (omega (arith, ahead)) in
      let last = few_place (double q) (omega (arith, within, whole tables ys)) in
      subst (λ (s : Bool). Fits s true (offset them ws i)) (sym signed) (near_enough true a b (omega (arith, at, last)) (omega (arith, size, next)) (inl refl))

  fits_at : ((p : ℕ) → p < length ys → GoesAhead (length ys) p (get_or ys p (items.Unwind 0 0))) → (i : ℕ) → i < length them → labels.is_jump (item_at them i) ≡ true → FitsAt them ws i true
  fits_at ahead i lt jumps =
      let half = halved (length ys) i (omega (arith, lt, whole tables ys)) in
      let p = half.0 in
      let below = half.1 in
      elim half.2 [
        | inl even ↦
            let label : item_at them i ≡ At p = ap (item_at them) even ∙ label_is tables ys p below in
            let none = sym (ap labels.is_jump label) ∙ jumps in
            cc
        | inr odd ↦
            let same : item_at them i ≡ item_of tables (get_or ys p (items.Unwind 0 0)) =
            ap (item_at them) odd ∙ (item_is tables ys p below ∙ get_or-map (item_of tables) ys p (items.Unwind 0 0) (At 0) below) in
            jump_fits i p odd lt (item_at them i) refl (get_or ys p (items.Unwind 0 0)) same (ahead p below) jumps
      ]

pub none_far : (tables : Tables) (ys : List Item) → sum_by (wide_size tables) ys ≤ 16000 → ((p : ℕ) → p < length ys → GoesAhead (length ys) p (get_or ys p (items.Unwind 0 0))) → IsTooFar (labelled_from tables 0 ys) → ⊥
none_far tables ys few ahead far = far.far (fits_at tables ys far.widths few ahead far.at far.within far.jumps)
