-- Slots that are shown, one after another.
use Rattle.std.proofs.Common.{◌≡◌, ℕ, zero, suc, ◌+◌, ◌≤◌, List, [], ◌∷◌, ◌++◌, length, drop, Option, Some, Bool, true, false, refl, sym, ap, ◌∙◌, arith, append_assoc}
use Rattle.std.specs.Prelude.{slice_get, if◌then◌else◌}
use Rattle.std.specs.List.{flat_map}
use Rattle.std.proofs.lemmas.List.{append-nil}
use Rattle.std.proofs.Math.ListN.{drop_of_length-le}
use Rattle.vm_frames.specs.declared.slot.Slot.{Slot}
use Rattle.snap_saving.specs.Shown.{is_shown, shown_slots}
use Rattle.snap_saving.proofs.Adding.{drop_at}

front_of : (xs : List Slot) (k : ℕ) → slice_get (drop k xs) 0 ≡ slice_get xs k
front_of xs zero = refl
front_of [] (suc k) = refl
front_of (x ∷ xs) (suc k) = front_of xs k

module _ (xs : List Slot) (i : ℕ) (s : Slot) (at : slice_get xs i ≡ Some s) where
  split : shown_slots (drop i xs) ≡ (if is_shown s (slice_get xs (i + 1)) then s ∷ shown_slots (drop (i + 1) xs) else shown_slots (drop (i + 1) xs))
  split =
      ap shown_slots (drop_at xs i s at)
      ∙ ap (λ (o : Option Slot). if is_shown s o then s ∷ shown_slots (drop (i + 1) xs) else shown_slots (drop (i + 1) xs)) (front_of xs (i + 1))

  by_test : (b : Bool) → is_shown s (slice_get xs (i + 1)) ≡ b → shown_slots (drop i xs) ≡ (if b then s ∷ shown_slots (drop (i + 1) xs) else shown_slots (drop (i + 1) xs))
  by_test b e = split ∙ ap (λ (t : Bool). if t then s ∷ shown_slots (drop (i + 1) xs) else shown_slots (drop (i + 1) xs)) e

  added_by : (b : Bool) → is_shown s (slice_get xs (i + 1)) ≡ b → (f : Slot → List ℕ) (out new whole : List ℕ) → new ≡ out ++ (if b then f s else []) → out ++ flat_map f (shown_slots (drop i xs)) ≡ whole
      → new ++ flat_map f (shown_slots (drop (i + 1) xs)) ≡ whole
  added_by true is f out new whole e inv =
      ap (λ (z : List ℕ). z ++ flat_map f (shown_slots (drop (i + 1) xs))) e
      ∙ (append_assoc out (f s) (flat_map f (shown_slots (drop (i + 1) xs))) ∙ (ap (λ (ys : List Slot). out ++ flat_map f ys) (sym (by_test true is)) ∙ inv))
  added_by false is f out new whole e inv =
      ap (λ (z : List ℕ). z ++ flat_map f (shown_slots (drop (i + 1) xs))) (e ∙ append-nil out)
      ∙ (ap (λ (ys : List Slot). out ++ flat_map f ys) (sym (by_test false is)) ∙ inv)

  -- one slot is added, if it is shown
  pub added : (f : Slot → List ℕ) (out new whole : List ℕ) (above : Option Slot) → above ≡ slice_get xs (i + 1) → new ≡ out ++ (if is_shown s above then f s else []) → out ++ flat_map f (shown_slots (drop i xs)) ≡ whole
      → new ++ flat_map f (shown_slots (drop (i + 1) xs)) ≡ whole
  added f out new whole above is e inv =
      added_by (is_shown s (slice_get xs (i + 1))) refl f out new whole (e ∙ ap (λ (o : Option Slot). out ++ (if is_shown s o then f s else [])) is) inv

  counted_by : (b : Bool) → is_shown s (slice_get xs (i + 1)) ≡ b → (n whole : ℕ) → n + length (shown_slots (drop i xs)) ≡ whole → n + (if b then 1 else 0) + length (shown_slots (drop (i + 1) xs)) ≡ whole
  counted_by true is n whole inv = omega (arith, ap length (by_test true is), inv)
  counted_by false is n whole inv = omega (arith, ap length (by_test false is), inv)

  -- one is counted, if it is shown
  pub counted : (n more whole : ℕ) (above : Option Slot) → above ≡ slice_get xs (i + 1) → more ≡ (if is_shown s above then 1 else 0) → n + length (shown_slots (drop i xs)) ≡ whole → n + more + length (shown_slots (drop (i + 1) xs)) ≡ whole
  counted n more whole above is e inv =
      ap (λ (m : ℕ). n + m + length (shown_slots (drop (i + 1) xs))) (e ∙ ap (λ (o : Option Slot). if is_shown s o then 1 else 0) is)
      ∙ counted_by (is_shown s (slice_get xs (i + 1))) refl n whole inv

module _ (xs : List Slot) (i : ℕ) (le : length xs ≤ i) where
  none_left : shown_slots (drop i xs) ≡ []
  none_left = ap shown_slots (drop_of_length-le xs le)

  -- all are added
  pub all_added : (f : Slot → List ℕ) (out whole : List ℕ) → out ++ flat_map f (shown_slots (drop i xs)) ≡ whole → out ≡ whole
  all_added f out whole inv = sym (append-nil out) ∙ (ap (λ (ys : List Slot). out ++ flat_map f ys) (sym none_left) ∙ inv)

  -- all are counted
  pub all_counted : (n whole : ℕ) → n + length (shown_slots (drop i xs)) ≡ whole → n ≡ whole
  all_counted n whole inv = omega (arith, ap length none_left, inv)

-- what is put of a slot that is shown, and of another one
module _ (s : Slot) (above : Option Slot) (bytes old : List ℕ) where
  pub is_put : (new : List ℕ) → true ≡ is_shown s above → new ≡ old ++ bytes → new ≡ old ++ (if is_shown s above then bytes else [])
  is_put new is e = e ∙ ap (λ (b : Bool). old ++ (if b then bytes else [])) is

  pub not_put : false ≡ is_shown s above → old ≡ old ++ (if is_shown s above then bytes else [])
  not_put is = sym (append-nil old) ∙ ap (λ (b : Bool). old ++ (if b then bytes else [])) is
