-- The places and the offsets under two choices of widths, of which one has all wide that the other has.
use Rattle.std.proofs.Common.{◌≡◌, ℕ, zero, suc, ◌+◌, ◌-◌, ◌≤◌, Bool, true, false, List, pos, ◌-ℤ◌, refl, ap, sym, subst, ◌∙◌, ◌⊎◌, inl, inr, arith, add-zero, add-suc}
use Rattle.std.proofs.lemmas.List.{ext_get_or}
use Rattle.std.proofs.lemmas.Int.{ints}
use Rattle.bc_ops.specs.Offset.{Fits}
use Rattle.bc_labels.specs.declared.labelled.Labelled.{Labelled}
use Rattle.bc_labels.specs.declared.labelled.Labelled.TheVariants.{At, Plain, Jump, Unwind}
use Rattle.bc_labels.specs.Labels.{is_jump, signed_of, target_of}
use Rattle.bc_labels.specs.Places.{item_at, width_at, offset_size, size_of, place}
use Rattle.bc_labels.specs.Choice.{FitsAt, IsNeeded, IsRound, IsFewest, laid_out, IsLayout, IsTooFar}

-- what is wide in the one is wide in the other
abbrev pub IsBelow : List Bool → List Bool → Type 0
IsBelow w v = (i : ℕ) → width_at w i ≡ true → width_at v i ≡ true

offset_size_le : (w v : Bool) → (w ≡ true → v ≡ true) → offset_size w ≤ offset_size v
offset_size_le true true h = omega arith
offset_size_le true false h = let e : false ≡ true = h refl in cc
offset_size_le false true h = omega arith
offset_size_le false false h = omega arith

size_le : (item : Labelled) (w v : Bool) → (w ≡ true → v ≡ true) → size_of item w ≤ size_of item v
size_le (At label) w v h = omega arith
size_le (Plain instr) w v h = omega arith
size_le (Jump op label) w v h = omega (arith, offset_size_le w v h)
size_le (Unwind label byte) w v h = omega (arith, offset_size_le w v h)

-- what stands between two items grows
gap_by : (items : List Labelled) (w v : List Bool) → IsBelow w v → (i k : ℕ) → place items w (i + k) + place items v i ≤ place items v (i + k) + place items w i
gap_by items w v below i zero = rw (add-zero) (omega arith)
gap_by items w v below i (suc k) =
    rw (add-suc) (omega (arith, gap_by items w v below i k, size_le (item_at items (i + k)) (width_at w (i + k)) (width_at v (i + k)) (below (i + k))))

gap : (items : List Labelled) (w v : List Bool) → IsBelow w v → (i j : ℕ) → i ≤ j → place items w j + place items v i ≤ place items v j + place items w i
gap items w v below i j h =
    let there : i + (j - i) ≡ j = omega arith in
    subst (λ (n : ℕ). place items w n + place items v i ≤ place items v n + place items w i) there (gap_by items w v below i (j - i))

rise_by : (items : List Labelled) (w : List Bool) (i k : ℕ) → place items w i ≤ place items w (i + k)
rise_by items w i zero = rw (add-zero) (omega arith)
rise_by items w i (suc k) = rw (add-suc) (omega (arith, rise_by items w i k))

rise : (items : List Labelled) (w : List Bool) (i j : ℕ) → i ≤ j → place items w i ≤ place items w j
rise items w i j h =
    let there : i + (j - i) ≡ j = omega arith in
    subst (λ (n : ℕ). place items w i ≤ place items w n) there (rise_by items w i (j - i))

-- an offset that fits one byte fits it where it is nearer to 0
backward : (signed : Bool) (a b c d : ℕ) → b ≤ a → a + d ≤ c + b → d ≤ c → Fits signed false (pos d -ℤ pos (c + 1 + 1)) → Fits signed false (pos b -ℤ pos (a + 1 + 1))
backward false a b c d behind grown wide fits = absurd (omega (arith, ints, fits.least, fits.below))
backward true a b c d behind grown wide fits =
    record { least = omega (arith, ints, fits.least, fits.below); below = omega (arith, ints, fits.least, fits.below) }

forward : (signed : Bool) (a b c d : ℕ) → a + 2 ≤ b → b + c ≤ d + a → Fits signed false (pos d -ℤ pos (c + 1 + 1)) → Fits signed false (pos b -ℤ pos (a + 1 + 1))
forward false a b c d ahead grown fits =
    record { least = omega (arith, ints, fits.least, fits.below); below = omega (arith, ints, fits.least, fits.below) }
forward true a b c d ahead grown fits =
    record { least = omega (arith, ints, fits.least, fits.below); below = omega (arith, ints, fits.least, fits.below) }

jump_size : (item : Labelled) → is_jump item ≡ true → 2 ≤ size_of item false
jump_size (At label) e = cc
jump_size (Plain instr) e = cc
jump_size (Jump op label) e = omega arith
jump_size (Unwind label byte) e = omega arith

by_order : (i j : ℕ) → (j ≤ i) ⊎ (suc i ≤ j)
by_order i j = grind arith

-- where an offset is short in both choices, it fits in the one with less wide if it does in the other
pub fits_back : (items : List Labelled) (w v : List Bool) → IsBelow w v → (i : ℕ) → is_jump (item_at items i) ≡ true → width_at w i ≡ false → width_at v i ≡ false → FitsAt items v i false → FitsAt items w i false
fits_back items w v below i jumps short also fits =
    let t : ℕ = target_of items (item_at items i) in
    let s : Bool = signed_of (item_at items i) in
    let in_v : Fits s false (pos (place items v t) -ℤ pos (place items v i + 1 + 1)) =
    subst (λ (b : Bool). Fits s false (pos (place items v t) -ℤ pos (place items v i + 1 + offset_size b))) also fits in
    let size_w : size_of (item_at items i) (width_at w i) ≡ size_of (item_at items i) false = ap (size_of (item_at items i)) short in
    let size_v : size_of (item_at items i) (width_at v i) ≡ size_of (item_at items i) false = ap (size_of (item_at items i)) also in
    let in_w : Fits s false (pos (place items w t) -ℤ pos (place items w i + 1 + 1)) =
    elim (by_order i t) [
      | inl h ↦ backward s (place items w i) (place items w t) (place items v i) (place items v t) (rise items w t i h) (gap items w v below t i h) (rise items v t i h) in_v
      | inr h ↦ forward s (place items w i) (place items w t) (place items v i) (place items v t)
          (omega (arith, rise items w (suc i) t h, size_w, jump_size (item_at items i) jumps))
          (omega (arith, gap items w v below (suc i) t h, size_w, size_v)) in_v
    ] in
    subst (λ (b : Bool). Fits s false (pos (place items w t) -ℤ pos (place items w i + 1 + offset_size b))) (sym short) in_w

pub must : (b : Bool) → (b ≡ false → ⊥) → b ≡ true
must true h = refl
must false h = absurd (h refl)

pub needed : (items : List Labelled) (old new : List Bool) → IsNeeded items old → IsRound items old new → IsNeeded items new
needed items old new known round other fit i e =
    elim (round i e) [
      | inl was ↦ known other fit i was
      | inr h ↦ must (width_at other i) (λ short. h.unfit (fits_back items old other (known other fit) i h.jumps h.short short (fit i h.within h.jumps short)))
    ]

both : (x y : Bool) → (x ≡ true → y ≡ true) → (y ≡ true → x ≡ true) → x ≡ y
both true y f g = sym (f refl)
both false true f g = g refl
both false false f g = refl

pub one_choice : (items : List Labelled) (a b : List Bool) → IsFewest items a → IsFewest items b → a ≡ b
one_choice items a b f g =
    ext_get_or false a b (f.sized ∙ sym g.sized) (λ i _. both (width_at a i) (width_at b i) (f.needed b g.short_fit i) (g.needed a f.short_fit i))

pub one_layout : (items : List Labelled) (a b : List ℕ) → IsLayout items a → IsLayout items b → a ≡ b
one_layout items a b f g =
    let same = one_choice items f.widths g.widths f.fewest g.fewest in
    f.bytes_are ∙ (ap (λ (w : List Bool). laid_out items w) same ∙ sym g.bytes_are)

pub never_both : (items : List Labelled) (a : List ℕ) → IsLayout items a → IsTooFar items → ⊥
never_both items a f g =
    let same = one_choice items g.widths f.widths g.fewest f.fewest in
    g.far (subst (λ (w : List Bool). FitsAt items w g.at true) (sym same) (f.wide_fit g.at g.within g.jumps (subst (λ (w : List Bool). width_at w g.at ≡ true) same g.wide)))
