-- The counts of short offsets, and a round that makes one offset wide.
use Rattle.std.proofs.Common.{◌≡◌, ◌⊎◌, ℕ, zero, suc, ◌+◌, ◌<◌, ◌≤◌, Bool, true, false, not, cond, List, [], ◌∷◌, length, set, ◌^◌, ℤ, w64, to_z, of_z, refl, sym, subst, ◌∙◌, inl, inr, arith}
use Rattle.std.proofs.lemmas.List.Sums.{sum_by-cons}
use Rattle.std.proofs.lemmas.List.{length-set, get_or-set_other}
use Rattle.std.proofs.lemmas.Bool.{cases_eq, both_ways}
use Rattle.std.proofs.lemmas.Int.{to_z-of_z}
use lib.Signed.{mag}
use Rattle.bc_labels.specs.declared.labelled.Labelled.{Labelled}
use Rattle.std.specs.Prelude.{IsTrue}
use Rattle.bc_ops.specs.Offset.{Fits}
use Rattle.bc_labels.specs.Labels.{is_jump, signed_of}
use Rattle.bc_labels.specs.Places.{item_at, width_at, offset}
use Rattle.bc_labels.specs.Choice.{FitsAt, IsUnfit, IsRound, IsFewest, IsTooFar, shorts}
use Rattle.bc_labels.proofs.Standing.{last_or_before}
use Rattle.bc_labels.proofs.Fewest.{must}

shorts_cons : (w : Bool) (widths : List Bool) → shorts (w ∷ widths) ≡ cond (not w) 1 0 + shorts widths
shorts_cons w widths = sum_by-cons (λ y. cond (not y) 1 0) w widths

-- one that becomes wide
pub shorts-set : (widths : List Bool) (i : ℕ) → i < length widths → width_at widths i ≡ false → shorts (set widths i true) + 1 ≡ shorts widths
shorts-set [] i h e = absurd (omega arith)
shorts-set (true ∷ widths) zero h e = cc
shorts-set (false ∷ widths) zero h e = omega (arith, shorts_cons true widths, shorts_cons false widths)
shorts-set (w ∷ widths) (suc i) h e =
    omega (arith, shorts_cons w widths, shorts_cons w (set widths i true), shorts-set widths i (omega arith) e)

-- what a round has made of the widths in front of an item
pub record IsWidened (items : List Labelled) (old now : List Bool) (wider : Bool) (i : ℕ) : Type 0 where
  pub sized : length now ≡ length old
  pub round : IsRound items old now
  pub later : (k : ℕ) → i ≤ k → width_at now k ≡ width_at old k
  pub fewer : wider ≡ true → shorts now < shorts old
  pub least : shorts now ≤ shorts old
  pub same : wider ≡ false → now ≡ old
  pub fit : wider ≡ false → (k : ℕ) → k < i → is_jump (item_at items k) ≡ true → width_at old k ≡ false → FitsAt items old k false

pub unwidened : (items : List Labelled) (old : List Bool) → IsWidened items old old false 0
unwidened items old = record {
  sized = refl;
  round = λ i e. inl e;
  later = λ k h. refl;
  fewer = λ e. cc;
  least = omega arith;
  same = λ e. refl;
  fit = λ e k h jumps short. absurd (omega arith);
}

pub kept : (items : List Labelled) (old now : List Bool) (wider : Bool) (i : ℕ) → IsWidened items old now wider i → (is_jump (item_at items i) ≡ true → width_at old i ≡ false → FitsAt items old i false) → IsWidened items old now wider (i + 1)
kept items old now wider i known here = record {
  sized = known.sized;
  round = known.round;
  later = λ k h. known.later k (omega arith);
  fewer = known.fewer;
  least = known.least;
  same = known.same;
  fit = λ e k h. elim (last_or_before k i h) [
    | inl before ↦ known.fit e k before
    | inr last ↦ subst (λ (n : ℕ). is_jump (item_at items n) ≡ true → width_at old n ≡ false → FitsAt items old n false) (sym last) here
  ];
}

round_more : (items : List Labelled) (old now : List Bool) (i k : ℕ) → IsRound items old now → IsUnfit items old i → width_at (set now i true) k ≡ true → (width_at old k ≡ true) ⊎ IsUnfit items old k
round_more items old now i k round unfit e =
    elim (cases_eq k i) [
      | inl same ↦ inr (subst (IsUnfit items old) (sym same) unfit)
      | inr other ↦ round k (sym (get_or-set_other now i k true false other) ∙ e)
    ]

pub widened : (items : List Labelled) (old now : List Bool) (wider : Bool) (i : ℕ) → IsWidened items old now wider i → i < length now → IsUnfit items old i → IsWidened items old (set now i true) true (i + 1)
widened items old now wider i known within unfit =
    let short : width_at now i ≡ false = known.later i (omega arith) ∙ unfit.short in
    let count : shorts (set now i true) + 1 ≡ shorts now = shorts-set now i within short in
    record {
      sized = length-set now i true ∙ known.sized;
      round = λ k e. round_more items old now i k known.round unfit e;
      later = λ k h. get_or-set_other now i k true false (λ same. absurd (omega arith)) ∙ known.later k (omega arith);
      fewer = λ e. omega (arith, known.least, count);
      least = omega (arith, known.least, count);
      same = λ e. cc;
      fit = λ e. cc;
    }

no_true : IsTrue false → ⊥
no_true h = cc

-- what the test of an offset says, where it fails and where it doesn't
pub unfit : (items : List Labelled) (old : List Bool) (i : ℕ) (z : ℤ) → z ≡ offset items old i → i < length items → width_at old i ≡ false → ((is_jump (item_at items i) ≡ true → Fits (signed_of (item_at items i)) false z) → IsTrue false) → IsUnfit items old i
unfit items old i z is within short fails = record {
  jumps = must (is_jump (item_at items i)) (λ e. no_true (fails (λ jumps. absurd (both_ways (is_jump (item_at items i)) e jumps))));
  within = within;
  short = short;
  unfit = λ fits. no_true (fails (λ jumps. subst (Fits (signed_of (item_at items i)) false) (sym is) fits));
}

pub far : (items : List Labelled) (widths : List Bool) (i : ℕ) (wide : Bool) (z : ℤ) → wide ≡ width_at widths i → z ≡ offset items widths i → IsFewest items widths → i < length items → ((is_jump (item_at items i) ≡ true → Fits (signed_of (item_at items i)) wide z) → IsTrue false) → IsTooFar items
far items widths i wide z width is fewest within fails =
    let no : FitsAt items widths i wide → ⊥ = λ fits. no_true (fails (λ jumps. subst (Fits (signed_of (item_at items i)) wide) (sym is) fits)) in
    let jumps : is_jump (item_at items i) ≡ true =
    must (is_jump (item_at items i)) (λ e. no_true (fails (λ jumps. absurd (both_ways (is_jump (item_at items i)) e jumps)))) in
    let wide_is : wide ≡ true = must wide (λ e. no (subst (FitsAt items widths i) (sym e) (fewest.short_fit i within jumps (sym width ∙ e)))) in
    record {
      widths = widths;
      fewest = fewest;
      at = i;
      within = within;
      jumps = jumps;
      wide = sym width ∙ wide_is;
      far = λ fits. no (subst (FitsAt items widths i) (sym wide_is) fits);
    }

-- an offset that is passed on
pub passed : (z : ℤ) → mag z < 2 ^ 63 → to_z w64 (of_z w64 z) ≡ z
passed z small = to_z-of_z w64 z (record { sfits = small })
