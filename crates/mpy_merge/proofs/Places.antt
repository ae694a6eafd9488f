-- The indexes of names, one after another.
use Rattle.std.proofs.Common.{◌≡◌, ℕ, ◌+◌, ◌<◌, ◌≤◌, List, [], ◌∷◌, ◌++◌, length, drop, Result, Ok, Err, refl, sym, ap, subst, ◌∙◌, append_assoc, arith, length-append}
use Rattle.std.proofs.Math.Seq.{drop-append_seam}
use Rattle.std.proofs.lemmas.List.{append-nil, drop-drop, length-drop}
use Rattle.mpy_base.specs.declared.vuint.VuintFault.{VuintFault}
use Rattle.mpy_base.specs.Vuint.{Spells}
use Rattle.bc_verify.specs.bc_prelude.Names.{AreNames}
use Rattle.bc_verify.proofs.bc_prelude_lemmas.Pieces.{some_bytes}

-- what is left of the indexes stands at the place
abbrev pub Left : List ℕ → List ℕ → List ℕ → ℕ → Type 0
Left names indexes found at = (rest : List ℕ) × (found ++ rest ≡ indexes) × AreNames rest (drop at names) × (at ≤ length names)

pub record Next (names indexes found : List ℕ) (at : ℕ) : Type 0 where
  pub text : List ℕ
  pub behind : List ℕ
  pub index : ℕ
  pub spells : Spells text index
  pub is : drop at names ≡ text ++ behind
  pub some : 0 < length text
  pub left : Left names indexes (found ++ index ∷ []) (at + length text)

pub next : (names indexes found : List ℕ) (at : ℕ) → Left names indexes found at → at < length names → Next names indexes found at
next names indexes found at left lt = by_rest left.0 left.1 left.2 where
  by_rest : (rest : List ℕ) → found ++ rest ≡ indexes → AreNames rest (drop at names) → Next names indexes found at
  by_rest [] e are = absurd (omega (arith, ap length are, length-drop at names, lt))
  by_rest (index ∷ others) e are =
      let text = are.0 in
      let behind = are.1 in
      let drops : drop (at + length text) names ≡ behind =
      sym (drop-drop (length text) at names) ∙ (ap (drop (length text)) are.3 ∙ drop-append_seam text behind) in
      let size = ap length are.3 in
      record {
        text = text;
        behind = behind;
        index = index;
        spells = are.2;
        is = are.3;
        some = some_bytes text index are.2;
        left = (others, append_assoc found (index ∷ []) others ∙ e, subst (AreNames others) (sym drops) are.4, omega (arith, size, length-append text behind, length-drop at names, lt));
      }

none_left : (rest text : List ℕ) → AreNames rest text → length text ≡ 0 → rest ≡ []
none_left [] text are none = refl
none_left (index ∷ others) text are none =
    absurd (omega (arith, none, ap length are.3, length-append are.0 are.1, some_bytes are.0 index are.2))

pub all_found : (names indexes found : List ℕ) (at : ℕ) → Left names indexes found at → length names ≤ at → found ≡ indexes
all_found names indexes found at left past =
    let e = none_left left.0 (drop at names) left.2 (omega (arith, length-drop at names, past)) in
    sym (append-nil found) ∙ (ap (λ (z : List ℕ). found ++ z) (sym e) ∙ left.1)

abbrev number_in : Result (ℕ × ℕ) VuintFault → ℕ
number_in (Ok found) = found.0
number_in (Err fault) = 0

abbrev place_in : Result (ℕ × ℕ) VuintFault → ℕ
place_in (Ok found) = found.1
place_in (Err fault) = 0

pub one_number : (result : Result (ℕ × ℕ) VuintFault) (m n k l : ℕ) → result ≡ Ok (m, k) → result ≡ Ok (n, l) → (m ≡ n) × (k ≡ l)
one_number result m n k l e f = (ap number_in (sym e ∙ f), ap place_in (sym e ∙ f))
