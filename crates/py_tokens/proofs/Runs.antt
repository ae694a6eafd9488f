-- What is found in front of bytes, and the longest run of a kind of byte.
use Rattle.std.proofs.Common.{◌≡◌, ℕ, ◌≤◌, List, [], ◌∷◌, ◌++◌, length, Ok, Err, refl, ap, subst, arith}
use Rattle.std.proofs.lemmas.List.Elements.{All-nil, All-cons}
use Rattle.py_tokens.specs.LineEnd.{Begins}
use Rattle.py_tokens.specs.Operator.{Stands}
use Rattle.py_tokens.specs.Lexeme.{Answer, IsRunOf}
use Rattle.py_tokens.proofs.Decided.{Decided, yes, no, is_number, both}

-- the text of a lexeme stands in front, and isn't empty
abbrev pub Splits : Answer → List ℕ → Type 0
Splits (Ok found) bytes = (behind : List ℕ) × (bytes ≡ found.1 ++ behind) × (1 ≤ length found.1)
Splits (Err fault) bytes = Unit {0}

-- an answer of the kind for bytes
pub record Found (P : Answer → Type 0) (bytes : List ℕ) : Type 0 where
  pub answer : Answer
  pub is : P answer
  pub splits : Splits answer bytes

-- a run of a kind in front of the bytes
pub record Run (P : ℕ → Type 0) (bytes : List ℕ) : Type 0 where
  pub text : List ℕ
  pub is : IsRunOf P text bytes

run_with : (P : ℕ → Type 0) (b : ℕ) (bs : List ℕ) → Decided (P b) → Run P bs → Run P (b ∷ bs)
run_with P b bs (yes p) r = record {
  text = b ∷ r.text;
  is = record { rest = r.is.rest; parts = ap (λ z. b ∷ z) r.is.parts; all = All-cons P b r.text p r.is.all; ends = r.is.ends };
}
run_with P b bs (no n) r = record { text = []; is = record { rest = b ∷ bs; parts = refl; all = All-nil P; ends = n } }

pub run_in_front : (P : ℕ → Type 0) → ((n : ℕ) → Decided (P n)) → (bytes : List ℕ) → Run P bytes
run_in_front P each [] = record { text = []; is = record { rest = []; parts = refl; all = All-nil P; ends = λ h. h } }
run_in_front P each (b ∷ bs) = run_with P b bs (each b) (run_in_front P each bs)

pub run_some : (P : ℕ → Type 0) (text bytes : List ℕ) → IsRunOf P text bytes → Begins P bytes → 1 ≤ length text
run_some P [] bytes is begins = absurd (is.ends (subst (Begins P) is.parts begins))
run_some P (b ∷ text) bytes is begins = omega arith

-- whether the bytes begin with such a byte
pub begins : (P : ℕ → Type 0) → ((n : ℕ) → Decided (P n)) → (bytes : List ℕ) → Decided (Begins P bytes)
begins P each [] = no (λ h. h)
begins P each (b ∷ bs) = each b

stands_next : (t b : ℕ) (ts bs : List ℕ) → Decided ((b ≡ t) × Stands ts bs) → Decided (Stands (t ∷ ts) (b ∷ bs))
stands_next t b ts bs (yes h) = let same : b ≡ t = h.0 in let rest : bs ≡ ts ++ h.1.0 = h.1.1 in yes (h.1.0, cc)
stands_next t b ts bs (no h) = no (λ s.
    let whole : b ∷ bs ≡ t ∷ (ts ++ s.0) = s.1 in
    let same : b ≡ t = cc in
    let rest : bs ≡ ts ++ s.0 = cc in
    h (same, (s.0, rest)))

-- whether the text is the front of the bytes
pub stands : (text bytes : List ℕ) → Decided (Stands text bytes)
stands [] bytes = yes (bytes, refl)
stands (t ∷ ts) [] = no (λ s. let e : [] ≡ t ∷ (ts ++ s.0) = s.1 in absurd cc)
stands (t ∷ ts) (b ∷ bs) = stands_next t b ts bs (both (is_number b t) (stands ts bs))
