-- Facts that hold or don't.
use Rattle.std.proofs.Common.{◌≡◌, ◌⊎◌, ℕ, ◌≤◌, Bool, true, false, eqb, List, [], ◌∷◌, inl, inr, refl, arith}
use Rattle.std.specs.Bool.{Decides}
use Rattle.std.specs.List.{All, Contains}
use Rattle.std.proofs.lemmas.Bool.{cases_order, cases_lt}
use Rattle.std.proofs.lemmas.Bool.Decides.{Decides-eqb}
use Rattle.std.proofs.lemmas.List.Elements.{All-nil, All-cons, All-head, All-tail}
use Rattle.std.proofs.lemmas.Map.Made.{is_member-Decides}
use Rattle.std.specs.Set.{is_member}
use Rattle.std.proofs.lemmas.Slice.Eq.{bytes_eq-Decides}
use Rattle.std.specs.Str.{bytes_eq}

pub data Decided (P : Type 0) : Type 0 where
  yes : P → Decided P
  no : ¬ P → Decided P

pub both : {P Q : Type 0} → Decided P → Decided Q → Decided (P × Q)
both (yes p) (yes q) = yes (p, q)
both (yes p) (no q) = no (λ h. q h.1)
both (no p) q = no (λ h. p h.0)

pub either : {P Q : Type 0} → Decided P → Decided Q → Decided (P ⊎ Q)
either (yes p) q = yes (inl p)
either (no p) (yes q) = yes (inr q)
either (no p) (no q) = no (λ h. elim h [ inl x ↦ p x | inr y ↦ q y ])

pub negated : {P : Type 0} → Decided P → Decided (¬ P)
negated (yes p) = no (λ h. h p)
negated (no p) = yes p

pub by_test : {P : Type 0} → (r : Bool) → Decides r P → Decided P
by_test true d = yes (d.0 refl)
by_test false d = no (λ p. let e = d.1 p in absurd cc)

pub is_number : (m n : ℕ) → Decided (m ≡ n)
is_number m n = elim (cases_order m n) [
  | inl same ↦ yes same
  | inr others ↦ no (λ e. elim others [ inl below ↦ omega arith | inr above ↦ omega arith ])
]

pub at_most : (m n : ℕ) → Decided (m ≤ n)
at_most m n = elim (cases_lt n m) [ inl above ↦ no (λ h. omega arith) | inr within ↦ yes within ]

pub within : (low byte high : ℕ) → Decided ((low ≤ byte) × (byte ≤ high))
within low byte high = both (at_most low byte) (at_most byte high)

pub is_text : (s t : List ℕ) → Decided (s ≡ t)
is_text s t = by_test (bytes_eq s t) (bytes_eq-Decides s t)

-- whether each is such a number
pub all : {P : ℕ → Type 0} → ((n : ℕ) → Decided (P n)) → (ns : List ℕ) → Decided (All P ns)
all {P} each [] = yes (All-nil P)
all {P} each (n ∷ ns) = elim (each n) [
  | yes here ↦ elim (all each ns) [
    | yes others ↦ yes (All-cons P n ns here others)
    | no others ↦ no (λ h. others (All-tail P n ns h))
  ]
  | no here ↦ no (λ h. here (All-head P n ns h))
]

-- whether one of them is the number
pub has_number : (ns : List ℕ) (n : ℕ) → Decided (Contains ns n)
has_number ns n = by_test (is_member eqb ns n) (is_member-Decides {eq = eqb} Decides-eqb ns n)

-- whether one of them is the text
pub has_text : (texts : List (List ℕ)) (text : List ℕ) → Decided (Contains texts text)
has_text texts text = by_test (is_member bytes_eq texts text) (is_member-Decides {eq = bytes_eq} bytes_eq-Decides texts text)
