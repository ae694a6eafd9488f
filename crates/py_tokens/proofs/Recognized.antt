-- Each name is a prefix, a word, a refused word or none of these, and bytes begin with a longest operator or with none.
use Rattle.std.proofs.Common.{◌≡◌, ◌⊎◌, ℕ, ◌+◌, Bool, true, false, List, [], ◌∷◌, length, take, codes, Contains, inl, inr, refl, sym, ap, ◌∙◌, arith}
use Rattle.std.specs.Str.{bytes_eq}
use Rattle.std.proofs.lemmas.Slice.Eq.{bytes_eq-Decides}
use Rattle.py_tokens.specs.declared.word.Word.{Word}
use Rattle.py_tokens.specs.Word as word
use Rattle.py_tokens.proofs.Words as words
use Rattle.py_tokens.specs.declared.prefix.Prefix.{Prefix}
use Rattle.py_tokens.specs.declared.prefix.Prefix.TheVariants as prefixes
use Rattle.py_tokens.specs.Prefix.{IsInAnyCase, IsPrefix}
use Rattle.py_tokens.specs.declared.operator.Operator.{Operator}
use Rattle.py_tokens.specs.declared.operator.Operator.TheVariants as operators
use Rattle.py_tokens.specs.Operator.{spelling, refused, Spells, Stands, IsLongest}
use Rattle.py_tokens.proofs.Operators as ops
use Rattle.py_tokens.proofs.Decided.{Decided, yes, no, both, either, is_number, at_most, is_text, has_text}

-- words
-- =====

abbrev pub IsSomeWord : ℕ → List ℕ → Type 0
IsSomeWord opt name = (w : Word) × word.IsWord opt name w

pub some_word : (opt : ℕ) (name : List ℕ) → Decided (IsSomeWord opt name)
some_word opt name = elim (is_text name (word.spelling (words.slotted name))) [
  | yes is ↦ yes (words.slotted name, inl is)
  | no other ↦ elim (is_text name (codes "__debug__")) [
    | yes is ↦ yes (word.debug_word opt, inr (is, refl))
    | no neither ↦ no (λ h. elim h.1 [
      | inl is ↦ other (is ∙ ap word.spelling (sym (ap words.slotted is ∙ words.word_slotted h.0)))
      | inr is ↦ neither is.0
    ])
  ]
]

-- prefixes
-- ========

in_any_case : (letters text : List ℕ) → Decided (IsInAnyCase letters text)
in_any_case [] [] = yes tt
in_any_case [] (b ∷ text) = no (λ h. h)
in_any_case (l ∷ letters) [] = no (λ h. h)
in_any_case (l ∷ letters) (b ∷ text) = both (either (is_number b l) (is_number (b + 32) l)) (in_any_case letters text)

abbrev pub IsSomePrefix : List ℕ → Type 0
IsSomePrefix name = (prefix : Prefix) × IsPrefix prefix name

no_prefix : (name : List ℕ) → ¬ IsPrefix prefixes.Plain name → ¬ IsPrefix prefixes.Raw name → ¬ IsPrefix prefixes.Bytes name → ¬ IsPrefix prefixes.Format name
    → (prefix : Prefix) → ¬ IsPrefix prefix name
no_prefix name a b c d prefixes.Plain = a
no_prefix name a b c d prefixes.Raw = b
no_prefix name a b c d prefixes.Bytes = c
no_prefix name a b c d prefixes.Format = d

pub some_prefix : (name : List ℕ) → Decided (IsSomePrefix name)
some_prefix name = elim (in_any_case (codes "u") name) [
  | yes is ↦ yes (prefixes.Plain, is)
  | no a ↦ elim (in_any_case (codes "r") name) [
    | yes is ↦ yes (prefixes.Raw, is)
    | no b ↦ elim (either (in_any_case (codes "b") name) (either (in_any_case (codes "br") name) (in_any_case (codes "rb") name))) [
      | yes is ↦ yes (prefixes.Bytes, is)
      | no c ↦ elim (either (in_any_case (codes "f") name) (either (in_any_case (codes "fr") name) (in_any_case (codes "rf") name))) [
        | yes is ↦ yes (prefixes.Format, is)
        | no d ↦ no (λ h. no_prefix name a b c d h.0 h.1)
      ]
    ]
  ]
]

-- operators
-- =========

abbrev IsSomeOperator : List ℕ → Type 0
IsSomeOperator text = (operator : Operator) × Spells operator text

no_operator : (text : List ℕ) → ¬ (text ≡ spelling (ops.slotted text)) → ¬ Contains refused text → (operator : Operator) → ¬ Spells operator text
no_operator text other none (operators.Op op) is =
    ops.slot_lacks text (spelling (ops.slotted text)) (ops.slotted text) (bytes_eq text (spelling (ops.slotted text))) refl refl refl (differs (bytes_eq text (spelling (ops.slotted text))) refl) op is
  where
    differs : (r : Bool) → bytes_eq text (spelling (ops.slotted text)) ≡ r → bytes_eq text (spelling (ops.slotted text)) ≡ false
    differs true e = absurd (other ((bytes_eq-Decides text (spelling (ops.slotted text))).0 e))
    differs false e = e
no_operator text other none operators.Refused is = none is

some_operator : (text : List ℕ) → Decided (IsSomeOperator text)
some_operator text = elim (is_text text (spelling (ops.slotted text))) [
  | yes is ↦ yes (operators.Op (ops.slotted text), is)
  | no other ↦ elim (has_text refused text) [
    | yes is ↦ yes (operators.Refused, is)
    | no none ↦ no (λ h. no_operator text other none h.0 h.1)
  ]
]

-- an operator of that length in front
abbrev IsFrontOf : ℕ → List ℕ → Type 0
IsFrontOf n bytes = (operator : Operator) × ops.IsFront n bytes operator

front_of : (n : ℕ) (bytes : List ℕ) → Decided (IsFrontOf n bytes)
front_of n bytes = elim (at_most n (length bytes)) [
  | yes within ↦ elim (some_operator (take n bytes)) [
    | yes h ↦ yes (h.0, (within, h.1))
    | no none ↦ no (λ h. none (h.0, h.1.1))
  ]
  | no short ↦ no (λ h. short h.1.0)
]

abbrev pub HasLongest : List ℕ → Type 0
HasLongest bytes = (operator : Operator) × (text : List ℕ) × IsLongest operator text bytes

abbrev pub HasNone : List ℕ → Type 0
HasNone bytes = (operator : Operator) (text : List ℕ) → Spells operator text → ¬ Stands text bytes

pub longest_operator : (bytes : List ℕ) → HasLongest bytes ⊎ HasNone bytes
longest_operator bytes = elim (front_of 3 bytes) [
  | yes three ↦ inl (three.0, take 3 bytes, ops.longest 3 bytes three.0 (omega arith) (omega arith) three.1 (λ h. absurd (omega arith)) (λ h. absurd (omega arith)))
  | no three ↦ elim (front_of 2 bytes) [
    | yes two ↦ inl (two.0, take 2 bytes, ops.longest 2 bytes two.0 (omega arith) (omega arith) two.1 (λ h. absurd (omega arith)) (λ h operator is. three (operator, is)))
    | no two ↦ elim (front_of 1 bytes) [
      | yes one ↦ inl (one.0, take 1 bytes, ops.longest 1 bytes one.0 (omega arith) (omega arith) one.1 (λ h operator is. two (operator, is)) (λ h operator is. three (operator, is)))
      | no one ↦ inr (ops.none_stands bytes (λ operator is. one (operator, is)) (λ operator is. two (operator, is)) (λ operator is. three (operator, is)))
    ]
  ]
]
