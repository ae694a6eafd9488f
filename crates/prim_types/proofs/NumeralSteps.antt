-- Numbers that are read from strs.
use Rattle.std.proofs.Common.{◌≡◌, ◌≢◌, ℕ, ◌+◌, ◌-◌, ◌*◌, ◌^◌, ◌<◌, ◌≤◌, min, ℤ, pos, neg_ℤ, ◌<ℤ◌, ◌-ℤ◌, to_z, of_z, w32, List, [], ◌∷◌, ◌++◌, length, take, get_or, Bool, true, false, ◌&&◌, Option, Some, None, Result, refl, sym, ap, ap₂, ◌∙◌, inl, inr, arith}
use Rattle.std.specs.Prelude.{nat_eq, reverse, fold, if◌then◌else◌}
use Rattle.std.specs.Char.{is_ascii_digit}
use Rattle.std.specs.List.{list_all}
use Rattle.std.specs.Option.{option_map}
use Rattle.std.proofs.lemmas.Int.{ints}
use Rattle.std.proofs.lemmas.List.{reverse-append, reverse-reverse}
use Rattle.std.proofs.lemmas.List.Sums.{fold_more}
use Rattle.std.proofs.lemmas.List.Folds.{list_all_more, list_all_at}
use Rattle.std.proofs.lemmas.Bool.{cases_lt}
use Rattle.std.proofs.lemmas.Bool.Decides.{Decides-eqb}
use Rattle.prim_builtins.proofs.arena_objects_lemmas.RangeNumbers.{small_same}
use Rattle.prim_builtins.specs.py_values.declared.small_int.NumFault.{NumFault}
use Rattle.prim_builtins.specs.py_values.Range.{IsSmall}
use Rattle.prim_builtins.specs.py_values.Small.{checked}
use Rattle.prim_builtins.specs.py_values.Shown.{PlainHeap}
use Rattle.prim_builtins.proofs.py_values_lemmas.Range.{checked_big}
use Rattle.prim_builtins.specs.py_primitives.Faults.{NoNumeral}
use Rattle.prim_builtins.specs.py_primitives.Outcome.{raises}
use Rattle.prim_builtins.specs.py_primitives.Operators.{gives_number}
use Rattle.prim_builtins.specs.py_primitives.Calls.{without_blanks, digits_number, signed_number, gives_numeral}

is_false : (b : Bool) → (b ≡ true → ⊥) → b ≡ false
is_false true never = absurd (never refl)
is_false false never = refl

differs : (a b : ℕ) → a ≢ b → nat_eq a b ≡ false
differs a b ne = is_false (nat_eq a b) (λ e. ne ((Decides-eqb a b).0 e))

-- blanks
-- ======

pub blank_more : (byte : ℕ) (rest : List ℕ) → byte ≡ 32 → without_blanks (byte ∷ rest) ≡ without_blanks rest
blank_more byte rest e = ap (λ (b : ℕ). without_blanks (b ∷ rest)) e

pub no_blank : (byte : ℕ) (rest : List ℕ) → byte ≢ 32 → without_blanks (byte ∷ rest) ≡ byte ∷ rest
no_blank byte rest ne = ap (λ (b : Bool). if b then without_blanks rest else byte ∷ rest) (differs byte 32 ne)

last_first : (bytes front : List ℕ) (byte : ℕ) → bytes ≡ front ++ byte ∷ [] → reverse bytes ≡ byte ∷ reverse front
last_first bytes front byte e = ap (λ (xs : List ℕ). reverse xs) e ∙ reverse-append front (byte ∷ [])

pub blank_less : (bytes front : List ℕ) (byte : ℕ) → bytes ≡ front ++ byte ∷ [] → byte ≡ 32 → without_blanks (reverse bytes) ≡ without_blanks (reverse front)
blank_less bytes front byte e is = ap without_blanks (last_first bytes front byte e) ∙ blank_more byte (reverse front) is

pub no_blank_last : (bytes front : List ℕ) (byte : ℕ) → bytes ≡ front ++ byte ∷ [] → byte ≢ 32 → reverse (without_blanks (reverse bytes)) ≡ bytes
no_blank_last bytes front byte e ne =
    let ends = last_first bytes front byte e in
    ap (λ (xs : List ℕ). reverse (without_blanks xs)) ends ∙ (ap (λ (xs : List ℕ). reverse xs) (no_blank byte (reverse front) ne) ∙ (ap (λ (xs : List ℕ). reverse xs) (sym ends) ∙ reverse-reverse bytes))

pub no_bytes : (bytes : List ℕ) → length bytes ≡ 0 → bytes ≡ []
no_bytes [] e = refl
no_bytes (byte ∷ bytes) e = absurd (omega (arith, e))

-- digits
-- ======

abbrev pub value : List ℕ → ℕ
value digits = fold (λ n digit. 10 * n + (digit - 48)) 0 digits

pub cut_more : (n m digit : ℕ) → m ≡ min n (2 ^ 31) → min (10 * m + (digit - 48)) (2 ^ 31) ≡ min (10 * n + (digit - 48)) (2 ^ 31)
cut_more n m digit e = omega (arith, e)

pub value_more : (digits : List ℕ) (i : ℕ) → i < length digits → value (take (i + 1) digits) ≡ 10 * value (take i digits) + (get_or digits i 0 - 48)
value_more digits i lt = fold_more (λ n digit. 10 * n + (digit - 48)) 0 digits i 0 lt

pub digits_more : (digits : List ℕ) (i : ℕ) → i < length digits → list_all is_ascii_digit (take i digits) ≡ true → is_ascii_digit (get_or digits i 0) ≡ true → list_all is_ascii_digit (take (i + 1) digits) ≡ true
digits_more digits i lt front last = list_all_more is_ascii_digit digits i 0 lt ∙ ap₂ (λ (a b : Bool). a && b) front last

pub digits_value : (digits : List ℕ) → 0 < length digits → list_all is_ascii_digit digits ≡ true → digits_number digits ≡ Some (value digits)
digits_value [] some all = absurd (omega (arith, some))
digits_value (d ∷ ds) some all = ap (λ (b : Bool). if b then Some (value (d ∷ ds)) else None) all

pub no_digits : (digits : List ℕ) (i : ℕ) → i < length digits → is_ascii_digit (get_or digits i 0) ≡ false → digits_number digits ≡ None
no_digits [] i lt other = absurd (omega (arith, lt))
no_digits (d ∷ ds) i lt other = ap (λ (b : Bool). if b then Some (value (d ∷ ds)) else None) (list_all_at is_ascii_digit (d ∷ ds) i 0 lt other)

-- numbers that are out of range
-- =============================

cut_positive : (n : ℕ) → checked (pos (min n (2 ^ 31))) ≡ checked (pos n)
cut_positive n = elim (cases_lt n (2 ^ 31)) [
  | inl lt ↦ (let e : min n (2 ^ 31) ≡ n = omega (arith, lt) in ap (λ (m : ℕ). checked (pos m)) e)
  | inr le ↦ checked_big (pos (min n (2 ^ 31))) (inr (grind (arith, ints, le))) ∙ sym (checked_big (pos n) (inr (grind (arith, ints, le))))
]

cut_negative : (n : ℕ) → checked (neg_ℤ (pos (min n (2 ^ 31)))) ≡ checked (neg_ℤ (pos n))
cut_negative n = elim (cases_lt n (2 ^ 31)) [
  | inl lt ↦ (let e : min n (2 ^ 31) ≡ n = omega (arith, lt) in ap (λ (m : ℕ). checked (neg_ℤ (pos m))) e)
  | inr le ↦ checked_big (neg_ℤ (pos (min n (2 ^ 31)))) (inl (grind (arith, ints, le))) ∙ sym (checked_big (neg_ℤ (pos n)) (inl (grind (arith, ints, le))))
]

pub negative_big : (n : ℕ) → 2 ^ 30 < n → neg_ℤ (pos n) <ℤ neg_ℤ (pos (2 ^ 30))
negative_big n lt = grind (arith, ints, lt)

pub negative_small : (n : ℕ) → n ≤ 2 ^ 30 → IsSmall (neg_ℤ (pos n))
negative_small n le = grind (arith, ints, le)

-- such a number as the code has it
pub negated : (n : ℕ) → n ≤ 2 ^ 30 → to_z w32 (of_z w32 (pos 0 -ℤ to_z w32 n)) ≡ neg_ℤ (pos n)
negated n le =
    let widened : to_z w32 n ≡ pos n = omega (arith, ints) in
    let turned : pos 0 -ℤ pos n ≡ neg_ℤ (pos n) = omega (arith, ints) in
    ap (λ (z : ℤ). to_z w32 (of_z w32 (pos 0 -ℤ z))) widened ∙ (ap (λ (z : ℤ). to_z w32 (of_z w32 z)) turned ∙ small_same (neg_ℤ (pos n)) (negative_small n le))

module _ (heap : PlainHeap) where
  pub positive_numeral : (m : ℕ) (o : Option ℕ) → Some m ≡ option_map (λ n. min n (2 ^ 31)) o → gives_numeral heap (option_map pos o) ≡ gives_number heap (checked (pos m))
  positive_numeral m None e = absurd cc
  positive_numeral m (Some n) e =
      let is : m ≡ min n (2 ^ 31) = cc in
      ap (λ (r : Result ℤ NumFault). gives_number heap r) (sym (cut_positive n) ∙ ap (λ (k : ℕ). checked (pos k)) (sym is))

  pub negative_numeral : (m : ℕ) (o : Option ℕ) → Some m ≡ option_map (λ n. min n (2 ^ 31)) o → gives_numeral heap (option_map (λ n. neg_ℤ (pos n)) o) ≡ gives_number heap (checked (neg_ℤ (pos m)))
  negative_numeral m None e = absurd cc
  negative_numeral m (Some n) e =
      let is : m ≡ min n (2 ^ 31) = cc in
      ap (λ (r : Result ℤ NumFault). gives_number heap r) (sym (cut_negative n) ∙ ap (λ (k : ℕ). checked (neg_ℤ (pos k))) (sym is))

  pub no_numeral : (f : ℕ → ℤ) (o : Option ℕ) → None ≡ option_map (λ n. min n (2 ^ 31)) o → gives_numeral heap (option_map f o) ≡ raises NoNumeral heap
  no_numeral f None e = refl
  no_numeral f (Some n) e = absurd cc

-- signs
-- =====

pub minus : (bytes digits : List ℕ) (byte : ℕ) → bytes ≡ byte ∷ digits → byte ≡ 45 → signed_number bytes ≡ option_map (λ n. neg_ℤ (pos n)) (digits_number digits)
minus bytes digits byte e is = ap signed_number e ∙ ap (λ (b : ℕ). signed_number (b ∷ digits)) is

pub plus : (bytes digits : List ℕ) (byte : ℕ) → bytes ≡ byte ∷ digits → byte ≡ 43 → signed_number bytes ≡ option_map pos (digits_number digits)
plus bytes digits byte e is = ap signed_number e ∙ ap (λ (b : ℕ). signed_number (b ∷ digits)) is

pub unsigned : (bytes digits : List ℕ) (byte : ℕ) → bytes ≡ byte ∷ digits → byte ≢ 45 → byte ≢ 43 → signed_number bytes ≡ option_map pos (digits_number bytes)
unsigned bytes digits byte e no_minus no_plus =
    let none : Option ℤ = option_map (λ n. neg_ℤ (pos n)) (digits_number digits) in
    ap signed_number e
    ∙ (ap (λ (b : Bool). if b then none else option_map pos (digits_number (if nat_eq byte 43 then digits else byte ∷ digits))) (differs byte 45 no_minus)
    ∙ (ap (λ (b : Bool). option_map pos (digits_number (if b then digits else byte ∷ digits))) (differs byte 43 no_plus)
    ∙ ap (λ (xs : List ℕ). option_map pos (digits_number xs)) (sym e)))

pub nothing : (bytes : List ℕ) → length bytes ≡ 0 → signed_number bytes ≡ option_map pos (digits_number bytes)
nothing [] e = refl
nothing (byte ∷ bytes) e = absurd (omega (arith, e))
