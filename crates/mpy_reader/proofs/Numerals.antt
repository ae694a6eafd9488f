-- Decimal texts.
use Rattle.std.proofs.Common.{◌≡◌, ℕ, ◌+◌, ◌-◌, ◌*◌, ◌<◌, ◌≤◌, List, [], ◌∷◌, ◌++◌, length, take, get_or, sym, ap, subst, ◌∙◌, inl, inr, arith, ℤ, w32, to_z, of_z}
use Rattle.std.specs.Prelude.{min, ◌⊎◌}
use Rattle.std.specs.Char.{digit_value}
use Rattle.std.specs.Str.Parse.{AllDigits, IsNumeral, digits_value}
use Rattle.std.proofs.lemmas.Bool.Decides.{nat_tests}
use Rattle.std.proofs.lemmas.List.{take_more, take_all}
use Rattle.std.proofs.lemmas.Int.Digits.{digits_value_more}
use Rattle.std.proofs.lemmas.Str.Parse.{digit_at}
use Rattle.std.proofs.lemmas.Int.{ints, to_z-of_z}
use Rattle.mpy_tree.specs.File.{IsSmall}

value_of_digit : (d : ℕ) → 48 ≤ d → d ≤ 57 → digit_value d ≡ d - 48
value_of_digit d low high = grind (arith, nat_tests)

AllDigits-push : (ds : List ℕ) (d : ℕ) → AllDigits 10 ds → digit_value d < 10 → AllDigits 10 (ds ++ d ∷ [])
AllDigits-push [] d h lt = (lt, tt)
AllDigits-push (c ∷ ds) d h lt = (h.0, AllDigits-push ds d h.1 lt)

capped : (v m x bound : ℕ) → m ≡ min v bound → min (10 * m + x) bound ≡ min (v * 10 + x) bound
capped v m x bound e = omega arith

-- one more digit
pub more_digits : (ds : List ℕ) (i m next bound : ℕ) → i < length ds → 48 ≤ get_or ds i 0 → get_or ds i 0 ≤ 57 → AllDigits 10 (take i ds) → m ≡ min (digits_value 10 (take i ds)) bound → next ≡ min (10 * m + (get_or ds i 0 - 48)) bound → AllDigits 10 (take (i + 1) ds) × (next ≡ min (digits_value 10 (take (i + 1) ds)) bound)
more_digits ds i m next bound lt low high digits so_far e =
    let d : digit_value (get_or ds i 0) ≡ get_or ds i 0 - 48 = value_of_digit (get_or ds i 0) low high in
    let value = digits_value_more 10 ds i lt in
    let taken = take_more ds i 0 lt in (
      subst (AllDigits 10) (sym taken) (AllDigits-push (take i ds) (get_or ds i 0) digits (omega (arith, d))),
      e ∙ (capped (digits_value 10 (take i ds)) m (get_or ds i 0 - 48) bound so_far ∙ ap (λ z. min z bound) (ap (λ z. digits_value 10 (take i ds) * 10 + z) (sym d) ∙ sym value)),
    )

pub no_digit : (ds : List ℕ) (i : ℕ) → i < length ds → ((get_or ds i 0 < 48) ⊎ (57 < get_or ds i 0)) → IsNumeral 10 ds → ⊥
no_digit ds i lt (inl low) numeral = let d = digit_at ds i numeral.1 lt in omega (arith, low, d.0)
no_digit ds i lt (inr high) numeral = let d = digit_at ds i numeral.1 lt in omega (arith, high, d.1)

pub all_digits : (ds : List ℕ) (i m bound : ℕ) → length ds ≤ i → 0 < length ds → AllDigits 10 (take i ds) → m ≡ min (digits_value 10 (take i ds)) bound → IsNumeral 10 ds × (m ≡ min (digits_value 10 ds) bound)
all_digits ds i m bound le some digits e =
    let whole = take_all i ds le in
    ((some, subst (AllDigits 10) whole digits), e ∙ ap (λ z. min (digits_value 10 z) bound) whole)

-- a text is a number in one way: with a minus or without
pub one_sign : (text digits : List ℕ) → text ≡ 45 ∷ digits → IsNumeral 10 text → ⊥
one_sign text digits e numeral =
    let signed : IsNumeral 10 (45 ∷ digits) = subst (IsNumeral 10) e numeral in
    omega (arith, signed.1.0)

pub same_digits : (text a b : List ℕ) → text ≡ 45 ∷ a → text ≡ 45 ∷ b → b ≡ a
same_digits text a b e f = let both : 45 ∷ b ≡ 45 ∷ a = sym f ∙ e in cc

-- a small integer keeps its value in four bytes
pub kept : (n : ℤ) → IsSmall n → to_z w32 (of_z w32 n) ≡ n
kept n small = to_z-of_z w32 n (omega (arith, ints, small.least, small.below))
