-- Each backslash with what follows it is an escape or a fault.
use Rattle.std.proofs.Common.{◌≡◌, ◌⊎◌, ℕ, zero, suc, ◌≤◌, Bool, true, false, List, [], ◌∷◌, ◌++◌, length, All, ◌==◌, ◌&&◌, ◌||◌, nat_le, inl, inr, refl, sym, ap, subst, ◌∙◌, arith}
use Rattle.std.specs.Prelude.{if◌then◌else◌}
use Rattle.std.proofs.lemmas.Bool.Decides.{nat_tests}
use Rattle.std.proofs.lemmas.List.Elements.{All-nil, All-cons}
use Rattle.py_tokens.specs.declared.escape.Mark.{Mark}
use Rattle.py_tokens.specs.declared.escape.Mark.TheVariants.{StandsFor, LineEnd, Octal, Hexadecimal, Unicode, Nothing}
use Rattle.py_tokens.specs.declared.escape.StringFaultKind.{StringFaultKind}
use Rattle.py_tokens.specs.declared.escape.StringFaultKind.TheVariants.{BadToken, Escape, NonAscii}
use Rattle.py_tokens.specs.Digits.{IsDigitOf, value_of}
use Rattle.py_tokens.specs.LineEnd.{Begins, IsLineByte, IsLineEnd}
use Rattle.py_tokens.specs.Escape.{mark_of_byte, mark_of, IsOctal, IsHexadecimal, Gives, IsEscape, Fails, IsEscapeFault}
use Rattle.py_tokens.proofs.Decided.{Decided, yes, no, is_number}
use Rattle.py_tokens.proofs.Numerals.{below, digit_of}

-- line ends
-- =========

-- the line end in front
pub record Ended (bytes : List ℕ) : Type 0 where
  pub text : List ℕ
  pub rest : List ℕ
  pub parts : bytes ≡ text ++ rest
  pub is : IsLineEnd text rest
  pub some : 1 ≤ length text

behind_cr : (bs : List ℕ) → Ended (13 ∷ bs)
behind_cr [] = record { text = 13 ∷ []; rest = []; parts = refl; is = inr (inr (refl, λ h. h)); some = omega arith }
behind_cr (b ∷ bs) = elim (is_number b 10) [
  | yes lf ↦ record { text = 13 ∷ 10 ∷ []; rest = bs; parts = ap (λ z. 13 ∷ z ∷ bs) lf; is = inr (inl refl); some = omega arith }
  | no other ↦ record { text = 13 ∷ []; rest = b ∷ bs; parts = refl; is = inr (inr (refl, other)); some = omega arith }
]

pub line_end : (b : ℕ) (bs : List ℕ) → IsLineByte b → Ended (b ∷ bs)
line_end b bs (inl lf) = record { text = 10 ∷ []; rest = bs; parts = ap (λ z. z ∷ bs) lf; is = inl refl; some = omega arith }
line_end b bs (inr cr) = subst (λ z. Ended (z ∷ bs)) (sym cr) (behind_cr bs)

-- what is told of a byte by its mark
-- ==================================

abbrev Tells : ℕ → Mark → Type 0
Tells byte LineEnd = IsLineByte byte
Tells byte Octal = (48 ≤ byte) × (byte ≤ 55)
Tells byte Hexadecimal = byte ≡ 120
Tells byte mark = Unit {0}

choice : (P : Mark → Type 0) (test : Bool) (a b : Mark) → (test ≡ true → P a) → P b → P (if test then a else b)
choice P true a b on off = on refl
choice P false a b on off = off

tells : (byte : ℕ) → Tells byte (mark_of_byte byte)
tells byte =
    choice (Tells byte) (byte == 92) _ _ (λ e. tt) (
    choice (Tells byte) (byte == 39) _ _ (λ e. tt) (
    choice (Tells byte) (byte == 34) _ _ (λ e. tt) (
    choice (Tells byte) (byte == 97) _ _ (λ e. tt) (
    choice (Tells byte) (byte == 98) _ _ (λ e. tt) (
    choice (Tells byte) (byte == 102) _ _ (λ e. tt) (
    choice (Tells byte) (byte == 110) _ _ (λ e. tt) (
    choice (Tells byte) (byte == 114) _ _ (λ e. tt) (
    choice (Tells byte) (byte == 116) _ _ (λ e. tt) (
    choice (Tells byte) (byte == 118) _ _ (λ e. tt) (
    choice (Tells byte) (byte == 10 || byte == 13) _ _ (line byte) (
    choice (Tells byte) (nat_le 48 byte && nat_le byte 55) _ _ (octal byte) (
    choice (Tells byte) (byte == 120) _ _ (hexadecimal byte) (
    choice (Tells byte) (byte == 117 || byte == 85 || byte == 78) _ _ (λ e. tt) tt)))))))))))))
  where
    line : (byte : ℕ) → (byte == 10 || byte == 13) ≡ true → IsLineByte byte
    line byte e = grind (arith, nat_tests)

    octal : (byte : ℕ) → (nat_le 48 byte && nat_le byte 55) ≡ true → (48 ≤ byte) × (byte ≤ 55)
    octal byte e = (grind (arith, nat_tests), grind (arith, nat_tests))

    hexadecimal : (byte : ℕ) → (byte == 120) ≡ true → byte ≡ 120
    hexadecimal byte e = grind (arith, nat_tests)

-- what stands behind a backslash
-- ==============================

-- a text that gives something, or a fault that isn't a bad byte
pub record Given (mark : Mark) (bytes : List ℕ) : Type 0 where
  pub text : List ℕ
  pub rest : List ℕ
  pub given : List ℕ
  pub parts : bytes ≡ text ++ rest
  pub is : Gives mark text rest given

pub record Failed (mark : Mark) (bytes : List ℕ) : Type 0 where
  pub kind : StringFaultKind
  pub is : Fails mark bytes kind

abbrev Behind : Mark → List ℕ → Type 0
Behind mark bytes = Given mark bytes ⊎ Failed mark bytes

-- the longest front of such bytes, of at most n
record Front (P : ℕ → Type 0) (n : ℕ) (bytes : List ℕ) : Type 0 where
  text : List ℕ
  rest : List ℕ
  parts : bytes ≡ text ++ rest
  all : All P text
  few : length text ≤ n
  longest : (length text ≡ n) ⊎ ¬ Begins P rest

front_of : (P : ℕ → Type 0) → ((byte : ℕ) → Decided (P byte)) → (n : ℕ) (bytes : List ℕ) → Front P n bytes
front_of P each zero bytes = record { text = []; rest = bytes; parts = refl; all = All-nil P; few = omega arith; longest = inl refl }
front_of P each (suc n) [] = record { text = []; rest = []; parts = refl; all = All-nil P; few = omega arith; longest = inr (λ h. h) }
front_of P each (suc n) (b ∷ bs) = elim (each b) [
  | yes h ↦ (
      let f = front_of P each n bs in
      record {
        text = b ∷ f.text;
        rest = f.rest;
        parts = ap (λ z. b ∷ z) f.parts;
        all = All-cons P b f.text h f.all;
        few = (let few = f.few in omega arith);
        longest = elim f.longest [ inl full ↦ inl (omega arith) | inr ends ↦ inr ends ];
      })
  | no h ↦ record { text = []; rest = b ∷ bs; parts = refl; all = All-nil P; few = omega arith; longest = inr h }
]

front_some : (P : ℕ → Type 0) (n : ℕ) (bytes : List ℕ) (f : Front P (suc n) bytes) → Begins P bytes → 1 ≤ length f.text
front_some P n bytes f h = some f.text f.parts f.longest
  where
    some : (text : List ℕ) → bytes ≡ text ++ f.rest → (length text ≡ suc n) ⊎ ¬ Begins P f.rest → 1 ≤ length text
    some [] e (inl full) = omega arith
    some [] e (inr ends) = absurd (ends (subst (Begins P) e h))
    some (b ∷ text) e l = omega arith

octal_digit : (byte : ℕ) → (48 ≤ byte) × (byte ≤ 55) → IsDigitOf 8 byte
octal_digit byte h = (inl (h.0, omega (arith, h.1)), grind (arith, nat_tests))

octal : (b : ℕ) (bs : List ℕ) → (48 ≤ b) × (b ≤ 55) → Behind Octal (b ∷ bs)
octal b bs h =
    let f = front_of (IsDigitOf 8) (digit_of 8) 3 (b ∷ bs) in
    let is : IsOctal f.text f.rest = record { digits_are = f.all; some = front_some (IsDigitOf 8) 2 (b ∷ bs) f (octal_digit b h); few = f.few; longest = f.longest } in
    elim (below (value_of 8 f.text) 128) [
      | yes small ↦ inl (record { text = f.text; rest = f.rest; given = value_of 8 f.text ∷ []; parts = f.parts; is = (value_of 8 f.text, (is, refl), small, refl) })
      | no large ↦ inr (record { kind = NonAscii; is = (f.text, f.rest, value_of 8 f.text, f.parts, (is, refl), omega arith) })
    ]

two_digits : (h l : ℕ) (bs : List ℕ) → IsDigitOf 16 h → IsDigitOf 16 l → Behind Hexadecimal (120 ∷ h ∷ l ∷ bs)
two_digits h l bs high low =
    let is : IsHexadecimal (120 ∷ h ∷ l ∷ []) (value_of 16 (h ∷ l ∷ [])) = (h, l, refl, high, low, refl) in
    elim (below (value_of 16 (h ∷ l ∷ [])) 128) [
      | yes small ↦ inl (record { text = 120 ∷ h ∷ l ∷ []; rest = bs; given = value_of 16 (h ∷ l ∷ []) ∷ []; parts = refl; is = (value_of 16 (h ∷ l ∷ []), is, small, refl) })
      | no large ↦ inr (record { kind = NonAscii; is = (120 ∷ h ∷ l ∷ [], bs, value_of 16 (h ∷ l ∷ []), refl, is, omega arith) })
    ]

-- the bytes of a number that stands in front
spelled : (bytes text rest : List ℕ) (h l : ℕ) → bytes ≡ text ++ rest → text ≡ 120 ∷ h ∷ l ∷ [] → bytes ≡ 120 ∷ h ∷ l ∷ rest
spelled bytes text rest h l e is = e ∙ ap (λ z. z ++ rest) is

hexadecimal : (bs : List ℕ) → Behind Hexadecimal (120 ∷ bs)
hexadecimal [] = inr (record { kind = BadToken; is = λ text rest value e code. let s = spelled (120 ∷ []) text rest code.0 code.1 e code.2 in absurd cc })
hexadecimal (h ∷ []) = inr (record { kind = BadToken; is = λ text rest value e code. let s = spelled (120 ∷ h ∷ []) text rest code.0 code.1 e code.2 in absurd cc })
hexadecimal (h ∷ l ∷ bs) = elim (digit_of 16 h) [
  | yes high ↦ elim (digit_of 16 l) [
    | yes low ↦ two_digits h l bs high low
    | no other ↦ inr (record {
      kind = BadToken;
      is = λ text rest value e code.
          let s = spelled (120 ∷ h ∷ l ∷ bs) text rest code.0 code.1 e code.2 in
          let same : code.1 ≡ l = cc in
          other (subst (IsDigitOf 16) same code.4);
    })
  ]
  | no other ↦ inr (record {
    kind = BadToken;
    is = λ text rest value e code.
        let s = spelled (120 ∷ h ∷ l ∷ bs) text rest code.0 code.1 e code.2 in
        let same : code.0 ≡ h = cc in
        other (subst (IsDigitOf 16) same code.3);
  })
]

by_mark : (mark : Mark) (b : ℕ) (bs : List ℕ) → Tells b mark → Behind mark (b ∷ bs)
by_mark (StandsFor value) b bs h = inl (record { text = b ∷ []; rest = bs; given = value ∷ []; parts = refl; is = (b, refl, refl) })
by_mark LineEnd b bs h = let e = line_end b bs h in inl (record { text = e.text; rest = e.rest; given = []; parts = e.parts; is = (e.is, refl) })
by_mark Octal b bs h = octal b bs h
by_mark Hexadecimal b bs h = subst (λ z. Behind Hexadecimal (z ∷ bs)) (sym h) (hexadecimal bs)
by_mark Unicode b bs h = inr (record { kind = Escape; is = tt })
by_mark Nothing b bs h = inl (record { text = []; rest = b ∷ bs; given = 92 ∷ []; parts = refl; is = (refl, refl) })

behind : (bytes : List ℕ) → Behind (mark_of bytes) bytes
behind [] = inl (record { text = []; rest = []; given = 92 ∷ []; parts = refl; is = (refl, refl) })
behind (b ∷ bs) = by_mark (mark_of_byte b) b bs (tells b)

-- the escape in front, or its fault
-- =================================

pub record Escaped (bytes : List ℕ) : Type 0 where
  pub text : List ℕ
  pub rest : List ℕ
  pub given : List ℕ
  pub parts : bytes ≡ text ++ rest
  pub some : 1 ≤ length text
  pub is : IsEscape text rest given

pub record EscapeFails (bytes : List ℕ) : Type 0 where
  pub kind : StringFaultKind
  pub is : IsEscapeFault bytes kind

escaped : (bs : List ℕ) → Given (mark_of bs) bs → Escaped (92 ∷ bs)
escaped bs g = record {
  text = 92 ∷ g.text;
  rest = g.rest;
  given = g.given;
  parts = ap (λ z. 92 ∷ z) g.parts;
  some = omega arith;
  is = (g.text, refl, subst (λ z. Gives (mark_of z) g.text g.rest g.given) g.parts g.is);
}

pub escape : (bs : List ℕ) → Escaped (92 ∷ bs) ⊎ EscapeFails (92 ∷ bs)
escape bs = elim (behind bs) [
  | inl g ↦ inl (escaped bs g)
  | inr f ↦ inr (record { kind = f.kind; is = (bs, refl, f.is) })
]
