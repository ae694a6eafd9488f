-- Bytes begin one thing.
use Rattle.std.proofs.Common.{◌≡◌, ◌⊎◌, ℕ, List, [], ◌∷◌, inl, inr, refl, arith}
use Rattle.py_tokens.specs.declared.lexeme.Class.{Class}
use Rattle.py_tokens.specs.declared.lexeme.Class.TheVariants as classes
use Rattle.py_tokens.specs.LineEnd.{IsLineByte}
use Rattle.py_tokens.specs.Name.{IsDigit, IsNameStart}
use Rattle.py_tokens.specs.Number.{BeginsRun}
use Rattle.py_tokens.specs.Literal.{IsQuote, IsPrintable}
use Rattle.py_tokens.specs.Lexeme.{IsBlank, Announces}

abbrev IsHash : ℕ → Type 0
IsHash byte = byte ≡ 35

abbrev IsBackslash : ℕ → Type 0
IsBackslash byte = byte ≡ 92

-- what a run begins with
abbrev IsNumberStart : ℕ → Type 0
IsNumberStart byte = IsDigit byte ⊎ (byte ≡ 46)

number_start : (byte : ℕ) (rest : List ℕ) → BeginsRun (byte ∷ rest) → IsNumberStart byte
number_start byte rest (inl digit) = inl digit
number_start byte rest (inr dot) = inr dot.0

blank_printable : (byte : ℕ) → IsBlank byte → IsPrintable byte ⊎ IsLineByte byte
blank_printable byte (inl is) = inl (inr (omega arith, omega arith))
blank_printable byte (inr is) = inl (inl is)

hash_printable : (byte : ℕ) → IsHash byte → IsPrintable byte ⊎ IsLineByte byte
hash_printable byte is = inl (inr (omega arith, omega arith))

backslash_printable : (byte : ℕ) → IsBackslash byte → IsPrintable byte ⊎ IsLineByte byte
backslash_printable byte is = inl (inr (omega arith, omega arith))

line_printable : (byte : ℕ) → IsLineByte byte → IsPrintable byte ⊎ IsLineByte byte
line_printable byte is = inr is

name_printable : (byte : ℕ) → IsNameStart byte → IsPrintable byte ⊎ IsLineByte byte
name_printable byte (inl (inl is)) = inl (inr (omega arith, omega arith))
name_printable byte (inl (inr is)) = inl (inr (omega arith, omega arith))
name_printable byte (inr is) = inl (inr (omega arith, omega arith))

number_printable : (byte : ℕ) → IsNumberStart byte → IsPrintable byte ⊎ IsLineByte byte
number_printable byte (inl is) = inl (inr (omega arith, omega arith))
number_printable byte (inr is) = inl (inr (omega arith, omega arith))

quote_printable : (byte : ℕ) → IsQuote byte → IsPrintable byte ⊎ IsLineByte byte
quote_printable byte (inl is) = inl (inr (omega arith, omega arith))
quote_printable byte (inr is) = inl (inr (omega arith, omega arith))

not_bad : (byte : ℕ) → IsPrintable byte ⊎ IsLineByte byte → (IsPrintable byte → ⊥) × (IsLineByte byte → ⊥) → ⊥
not_bad byte (inl is) bad = bad.0 is
not_bad byte (inr is) bad = bad.1 is

line_mark : (byte : ℕ) → IsLineByte byte → IsPrintable byte → ⊥
line_mark byte x y = grind arith

blank_comment : (byte : ℕ) → IsBlank byte → IsHash byte → ⊥
blank_comment byte x y = grind arith

blank_backslash : (byte : ℕ) → IsBlank byte → IsBackslash byte → ⊥
blank_backslash byte x y = grind arith

blank_lineend : (byte : ℕ) → IsBlank byte → IsLineByte byte → ⊥
blank_lineend byte x y = grind arith

blank_name : (byte : ℕ) → IsBlank byte → IsNameStart byte → ⊥
blank_name byte x y = grind arith

blank_number : (byte : ℕ) → IsBlank byte → IsNumberStart byte → ⊥
blank_number byte x y = grind arith

blank_quote : (byte : ℕ) → IsBlank byte → IsQuote byte → ⊥
blank_quote byte x y = grind arith

comment_backslash : (byte : ℕ) → IsHash byte → IsBackslash byte → ⊥
comment_backslash byte x y = grind arith

comment_lineend : (byte : ℕ) → IsHash byte → IsLineByte byte → ⊥
comment_lineend byte x y = grind arith

comment_name : (byte : ℕ) → IsHash byte → IsNameStart byte → ⊥
comment_name byte x y = grind arith

comment_number : (byte : ℕ) → IsHash byte → IsNumberStart byte → ⊥
comment_number byte x y = grind arith

comment_quote : (byte : ℕ) → IsHash byte → IsQuote byte → ⊥
comment_quote byte x y = grind arith

backslash_lineend : (byte : ℕ) → IsBackslash byte → IsLineByte byte → ⊥
backslash_lineend byte x y = grind arith

backslash_name : (byte : ℕ) → IsBackslash byte → IsNameStart byte → ⊥
backslash_name byte x y = grind arith

backslash_number : (byte : ℕ) → IsBackslash byte → IsNumberStart byte → ⊥
backslash_number byte x y = grind arith

backslash_quote : (byte : ℕ) → IsBackslash byte → IsQuote byte → ⊥
backslash_quote byte x y = grind arith

lineend_name : (byte : ℕ) → IsLineByte byte → IsNameStart byte → ⊥
lineend_name byte x y = grind arith

lineend_number : (byte : ℕ) → IsLineByte byte → IsNumberStart byte → ⊥
lineend_number byte x y = grind arith

lineend_quote : (byte : ℕ) → IsLineByte byte → IsQuote byte → ⊥
lineend_quote byte x y = grind arith

name_number : (byte : ℕ) → IsNameStart byte → IsNumberStart byte → ⊥
name_number byte x y = grind arith

name_quote : (byte : ℕ) → IsNameStart byte → IsQuote byte → ⊥
name_quote byte x y = grind arith

number_quote : (byte : ℕ) → IsNumberStart byte → IsQuote byte → ⊥
number_quote byte x y = grind arith

pub one_class : (a b : Class) (bytes : List ℕ) → Announces a bytes → Announces b bytes → a ≡ b
one_class classes.Blank classes.Blank bytes x y = refl
one_class classes.Blank classes.Comment [] x y = absurd x
one_class classes.Blank classes.Comment (byte ∷ rest) x y = absurd (blank_comment byte x y)
one_class classes.Blank classes.Backslash [] x y = absurd x
one_class classes.Blank classes.Backslash (byte ∷ rest) x y = absurd (blank_backslash byte x y)
one_class classes.Blank classes.LineEnd [] x y = absurd x
one_class classes.Blank classes.LineEnd (byte ∷ rest) x y = absurd (blank_lineend byte x y)
one_class classes.Blank classes.Name [] x y = absurd x
one_class classes.Blank classes.Name (byte ∷ rest) x y = absurd (blank_name byte x y)
one_class classes.Blank classes.Number [] x y = absurd x
one_class classes.Blank classes.Number (byte ∷ rest) x y = absurd (blank_number byte x (number_start byte rest y))
one_class classes.Blank classes.Quote [] x y = absurd x
one_class classes.Blank classes.Quote (byte ∷ rest) x y = absurd (blank_quote byte x y)
one_class classes.Blank classes.Mark [] x y = absurd x
one_class classes.Blank classes.Mark (byte ∷ rest) x y = absurd (y.0.1 x)
one_class classes.Blank classes.BadByte [] x y = absurd x
one_class classes.Blank classes.BadByte (byte ∷ rest) x y = absurd (not_bad byte (blank_printable byte x) y)
one_class classes.Comment classes.Blank [] x y = absurd x
one_class classes.Comment classes.Blank (byte ∷ rest) x y = absurd (blank_comment byte y x)
one_class classes.Comment classes.Comment bytes x y = refl
one_class classes.Comment classes.Backslash [] x y = absurd x
one_class classes.Comment classes.Backslash (byte ∷ rest) x y = absurd (comment_backslash byte x y)
one_class classes.Comment classes.LineEnd [] x y = absurd x
one_class classes.Comment classes.LineEnd (byte ∷ rest) x y = absurd (comment_lineend byte x y)
one_class classes.Comment classes.Name [] x y = absurd x
one_class classes.Comment classes.Name (byte ∷ rest) x y = absurd (comment_name byte x y)
one_class classes.Comment classes.Number [] x y = absurd x
one_class classes.Comment classes.Number (byte ∷ rest) x y = absurd (comment_number byte x (number_start byte rest y))
one_class classes.Comment classes.Quote [] x y = absurd x
one_class classes.Comment classes.Quote (byte ∷ rest) x y = absurd (comment_quote byte x y)
one_class classes.Comment classes.Mark [] x y = absurd x
one_class classes.Comment classes.Mark (byte ∷ rest) x y = absurd (y.0.2 x)
one_class classes.Comment classes.BadByte [] x y = absurd x
one_class classes.Comment classes.BadByte (byte ∷ rest) x y = absurd (not_bad byte (hash_printable byte x) y)
one_class classes.Backslash classes.Blank [] x y = absurd x
one_class classes.Backslash classes.Blank (byte ∷ rest) x y = absurd (blank_backslash byte y x)
one_class classes.Backslash classes.Comment [] x y = absurd x
one_class classes.Backslash classes.Comment (byte ∷ rest) x y = absurd (comment_backslash byte y x)
one_class classes.Backslash classes.Backslash bytes x y = refl
one_class classes.Backslash classes.LineEnd [] x y = absurd x
one_class classes.Backslash classes.LineEnd (byte ∷ rest) x y = absurd (backslash_lineend byte x y)
one_class classes.Backslash classes.Name [] x y = absurd x
one_class classes.Backslash classes.Name (byte ∷ rest) x y = absurd (backslash_name byte x y)
one_class classes.Backslash classes.Number [] x y = absurd x
one_class classes.Backslash classes.Number (byte ∷ rest) x y = absurd (backslash_number byte x (number_start byte rest y))
one_class classes.Backslash classes.Quote [] x y = absurd x
one_class classes.Backslash classes.Quote (byte ∷ rest) x y = absurd (backslash_quote byte x y)
one_class classes.Backslash classes.Mark [] x y = absurd x
one_class classes.Backslash classes.Mark (byte ∷ rest) x y = absurd (y.0.3 x)
one_class classes.Backslash classes.BadByte [] x y = absurd x
one_class classes.Backslash classes.BadByte (byte ∷ rest) x y = absurd (not_bad byte (backslash_printable byte x) y)
one_class classes.LineEnd classes.Blank [] x y = absurd x
one_class classes.LineEnd classes.Blank (byte ∷ rest) x y = absurd (blank_lineend byte y x)
one_class classes.LineEnd classes.Comment [] x y = absurd x
one_class classes.LineEnd classes.Comment (byte ∷ rest) x y = absurd (comment_lineend byte y x)
one_class classes.LineEnd classes.Backslash [] x y = absurd x
one_class classes.LineEnd classes.Backslash (byte ∷ rest) x y = absurd (backslash_lineend byte y x)
one_class classes.LineEnd classes.LineEnd bytes x y = refl
one_class classes.LineEnd classes.Name [] x y = absurd x
one_class classes.LineEnd classes.Name (byte ∷ rest) x y = absurd (lineend_name byte x y)
one_class classes.LineEnd classes.Number [] x y = absurd x
one_class classes.LineEnd classes.Number (byte ∷ rest) x y = absurd (lineend_number byte x (number_start byte rest y))
one_class classes.LineEnd classes.Quote [] x y = absurd x
one_class classes.LineEnd classes.Quote (byte ∷ rest) x y = absurd (lineend_quote byte x y)
one_class classes.LineEnd classes.Mark [] x y = absurd x
one_class classes.LineEnd classes.Mark (byte ∷ rest) x y = absurd (line_mark byte x y.0.0)
one_class classes.LineEnd classes.BadByte [] x y = absurd x
one_class classes.LineEnd classes.BadByte (byte ∷ rest) x y = absurd (not_bad byte (line_printable byte x) y)
one_class classes.Name classes.Blank [] x y = absurd x
one_class classes.Name classes.Blank (byte ∷ rest) x y = absurd (blank_name byte y x)
one_class classes.Name classes.Comment [] x y = absurd x
one_class classes.Name classes.Comment (byte ∷ rest) x y = absurd (comment_name byte y x)
one_class classes.Name classes.Backslash [] x y = absurd x
one_class classes.Name classes.Backslash (byte ∷ rest) x y = absurd (backslash_name byte y x)
one_class classes.Name classes.LineEnd [] x y = absurd x
one_class classes.Name classes.LineEnd (byte ∷ rest) x y = absurd (lineend_name byte y x)
one_class classes.Name classes.Name bytes x y = refl
one_class classes.Name classes.Number [] x y = absurd x
one_class classes.Name classes.Number (byte ∷ rest) x y = absurd (name_number byte x (number_start byte rest y))
one_class classes.Name classes.Quote [] x y = absurd x
one_class classes.Name classes.Quote (byte ∷ rest) x y = absurd (name_quote byte x y)
one_class classes.Name classes.Mark [] x y = absurd x
one_class classes.Name classes.Mark (byte ∷ rest) x y = absurd (y.0.4 x)
one_class classes.Name classes.BadByte [] x y = absurd x
one_class classes.Name classes.BadByte (byte ∷ rest) x y = absurd (not_bad byte (name_printable byte x) y)
one_class classes.Number classes.Blank [] x y = absurd x
one_class classes.Number classes.Blank (byte ∷ rest) x y = absurd (blank_number byte y (number_start byte rest x))
one_class classes.Number classes.Comment [] x y = absurd x
one_class classes.Number classes.Comment (byte ∷ rest) x y = absurd (comment_number byte y (number_start byte rest x))
one_class classes.Number classes.Backslash [] x y = absurd x
one_class classes.Number classes.Backslash (byte ∷ rest) x y = absurd (backslash_number byte y (number_start byte rest x))
one_class classes.Number classes.LineEnd [] x y = absurd x
one_class classes.Number classes.LineEnd (byte ∷ rest) x y = absurd (lineend_number byte y (number_start byte rest x))
one_class classes.Number classes.Name [] x y = absurd x
one_class classes.Number classes.Name (byte ∷ rest) x y = absurd (name_number byte y (number_start byte rest x))
one_class classes.Number classes.Number bytes x y = refl
one_class classes.Number classes.Quote [] x y = absurd x
one_class classes.Number classes.Quote (byte ∷ rest) x y = absurd (number_quote byte (number_start byte rest x) y)
one_class classes.Number classes.Mark [] x y = absurd x
one_class classes.Number classes.Mark (byte ∷ rest) x y = absurd (y.1 x)
one_class classes.Number classes.BadByte [] x y = absurd x
one_class classes.Number classes.BadByte (byte ∷ rest) x y = absurd (not_bad byte (number_printable byte (number_start byte rest x)) y)
one_class classes.Quote classes.Blank [] x y = absurd x
one_class classes.Quote classes.Blank (byte ∷ rest) x y = absurd (blank_quote byte y x)
one_class classes.Quote classes.Comment [] x y = absurd x
one_class classes.Quote classes.Comment (byte ∷ rest) x y = absurd (comment_quote byte y x)
one_class classes.Quote classes.Backslash [] x y = absurd x
one_class classes.Quote classes.Backslash (byte ∷ rest) x y = absurd (backslash_quote byte y x)
one_class classes.Quote classes.LineEnd [] x y = absurd x
one_class classes.Quote classes.LineEnd (byte ∷ rest) x y = absurd (lineend_quote byte y x)
one_class classes.Quote classes.Name [] x y = absurd x
one_class classes.Quote classes.Name (byte ∷ rest) x y = absurd (name_quote byte y x)
one_class classes.Quote classes.Number [] x y = absurd x
one_class classes.Quote classes.Number (byte ∷ rest) x y = absurd (number_quote byte (number_start byte rest y) x)
one_class classes.Quote classes.Quote bytes x y = refl
one_class classes.Quote classes.Mark [] x y = absurd x
one_class classes.Quote classes.Mark (byte ∷ rest) x y = absurd (y.0.5 x)
one_class classes.Quote classes.BadByte [] x y = absurd x
one_class classes.Quote classes.BadByte (byte ∷ rest) x y = absurd (not_bad byte (quote_printable byte x) y)
one_class classes.Mark classes.Blank [] x y = absurd x.0
one_class classes.Mark classes.Blank (byte ∷ rest) x y = absurd (x.0.1 y)
one_class classes.Mark classes.Comment [] x y = absurd x.0
one_class classes.Mark classes.Comment (byte ∷ rest) x y = absurd (x.0.2 y)
one_class classes.Mark classes.Backslash [] x y = absurd x.0
one_class classes.Mark classes.Backslash (byte ∷ rest) x y = absurd (x.0.3 y)
one_class classes.Mark classes.LineEnd [] x y = absurd x.0
one_class classes.Mark classes.LineEnd (byte ∷ rest) x y = absurd (line_mark byte y x.0.0)
one_class classes.Mark classes.Name [] x y = absurd x.0
one_class classes.Mark classes.Name (byte ∷ rest) x y = absurd (x.0.4 y)
one_class classes.Mark classes.Number [] x y = absurd x.0
one_class classes.Mark classes.Number (byte ∷ rest) x y = absurd (x.1 y)
one_class classes.Mark classes.Quote [] x y = absurd x.0
one_class classes.Mark classes.Quote (byte ∷ rest) x y = absurd (x.0.5 y)
one_class classes.Mark classes.Mark bytes x y = refl
one_class classes.Mark classes.BadByte [] x y = absurd x.0
one_class classes.Mark classes.BadByte (byte ∷ rest) x y = absurd (y.0 x.0.0)
one_class classes.BadByte classes.Blank [] x y = absurd x
one_class classes.BadByte classes.Blank (byte ∷ rest) x y = absurd (not_bad byte (blank_printable byte y) x)
one_class classes.BadByte classes.Comment [] x y = absurd x
one_class classes.BadByte classes.Comment (byte ∷ rest) x y = absurd (not_bad byte (hash_printable byte y) x)
one_class classes.BadByte classes.Backslash [] x y = absurd x
one_class classes.BadByte classes.Backslash (byte ∷ rest) x y = absurd (not_bad byte (backslash_printable byte y) x)
one_class classes.BadByte classes.LineEnd [] x y = absurd x
one_class classes.BadByte classes.LineEnd (byte ∷ rest) x y = absurd (not_bad byte (line_printable byte y) x)
one_class classes.BadByte classes.Name [] x y = absurd x
one_class classes.BadByte classes.Name (byte ∷ rest) x y = absurd (not_bad byte (name_printable byte y) x)
one_class classes.BadByte classes.Number [] x y = absurd x
one_class classes.BadByte classes.Number (byte ∷ rest) x y = absurd (not_bad byte (number_printable byte (number_start byte rest y)) x)
one_class classes.BadByte classes.Quote [] x y = absurd x
one_class classes.BadByte classes.Quote (byte ∷ rest) x y = absurd (not_bad byte (quote_printable byte y) x)
one_class classes.BadByte classes.Mark [] x y = absurd x
one_class classes.BadByte classes.Mark (byte ∷ rest) x y = absurd (x.0 y.0.0)
one_class classes.BadByte classes.BadByte bytes x y = refl
