-- String literals behind their prefix.
use Rattle.std.specs.Prelude.{◌≡◌, ◌≢◌, ◌⊎◌, ℕ, ◌+◌, ◌≤◌, List, [], ◌∷◌, ◌++◌, length, take, drop, Bool, true, false, Option, Some, None, Result, Ok, Err}
use Rattle.mpy_base.specs.declared.refused.Refused.{Refused}
use Rattle.mpy_base.specs.declared.refused.Refused.TheVariants as refused
use Rattle.py_tokens.specs.declared.escape.Given.{Given}
use Rattle.py_tokens.specs.declared.escape.Given.TheVariants.{Empty, Byte, Itself}
use Rattle.py_tokens.specs.declared.escape.Piece.{Piece}
use Rattle.py_tokens.specs.declared.escape.StringFaultKind.{StringFaultKind}
use Rattle.py_tokens.specs.declared.escape.StringFaultKind.TheVariants.{BadByte, BadToken, Escape, NonAscii}
use Rattle.py_tokens.specs.declared.string.StringFault.{StringFault}
use Rattle.py_tokens.specs.LineEnd.{Begins, IsLineByte, IsLineEnd}
use Rattle.py_tokens.specs.Operator.{Stands}
use Rattle.py_tokens.specs.Escape.{IsEscape, IsEscapeFault}

-- `"` or `'`
abbrev pub IsQuote : ℕ → Type 0
IsQuote byte = (byte ≡ 34) ⊎ (byte ≡ 39)

-- the quotes that open a literal, three where three of the same stand
abbrev pub Opens : List ℕ → List ℕ → Type 0
Opens quotes rest =
    (quote : ℕ) × IsQuote quote
    × ((quotes ≡ quote ∷ quote ∷ quote ∷ []) ⊎ ((quotes ≡ quote ∷ []) × ¬ Stands (quote ∷ quote ∷ []) rest))

-- there are three quotes
abbrev pub IsTriple : List ℕ → Type 0
IsTriple quotes = length quotes ≡ 3

-- tab, and blank to tilde
abbrev pub IsPrintable : ℕ → Type 0
IsPrintable byte = (byte ≡ 9) ⊎ ((32 ≤ byte) × (byte ≤ 126))

-- a byte that stands for itself: no backslash (92), and not where the closing quotes stand
abbrev pub IsPlain : List ℕ → List ℕ → List ℕ → Type 0
IsPlain quotes text rest =
    (byte : ℕ) × (text ≡ byte ∷ []) × IsPrintable byte × (byte ≢ 92) × ¬ Stands quotes (text ++ rest)

-- a backslash in a raw literal, with the quote directly behind it
abbrev pub IsRaw : List ℕ → List ℕ → Type 0
IsRaw text rest =
    ((quote : ℕ) × IsQuote quote × (text ≡ 92 ∷ quote ∷ [])) ⊎ ((text ≡ 92 ∷ []) × ¬ Begins IsQuote rest)

-- a piece of a literal, where such bytes follow, and what it gives
abbrev pub IsPiece : Bool → List ℕ → List ℕ → List ℕ → List ℕ → Type 0
IsPiece raw quotes text rest given =
    (IsTriple quotes × IsLineEnd text rest × (given ≡ 10 ∷ []))
    ⊎ (IsPlain quotes text rest × (given ≡ text))
    ⊎ ((raw ≡ true) × IsRaw text rest × (given ≡ text))
    ⊎ ((raw ≡ false) × IsEscape text rest given)

-- where no piece can be read, and no quotes close the literal
abbrev pub IsFault : Bool → List ℕ → List ℕ → StringFaultKind → Type 0
IsFault raw quotes bytes BadByte = Begins (λ byte. ¬ IsPrintable byte × ¬ IsLineByte byte) bytes
IsFault raw quotes bytes BadToken =
    (bytes ≡ []) ⊎ (Begins IsLineByte bytes × ¬ IsTriple quotes) ⊎ ((raw ≡ false) × IsEscapeFault bytes BadToken)
IsFault raw quotes bytes Escape = (raw ≡ false) × IsEscapeFault bytes Escape
IsFault raw quotes bytes NonAscii = (raw ≡ false) × IsEscapeFault bytes NonAscii

-- the text is such pieces, each with what it gives
abbrev pub ArePieces : Bool → List ℕ → List (List ℕ × List ℕ) → List ℕ → List ℕ → Type 0
ArePieces raw quotes [] text rest = text ≡ []
ArePieces raw quotes (piece ∷ pieces) text rest =
    (others : List ℕ) × (text ≡ piece.0 ++ others) × IsPiece raw quotes piece.0 (others ++ rest) piece.1
    × ArePieces raw quotes pieces others rest

-- what the pieces give together
abbrev pub given_by : List (List ℕ × List ℕ) → List ℕ
given_by [] = []
given_by (piece ∷ pieces) = piece.1 ++ given_by pieces

-- the text is quotes, pieces and the same quotes, where such bytes follow, and the pieces give the value
pub record IsLiteral (raw : Bool) (text rest value : List ℕ) : Type 0 where
  pub quotes : List ℕ
  pub inner : List ℕ
  pub pieces : List (List ℕ × List ℕ)
  pub text_is : text ≡ quotes ++ (inner ++ quotes)
  pub opens : Opens quotes (inner ++ (quotes ++ rest))
  pub pieces_are : ArePieces raw quotes pieces inner (quotes ++ rest)
  pub value_is : value ≡ given_by pieces

-- behind the opening quotes and some pieces stands the fault
pub record IsLiteralFault (raw : Bool) (bytes : List ℕ) (fault : StringFault) : Type 0 where
  pub quotes : List ℕ
  pub inner : List ℕ
  pub rest : List ℕ
  pub pieces : List (List ℕ × List ℕ)
  pub bytes_are : bytes ≡ quotes ++ (inner ++ rest)
  pub opens : Opens quotes (inner ++ rest)
  pub pieces_are : ArePieces raw quotes pieces inner rest
  pub at_is : fault.at ≡ length quotes + length inner
  pub fault_is : IsFault raw quotes rest fault.kind

-- what a piece of the code gives
abbrev pub given_text : Given → List ℕ → List ℕ
given_text Empty text = []
given_text (Byte byte) text = byte ∷ []
given_text Itself text = text

-- the answer is what stands in front inside a literal: a piece, the closing quotes, or a fault
abbrev pub IsFront : Bool → List ℕ → List ℕ → Result (Option Piece) StringFaultKind → Type 0
IsFront raw quotes bytes (Ok (Some piece)) =
    (piece.len ≤ length bytes)
    × IsPiece raw quotes (take piece.len bytes) (drop piece.len bytes) (given_text piece.given (take piece.len bytes))
IsFront raw quotes bytes (Ok None) = Stands quotes bytes
IsFront raw quotes bytes (Err kind) = IsFault raw quotes bytes kind

-- what was read is a literal in front or its first fault
abbrev pub Reads : Bool → List ℕ → Result (List ℕ × ℕ) (Refused StringFault) → Type 0
Reads raw bytes (Ok found) =
    (text rest : List ℕ) × IsLiteral raw text rest found.0 × (bytes ≡ text ++ rest) × (found.1 ≡ length text)
Reads raw bytes (Err (refused.Fault fault)) = IsLiteralFault raw bytes fault
Reads raw bytes (Err refused.NoMemory) = Unit {0}
