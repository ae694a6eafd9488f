-- The tokens of a source, and its first fault.
use Rattle.std.specs.Prelude.{◌≡◌, ℕ, ◌+◌, ◌<◌, ◌≤◌, ◌⊎◌, List, [], ◌∷◌, ◌++◌, length, take, Result, Ok, Err, if◌then◌else◌, ◌==◌}
use Rattle.std.specs.Prelude.{◌&&◌, ◌||◌, Bool, false, not, Vec}
use Rattle.std.specs.declared.alloc.Global.{Global}
use Rattle.mpy_base.specs.declared.refused.Refused.{Refused}
use Rattle.mpy_base.specs.declared.refused.Refused.TheVariants as refused
use Rattle.mpy_base.specs.declared.source.SourceFault.{SourceFault}
use Rattle.mpy_base.specs.Fault.{too_long}
use Rattle.py_tokens.specs.declared.lexeme.LexemeFault.{LexemeFault}
use Rattle.py_tokens.specs.declared.token.Token.{Token}
use Rattle.py_tokens.specs.Lexeme.{IsFront}
use Rattle.py_tokens.specs.Lines.{Piece, Place, Tokens, tokens_of_pieces}

-- the bytes begin with LF
abbrev pub begins_lf : List ℕ → Bool
begins_lf [] = false
begins_lf (byte ∷ rest) = byte == 10

-- how many line ends stand in a text: each LF, and each CR that isn't directly before one
abbrev pub line_ends : List ℕ → ℕ
line_ends [] = 0
line_ends (byte ∷ rest) = (if byte == 10 || (byte == 13 && not (begins_lf rest)) then 1 else 0) + line_ends rest

-- the line of a place is one more than the number of line ends before it
abbrev pub line_at : List ℕ → ℕ → ℕ
line_at source at = 1 + line_ends (take at source)

-- the place of a byte of a source
abbrev pub place_at : List ℕ → ℕ → Place
place_at source at = record { at = at; line = line_at source at }

-- the fault of a source that is met behind a place
abbrev pub fault_at : List ℕ → ℕ → LexemeFault → SourceFault
fault_at source at fault = record { code = fault.code; line = line_at source (at + fault.at); word = fault.word }

-- nothing is left, or a fault stands in front of what is left
abbrev pub Stops : ℕ → List ℕ → ℕ → List ℕ → Result Place SourceFault → Type 0
Stops opt source end rest (Ok place) = (rest ≡ []) × (place ≡ place_at source end)
Stops opt source end rest (Err fault) = (its : LexemeFault) × IsFront opt rest (Err its) × (fault ≡ fault_at source end its)

-- the pieces stand in front of the bytes that begin at a place of the source, up to an end and the rest behind it
abbrev pub AreInFront : ℕ → List ℕ → ℕ → List Piece → ℕ → List ℕ → List ℕ → Type 0
AreInFront opt source at [] end rest bytes = (end ≡ at) × (bytes ≡ rest)
AreInFront opt source at (piece ∷ pieces) end rest bytes =
    (piece.at ≡ at) × (piece.line ≡ line_at source at) × IsFront opt bytes (Ok (piece.lexeme, piece.text))
    × (behind : List ℕ) × (bytes ≡ piece.text ++ behind) × AreInFront opt source (at + length piece.text) pieces end rest behind

-- the source is pieces up to its end, or up to a fault, and they give the answer
pub record IsReading (opt : ℕ) (source : List ℕ) (answer : Tokens) : Type 0 where
  pub pieces : List Piece
  pub end : ℕ
  pub rest : List ℕ
  pub stop : Result Place SourceFault
  pub pieces_are : AreInFront opt source 0 pieces end rest source
  pub stops : Stops opt source end rest stop
  pub answer_is : answer ≡ tokens_of_pieces pieces stop

-- pieces in front of the source give the fault, whatever follows them
pub record IsRefused (opt : ℕ) (source : List ℕ) (fault : SourceFault) : Type 0 where
  pub pieces : List Piece
  pub end : ℕ
  pub rest : List ℕ
  pub pieces_are : AreInFront opt source 0 pieces end rest source
  pub refused : (others : List Piece) (stop : Result Place SourceFault) → tokens_of_pieces (pieces ++ others) stop ≡ Err fault

-- the tokens of a source
pub record IsTokens (opt : ℕ) (source : List ℕ) (tokens : List Token) : Type 0 where
  pub short : length source ≤ 1048576
  pub reading : IsReading opt source (Ok tokens)

-- what is read of a source that isn't too long, up to its first fault
abbrev pub IsFault : ℕ → List ℕ → SourceFault → Type 0
IsFault opt source fault = IsReading opt source (Err fault) ⊎ IsRefused opt source fault

-- the first fault of a source
abbrev pub IsFirstFault : ℕ → List ℕ → SourceFault → Type 0
IsFirstFault opt source fault =
    ((1048576 < length source) × (fault ≡ too_long)) ⊎ ((length source ≤ 1048576) × IsFault opt source fault)

-- the answer is right
abbrev pub Says : ℕ → List ℕ → Result (Vec Token Global) (Refused SourceFault) → Type 0
Says opt source (Ok tokens) = IsReading opt source (Ok tokens.items)
Says opt source (Err (refused.Fault fault)) = IsFault opt source fault
Says opt source (Err refused.NoMemory) = Unit {0}
