-- How a reading goes on from where it stands.
use Rattle.std.specs.Prelude.{◌≡◌, ℕ, ◌+◌, List, ◌∷◌, take, Bool, true, false, if◌then◌else◌, Option, Some, None, Result, Ok, Err}
use Rattle.mpy_base.specs.declared.refused.Refused.{Refused}
use Rattle.mpy_base.specs.declared.refused.Refused.TheVariants as refused
use Rattle.mpy_base.specs.declared.source.SourceFault.{SourceFault}
use Rattle.py_tokens.specs.declared.lexeme.Lexeme.{Lexeme}
use Rattle.py_tokens.specs.declared.lexeme.Lexeme.TheVariants as lexemes
use Rattle.py_tokens.specs.declared.lexeme.LexemeFault.{LexemeFault}
use Rattle.py_tokens.specs.declared.lines.Lines.{Lines}
use Rattle.py_tokens.specs.declared.token.Tok.{Tok}
use Rattle.py_tokens.specs.declared.token.Token.{Token}
use Rattle.py_tokens.specs.Tokens.{line_ends}
use Rattle.py_tokens.specs.Lines.{Piece, Place, Line, Level, Tokens, level, lines, tokens_of, with_front, line_tokens, with_line, all_tokens}

-- the level of the line, told by what is left of it where nothing has been read of it
abbrev pub level_from : Option Level → List Piece → Level
level_from None pieces = level pieces
level_from (Some its) pieces = its

-- the tokens of what is left of a line, and of the lines behind it
abbrev pub from_here : List (List ℕ) → Option Level → Bool → Line × List Line → Result Place SourceFault → Tokens
from_here levels its true these stop = line_tokens (tokens_of these.0.pieces) these.0.ends (all_tokens these.1 stop levels)
from_here levels its false these stop = with_line levels (level_from its these.0.pieces) these.0 (all_tokens these.1 stop)

-- all tokens, where some are known and pieces are left
unfoldable pub goes_from : List Token → List (List ℕ) → ℕ → Option Level → Bool → List Piece → Result Place SourceFault → Tokens
goes_from tokens levels brackets its is_open pieces stop = with_front tokens (from_here levels its is_open (lines brackets pieces stop) stop)

-- what is known of the level of this line
abbrev pub known_level : Bool → List ℕ → ℕ → Option Level
known_level is_new text line = if is_new then None else Some (record { text = text; line = line })

-- the tokens of the whole source, where it was read up to here and these pieces follow
abbrev pub goes_on : Lines → List Piece → Result Place SourceFault → Tokens
goes_on here pieces stop =
    goes_from here.tokens.items here.levels.items here.brackets (known_level here.is_new here.level here.level_line) here.is_open pieces stop

-- the piece that stands here
abbrev pub piece_here : Lines → Lexeme → List ℕ → Piece
piece_here here lexeme text = record { lexeme = lexeme; text = text; at = here.at; line = here.line }

-- the place hasn't changed
pub record StaysAt (old new : Lines) : Type 0 where
  pub at : new.at ≡ old.at
  pub line : new.line ≡ old.line

-- only tokens and levels have changed
pub record StaysInLine (old new : Lines) : Type 0 where
  pub place : StaysAt old new
  pub brackets : new.brackets ≡ old.brackets
  pub level : new.level ≡ old.level
  pub level_line : new.level_line ≡ old.level_line
  pub is_new : new.is_new ≡ old.is_new
  pub is_open : new.is_open ≡ old.is_open

-- both go on alike with the piece in front
abbrev pub GoesAlike : Piece → Lines → Lines → Type 0
GoesAlike piece old new = (pieces : List Piece) (stop : Result Place SourceFault) → goes_on old (piece ∷ pieces) stop ≡ goes_on new (piece ∷ pieces) stop

-- the reading with the piece in front goes on as the new one does, or ends with the fault
abbrev pub Adds : Piece → Lines → Lines → Result (Unit {0}) (Refused SourceFault) → Type 0
Adds piece old new (Ok done) = (pieces : List Piece) (stop : Result Place SourceFault) → goes_on old (piece ∷ pieces) stop ≡ goes_on new pieces stop
Adds piece old new (Err (refused.Fault fault)) = (pieces : List Piece) (stop : Result Place SourceFault) → goes_on old (piece ∷ pieces) stop ≡ Err fault
Adds piece old new (Err refused.NoMemory) = Unit {0}

-- the reading with what comes before the token that stands here goes on as the new one does, or ends with the fault
abbrev pub OpensLine : Tok → List ℕ → Lines → Lines → Result (Unit {0}) (Refused SourceFault) → Type 0
OpensLine tok text old new (Ok done) = GoesAlike (piece_here old (lexemes.Token tok) text) old new
OpensLine tok text old new (Err (refused.Fault fault)) =
    (pieces : List Piece) (stop : Result Place SourceFault) → goes_on old (piece_here old (lexemes.Token tok) text ∷ pieces) stop ≡ Err fault
OpensLine tok text old new (Err refused.NoMemory) = Unit {0}

-- the fault of a source whose rest begins at a line
abbrev pub fault_from : ℕ → List ℕ → LexemeFault → SourceFault
fault_from line rest fault = record { code = fault.code; line = line + line_ends (take fault.at rest); word = fault.word }
