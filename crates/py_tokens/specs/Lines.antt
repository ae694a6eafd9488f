-- Logical lines, their levels, and the tokens that they give.
use Rattle.std.specs.Prelude.{ℕ, ◌+◌, ◌-◌, List, [], ◌∷◌, ◌++◌, length, take, replicate, position, bytes_eq, nat_eq}
use Rattle.std.specs.Prelude.{slice_index_or, Bool, true, false, ◌==◌, if◌then◌else◌, Option, Some, None, Result, Ok, Err}
use Rattle.std.specs.List.{starts_with}
use Rattle.mpy_base.specs.declared.source.SourceFault.{SourceFault}
use Rattle.mpy_base.specs.declared.source.SourceCode.TheVariants.{BadIndent}
use Rattle.py_tokens.specs.declared.operator.Op.{Op}
use Rattle.py_tokens.specs.declared.operator.Op.TheVariants as ops
use Rattle.py_tokens.specs.declared.token.Tok.{Tok}
use Rattle.py_tokens.specs.declared.token.Tok.TheVariants as toks
use Rattle.py_tokens.specs.declared.token.Token.{Token}
use Rattle.py_tokens.specs.declared.lexeme.Lexeme.{Lexeme}
use Rattle.py_tokens.specs.declared.lexeme.Lexeme.TheVariants as lexemes
use Rattle.py_tokens.specs.declared.lines.Change.{Change}
use Rattle.py_tokens.specs.declared.lines.Change.TheVariants as changes

-- a lexeme with its text and its place
pub record Piece : Type 0 where
  pub lexeme : Lexeme
  pub text : List ℕ
  pub at : ℕ
  pub line : ℕ

-- a place in a source, by its byte and its line
pub record Place : Type 0 where
  pub at : ℕ
  pub line : ℕ

-- the pieces of a logical line without its end, which is a Newline or the fault that is met in the line
pub record Line : Type 0 where
  pub pieces : List Piece
  pub ends : Result Token SourceFault

-- brackets
-- ========

-- is the operator an opening bracket?
abbrev pub opens : Op → Bool
opens ops.OpenParen = true
opens ops.OpenBracket = true
opens ops.OpenBrace = true
opens op = false

-- is the operator a closing bracket?
abbrev pub closes : Op → Bool
closes ops.CloseParen = true
closes ops.CloseBracket = true
closes ops.CloseBrace = true
closes op = false

-- the count of open brackets behind a token, which a bracket of any kind closes and which is never below 0
abbrev pub count_behind : ℕ → Tok → ℕ
count_behind count (toks.Op op) = if opens op then count + 1 else if closes op then count - 1 else count
count_behind count tok = count

-- lines
-- =====

-- a token that has no text
abbrev pub empty_token : Tok → Place → Token
empty_token tok place = record { kind = tok; at = place.at; end = place.at; line = place.line }

-- the token that ends a logical line
abbrev pub newline : Piece → Token
newline piece = record { kind = toks.Newline; at = piece.at; end = piece.at + length piece.text; line = piece.line }

-- what ends the last line
abbrev pub last_end : Result Place SourceFault → Result Token SourceFault
last_end (Ok place) = Ok (empty_token toks.Newline place)
last_end (Err fault) = Err fault

-- the piece in front of the first of the lines
abbrev pub with_piece : Piece → Line × List Line → Line × List Line
with_piece piece lines = (record { pieces = piece ∷ lines.0.pieces; ends = lines.0.ends }, lines.1)

-- does a line end, where no bracket is open, end the logical line?
abbrev pub ends_line : ℕ → Lexeme → Bool
ends_line count lexemes.LineEnd = count == 0
ends_line count lexeme = false

-- how many brackets are open behind a lexeme
abbrev pub brackets_behind : ℕ → Lexeme → ℕ
brackets_behind count (lexemes.Token tok) = count_behind count tok
brackets_behind count lexeme = count

-- the lines as one list
abbrev pub all_lines : Line × List Line → List Line
all_lines lines = lines.0 ∷ lines.1

-- the first line of the pieces and the others: a line ends at each line end outside brackets
abbrev pub lines : ℕ → List Piece → Result Place SourceFault → Line × List Line
lines count [] stop = (record { pieces = []; ends = last_end stop }, [])
lines count (piece ∷ pieces) stop =
    if ends_line count piece.lexeme
    then (record { pieces = []; ends = Ok (newline piece) }, all_lines (lines 0 pieces stop))
    else with_piece piece (lines (brackets_behind count piece.lexeme) pieces stop)

-- levels
-- ======

-- the level of a line is the text of the blanks that it begins with
abbrev pub level_of_first : Lexeme → List ℕ → List ℕ
level_of_first lexemes.Blank text = text
level_of_first lexeme text = []

-- the blanks that a line begins with, and its number
pub record Level : Type 0 where
  pub text : List ℕ
  pub line : ℕ

-- the level of a line of these pieces
abbrev pub level : List Piece → Level
level [] = record { text = []; line = 0 }
level (piece ∷ pieces) = record { text = level_of_first piece.lexeme piece.text; line = piece.line }

-- A level among the open ones, the outermost first, ends those behind it. One that goes on from the innermost is opened.
abbrev pub change_at : Option ℕ → Bool → Option Change
change_at (Some place) goes_on = Some (changes.Keeps (place + 1))
change_at None true = Some changes.Opens
change_at None false = None

-- the innermost of the open levels
abbrev pub innermost : List (List ℕ) → List ℕ
innermost levels = slice_index_or levels (length levels - 1) []

-- what a level does to the open ones
abbrev pub change : List (List ℕ) → List ℕ → Option Change
change levels text = change_at (position (λ other. bytes_eq other text) levels) (starts_with nat_eq text (innermost levels))

-- the open levels behind a change
abbrev pub levels_behind : List (List ℕ) → List ℕ → Change → List (List ℕ)
levels_behind levels text (changes.Keeps count) = take count levels
levels_behind levels text changes.Opens = levels ++ text ∷ []

-- the tokens of a change, which stand at a place
abbrev pub change_tokens : List (List ℕ) → Change → Place → List Token
change_tokens levels (changes.Keeps count) place = replicate (length levels - count) (empty_token toks.Dedent place)
change_tokens levels changes.Opens place = empty_token toks.Indent place ∷ []

-- tokens
-- ======

-- the piece in front of the tokens behind it
abbrev pub with_token : Lexeme → Piece → List Token → List Token
with_token (lexemes.Token tok) piece tokens =
    record { kind = tok; at = piece.at; end = piece.at + length piece.text; line = piece.line } ∷ tokens
with_token lexeme piece tokens = tokens

-- the tokens of pieces
abbrev pub tokens_of : List Piece → List Token
tokens_of [] = []
tokens_of (piece ∷ pieces) = with_token piece.lexeme piece (tokens_of pieces)

-- the tokens of a list of lines, or the fault that is met in one
abbrev pub Tokens : Type 0
Tokens = Result (List Token) SourceFault

-- these tokens in front of others, or the fault that there was
abbrev pub with_front : List Token → Tokens → Tokens
with_front front (Ok tokens) = Ok (front ++ tokens)
with_front front (Err fault) = Err fault

-- the first of the tokens has the place of the change in front of them
abbrev pub place_of : List Token → Place
place_of [] = record { at = 0; line = 0 }
place_of (token ∷ tokens) = record { at = token.at; line = token.line }

-- whether a line gives nothing
abbrev pub is_empty : List Token → Result Token SourceFault → Bool
is_empty [] (Ok newline) = true
is_empty tokens ends = false

-- the fault of a level that is none of the open ones, in that line
abbrev pub bad_indent : ℕ → SourceFault
bad_indent line = record { code = BadIndent; line = line; word = [] }

-- the tokens of a line behind those of its level, and what follows the line
abbrev pub line_tokens : List Token → Result Token SourceFault → Tokens → Tokens
line_tokens tokens (Ok newline) others = with_front (tokens ++ newline ∷ []) others
line_tokens tokens (Err fault) others = Err fault

-- a line that gives something changes the levels in front
abbrev pub changed_line : List (List ℕ) → Level → List Token → Result Token SourceFault → Option Change → (List (List ℕ) → Tokens) → Tokens
changed_line levels its tokens ends None others = Err (bad_indent its.line)
changed_line levels its tokens ends (Some change) others =
    with_front (change_tokens levels change (place_of tokens)) (line_tokens tokens ends (others (levels_behind levels its.text change)))

-- the tokens of a line of that level, and of the lines that follow it
abbrev pub with_line : List (List ℕ) → Level → Line → (List (List ℕ) → Tokens) → Tokens
with_line levels its line others =
    if is_empty (tokens_of line.pieces) line.ends
    then others levels
    else changed_line levels its (tokens_of line.pieces) line.ends (change levels its.text) others

-- at the end each level but the outermost ends
abbrev pub last_tokens : List (List ℕ) → Result Place SourceFault → Tokens
last_tokens levels (Ok place) = Ok (replicate (length levels - 1) (empty_token toks.Dedent place) ++ empty_token toks.End place ∷ [])
last_tokens levels (Err fault) = Err fault

-- the tokens of lines over the open levels
abbrev pub all_tokens : List Line → Result Place SourceFault → List (List ℕ) → Tokens
all_tokens [] stop levels = last_tokens levels stop
all_tokens (line ∷ lines) stop levels = with_line levels (level line.pieces) line (all_tokens lines stop)

-- the tokens of pieces up to the end or to a fault, where at first the empty level is open
abbrev pub tokens_of_pieces : List Piece → Result Place SourceFault → Tokens
tokens_of_pieces pieces stop = all_tokens (all_lines (lines 0 pieces stop)) stop ([] ∷ [])
