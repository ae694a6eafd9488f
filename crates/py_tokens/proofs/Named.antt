-- Each name among a source's tokens is made of letters, digits and underscores.
use Rattle.std.proofs.Common.{◌≡◌, inl, inr, ℕ, zero, suc, ◌+◌, ◌-◌, Bool, true, false, cond, List, [], ◌∷◌, ◌++◌, length, ℤ, Option, Some, None, Result, Ok, Err, sym, subst}
use Rattle.std.specs.Prelude.{replicate}
use Rattle.std.specs.List.{All}
use Rattle.mpy_base.specs.declared.source.SourceFault.{SourceFault}
use Rattle.py_tokens.specs.declared.token.Tok.{Tok}
use Rattle.py_tokens.specs.declared.token.Tok.TheVariants as toks
use Rattle.py_tokens.specs.declared.token.Token.{Token}
use Rattle.py_tokens.specs.declared.lexeme.Lexeme.{Lexeme}
use Rattle.py_tokens.specs.declared.lexeme.Lexeme.TheVariants as lexemes
use Rattle.py_tokens.specs.declared.lexeme.Class.{Class}
use Rattle.py_tokens.specs.declared.lexeme.Class.TheVariants as classes
use Rattle.py_tokens.specs.declared.lines.Change.{Change}
use Rattle.py_tokens.specs.declared.lines.Change.TheVariants as changes
use Rattle.py_tokens.specs.declared.prefix.Prefix.{Prefix}
use Rattle.py_tokens.specs.declared.prefix.Prefix.TheVariants as prefixes
use Rattle.py_tokens.specs.declared.number.NumberFault.{NumberFault}
use Rattle.py_tokens.specs.declared.number.NumberFault.TheVariants as numbers
use Rattle.py_tokens.specs.declared.operator.Operator.{Operator}
use Rattle.py_tokens.specs.declared.operator.Operator.TheVariants as operators
use Rattle.py_tokens.specs.Name.{IsNamePart}
use Rattle.py_tokens.specs.Lexeme.{Answer, number_answer, operator_answer, StringAnswers, PrefixAnswers, WordAnswers, NameAnswers, Answers}
use Rattle.py_tokens.specs.Lines as l
use Rattle.py_tokens.specs.Lines.{Piece, Line, Tokens}
use Rattle.py_tokens.specs.Tokens.{AreInFront, IsTokens}

-- a name is spelled as one
abbrev pub TokNamed : Tok → Type 0
TokNamed (toks.Name text) = All IsNamePart text
TokNamed (toks.Int n) = Unit {0}
TokNamed (toks.Str text) = Unit {0}
TokNamed (toks.Word word) = Unit {0}
TokNamed (toks.Op op) = Unit {0}
TokNamed toks.Newline = Unit {0}
TokNamed toks.Indent = Unit {0}
TokNamed toks.Dedent = Unit {0}
TokNamed toks.End = Unit {0}

abbrev pub AllNamed : List Token → Type 0
AllNamed [] = Unit {0}
AllNamed (t ∷ ts) = TokNamed t.kind × AllNamed ts

-- ---- lexemes

abbrev LexemeNamed : Lexeme → Type 0
LexemeNamed (lexemes.Token tok) = TokNamed tok
LexemeNamed lexemes.Blank = Unit {0}
LexemeNamed lexemes.Comment = Unit {0}
LexemeNamed lexemes.Join = Unit {0}
LexemeNamed lexemes.LineEnd = Unit {0}

abbrev Gave : Answer → Type 0
Gave (Ok found) = LexemeNamed found.0
Gave (Err fault) = Unit {0}

string_gave : (raw : Bool) (prefix bytes : List ℕ) (answer : Answer) → StringAnswers raw prefix bytes answer → Gave answer
string_gave raw prefix bytes answer (inl h) = subst Gave (sym h.5) tt
string_gave raw prefix bytes answer (inr h) = subst Gave (sym h.2) tt

prefix_gave : (prefix : Prefix) (name bytes : List ℕ) (answer : Answer) → PrefixAnswers prefix name bytes answer → Gave answer
prefix_gave prefixes.Plain name bytes answer h = string_gave false name bytes answer h
prefix_gave prefixes.Raw name bytes answer h = string_gave true name bytes answer h
prefix_gave prefixes.Bytes name bytes answer h = subst Gave (sym h) tt
prefix_gave prefixes.Format name bytes answer h = subst Gave (sym h) tt

word_gave : (opt : ℕ) (name : List ℕ) (answer : Answer) → All IsNamePart name → WordAnswers opt name answer → Gave answer
word_gave opt name answer all (inl h) = subst Gave (sym h.2) tt
word_gave opt name answer all (inr (inl h)) = subst Gave (sym h.1) tt
word_gave opt name answer all (inr (inr h)) = subst Gave (sym h.2) all

name_gave : (opt : ℕ) (name behind : List ℕ) (answer : Answer) → All IsNamePart name → NameAnswers opt name behind answer → Gave answer
name_gave opt name behind answer all (inl h) = prefix_gave h.0 name behind answer h.3
name_gave opt name behind answer all (inr h) = word_gave opt name answer all h.1

number_gave : (run : List ℕ) (value : Result ℤ NumberFault) → Gave (number_answer run value)
number_gave run (Ok n) = tt
number_gave run (Err numbers.BadToken) = tt
number_gave run (Err numbers.Float) = tt
number_gave run (Err numbers.Complex) = tt
number_gave run (Err numbers.TooBig) = tt

operator_gave : (operator : Operator) (text : List ℕ) → Gave (operator_answer operator text)
operator_gave (operators.Op op) text = tt
operator_gave operators.Refused text = tt

class_gave : (opt : ℕ) (class : Class) (bytes : List ℕ) (answer : Answer) → Answers opt class bytes answer → Gave answer
class_gave opt classes.Blank bytes answer h = subst Gave (sym h.2) tt
class_gave opt classes.Comment bytes answer h = subst Gave (sym h.2) tt
class_gave opt classes.LineEnd bytes answer h = subst Gave (sym h.4) tt
class_gave opt classes.Backslash bytes answer (inl h) = subst Gave (sym h.4) tt
class_gave opt classes.Backslash bytes answer (inr h) = subst Gave (sym h.1) tt
class_gave opt classes.Name bytes answer h = let run = h.1 in name_gave opt h.0 run.rest answer run.all h.2
class_gave opt classes.Number bytes answer h = subst Gave (sym h.4) (number_gave h.0 h.2)
class_gave opt classes.Quote bytes answer h = string_gave false [] bytes answer h
class_gave opt classes.Mark bytes answer (inl h) = subst Gave (sym h.3) (operator_gave h.0 h.1)
class_gave opt classes.Mark bytes answer (inr h) = subst Gave (sym h.1) tt
class_gave opt classes.BadByte bytes answer h = subst Gave (sym h) tt

-- ---- pieces

abbrev PiecesNamed : List Piece → Type 0
PiecesNamed [] = Unit {0}
PiecesNamed (p ∷ ps) = LexemeNamed p.lexeme × PiecesNamed ps

pieces_named : (opt : ℕ) (source : List ℕ) (pieces : List Piece) (place end : ℕ) (rest bytes : List ℕ) → AreInFront opt source place pieces end rest bytes → PiecesNamed pieces
pieces_named opt source [] place end rest bytes h = tt
pieces_named opt source (p ∷ ps) place end rest bytes h =
    let front = h.2 in
    (class_gave opt front.0 bytes (Ok (p.lexeme, p.text)) front.2, pieces_named opt source ps (place + length p.text) end rest h.3 h.5)

-- ---- lines

abbrev EndsNamed : Result Token SourceFault → Type 0
EndsNamed (Ok newline) = TokNamed newline.kind
EndsNamed (Err fault) = Unit {0}

abbrev LinesNamed : List Line → Type 0
LinesNamed [] = Unit {0}
LinesNamed (line ∷ lines) = PiecesNamed line.pieces × EndsNamed line.ends × LinesNamed lines

abbrev closed : Piece → Line
closed piece = record { pieces = []; ends = Ok (l.newline piece) }

line_ends_or_not : (b : Bool) (p : Piece) (new here : Line × List Line) → LexemeNamed p.lexeme → LinesNamed (l.all_lines new) → LinesNamed (l.all_lines here)
    → LinesNamed (l.all_lines (cond b (closed p, l.all_lines new) (l.with_piece p here)))
line_ends_or_not true p new here f h k = (tt, tt, h)
line_ends_or_not false p new here f h k = ((f, k.0), k.1, k.2)

lines_named : (count : ℕ) (pieces : List Piece) (stop : Result l.Place SourceFault) → PiecesNamed pieces → LinesNamed (l.all_lines (l.lines count pieces stop))
lines_named count [] (Ok place) k = (tt, tt, tt)
lines_named count [] (Err fault) k = (tt, tt, tt)
lines_named count (p ∷ ps) stop k =
    line_ends_or_not (l.ends_line count p.lexeme) p (l.lines 0 ps stop) (l.lines (l.brackets_behind count p.lexeme) ps stop) k.0
    (lines_named 0 ps stop k.1) (lines_named (l.brackets_behind count p.lexeme) ps stop k.1)

-- ---- tokens

with_lexeme : (lexeme : Lexeme) (p : Piece) (ts : List Token) → LexemeNamed lexeme → AllNamed ts → AllNamed (l.with_token lexeme p ts)
with_lexeme lexemes.Blank p ts f k = k
with_lexeme lexemes.Comment p ts f k = k
with_lexeme lexemes.Join p ts f k = k
with_lexeme lexemes.LineEnd p ts f k = k
with_lexeme (lexemes.Token tok) p ts f k = (f, k)

line_named : (pieces : List Piece) → PiecesNamed pieces → AllNamed (l.tokens_of pieces)
line_named [] k = tt
line_named (p ∷ ps) k = with_lexeme p.lexeme p (l.tokens_of ps) k.0 (line_named ps k.1)

joined : (xs ys : List Token) → AllNamed xs → AllNamed ys → AllNamed (xs ++ ys)
joined [] ys h k = k
joined (x ∷ xs) ys h k = (h.0, joined xs ys h.1 k)

dedents : (n : ℕ) (place : l.Place) → AllNamed (replicate n (l.empty_token toks.Dedent place))
dedents zero place = tt
dedents (suc n) place = (tt, dedents n place)

change_named : (levels : List (List ℕ)) (change : Change) (place : l.Place) → AllNamed (l.change_tokens levels change place)
change_named levels (changes.Keeps count) place = dedents (length levels - count) place
change_named levels changes.Opens place = (tt, tt)

abbrev Named : Tokens → Type 0
Named (Ok ts) = AllNamed ts
Named (Err fault) = Unit {0}

behind_front : (front : List Token) (tokens : Tokens) → AllNamed front → Named tokens → Named (l.with_front front tokens)
behind_front front (Ok ts) f h = joined front ts f h
behind_front front (Err fault) f h = tt

line_then : (levels : List (List ℕ)) (its : l.Level) (ts : List Token) (ends : Result Token SourceFault) (empty : Bool) (change : Option Change) (others : List (List ℕ) → Tokens)
    → AllNamed ts → EndsNamed ends → ((now : List (List ℕ)) → Named (others now)) → Named (cond empty (others levels) (l.changed_line levels its ts ends change others))
line_then levels its ts ends true change others h e f = f levels
line_then levels its ts ends false None others h e f = tt
line_then levels its ts (Err fault) false (Some change) others h e f = tt
line_then levels its ts (Ok newline) false (Some change) others h e f =
    let now = l.levels_behind levels its.text change in
    behind_front (l.change_tokens levels change (l.place_of ts)) (l.with_front (ts ++ newline ∷ []) (others now)) (change_named levels change (l.place_of ts))
    (behind_front (ts ++ newline ∷ []) (others now) (joined ts (newline ∷ []) h (e, tt)) (f now))

all_named : (lines : List Line) (stop : Result l.Place SourceFault) (levels : List (List ℕ)) → LinesNamed lines → Named (l.all_tokens lines stop levels)
all_named [] (Ok place) levels k = joined (replicate (length levels - 1) (l.empty_token toks.Dedent place)) (l.empty_token toks.End place ∷ []) (dedents (length levels - 1) place) (tt, tt)
all_named [] (Err fault) levels k = tt
all_named (line ∷ lines) stop levels k =
    let its = l.level line.pieces in
    let ts = l.tokens_of line.pieces in
    line_then levels its ts line.ends (l.is_empty ts line.ends) (l.change levels its.text) (l.all_tokens lines stop) (line_named line.pieces k.0) k.1 (λ now. all_named lines stop now k.2)

-- Each name among a source's tokens is spelled as one.
pub tokens_named : (opt : ℕ) (source : List ℕ) (tokens : List Token) → IsTokens opt source tokens → AllNamed tokens
tokens_named opt source tokens is =
    let r = is.reading in
    subst Named (sym r.answer_is) (all_named (l.all_lines (l.lines 0 r.pieces r.stop)) r.stop ([] ∷ []) (lines_named 0 r.pieces r.stop (pieces_named opt source r.pieces 0 r.end r.rest source r.pieces_are)))
