-- What a source gives are formed tokens, and an End is the last of them.
use Rattle.std.proofs.Common.{◌≡◌, inl, inr, ℕ, zero, suc, ◌+◌, ◌-◌, ◌<◌, ◌≤◌, ◌^◌, Bool, true, false, cond, not, eqb, ◌&&◌, ◌||◌, List, [], ◌∷◌, ◌++◌, length, take, ℤ, Option, Some, None, Result, Ok, Err, refl, sym, ap, subst, ◌∙◌, append_assoc, arith}
use Rattle.std.specs.Prelude.{◌==◌, nat_lt, nat_le, replicate}
use Rattle.std.specs.List.{All}
use Rattle.std.proofs.lemmas.Bool.{lt-ltb}
use Rattle.std.proofs.lemmas.List.Elements.{All-head, All-tail}
use Rattle.std.proofs.lemmas.List.Folds.{list_all-append}
use Rattle.mpy_base.specs.declared.source.SourceFault.{SourceFault}
use Rattle.py_tokens.specs.declared.token.Tok.TheVariants as toks
use Rattle.py_tokens.specs.declared.token.Token.{Token}
use Rattle.py_tokens.specs.declared.lexeme.Lexeme.{Lexeme}
use Rattle.py_tokens.specs.declared.lexeme.Lexeme.TheVariants as lexemes
use Rattle.py_tokens.specs.declared.lexeme.Class.{Class}
use Rattle.py_tokens.specs.declared.lexeme.Class.TheVariants as classes
use Rattle.py_tokens.specs.declared.lines.Change.{Change}
use Rattle.py_tokens.specs.declared.lines.Change.TheVariants as changes
use Rattle.py_tokens.specs.declared.prefix.Prefix.{Prefix}
use Rattle.py_tokens.specs.declared.prefix.Prefix.TheVariants as prefixes
use Rattle.py_tokens.specs.declared.number.NumberFault.{NumberFault}
use Rattle.py_tokens.specs.declared.number.NumberFault.TheVariants as numbers
use Rattle.py_tokens.specs.declared.operator.Operator.{Operator}
use Rattle.py_tokens.specs.declared.operator.Operator.TheVariants as operators
use Rattle.py_tokens.specs.declared.escape.Mark.{Mark}
use Rattle.py_tokens.specs.declared.escape.Mark.TheVariants as marks
use Rattle.py_tokens.specs.Name.{IsNamePart}
use Rattle.py_tokens.specs.Number as number
use Rattle.py_tokens.specs.Escape.{mark_of_byte, mark_of, Gives}
use Rattle.py_tokens.specs.Literal.{IsQuote, IsPrintable, IsRaw, IsPiece, ArePieces, given_by, IsLiteral}
use Rattle.py_tokens.specs.Lexeme.{Answer, number_answer, operator_answer, StringAnswers, PrefixAnswers, WordAnswers, NameAnswers, Answers}
use Rattle.py_tokens.specs.Lines as l
use Rattle.py_tokens.specs.Lines.{Piece, Line, Tokens}
use Rattle.py_tokens.specs.Tokens.{begins_lf, line_ends, line_at, Stops, AreInFront, IsTokens}
use Rattle.py_tokens.specs.Formed.{is_ascii, is_number, token_formed, FormedFrom}

both : (a b : Bool) → a ≡ true → b ≡ true → (a && b) ≡ true
both true b e f = f
both false b e f = e

lower : (least line : ℕ) (ts : List Token) → least ≤ line → FormedFrom line ts → FormedFrom least ts
lower least line [] le k = tt
lower least line (t ∷ ts) le k = (k.0, (let h : line ≤ t.line = k.1 in omega arith), k.2)

-- ---- texts

ascii_all : (P : ℕ → Type 0) (text : List ℕ) → ((byte : ℕ) → P byte → byte < 128) → All P text → is_ascii text ≡ true
ascii_all P [] below all = refl
ascii_all P (x ∷ xs) below all = both (nat_lt x 128) (is_ascii xs) (lt-ltb x 128 (below x (All-head P x xs all))) (ascii_all P xs below (All-tail P x xs all))

ascii_one : (byte : ℕ) → byte < 128 → is_ascii (byte ∷ []) ≡ true
ascii_one byte h = both (nat_lt byte 128) true (lt-ltb byte 128 h) refl

name_below : (byte : ℕ) → IsNamePart byte → byte < 128
name_below byte (inl (inl (inl h))) = let u : byte ≤ 90 = h.1 in omega arith
name_below byte (inl (inl (inr h))) = let u : byte ≤ 122 = h.1 in omega arith
name_below byte (inl (inr e)) = let u : byte ≡ 95 = e in omega arith
name_below byte (inr h) = let u : byte ≤ 57 = h.1 in omega arith

printable_below : (byte : ℕ) → IsPrintable byte → byte < 128
printable_below byte (inl e) = let u : byte ≡ 9 = e in omega arith
printable_below byte (inr h) = let u : byte ≤ 126 = h.1 in omega arith

quote_below : (byte : ℕ) → IsQuote byte → byte < 128
quote_below byte (inl e) = let u : byte ≡ 34 = e in omega arith
quote_below byte (inr e) = let u : byte ≡ 39 = e in omega arith

raw_ascii : (text rest : List ℕ) → IsRaw text rest → is_ascii text ≡ true
raw_ascii text rest (inl h) = ap is_ascii h.2 ∙ ascii_one h.0 (quote_below h.0 h.1)
raw_ascii text rest (inr h) = ap is_ascii h.0

-- ---- escapes

abbrev IsSmall : Mark → Type 0
IsSmall (marks.StandsFor value) = value < 128
IsSmall mark = Unit {0}

small_either : (b : Bool) (x y : Mark) → IsSmall x → IsSmall y → IsSmall (cond b x y)
small_either true x y h k = h
small_either false x y h k = k

mark_small : (byte : ℕ) → IsSmall (mark_of_byte byte)
mark_small byte =
    let m13 : Mark = cond (byte == 117 || byte == 85 || byte == 78) (marks.Unicode) marks.Nothing in
    let m12 : Mark = cond (byte == 120) (marks.Hexadecimal) m13 in
    let m11 : Mark = cond (nat_le 48 byte && nat_le byte 55) (marks.Octal) m12 in
    let m10 : Mark = cond (byte == 10 || byte == 13) (marks.LineEnd) m11 in
    let m9 : Mark = cond (byte == 118) (marks.StandsFor 11) m10 in
    let m8 : Mark = cond (byte == 116) (marks.StandsFor 9) m9 in
    let m7 : Mark = cond (byte == 114) (marks.StandsFor 13) m8 in
    let m6 : Mark = cond (byte == 110) (marks.StandsFor 10) m7 in
    let m5 : Mark = cond (byte == 102) (marks.StandsFor 12) m6 in
    let m4 : Mark = cond (byte == 98) (marks.StandsFor 8) m5 in
    let m3 : Mark = cond (byte == 97) (marks.StandsFor 7) m4 in
    let m2 : Mark = cond (byte == 34) (marks.StandsFor 34) m3 in
    let m1 : Mark = cond (byte == 39) (marks.StandsFor 39) m2 in
    small_either (byte == 92) (marks.StandsFor 92) m1 (omega arith) (
    small_either (byte == 39) (marks.StandsFor 39) m2 (omega arith) (
    small_either (byte == 34) (marks.StandsFor 34) m3 (omega arith) (
    small_either (byte == 97) (marks.StandsFor 7) m4 (omega arith) (
    small_either (byte == 98) (marks.StandsFor 8) m5 (omega arith) (
    small_either (byte == 102) (marks.StandsFor 12) m6 (omega arith) (
    small_either (byte == 110) (marks.StandsFor 10) m7 (omega arith) (
    small_either (byte == 114) (marks.StandsFor 13) m8 (omega arith) (
    small_either (byte == 116) (marks.StandsFor 9) m9 (omega arith) (
    small_either (byte == 118) (marks.StandsFor 11) m10 (omega arith) (
    small_either (byte == 10 || byte == 13) (marks.LineEnd) m11 tt (
    small_either (nat_le 48 byte && nat_le byte 55) (marks.Octal) m12 tt (
    small_either (byte == 120) (marks.Hexadecimal) m13 tt (
    small_either (byte == 117 || byte == 85 || byte == 78) (marks.Unicode) marks.Nothing tt tt)))))))))))))

marks_small : (bytes : List ℕ) → IsSmall (mark_of bytes)
marks_small [] = tt
marks_small (byte ∷ rest) = mark_small byte

gives_ascii : (mark : Mark) (text rest given : List ℕ) → IsSmall mark → Gives mark text rest given → is_ascii given ≡ true
gives_ascii (marks.StandsFor value) text rest given small h = ap is_ascii h.2 ∙ ascii_one value small
gives_ascii marks.LineEnd text rest given small h = ap is_ascii h.1
gives_ascii marks.Octal text rest given small h = ap is_ascii h.3 ∙ ascii_one h.0 h.2
gives_ascii marks.Hexadecimal text rest given small h = ap is_ascii h.3 ∙ ascii_one h.0 h.2
gives_ascii marks.Unicode text rest given small h = absurd h
gives_ascii marks.Nothing text rest given small h = ap is_ascii h.1

piece_ascii : (raw : Bool) (quotes text rest given : List ℕ) → IsPiece raw quotes text rest given → is_ascii given ≡ true
piece_ascii raw quotes text rest given (inl h) = ap is_ascii h.2
piece_ascii raw quotes text rest given (inr (inl h)) = let p = h.0 in ap is_ascii (h.1 ∙ p.1) ∙ ascii_one p.0 (printable_below p.0 p.2)
piece_ascii raw quotes text rest given (inr (inr (inl h))) = ap is_ascii h.2 ∙ raw_ascii text rest h.1
piece_ascii raw quotes text rest given (inr (inr (inr h))) = let p = h.1 in gives_ascii (mark_of (p.0 ++ rest)) p.0 rest given (marks_small (p.0 ++ rest)) p.2

pieces_ascii : (raw : Bool) (quotes : List ℕ) (pieces : List (List ℕ × List ℕ)) (text rest : List ℕ) → ArePieces raw quotes pieces text rest → is_ascii (given_by pieces) ≡ true
pieces_ascii raw quotes [] text rest h = refl
pieces_ascii raw quotes (piece ∷ pieces) text rest h =
    list_all-append (λ byte. nat_lt byte 128) piece.1 (given_by pieces)
    ∙ both (is_ascii piece.1) (is_ascii (given_by pieces)) (piece_ascii raw quotes piece.0 (h.0 ++ rest) piece.1 h.2) (pieces_ascii raw quotes pieces h.0 rest h.3)

literal_ascii : (raw : Bool) (text rest value : List ℕ) → IsLiteral raw text rest value → is_ascii value ≡ true
literal_ascii raw text rest value h = ap is_ascii h.value_is ∙ pieces_ascii raw h.quotes h.pieces h.inner (h.quotes ++ rest) h.pieces_are

-- ---- lexemes

abbrev lexeme_formed : Lexeme → Bool
lexeme_formed (lexemes.Token tok) = token_formed tok
lexeme_formed lexeme = true

abbrev Gave : Answer → Type 0
Gave (Ok found) = lexeme_formed found.0 ≡ true
Gave (Err fault) = Unit {0}

string_gave : (raw : Bool) (prefix bytes : List ℕ) (answer : Answer) → StringAnswers raw prefix bytes answer → Gave answer
string_gave raw prefix bytes answer (inl h) = subst Gave (sym h.5) (literal_ascii raw h.0 h.1 h.2 h.3)
string_gave raw prefix bytes answer (inr h) = subst Gave (sym h.2) tt

prefix_gave : (prefix : Prefix) (name bytes : List ℕ) (answer : Answer) → PrefixAnswers prefix name bytes answer → Gave answer
prefix_gave prefixes.Plain name bytes answer h = string_gave false name bytes answer h
prefix_gave prefixes.Raw name bytes answer h = string_gave true name bytes answer h
prefix_gave prefixes.Bytes name bytes answer h = subst Gave (sym h) tt
prefix_gave prefixes.Format name bytes answer h = subst Gave (sym h) tt

word_gave : (opt : ℕ) (name : List ℕ) (answer : Answer) → All IsNamePart name → WordAnswers opt name answer → Gave answer
word_gave opt name answer all (inl h) = subst Gave (sym h.2) refl
word_gave opt name answer all (inr (inl h)) = subst Gave (sym h.1) tt
word_gave opt name answer all (inr (inr h)) = subst Gave (sym h.2) (ascii_all IsNamePart name name_below all)

name_gave : (opt : ℕ) (name behind : List ℕ) (answer : Answer) → All IsNamePart name → NameAnswers opt name behind answer → Gave answer
name_gave opt name behind answer all (inl h) = prefix_gave h.0 name behind answer h.3
name_gave opt name behind answer all (inr h) = word_gave opt name answer all h.1

number_gave : (run : List ℕ) (value : Result ℤ NumberFault) → number.Says run value → Gave (number_answer run value)
number_gave run (Ok n) h =
    let few : h.0 ≤ 1073741823 = h.2.1 in
    subst (λ q. is_number q ≡ true) (sym h.1) (lt-ltb h.0 (2 ^ 30) (omega arith))
number_gave run (Err numbers.BadToken) h = tt
number_gave run (Err numbers.Float) h = tt
number_gave run (Err numbers.Complex) h = tt
number_gave run (Err numbers.TooBig) h = tt

operator_gave : (operator : Operator) (text : List ℕ) → Gave (operator_answer operator text)
operator_gave (operators.Op op) text = refl
operator_gave operators.Refused text = tt

class_gave : (opt : ℕ) (class : Class) (bytes : List ℕ) (answer : Answer) → Answers opt class bytes answer → Gave answer
class_gave opt classes.Blank bytes answer h = subst Gave (sym h.2) refl
class_gave opt classes.Comment bytes answer h = subst Gave (sym h.2) refl
class_gave opt classes.LineEnd bytes answer h = subst Gave (sym h.4) refl
class_gave opt classes.Backslash bytes answer (inl h) = subst Gave (sym h.4) refl
class_gave opt classes.Backslash bytes answer (inr h) = subst Gave (sym h.1) tt
class_gave opt classes.Name bytes answer h = let run = h.1 in name_gave opt h.0 run.rest answer run.all h.2
class_gave opt classes.Number bytes answer h = subst Gave (sym h.4) (number_gave h.0 h.2 h.3)
class_gave opt classes.Quote bytes answer h = string_gave false [] bytes answer h
class_gave opt classes.Mark bytes answer (inl h) = subst Gave (sym h.3) (operator_gave h.0 h.1)
class_gave opt classes.Mark bytes answer (inr h) = subst Gave (sym h.1) tt
class_gave opt classes.BadByte bytes answer h = subst Gave (sym h) tt

-- ---- the lines of places never fall

one_end : (lf cr next : Bool) (n : ℕ) → (next ≡ true → 1 ≤ n) → cond (lf || (cr && not false)) 1 0 + 0 ≤ cond (lf || (cr && not next)) 1 0 + n
one_end true cr next n h = omega arith
one_end false false next n h = omega arith
one_end false true false n h = omega arith
one_end false true true n h = let e = h refl in omega arith

lf_first : (lf cr : Bool) (n : ℕ) → lf ≡ true → 1 ≤ cond (lf || cr) 1 0 + n
lf_first true cr n h = omega arith
lf_first false cr n h = absurd cc

lf_counts : (ys : List ℕ) → begins_lf ys ≡ true → 1 ≤ line_ends ys
lf_counts [] h = absurd cc
lf_counts (y ∷ ys) h = lf_first (eqb y 10) (eqb y 13 && not (begins_lf ys)) (line_ends ys) h

ends_more : (xs ys : List ℕ) → line_ends xs ≤ line_ends (xs ++ ys)
ends_more [] ys = omega arith
ends_more (x ∷ []) ys = one_end (eqb x 10) (eqb x 13) (begins_lf ys) (line_ends ys) (lf_counts ys)
ends_more (x ∷ y ∷ xs) ys = let h = ends_more (y ∷ xs) ys in omega (arith, h)

take_on : (n k : ℕ) (xs : List ℕ) → (ys : List ℕ) × (take (n + k) xs ≡ take n xs ++ ys)
take_on zero k xs = (take (0 + k) xs, refl)
take_on (suc n) k [] = let h : suc n + k ≡ suc (n + k) = omega arith in ([], ap (λ m. take m []) h)
take_on (suc n) k (x ∷ xs) =
    let h : suc n + k ≡ suc (n + k) = omega arith in
    let p = take_on n k xs in
    (p.0, ap (λ m. take m (x ∷ xs)) h ∙ ap (λ q. x ∷ q) p.1)

line_rises : (source : List ℕ) (n k : ℕ) → line_at source n ≤ line_at source (n + k)
line_rises source n k =
    let p = take_on n k source in
    let h = ends_more (take n source) p.0 in
    let e = ap line_ends p.1 in
    omega arith

-- ---- pieces

abbrev PiecesFrom : List Piece → Result l.Place SourceFault → ℕ → Type 0
PiecesFrom [] (Ok place) least = least ≤ place.line
PiecesFrom [] (Err fault) least = Unit {0}
PiecesFrom (p ∷ ps) stop least = (lexeme_formed p.lexeme ≡ true) × (least ≤ p.line) × PiecesFrom ps stop p.line

pieces_from : (opt : ℕ) (source : List ℕ) (pieces : List Piece) (place end : ℕ) (rest bytes : List ℕ) (stop : Result l.Place SourceFault) (least : ℕ)
    → least ≤ line_at source place → AreInFront opt source place pieces end rest bytes → Stops opt source end rest stop → PiecesFrom pieces stop least
pieces_from opt source [] place end rest bytes (Ok last) least le h s = subst (λ (q : l.Place). least ≤ q.line) (sym s.1) (subst (λ n. least ≤ line_at source n) (sym h.0) le)
pieces_from opt source [] place end rest bytes (Err fault) least le h s = tt
pieces_from opt source (p ∷ ps) place end rest bytes stop least le h s =
    let front = h.2 in
    let others = pieces_from opt source ps (place + length p.text) end rest h.3 stop (line_at source place) (line_rises source place (length p.text)) h.5 s in
    (class_gave opt front.0 bytes (Ok (p.lexeme, p.text)) front.2, subst (λ n. least ≤ n) (sym h.1) le, subst (PiecesFrom ps stop) (sym h.1) others)

-- ---- lines

abbrev LineFrom : List Piece → Result Token SourceFault → (ℕ → Type 0) → ℕ → Type 0
LineFrom [] (Ok newline) Others least = (token_formed newline.kind ≡ true) × (least ≤ newline.line) × Others newline.line
LineFrom [] (Err fault) Others least = Unit {0}
LineFrom (p ∷ ps) ends Others least = (lexeme_formed p.lexeme ≡ true) × (least ≤ p.line) × LineFrom ps ends Others p.line

abbrev LinesFrom : List Line → Result l.Place SourceFault → ℕ → Type 0
LinesFrom [] (Ok place) least = least ≤ place.line
LinesFrom [] (Err fault) least = Unit {0}
LinesFrom (line ∷ lines) stop least = LineFrom line.pieces line.ends (LinesFrom lines stop) least

abbrev closed : Piece → Line
closed piece = record { pieces = []; ends = Ok (l.newline piece) }

line_ends_or_not : (b : Bool) (p : Piece) (new here : Line × List Line) (stop : Result l.Place SourceFault) (least : ℕ) → lexeme_formed p.lexeme ≡ true → least ≤ p.line
    → LinesFrom (l.all_lines new) stop p.line → LinesFrom (l.all_lines here) stop p.line → LinesFrom (l.all_lines (cond b (closed p, l.all_lines new) (l.with_piece p here))) stop least
line_ends_or_not true p new here stop least f le h k = (refl, le, h)
line_ends_or_not false p new here stop least f le h k = (f, le, k)

lines_from : (count : ℕ) (pieces : List Piece) (stop : Result l.Place SourceFault) (least : ℕ) → PiecesFrom pieces stop least → LinesFrom (l.all_lines (l.lines count pieces stop)) stop least
lines_from count [] (Ok place) least k = (refl, k, (let le : place.line ≤ place.line = omega arith in le))
lines_from count [] (Err fault) least k = tt
lines_from count (p ∷ ps) stop least k =
    line_ends_or_not (l.ends_line count p.lexeme) p (l.lines 0 ps stop) (l.lines (l.brackets_behind count p.lexeme) ps stop) stop least k.0 k.1
    (lines_from 0 ps stop p.line k.2) (lines_from (l.brackets_behind count p.lexeme) ps stop p.line k.2)

-- ---- tokens

abbrev TokensFrom : Tokens → ℕ → Type 0
TokensFrom (Ok ts) least = FormedFrom least ts
TokensFrom (Err fault) least = Unit {0}

tokens_lower : (tokens : Tokens) (least line : ℕ) → least ≤ line → TokensFrom tokens line → TokensFrom tokens least
tokens_lower (Ok ts) least line le k = lower least line ts le k
tokens_lower (Err fault) least line le k = tt

-- the tokens of a line, its Newline, and what follows
abbrev Through : List Token → Result Token SourceFault → (ℕ → Type 0) → ℕ → Type 0
Through [] (Ok newline) Others least = (token_formed newline.kind ≡ true) × (least ≤ newline.line) × Others newline.line
Through (t ∷ ts) (Ok newline) Others least = (token_formed t.kind ≡ true) × (least ≤ t.line) × Through ts (Ok newline) Others t.line
Through ts (Err fault) Others least = Unit {0}

through_lower : (ts : List Token) (newline : Token) (Others : ℕ → Type 0) (least line : ℕ) → least ≤ line → Through ts (Ok newline) Others line → Through ts (Ok newline) Others least
through_lower [] newline Others least line le k = (k.0, (let h : line ≤ newline.line = k.1 in omega arith), k.2)
through_lower (t ∷ ts) newline Others least line le k = (k.0, (let h : line ≤ t.line = k.1 in omega arith), k.2)

with_lexeme : (lexeme : Lexeme) (p : Piece) (ts : List Token) (newline : Token) (Others : ℕ → Type 0) (least : ℕ) → lexeme_formed lexeme ≡ true → least ≤ p.line → Through ts (Ok newline) Others p.line
    → Through (l.with_token lexeme p ts) (Ok newline) Others least
with_lexeme lexemes.Blank p ts newline Others least f le k = through_lower ts newline Others least p.line le k
with_lexeme lexemes.Comment p ts newline Others least f le k = through_lower ts newline Others least p.line le k
with_lexeme lexemes.Join p ts newline Others least f le k = through_lower ts newline Others least p.line le k
with_lexeme lexemes.LineEnd p ts newline Others least f le k = through_lower ts newline Others least p.line le k
with_lexeme (lexemes.Token tok) p ts newline Others least f le k = (f, le, k)

through_any : (ts : List Token) (fault : SourceFault) (Others : ℕ → Type 0) (least : ℕ) → Through ts (Err fault) Others least
through_any [] fault Others least = tt
through_any (t ∷ ts) fault Others least = tt

line_through : (pieces : List Piece) (ends : Result Token SourceFault) (Others : ℕ → Type 0) (least : ℕ) → LineFrom pieces ends Others least → Through (l.tokens_of pieces) ends Others least
line_through pieces (Err fault) Others least k = through_any (l.tokens_of pieces) fault Others least
line_through [] (Ok newline) Others least k = k
line_through (p ∷ ps) (Ok newline) Others least k = with_lexeme p.lexeme p (l.tokens_of ps) newline Others least k.0 k.1 (line_through ps (Ok newline) Others p.line k.2)

through_formed : (ts : List Token) (newline : Token) (Others : ℕ → Type 0) (least : ℕ) (others : List Token) → ((n : ℕ) → Others n → FormedFrom n others) → Through ts (Ok newline) Others least → FormedFrom least ((ts ++ newline ∷ []) ++ others)
through_formed [] newline Others least others f k = (k.0, k.1, f newline.line k.2)
through_formed (t ∷ ts) newline Others least others f k = (k.0, k.1, through_formed ts newline Others t.line others f k.2)

dedents : (n : ℕ) (place : l.Place) (least : ℕ) (ts : List Token) → least ≤ place.line → FormedFrom place.line ts → FormedFrom least (replicate n (l.empty_token toks.Dedent place) ++ ts)
dedents zero place least ts le k = lower least place.line ts le k
dedents (suc n) place least ts le k = (refl, le, dedents n place place.line ts (let h : place.line ≤ place.line = omega arith in h) k)

changed : (levels : List (List ℕ)) (change : Change) (t : Token) (more all : List Token) (least : ℕ) → FormedFrom least (t ∷ all) → FormedFrom least (l.change_tokens levels change (l.place_of (t ∷ more)) ++ t ∷ all)
changed levels (changes.Keeps count) t more all least k =
    dedents (length levels - count) (l.place_of (t ∷ more)) least (t ∷ all) k.1 (k.0, (let h : t.line ≤ t.line = omega arith in h), k.2)
changed levels changes.Opens t more all least k = (refl, k.1, (k.0, (let h : t.line ≤ t.line = omega arith in h), k.2))

behind_change : (levels : List (List ℕ)) (change : Change) (t : Token) (more : List Token) (newline : Token) (Others : ℕ → Type 0) (least : ℕ) (others : Tokens) → ((n : ℕ) → Others n → TokensFrom others n)
    → Through (t ∷ more) (Ok newline) Others least → TokensFrom (l.with_front (l.change_tokens levels change (l.place_of (t ∷ more))) (l.with_front ((t ∷ more) ++ newline ∷ []) others)) least
behind_change levels change t more newline Others least (Err fault) f k = tt
behind_change levels change t more newline Others least (Ok others) f k =
    changed levels change t more ((more ++ newline ∷ []) ++ others) least (through_formed (t ∷ more) newline Others least others f k)

line_formed : (levels : List (List ℕ)) (its : l.Level) (ts : List Token) (ends : Result Token SourceFault) (change : Option Change) (others : List (List ℕ) → Tokens) (Others : ℕ → Type 0) (least : ℕ)
    → ((now : List (List ℕ)) (n : ℕ) → Others n → TokensFrom (others now) n) → Through ts ends Others least
    → TokensFrom (cond (l.is_empty ts ends) (others levels) (l.changed_line levels its ts ends change others)) least
line_formed levels its [] (Ok newline) change others Others least f k = tokens_lower (others levels) least newline.line k.1 (f levels newline.line k.2)
line_formed levels its [] (Err fault) None others Others least f k = tt
line_formed levels its [] (Err fault) (Some change) others Others least f k = tt
line_formed levels its (t ∷ ts) (Err fault) None others Others least f k = tt
line_formed levels its (t ∷ ts) (Err fault) (Some change) others Others least f k = tt
line_formed levels its (t ∷ ts) (Ok newline) None others Others least f k = tt
line_formed levels its (t ∷ ts) (Ok newline) (Some change) others Others least f k =
    let now = l.levels_behind levels its.text change in
    behind_change levels change t ts newline Others least (others now) (f now) k

all_formed : (lines : List Line) (stop : Result l.Place SourceFault) (levels : List (List ℕ)) (least : ℕ) → LinesFrom lines stop least → TokensFrom (l.all_tokens lines stop levels) least
all_formed [] (Ok place) levels least k = dedents (length levels - 1) place least (l.empty_token toks.End place ∷ []) k (refl, (let h : place.line ≤ place.line = omega arith in h), tt)
all_formed [] (Err fault) levels least k = tt
all_formed (line ∷ lines) stop levels least k =
    let its = l.level line.pieces in
    line_formed levels its (l.tokens_of line.pieces) line.ends (l.change levels its.text) (l.all_tokens lines stop) (LinesFrom lines stop) least (λ now n h. all_formed lines stop now n h)
    (line_through line.pieces line.ends (LinesFrom lines stop) least k)

-- Each token of a source is formed, and their lines never fall.
pub tokens_formed : (opt : ℕ) (source : List ℕ) (tokens : List Token) → IsTokens opt source tokens → FormedFrom 1 tokens
tokens_formed opt source tokens is =
    let r = is.reading in
    let first : 1 ≤ line_at source 0 = omega arith in
    let ps = pieces_from opt source r.pieces 0 r.end r.rest source r.stop 1 first r.pieces_are r.stops in
    subst (λ q. TokensFrom q 1) (sym r.answer_is) (all_formed (l.all_lines (l.lines 0 r.pieces r.stop)) r.stop ([] ∷ []) 1 (lines_from 0 r.pieces r.stop 1 ps))

-- ---- the end

-- an End stands behind the other tokens
abbrev EndsSo : List Token → Type 0
EndsSo tokens = (front : List Token) × (place : l.Place) × (tokens ≡ front ++ l.empty_token toks.End place ∷ [])

abbrev Ends : Tokens → Type 0
Ends (Ok ts) = EndsSo ts
Ends (Err fault) = Unit {0}

ends_behind : (front : List Token) (tokens : Tokens) → Ends tokens → Ends (l.with_front front tokens)
ends_behind front (Ok ts) h = (front ++ h.0, h.1, ap (λ q. front ++ q) h.2 ∙ sym (append_assoc front h.0 (l.empty_token toks.End h.1 ∷ [])))
ends_behind front (Err fault) h = tt

line_then_ends : (levels : List (List ℕ)) (its : l.Level) (ts : List Token) (ends : Result Token SourceFault) (empty : Bool) (change : Option Change) (others : List (List ℕ) → Tokens) → ((now : List (List ℕ)) → Ends (others now))
    → Ends (cond empty (others levels) (l.changed_line levels its ts ends change others))
line_then_ends levels its ts ends true change others f = f levels
line_then_ends levels its ts ends false None others f = tt
line_then_ends levels its ts (Err fault) false (Some change) others f = tt
line_then_ends levels its ts (Ok newline) false (Some change) others f =
    let now = l.levels_behind levels its.text change in
    ends_behind (l.change_tokens levels change (l.place_of ts)) (l.with_front (ts ++ newline ∷ []) (others now)) (ends_behind (ts ++ newline ∷ []) (others now) (f now))

all_ends : (lines : List Line) (stop : Result l.Place SourceFault) (levels : List (List ℕ)) → Ends (l.all_tokens lines stop levels)
all_ends [] (Ok place) levels = (replicate (length levels - 1) (l.empty_token toks.Dedent place), place, refl)
all_ends [] (Err fault) levels = tt
all_ends (line ∷ lines) stop levels =
    let its = l.level line.pieces in
    line_then_ends levels its (l.tokens_of line.pieces) line.ends (l.is_empty (l.tokens_of line.pieces) line.ends) (l.change levels its.text) (l.all_tokens lines stop) (λ now. all_ends lines stop now)

-- An End is the last token of a source.
pub tokens_ended : (opt : ℕ) (source : List ℕ) (tokens : List Token) → IsTokens opt source tokens → (front : List Token) × (place : l.Place) × (tokens ≡ front ++ l.empty_token toks.End place ∷ [])
tokens_ended opt source tokens is = let r = is.reading in subst Ends (sym r.answer_is) (all_ends (l.all_lines (l.lines 0 r.pieces r.stop)) r.stop ([] ∷ []))
