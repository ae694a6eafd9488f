-- A source gives fewer tokens than 2^32.
use Rattle.std.proofs.Common.{◌≡◌, ◌⊎◌, inl, inr, ℕ, suc, ◌+◌, ◌-◌, ◌*◌, ◌≤◌, Bool, true, false, cond, List, [], ◌∷◌, ◌++◌, length, ℤ, Option, Some, None, Result, Ok, Err, sym, ap, subst, arith}
use Rattle.std.specs.Prelude.{replicate}
use Rattle.std.proofs.lemmas.List.{length-append, length-replicate, length-take}
use Rattle.mpy_base.specs.declared.source.SourceFault.{SourceFault}
use Rattle.py_tokens.specs.declared.token.Tok.TheVariants as toks
use Rattle.py_tokens.specs.declared.token.Token.{Token}
use Rattle.py_tokens.specs.declared.lexeme.Lexeme.{Lexeme}
use Rattle.py_tokens.specs.declared.lexeme.Lexeme.TheVariants as lexemes
use Rattle.py_tokens.specs.declared.lexeme.Class.{Class}
use Rattle.py_tokens.specs.declared.lexeme.Class.TheVariants as classes
use Rattle.py_tokens.specs.declared.lines.Change.{Change}
use Rattle.py_tokens.specs.declared.lines.Change.TheVariants as changes
use Rattle.py_tokens.specs.declared.prefix.Prefix.{Prefix}
use Rattle.py_tokens.specs.declared.prefix.Prefix.TheVariants as prefixes
use Rattle.py_tokens.specs.declared.number.NumberFault.{NumberFault}
use Rattle.py_tokens.specs.declared.number.NumberFault.TheVariants as numbers
use Rattle.py_tokens.specs.declared.operator.Operator.{Operator}
use Rattle.py_tokens.specs.declared.operator.Operator.TheVariants as operators
use Rattle.py_tokens.specs.LineEnd.{Begins, IsLineEnd}
use Rattle.py_tokens.specs.Name.{IsNamePart}
use Rattle.py_tokens.specs.Number as number
use Rattle.py_tokens.specs.Literal.{IsLiteral}
use Rattle.py_tokens.specs.Operator.{Stands}
use Rattle.py_tokens.specs.Lexeme.{Answer, IsBlank, IsInLine, IsRunOf, Announces, number_answer, operator_answer, StringAnswers, PrefixAnswers, WordAnswers, NameAnswers, Answers}
use Rattle.py_tokens.specs.Lines as l
use Rattle.py_tokens.specs.Lines.{Piece, Line, Tokens}
use Rattle.py_tokens.specs.Tokens.{AreInFront, IsTokens}
use Rattle.py_tokens.proofs.Operators.{short}
use Rattle.py_tokens.specs.Formed.{AreFormed}
use Rattle.py_tokens.proofs.Formed.{tokens_formed}

-- ---- a lexeme has a text

abbrev HasText : Answer → Type 0
HasText (Ok found) = 1 ≤ length found.1
HasText (Err fault) = Unit {0}

run_text : (P : ℕ → Type 0) (text bytes : List ℕ) → IsRunOf P text bytes → Begins P bytes → 1 ≤ length text
run_text P [] bytes run h = absurd (run.ends (subst (Begins P) run.parts h))
run_text P (x ∷ xs) bytes run h = omega arith

begins_as : (P Q : ℕ → Type 0) (bytes : List ℕ) → ((byte : ℕ) → P byte → Q byte) → Begins P bytes → Begins Q bytes
begins_as P Q [] f h = absurd h
begins_as P Q (x ∷ xs) f h = f x h

in_line : (byte : ℕ) → byte ≡ 35 → IsInLine byte
in_line byte e (inl f) = absurd (let u : byte ≡ 35 = e in let v : byte ≡ 10 = f in omega arith)
in_line byte e (inr f) = absurd (let u : byte ≡ 35 = e in let v : byte ≡ 13 = f in omega arith)

run_begins : (bytes : List ℕ) → number.BeginsRun bytes → Begins number.IsRunPart bytes
run_begins [] h = absurd h
run_begins (x ∷ xs) (inl h) = inl (inr h)
run_begins (x ∷ xs) (inr h) = inr h.0

line_end_text : (text rest : List ℕ) → IsLineEnd text rest → 1 ≤ length text
line_end_text text rest (inl h) = let e = ap length h in omega arith
line_end_text text rest (inr (inl h)) = let e = ap length h in omega arith
line_end_text text rest (inr (inr h)) = let e = ap length h.0 in omega arith

quotes_some : (quotes rest : List ℕ) (quote : ℕ) → ((quotes ≡ quote ∷ quote ∷ quote ∷ []) ⊎ ((quotes ≡ quote ∷ []) × ¬ Stands (quote ∷ quote ∷ []) rest)) → 1 ≤ length quotes
quotes_some quotes rest quote (inl h) = let e = ap length h in omega arith
quotes_some quotes rest quote (inr h) = let e = ap length h.0 in omega arith

literal_text : (raw : Bool) (text rest value : List ℕ) → IsLiteral raw text rest value → 1 ≤ length text
literal_text raw text rest value h =
    let o = h.opens in
    let q = quotes_some h.quotes (h.inner ++ (h.quotes ++ rest)) o.0 o.2 in
    let e = ap length h.text_is in
    let a = length-append h.quotes (h.inner ++ h.quotes) in
    omega arith

string_text : (raw : Bool) (prefix bytes : List ℕ) (answer : Answer) → StringAnswers raw prefix bytes answer → HasText answer
string_text raw prefix bytes answer (inl h) =
    let a = length-append prefix h.0 in
    let b = literal_text raw h.0 h.1 h.2 h.3 in
    let long : 1 ≤ length (prefix ++ h.0) = omega arith in
    subst HasText (sym h.5) long
string_text raw prefix bytes answer (inr h) = subst HasText (sym h.2) tt

prefix_text : (prefix : Prefix) (name bytes : List ℕ) (answer : Answer) → PrefixAnswers prefix name bytes answer → HasText answer
prefix_text prefixes.Plain name bytes answer h = string_text false name bytes answer h
prefix_text prefixes.Raw name bytes answer h = string_text true name bytes answer h
prefix_text prefixes.Bytes name bytes answer h = subst HasText (sym h) tt
prefix_text prefixes.Format name bytes answer h = subst HasText (sym h) tt

word_text : (opt : ℕ) (name : List ℕ) (answer : Answer) → 1 ≤ length name → WordAnswers opt name answer → HasText answer
word_text opt name answer some (inl h) = subst HasText (sym h.2) some
word_text opt name answer some (inr (inl h)) = subst HasText (sym h.1) tt
word_text opt name answer some (inr (inr h)) = subst HasText (sym h.2) some

name_text : (opt : ℕ) (name behind : List ℕ) (answer : Answer) → 1 ≤ length name → NameAnswers opt name behind answer → HasText answer
name_text opt name behind answer some (inl h) = prefix_text h.0 name behind answer h.3
name_text opt name behind answer some (inr h) = word_text opt name answer some h.1

number_text : (run : List ℕ) (value : Result ℤ NumberFault) → 1 ≤ length run → HasText (number_answer run value)
number_text run (Ok n) some = some
number_text run (Err numbers.BadToken) some = tt
number_text run (Err numbers.Float) some = tt
number_text run (Err numbers.Complex) some = tt
number_text run (Err numbers.TooBig) some = tt

operator_text : (operator : Operator) (text : List ℕ) → 1 ≤ length text → HasText (operator_answer operator text)
operator_text (operators.Op op) text some = some
operator_text operators.Refused text some = tt

class_text : (opt : ℕ) (class : Class) (bytes : List ℕ) (answer : Answer) → Announces class bytes → Answers opt class bytes answer → HasText answer
class_text opt classes.Blank bytes answer a h = subst HasText (sym h.2) (run_text IsBlank h.0 bytes h.1 a)
class_text opt classes.Comment bytes answer a h = subst HasText (sym h.2) (run_text IsInLine h.0 bytes h.1 (begins_as (λ byte. byte ≡ 35) IsInLine bytes in_line a))
class_text opt classes.LineEnd bytes answer a h = subst HasText (sym h.4) (line_end_text h.0 h.1 h.3)
class_text opt classes.Backslash bytes answer a (inl h) = let long : 1 ≤ length (92 ∷ h.0) = omega arith in subst HasText (sym h.4) long
class_text opt classes.Backslash bytes answer a (inr h) = subst HasText (sym h.1) tt
class_text opt classes.Name bytes answer a h =
    let run = h.1 in
    name_text opt h.0 run.rest answer (run_text IsNamePart h.0 bytes run (begins_as _ IsNamePart bytes (λ byte b. inl b) a)) h.2
class_text opt classes.Number bytes answer a h = subst HasText (sym h.4) (number_text h.0 h.2 (run_text number.IsRunPart h.0 bytes h.1 (run_begins bytes a)))
class_text opt classes.Quote bytes answer a h = string_text false [] bytes answer h
class_text opt classes.Mark bytes answer a (inl h) = let longest = h.2 in subst HasText (sym h.3) (operator_text h.0 h.1 (short h.0 h.1 longest.spells).0)
class_text opt classes.Mark bytes answer a (inr h) = subst HasText (sym h.1) tt
class_text opt classes.BadByte bytes answer a h = subst HasText (sym h) tt

pieces_few : (opt : ℕ) (source : List ℕ) (pieces : List Piece) (place end : ℕ) (rest bytes : List ℕ) → AreInFront opt source place pieces end rest bytes → length pieces ≤ length bytes
pieces_few opt source [] place end rest bytes h = omega arith
pieces_few opt source (p ∷ ps) place end rest bytes h =
    let front = h.2 in
    let some : 1 ≤ length p.text = class_text opt front.0 bytes (Ok (p.lexeme, p.text)) front.1 front.2 in
    let r = pieces_few opt source ps (place + length p.text) end rest h.3 h.5 in
    let e = ap length h.4 in
    let a = length-append p.text h.3 in
    omega arith

-- ---- lines

-- as many tokens lines give at most, apart from those that end levels which are open in front
abbrev size : List Line → ℕ
size [] = 2
size (line ∷ lines) = length line.pieces + 3 + size lines

abbrev closed : Piece → Line
closed piece = record { pieces = []; ends = Ok (l.newline piece) }

line_size : (b : Bool) (p : Piece) (new here : Line × List Line) (n : ℕ) → size (l.all_lines new) ≤ 4 * n + 5 → size (l.all_lines here) ≤ 4 * n + 5 → size (l.all_lines (cond b (closed p, l.all_lines new) (l.with_piece p here))) ≤ 4 * suc n + 5
line_size true p new here n h k = omega (arith, h)
line_size false p new here n h k = omega (arith, k)

lines_size : (count : ℕ) (pieces : List Piece) (stop : Result l.Place SourceFault) → size (l.all_lines (l.lines count pieces stop)) ≤ 4 * length pieces + 5
lines_size count [] stop = omega arith
lines_size count (p ∷ ps) stop =
    line_size (l.ends_line count p.lexeme) p (l.lines 0 ps stop) (l.lines (l.brackets_behind count p.lexeme) ps stop) (length ps) (lines_size 0 ps stop) (lines_size (l.brackets_behind count p.lexeme) ps stop)

-- ---- tokens

abbrev Within : Tokens → ℕ → Type 0
Within (Ok ts) n = length ts ≤ n
Within (Err fault) n = Unit {0}

within_more : (tokens : Tokens) (m n : ℕ) → m ≤ n → Within tokens m → Within tokens n
within_more (Ok ts) m n le h = let k : length ts ≤ m = h in omega arith
within_more (Err fault) m n le h = tt

within_behind : (front : List Token) (tokens : Tokens) (n : ℕ) → Within tokens n → Within (l.with_front front tokens) (length front + n)
within_behind front (Ok ts) n h = let k : length ts ≤ n = h in let e = length-append front ts in omega arith
within_behind front (Err fault) n h = tt

with_token_length : (lexeme : Lexeme) (p : Piece) (ts : List Token) → length (l.with_token lexeme p ts) ≤ suc (length ts)
with_token_length lexemes.Blank p ts = omega arith
with_token_length lexemes.Comment p ts = omega arith
with_token_length lexemes.Join p ts = omega arith
with_token_length lexemes.LineEnd p ts = omega arith
with_token_length (lexemes.Token tok) p ts = omega arith

tokens_length : (pieces : List Piece) → length (l.tokens_of pieces) ≤ length pieces
tokens_length [] = omega arith
tokens_length (p ∷ ps) = let h = with_token_length p.lexeme p (l.tokens_of ps) in let k = tokens_length ps in omega arith

change_length : (levels : List (List ℕ)) (text : List ℕ) (change : Change) (place : l.Place) → length (l.change_tokens levels change place) + length (l.levels_behind levels text change) ≤ length levels + 2
change_length levels text (changes.Keeps count) place =
    let a = length-replicate (length levels - count) (l.empty_token toks.Dedent place) in
    let b = length-take count levels in
    omega arith
change_length levels text changes.Opens place = let a = length-append levels (text ∷ []) in omega arith

line_within : (levels : List (List ℕ)) (its : l.Level) (ts : List Token) (ends : Result Token SourceFault) (empty : Bool) (change : Option Change) (others : List (List ℕ) → Tokens) (n : ℕ)
    → ((now : List (List ℕ)) → Within (others now) (n + length now)) → Within (cond empty (others levels) (l.changed_line levels its ts ends change others)) (length ts + 3 + n + length levels)
line_within levels its ts ends true change others n f = within_more (others levels) (n + length levels) (length ts + 3 + n + length levels) (omega arith) (f levels)
line_within levels its ts ends false None others n f = tt
line_within levels its ts (Err fault) false (Some change) others n f = tt
line_within levels its ts (Ok newline) false (Some change) others n f =
    let now = l.levels_behind levels its.text change in
    let front = l.change_tokens levels change (l.place_of ts) in
    let whole = l.with_front front (l.with_front (ts ++ newline ∷ []) (others now)) in
    let h = change_length levels its.text change (l.place_of ts) in
    let a = length-append ts (newline ∷ []) in
    within_more whole (length front + (length (ts ++ newline ∷ []) + (n + length now))) (length ts + 3 + n + length levels) (omega arith)
    (within_behind front (l.with_front (ts ++ newline ∷ []) (others now)) (length (ts ++ newline ∷ []) + (n + length now)) (within_behind (ts ++ newline ∷ []) (others now) (n + length now) (f now)))

all_within : (lines : List Line) (stop : Result l.Place SourceFault) (levels : List (List ℕ)) → Within (l.all_tokens lines stop levels) (size lines + length levels)
all_within [] (Ok place) levels =
    let a = length-append (replicate (length levels - 1) (l.empty_token toks.Dedent place)) (l.empty_token toks.End place ∷ []) in
    let b = length-replicate (length levels - 1) (l.empty_token toks.Dedent place) in
    omega arith
all_within [] (Err fault) levels = tt
all_within (line ∷ lines) stop levels =
    let its = l.level line.pieces in
    let ts = l.tokens_of line.pieces in
    let h = tokens_length line.pieces in
    within_more (l.all_tokens (line ∷ lines) stop levels) (length ts + 3 + size lines + length levels) (size (line ∷ lines) + length levels) (omega arith)
    (line_within levels its ts line.ends (l.is_empty ts line.ends) (l.change levels its.text) (l.all_tokens lines stop) (size lines) (λ now. all_within lines stop now))

-- The tokens of a source are formed.
pub sources_formed : (opt : ℕ) (source : List ℕ) (tokens : List Token) → IsTokens opt source tokens → AreFormed tokens
sources_formed opt source tokens is =
    let r = is.reading in
    let lines = l.all_lines (l.lines 0 r.pieces r.stop) in
    let few : length tokens ≤ size lines + 1 = subst (λ q. Within q (size lines + 1)) (sym r.answer_is) (all_within lines r.stop ([] ∷ [])) in
    let n = lines_size 0 r.pieces r.stop in
    let p = pieces_few opt source r.pieces 0 r.end r.rest source r.pieces_are in
    let s = is.short in
    record { each = tokens_formed opt source tokens is; fewer = omega arith }
