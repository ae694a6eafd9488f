-- Line ends on both sides of a seam: no lexeme ends between CR and LF.
use Rattle.std.proofs.Common.{◌≡◌, ◌⊎◌, ℕ, zero, suc, ◌+◌, Bool, true, false, cond, eqb, ◌||◌, ◌&&◌, not, List, [], ◌∷◌, ◌++◌, take, Result, Ok, Err, ℤ, inl, inr, refl, sym, ap, ◌∙◌, subst, append_assoc, zero-add, arith}
use Rattle.std.proofs.lemmas.List.{append-nil}
use Rattle.std.proofs.lemmas.List.Elements.{All-head, All-tail}
use Rattle.std.proofs.lemmas.Bool.{eqb-true}
use Rattle.std.specs.List.{All}
use Rattle.py_tokens.specs.declared.lexeme.Lexeme.{Lexeme}
use Rattle.py_tokens.specs.declared.lexeme.Lexeme.TheVariants as lexemes
use Rattle.py_tokens.specs.declared.token.Tok.TheVariants as toks
use Rattle.py_tokens.specs.declared.lexeme.Class.{Class}
use Rattle.py_tokens.specs.declared.lexeme.Class.TheVariants as classes
use Rattle.py_tokens.specs.declared.prefix.Prefix.{Prefix}
use Rattle.py_tokens.specs.declared.prefix.Prefix.TheVariants as prefixes
use Rattle.py_tokens.specs.declared.number.NumberFault.{NumberFault}
use Rattle.py_tokens.specs.declared.number.NumberFault.TheVariants as numbers
use Rattle.py_tokens.specs.declared.operator.Op.{Op}
use Rattle.py_tokens.specs.declared.operator.Op.TheVariants as ops
use Rattle.py_tokens.specs.declared.operator.Operator.{Operator}
use Rattle.py_tokens.specs.declared.operator.Operator.TheVariants as operators
use Rattle.py_tokens.specs.LineEnd.{Begins, IsLineEnd}
use Rattle.py_tokens.specs.Name.{IsNamePart}
use Rattle.py_tokens.specs.Number as number
use Rattle.py_tokens.specs.Operator.{spelling, Stands, IsLongest}
use Rattle.py_tokens.specs.Literal as literal
use Rattle.py_tokens.specs.Tokens.{begins_lf, line_ends}
use Rattle.py_tokens.specs.Lexeme.{Answer, IsBlank, IsInLine, StringAnswers, PrefixAnswers, WordAnswers, NameAnswers, token, number_answer, operator_answer, Answers, IsFront}
use Rattle.py_tokens.proofs.Fronts.{behind_same}

-- whether the last byte is CR
abbrev pub ends_cr : List ℕ → Bool
ends_cr [] = false
ends_cr (byte ∷ []) = eqb byte 13
ends_cr (byte ∷ next ∷ rest) = ends_cr (next ∷ rest)

-- no CR LF lies across the seam
abbrev pub IsSeam : List ℕ → List ℕ → Type 0
IsSeam text rest = ends_cr text ≡ true → begins_lf rest ≡ false

one_byte : (lf cr next : Bool) (n : ℕ) → (cr ≡ true → next ≡ false) → cond (lf || (cr && not next)) 1 0 + n ≡ (cond (lf || (cr && not false)) 1 0 + 0) + n
one_byte true cr next n seam = omega arith
one_byte false false next n seam = omega arith
one_byte false true false n seam = omega arith
one_byte false true true n seam = let e = seam refl in absurd cc

pub line_ends-append : (a b : List ℕ) → IsSeam a b → line_ends (a ++ b) ≡ line_ends a + line_ends b
line_ends-append [] b seam = sym (zero-add (line_ends b))
line_ends-append (x ∷ []) b seam = one_byte (eqb x 10) (eqb x 13) (begins_lf b) (line_ends b) seam
line_ends-append (x ∷ y ∷ a) b seam = let e = line_ends-append (y ∷ a) b seam in omega (arith, e)

ends_cr-append : (a : List ℕ) (x : ℕ) (t : List ℕ) → ends_cr (a ++ (x ∷ t)) ≡ ends_cr (x ∷ t)
ends_cr-append [] x t = refl
ends_cr-append (b ∷ []) x t = refl
ends_cr-append (b ∷ c ∷ a) x t = ends_cr-append (c ∷ a) x t

no_cr : (P : ℕ → Type 0) (text : List ℕ) → (P 13 → ⊥) → All P text → ends_cr text ≡ true → ⊥
no_cr P [] other all e = cc
no_cr P (x ∷ []) other all e = other (subst P (eqb-true x 13 e) (All-head P x [] all))
no_cr P (x ∷ y ∷ t) other all e = no_cr P (y ∷ t) other (All-tail P x (y ∷ t) all) e

blank_cr : IsBlank 13 → ⊥
blank_cr (inl e) = let h : false ≡ true = ap (λ n. eqb n 32) e in cc
blank_cr (inr e) = let h : false ≡ true = ap (λ n. eqb n 9) e in cc

name_cr : IsNamePart 13 → ⊥
name_cr (inl (inl (inl is))) = omega (arith, is.0)
name_cr (inl (inl (inr is))) = omega (arith, is.0)
name_cr (inl (inr e)) = let h : false ≡ true = ap (λ n. eqb n 95) e in cc
name_cr (inr is) = omega (arith, is.0)

run_cr : number.IsRunPart 13 → ⊥
run_cr (inl is) = name_cr is
run_cr (inr e) = let h : false ≡ true = ap (λ n. eqb n 46) e in cc

by_test : (b : Bool) → (b ≡ true → ⊥) → b ≡ false
by_test true h = absurd (h refl)
by_test false h = refl

not_lf : (rest : List ℕ) → (Begins (λ byte. byte ≡ 10) rest → ⊥) → begins_lf rest ≡ false
not_lf [] other = refl
not_lf (y ∷ rest) other = by_test (eqb y 10) (λ e. other (eqb-true y 10 e))

line_end_seam : (text rest : List ℕ) → IsLineEnd text rest → IsSeam text rest
line_end_seam text rest (inl is) e = let h : ends_cr text ≡ false = ap ends_cr is in absurd cc
line_end_seam text rest (inr (inl is)) e = let h : ends_cr text ≡ false = ap ends_cr is in absurd cc
line_end_seam text rest (inr (inr is)) e = not_lf rest is.1

join_seam : (text rest : List ℕ) → IsLineEnd text rest → IsSeam (92 ∷ text) rest
join_seam text rest (inl is) e = let h : ends_cr (92 ∷ text) ≡ false = ap (λ z. ends_cr (92 ∷ z)) is in absurd cc
join_seam text rest (inr (inl is)) e = let h : ends_cr (92 ∷ text) ≡ false = ap (λ z. ends_cr (92 ∷ z)) is in absurd cc
join_seam text rest (inr (inr is)) e = not_lf rest is.1

quote_cr : literal.IsQuote 13 → ⊥
quote_cr (inl e) = let h : false ≡ true = ap (λ n. eqb n 34) e in cc
quote_cr (inr e) = let h : false ≡ true = ap (λ n. eqb n 39) e in cc

one_quote : (a quotes : List ℕ) (quote : ℕ) (t : List ℕ) → literal.IsQuote quote → quotes ≡ quote ∷ t → ends_cr (quote ∷ t) ≡ eqb quote 13 → ends_cr (a ++ quotes) ≡ true → ⊥
one_quote a quotes quote t is same last e =
    let here : eqb quote 13 ≡ true = sym last ∙ (sym (ends_cr-append a quote t) ∙ (ap (λ z. ends_cr (a ++ z)) (sym same) ∙ e)) in
    quote_cr (subst literal.IsQuote (eqb-true quote 13 here) is)

quotes_end : (a quotes rest : List ℕ) (quote : ℕ) → literal.IsQuote quote → (quotes ≡ quote ∷ quote ∷ quote ∷ []) ⊎ ((quotes ≡ quote ∷ []) × (Stands (quote ∷ quote ∷ []) rest → ⊥)) → ends_cr (a ++ quotes) ≡ true → ⊥
quotes_end a quotes rest quote is (inl three) e = one_quote a quotes quote (quote ∷ quote ∷ []) is three refl e
quotes_end a quotes rest quote is (inr one) e = one_quote a quotes quote [] is one.0 refl e

literal_end : (raw : Bool) (prefix text rest value : List ℕ) → literal.IsLiteral raw text rest value → ends_cr (prefix ++ text) ≡ true → ⊥
literal_end raw prefix text rest value is e =
    let opens = is.opens in
    let whole : prefix ++ text ≡ ((prefix ++ is.quotes) ++ is.inner) ++ is.quotes =
    ap (λ z. prefix ++ z) is.text_is ∙ (sym (append_assoc prefix is.quotes (is.inner ++ is.quotes)) ∙ sym (append_assoc (prefix ++ is.quotes) is.inner is.quotes)) in
    quotes_end ((prefix ++ is.quotes) ++ is.inner) is.quotes (is.inner ++ (is.quotes ++ rest)) opens.0 opens.1 opens.2 (ap ends_cr (sym whole) ∙ e)

op_end : (op : Op) → ends_cr (spelling op) ≡ false
op_end ops.OpenParen = refl
op_end ops.CloseParen = refl
op_end ops.OpenBracket = refl
op_end ops.CloseBracket = refl
op_end ops.OpenBrace = refl
op_end ops.CloseBrace = refl
op_end ops.Comma = refl
op_end ops.Colon = refl
op_end ops.Semicolon = refl
op_end ops.Dot = refl
op_end ops.Assign = refl
op_end ops.Equal = refl
op_end ops.NotEqual = refl
op_end ops.Less = refl
op_end ops.Greater = refl
op_end ops.LessEqual = refl
op_end ops.GreaterEqual = refl
op_end ops.Plus = refl
op_end ops.Minus = refl
op_end ops.Star = refl
op_end ops.DoubleSlash = refl
op_end ops.Percent = refl
op_end ops.DoubleStar = refl
op_end ops.Ampersand = refl
op_end ops.Bar = refl
op_end ops.Caret = refl
op_end ops.Tilde = refl
op_end ops.ShiftLeft = refl
op_end ops.ShiftRight = refl
op_end ops.PlusAssign = refl
op_end ops.MinusAssign = refl
op_end ops.StarAssign = refl
op_end ops.DoubleSlashAssign = refl
op_end ops.PercentAssign = refl
op_end ops.DoubleStarAssign = refl
op_end ops.AmpersandAssign = refl
op_end ops.BarAssign = refl
op_end ops.CaretAssign = refl
op_end ops.ShiftLeftAssign = refl
op_end ops.ShiftRightAssign = refl

-- lexemes
-- =======

abbrev answer_of : Lexeme → List ℕ → Answer
answer_of lexeme text = Ok (lexeme, text)

same_text : (a b : Lexeme × List ℕ) (x y : Answer) → x ≡ Ok a → y ≡ Ok b → x ≡ y → a ≡ b
same_text a b x y e f same = cc

text_is : (l m : Lexeme) (s t : List ℕ) (y : Answer) → y ≡ Ok (m, t) → answer_of l s ≡ y → s ≡ t
text_is l m s t y f same = ap (λ (z : Lexeme × List ℕ). z.1) (same_text (l, s) (m, t) (answer_of l s) y refl f same)

moved_end : (s t : List ℕ) → s ≡ t → (ends_cr t ≡ true → ⊥) → ends_cr s ≡ true → ⊥
moved_end s t same none e = none (ap ends_cr (sym same) ∙ e)

string_end : (raw : Bool) (prefix bytes : List ℕ) (lexeme : Lexeme) (text : List ℕ) → StringAnswers raw prefix bytes (Ok (lexeme, text)) → ends_cr text ≡ true → ⊥
string_end raw prefix bytes lexeme text (inl x) = moved_end text (prefix ++ x.0) (text_is lexeme (lexemes.Token (toks.Str x.2)) text (prefix ++ x.0) (token (toks.Str x.2) (prefix ++ x.0)) refl x.5) (literal_end raw prefix x.0 x.1 x.2 x.3)
string_end raw prefix bytes lexeme text (inr x) = let e = x.2 in absurd cc

prefix_end : (prefix : Prefix) (name bytes : List ℕ) (lexeme : Lexeme) (text : List ℕ) → PrefixAnswers prefix name bytes (Ok (lexeme, text)) → ends_cr text ≡ true → ⊥
prefix_end prefixes.Plain name bytes lexeme text x = string_end false name bytes lexeme text x
prefix_end prefixes.Raw name bytes lexeme text x = string_end true name bytes lexeme text x
prefix_end prefixes.Bytes name bytes lexeme text x = absurd cc
prefix_end prefixes.Format name bytes lexeme text x = absurd cc

word_text : (opt : ℕ) (name : List ℕ) (lexeme : Lexeme) (text : List ℕ) → WordAnswers opt name (Ok (lexeme, text)) → text ≡ name
word_text opt name lexeme text (inl x) = text_is lexeme (lexemes.Token (toks.Word x.0)) text name (token (toks.Word x.0) name) refl x.2
word_text opt name lexeme text (inr (inl x)) = let e = x.1 in absurd cc
word_text opt name lexeme text (inr (inr x)) = text_is lexeme (lexemes.Token (toks.Name name)) text name (token (toks.Name name) name) refl x.2

name_end : (opt : ℕ) (name behind : List ℕ) (lexeme : Lexeme) (text : List ℕ) → All IsNamePart name → NameAnswers opt name behind (Ok (lexeme, text)) → ends_cr text ≡ true → ⊥
name_end opt name behind lexeme text all (inl x) = prefix_end x.0 name behind lexeme text x.3
name_end opt name behind lexeme text all (inr x) = moved_end text name (word_text opt name lexeme text x.1) (no_cr IsNamePart name name_cr all)

number_text : (run : List ℕ) (value : Result ℤ NumberFault) (lexeme : Lexeme) (text : List ℕ) → answer_of lexeme text ≡ number_answer run value → text ≡ run
number_text run (Ok n) lexeme text e = text_is lexeme (lexemes.Token (toks.Int n)) text run (token (toks.Int n) run) refl e
number_text run (Err numbers.BadToken) lexeme text e = absurd cc
number_text run (Err numbers.Float) lexeme text e = absurd cc
number_text run (Err numbers.Complex) lexeme text e = absurd cc
number_text run (Err numbers.TooBig) lexeme text e = absurd cc

operator_end : (operator : Operator) (its bytes : List ℕ) (lexeme : Lexeme) (text : List ℕ) → IsLongest operator its bytes → answer_of lexeme text ≡ operator_answer operator its → ends_cr text ≡ true → ⊥
operator_end (operators.Op op) its bytes lexeme text longest e =
    let same = text_is lexeme (lexemes.Token (toks.Op op)) text its (token (toks.Op op) its) refl e in
    moved_end text its same (λ h. (let spelled : ends_cr its ≡ ends_cr (spelling op) = ap ends_cr longest.spells in let none = op_end op in absurd cc))
operator_end operators.Refused its bytes lexeme text longest e = absurd cc

seam_at : (s t x y : List ℕ) → s ≡ t → s ++ x ≡ t ++ y → IsSeam t y → IsSeam s x
seam_at s t x y same e seam h = ap begins_lf (behind_same s x t y same e) ∙ seam (ap ends_cr (sym same) ∙ h)

class_seam : (opt : ℕ) (class : Class) (bytes : List ℕ) (lexeme : Lexeme) (text behind : List ℕ) → Answers opt class bytes (Ok (lexeme, text)) → bytes ≡ text ++ behind → IsSeam text behind
class_seam opt classes.Blank bytes lexeme text behind x parts = λ h. absurd (moved_end text x.0 (text_is lexeme lexemes.Blank text x.0 (answer_of lexemes.Blank x.0) refl x.2) (no_cr IsBlank x.0 blank_cr x.1.all) h)
class_seam opt classes.Comment bytes lexeme text behind x parts = λ h. absurd (moved_end text x.0 (text_is lexeme lexemes.Comment text x.0 (answer_of lexemes.Comment x.0) refl x.2) (no_cr IsInLine x.0 (λ other. other (inr refl)) x.1.all) h)
class_seam opt classes.LineEnd bytes lexeme text behind x parts =
    let same = text_is lexeme lexemes.LineEnd text x.0 (answer_of lexemes.LineEnd x.0) refl x.4 in
    seam_at text x.0 behind x.1 same (sym parts ∙ x.2) (line_end_seam x.0 x.1 x.3)
class_seam opt classes.Backslash bytes lexeme text behind (inl x) parts =
    let same = text_is lexeme lexemes.Join text (92 ∷ x.0) (answer_of lexemes.Join (92 ∷ x.0)) refl x.4 in
    seam_at text (92 ∷ x.0) behind x.1 same (sym parts ∙ x.2) (join_seam x.0 x.1 x.3)
class_seam opt classes.Backslash bytes lexeme text behind (inr x) parts = let e = x.1 in absurd cc
class_seam opt classes.Name bytes lexeme text behind x parts = λ h. absurd (name_end opt x.0 x.1.rest lexeme text x.1.all x.2 h)
class_seam opt classes.Number bytes lexeme text behind x parts = λ h. absurd (moved_end text x.0 (number_text x.0 x.2 lexeme text x.4) (no_cr number.IsRunPart x.0 run_cr x.1.all) h)
class_seam opt classes.Quote bytes lexeme text behind x parts = λ h. absurd (string_end false [] bytes lexeme text x h)
class_seam opt classes.Mark bytes lexeme text behind (inl x) parts = λ h. absurd (operator_end x.0 x.1 bytes lexeme text x.2 x.3 h)
class_seam opt classes.Mark bytes lexeme text behind (inr x) parts = λ h. let e = x.1 in absurd cc
class_seam opt classes.BadByte bytes lexeme text behind x parts = λ h. absurd cc

-- behind a lexeme is a seam
pub front_seam : (opt : ℕ) (bytes : List ℕ) (lexeme : Lexeme) (text behind : List ℕ) → IsFront opt bytes (Ok (lexeme, text)) → bytes ≡ text ++ behind → IsSeam text behind
front_seam opt bytes lexeme text behind x parts = class_seam opt x.0 bytes lexeme text behind x.2 parts

-- behind one more text is a seam
pub next_seam : (a text rest behind : List ℕ) → IsSeam a rest → rest ≡ text ++ behind → IsSeam text behind → IsSeam (a ++ text) behind
next_seam a [] rest behind seam parts next h = ap begins_lf (sym parts) ∙ seam (ap ends_cr (sym (append-nil a)) ∙ h)
next_seam a (x ∷ text) rest behind seam parts next h = next (sym (ends_cr-append a x text) ∙ h)

-- a front of what follows begins no worse
pub front_of_rest : (a rest : List ℕ) (n : ℕ) → IsSeam a rest → IsSeam a (take n rest)
front_of_rest a [] zero seam h = refl
front_of_rest a [] (suc n) seam h = refl
front_of_rest a (x ∷ rest) zero seam h = refl
front_of_rest a (x ∷ rest) (suc n) seam h = seam h

pub seam_front : (a text rest behind : List ℕ) → IsSeam a rest → rest ≡ text ++ behind → IsSeam a text
seam_front a [] rest behind seam parts h = refl
seam_front a (x ∷ text) rest behind seam parts h = ap begins_lf (sym parts) ∙ seam h
