-- One lexeme or fault stands in front of bytes.
use Rattle.std.proofs.Common.{◌≡◌, ℕ, ◌+◌, Bool, true, false, List, [], ◌∷◌, ◌++◌, length, drop, Result, Ok, Err, ℤ, inl, inr, refl, sym, ap, ◌∙◌, subst}
use Rattle.std.proofs.lemmas.List.Elements.{All-head, All-tail}
use Rattle.std.specs.List.{All}
use Rattle.py_tokens.specs.declared.lexeme.Lexeme.TheVariants as lexemes
use Rattle.py_tokens.specs.declared.lexeme.Class.{Class}
use Rattle.py_tokens.specs.declared.lexeme.Class.TheVariants as classes
use Rattle.py_tokens.specs.declared.prefix.Prefix.{Prefix}
use Rattle.py_tokens.specs.declared.prefix.Prefix.TheVariants as prefixes
use Rattle.py_tokens.specs.declared.token.Tok.TheVariants as toks
use Rattle.py_tokens.specs.declared.word.Word.{Word}
use Rattle.py_tokens.specs.declared.number.NumberFault.{NumberFault}
use Rattle.py_tokens.specs.declared.operator.Operator.{Operator}
use Rattle.py_tokens.specs.declared.string.StringFault.{StringFault}
use Rattle.py_tokens.specs.LineEnd.{Begins, IsLineByte, IsLineEnd}
use Rattle.py_tokens.specs.Name.{IsNamePart}
use Rattle.py_tokens.specs.Number as number
use Rattle.py_tokens.specs.Word.{IsWord}
use Rattle.py_tokens.specs.Literal.{IsLiteralFault}
use Rattle.py_tokens.specs.Lexeme.{Answer, IsBlank, IsInLine, IsRunOf, Announces, token, number_answer, operator_answer, string_fault, StringAnswers, PrefixAnswers, WordAnswers, NameAnswers, Answers, IsFront}
use Rattle.py_tokens.proofs.Numbers.{one_answer}
use Rattle.py_tokens.proofs.Operators.{one_longest}
use Rattle.py_tokens.proofs.Words.{one_word, debug_apart, refused_no_word}
use Rattle.py_tokens.proofs.Classes.{one_class}
use Rattle.py_tokens.proofs.Prefixes.{one_prefix}
use Rattle.py_tokens.proofs.Literals as literal

-- runs
-- ====

same_run : (P : ℕ → Type 0) (s x t y : List ℕ) → All P s → All P t → (Begins P x → ⊥) → (Begins P y → ⊥) → s ++ x ≡ t ++ y → s ≡ t
same_run P [] x [] y all also ends stops e = refl
same_run P [] [] (b ∷ t) y all also ends stops e = absurd cc
same_run P [] (a ∷ x) (b ∷ t) y all also ends stops e = let same : b ≡ a = cc in absurd (ends (subst P same (All-head P b t also)))
same_run P (a ∷ s) x [] [] all also ends stops e = absurd cc
same_run P (a ∷ s) x [] (b ∷ y) all also ends stops e = let same : a ≡ b = cc in absurd (stops (subst P same (All-head P a s all)))
same_run P (a ∷ s) x (b ∷ t) y all also ends stops e =
    let first : a ≡ b = cc in
    let others : s ++ x ≡ t ++ y = cc in
    let same = same_run P s x t y (All-tail P a s all) (All-tail P b t also) ends stops others in
    cc

one_run : (P : ℕ → Type 0) (s t bytes : List ℕ) → IsRunOf P s bytes → IsRunOf P t bytes → s ≡ t
one_run P s t bytes a b = same_run P s a.rest t b.rest a.all b.all a.ends b.ends (sym a.parts ∙ b.parts)

pub behind_same : (s x t y : List ℕ) → s ≡ t → s ++ x ≡ t ++ y → x ≡ y
behind_same [] x [] y same e = e
behind_same [] x (b ∷ t) y same e = absurd cc
behind_same (a ∷ s) x [] y same e = absurd cc
behind_same (a ∷ s) x (b ∷ t) y same e =
    let others : s ≡ t = cc in
    let both : s ++ x ≡ t ++ y = cc in
    behind_same s x t y others both

-- line ends
-- =========

spelled_so : (s t x y given : List ℕ) → s ≡ given → s ++ x ≡ t ++ y → given ++ x ≡ t ++ y
spelled_so s t x y given is e = ap (λ z. z ++ x) (sym is) ∙ e

no_lf : (y : List ℕ) (x : List ℕ) → (Begins (λ byte. byte ≡ 10) y → ⊥) → y ≡ 10 ∷ x → ⊥
no_lf y x none e = none (subst (Begins (λ byte. byte ≡ 10)) (sym e) refl)

pub one_line_end : (s x t y : List ℕ) → IsLineEnd s x → IsLineEnd t y → s ++ x ≡ t ++ y → s ≡ t
one_line_end s x t y (inl a) (inl b) e = a ∙ sym b
one_line_end s x t y (inl a) (inr (inl b)) e = let f = ap (λ z. z ++ x) a in let g = ap (λ z. z ++ y) b in absurd cc
one_line_end s x t y (inl a) (inr (inr b)) e = let f = ap (λ z. z ++ x) a in let g = ap (λ z. z ++ y) b.0 in absurd cc
one_line_end s x t y (inr (inl a)) (inl b) e = let f = ap (λ z. z ++ x) a in let g = ap (λ z. z ++ y) b in absurd cc
one_line_end s x t y (inr (inl a)) (inr (inl b)) e = a ∙ sym b
one_line_end s x t y (inr (inl a)) (inr (inr b)) e =
    let f = ap (λ z. z ++ x) a in let g = ap (λ z. z ++ y) b.0 in let h : y ≡ 10 ∷ x = cc in absurd (no_lf y x b.1 h)
one_line_end s x t y (inr (inr a)) (inl b) e = let f = ap (λ z. z ++ x) a.0 in let g = ap (λ z. z ++ y) b in absurd cc
one_line_end s x t y (inr (inr a)) (inr (inl b)) e =
    let f = ap (λ z. z ++ x) a.0 in let g = ap (λ z. z ++ y) b in let h : x ≡ 10 ∷ y = cc in absurd (no_lf x y a.1 h)
one_line_end s x t y (inr (inr a)) (inr (inr b)) e = a.0 ∙ sym b.0

pub line_end_begins : (s x : List ℕ) → IsLineEnd s x → Begins IsLineByte (s ++ x)
line_end_begins s x (inl a) = subst (λ z. Begins IsLineByte (z ++ x)) (sym a) (inl refl)
line_end_begins s x (inr (inl a)) = subst (λ z. Begins IsLineByte (z ++ x)) (sym a) (inr refl)
line_end_begins s x (inr (inr a)) = subst (λ z. Begins IsLineByte (z ++ x)) (sym a.0) (inr refl)

-- strings
-- =======

one_string : (raw : Bool) (prefix bytes : List ℕ) (a b : Answer) → StringAnswers raw prefix bytes a → StringAnswers raw prefix bytes b → a ≡ b
one_string raw prefix bytes a b (inl x) (inl y) =
    let same = literal.one_literal raw x.0 x.1 x.2 y.0 y.1 y.2 x.3 y.3 (sym x.4 ∙ y.4) in
    let text : x.0 ≡ y.0 = same.0 in
    let value : x.2 ≡ y.2 = same.1 in
    x.5 ∙ (ap (λ v. token (toks.Str v) (prefix ++ x.0)) value ∙ (ap (λ t. token (toks.Str y.2) (prefix ++ t)) text ∙ sym y.5))
one_string raw prefix bytes a b (inl x) (inr y) = absurd (literal.apart raw x.0 x.1 x.2 y.0 x.3 (subst (λ z. IsLiteralFault raw z y.0) x.4 y.1))
one_string raw prefix bytes a b (inr x) (inl y) = absurd (literal.apart raw y.0 y.1 y.2 x.0 y.3 (subst (λ z. IsLiteralFault raw z x.0) y.4 x.1))
one_string raw prefix bytes a b (inr x) (inr y) =
    let same : x.0 ≡ y.0 = literal.one_fault raw bytes x.0 y.0 x.1 y.1 in
    x.2 ∙ (ap (λ (f : StringFault). Err (string_fault f.kind (length prefix + f.at))) same ∙ sym y.2)

-- names
-- =====

word_one : (opt : ℕ) (text : List ℕ) (v w : Word) → IsWord opt text v → IsWord opt text w → v ≡ w
word_one opt text v w (inl a) (inl b) = one_word v w (sym a ∙ b)
word_one opt text v w (inl a) (inr b) = absurd (debug_apart v (sym b.0 ∙ a))
word_one opt text v w (inr a) (inl b) = absurd (debug_apart w (sym a.0 ∙ b))
word_one opt text v w (inr a) (inr b) = a.1 ∙ sym b.1

one_named : (opt : ℕ) (name : List ℕ) (a b : Answer) → WordAnswers opt name a → WordAnswers opt name b → a ≡ b
one_named opt name a b (inl x) (inl y) = let same : x.0 ≡ y.0 = word_one opt name x.0 y.0 x.1 y.1 in x.2 ∙ (ap (λ w. token (toks.Word w) name) same ∙ sym y.2)
one_named opt name a b (inl x) (inr (inl y)) = absurd (refused_no_word opt name x.0 y.0 x.1)
one_named opt name a b (inl x) (inr (inr y)) = absurd (y.0 x.0 x.1)
one_named opt name a b (inr (inl x)) (inl y) = absurd (refused_no_word opt name y.0 x.0 y.1)
one_named opt name a b (inr (inl x)) (inr (inl y)) = x.1 ∙ sym y.1
one_named opt name a b (inr (inl x)) (inr (inr y)) = absurd (y.1 x.0)
one_named opt name a b (inr (inr x)) (inl y) = absurd (x.0 y.0 y.1)
one_named opt name a b (inr (inr x)) (inr (inl y)) = absurd (x.1 y.0)
one_named opt name a b (inr (inr x)) (inr (inr y)) = x.2 ∙ sym y.2

one_prefixed : (prefix : Prefix) (name bytes : List ℕ) (a b : Answer) → PrefixAnswers prefix name bytes a → PrefixAnswers prefix name bytes b → a ≡ b
one_prefixed prefixes.Plain name bytes a b x y = one_string false name bytes a b x y
one_prefixed prefixes.Raw name bytes a b x y = one_string true name bytes a b x y
one_prefixed prefixes.Bytes name bytes a b x y = x ∙ sym y
one_prefixed prefixes.Format name bytes a b x y = x ∙ sym y

one_name : (opt : ℕ) (name behind : List ℕ) (a b : Answer) → NameAnswers opt name behind a → NameAnswers opt name behind b → a ≡ b
one_name opt name behind a b (inl x) (inl y) =
    let same : x.0 ≡ y.0 = one_prefix x.0 y.0 name x.1 y.1 in
    one_prefixed y.0 name behind a b (subst (λ (p : Prefix). PrefixAnswers p name behind a) same x.3) y.3
one_name opt name behind a b (inl x) (inr y) = absurd (y.0 x.0 x.1 x.2)
one_name opt name behind a b (inr x) (inl y) = absurd (x.0 y.0 y.1 y.2)
one_name opt name behind a b (inr x) (inr y) = one_named opt name a b x.1 y.1

moved_name : (opt : ℕ) (name other behind its : List ℕ) (a : Answer) → name ≡ other → behind ≡ its → NameAnswers opt name behind a → NameAnswers opt other its a
moved_name opt name other behind its a same also is =
    subst (λ z. NameAnswers opt z its a) same (subst (λ z. NameAnswers opt name z a) also is)

-- classes
-- =======

one_of_class : (opt : ℕ) (class : Class) (bytes : List ℕ) (a b : Answer) → Answers opt class bytes a → Answers opt class bytes b → a ≡ b
one_of_class opt classes.Blank bytes a b x y = let same = one_run IsBlank x.0 y.0 bytes x.1 y.1 in x.2 ∙ (ap (λ t. Ok (lexemes.Blank, t)) same ∙ sym y.2)
one_of_class opt classes.Comment bytes a b x y = let same = one_run IsInLine x.0 y.0 bytes x.1 y.1 in x.2 ∙ (ap (λ t. Ok (lexemes.Comment, t)) same ∙ sym y.2)
one_of_class opt classes.LineEnd bytes a b x y =
    let same = one_line_end x.0 x.1 y.0 y.1 x.3 y.3 (sym x.2 ∙ y.2) in
    x.4 ∙ (ap (λ t. Ok (lexemes.LineEnd, t)) same ∙ sym y.4)
one_of_class opt classes.Backslash bytes a b (inl x) (inl y) =
    let both : x.0 ++ x.1 ≡ y.0 ++ y.1 = ap (drop 1) (sym x.2 ∙ y.2) in
    let same = one_line_end x.0 x.1 y.0 y.1 x.3 y.3 both in
    x.4 ∙ (ap (λ t. Ok (lexemes.Join, 92 ∷ t)) same ∙ sym y.4)
one_of_class opt classes.Backslash bytes a b (inl x) (inr y) = absurd (y.0 (subst (λ z. Begins IsLineByte (drop 1 z)) (sym x.2) (line_end_begins x.0 x.1 x.3)))
one_of_class opt classes.Backslash bytes a b (inr x) (inl y) = absurd (x.0 (subst (λ z. Begins IsLineByte (drop 1 z)) (sym y.2) (line_end_begins y.0 y.1 y.3)))
one_of_class opt classes.Backslash bytes a b (inr x) (inr y) = x.1 ∙ sym y.1
one_of_class opt classes.Name bytes a b x y =
    let same = one_run IsNamePart x.0 y.0 bytes x.1 y.1 in
    let behind = behind_same x.0 x.1.rest y.0 y.1.rest same (sym x.1.parts ∙ y.1.parts) in
    one_name opt y.0 y.1.rest a b (moved_name opt x.0 y.0 x.1.rest y.1.rest a same behind x.2) y.2
one_of_class opt classes.Number bytes a b x y =
    let same = one_run number.IsRunPart x.0 y.0 bytes x.1 y.1 in
    let value = one_answer y.0 x.2 y.2 (subst (λ r. number.Says r x.2) same x.3) y.3 in
    x.4 ∙ (ap (λ r. number_answer r x.2) same ∙ (ap (λ (v : Result ℤ NumberFault). number_answer y.0 v) value ∙ sym y.4))
one_of_class opt classes.Quote bytes a b x y = one_string false [] bytes a b x y
one_of_class opt classes.Mark bytes a b (inl x) (inl y) =
    let same = one_longest x.0 y.0 x.1 y.1 bytes x.2 y.2 in
    x.3 ∙ (ap (λ t. operator_answer x.0 t) same.1 ∙ (ap (λ (o : Operator). operator_answer o y.1) same.0 ∙ sym y.3))
one_of_class opt classes.Mark bytes a b (inl x) (inr y) = absurd (y.0 x.0 x.1 x.2.spells x.2.stands)
one_of_class opt classes.Mark bytes a b (inr x) (inl y) = absurd (x.0 y.0 y.1 y.2.spells y.2.stands)
one_of_class opt classes.Mark bytes a b (inr x) (inr y) = x.1 ∙ sym y.1
one_of_class opt classes.BadByte bytes a b x y = x ∙ sym y

pub one_front : (opt : ℕ) (bytes : List ℕ) (a b : Answer) → IsFront opt bytes a → IsFront opt bytes b → a ≡ b
one_front opt bytes a b x y =
    let same : x.0 ≡ y.0 = one_class x.0 y.0 bytes x.1 y.1 in
    one_of_class opt y.0 bytes a b (subst (λ (k : Class). Answers opt k bytes a) same x.2) y.2

none_announced : (class : Class) → Announces class [] → ⊥
none_announced classes.Blank h = h
none_announced classes.Comment h = h
none_announced classes.Backslash h = h
none_announced classes.LineEnd h = h
none_announced classes.Name h = h
none_announced classes.Number h = h
none_announced classes.Quote h = h
none_announced classes.Mark h = h.0
none_announced classes.BadByte h = h

-- nothing stands in front of no bytes
pub no_front : (opt : ℕ) (a : Answer) → IsFront opt [] a → ⊥
no_front opt a x = none_announced x.0 x.1
