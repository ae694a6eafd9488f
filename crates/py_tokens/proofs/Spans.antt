-- Which lexemes hold no line end.
use Rattle.std.proofs.Common.{◌≡◌, ℕ, Bool, true, false, ◌==◌, suc, List, [], ◌∷◌, Result, Ok, Err, ℤ, inl, inr, refl, ap, ◌∙◌, arith}
use Rattle.std.proofs.lemmas.Bool.{ne_eqb}
use Rattle.std.proofs.lemmas.List.Sums.{AllPass-from_list_all}
use Rattle.std.proofs.lemmas.Bool.Decides.{Decides-eqb}
use Rattle.std.specs.List.{All, AllPass}
use Rattle.py_tokens.specs.declared.lexeme.Lexeme.{Lexeme}
use Rattle.py_tokens.specs.declared.lexeme.Lexeme.TheVariants as lexemes
use Rattle.py_tokens.specs.declared.lexeme.Class.TheVariants as classes
use Rattle.py_tokens.specs.declared.prefix.Prefix.{Prefix}
use Rattle.py_tokens.specs.declared.prefix.Prefix.TheVariants as prefixes
use Rattle.py_tokens.specs.declared.number.NumberFault.{NumberFault}
use Rattle.py_tokens.specs.declared.number.NumberFault.TheVariants as numbers
use Rattle.py_tokens.specs.declared.operator.Op.{Op}
use Rattle.py_tokens.specs.declared.operator.Operator.{Operator}
use Rattle.py_tokens.specs.declared.operator.Operator.TheVariants as operators
use Rattle.py_tokens.specs.declared.operator.TheConstants.{OPS}
use Rattle.py_tokens.specs.LineEnd.{IsLineByte}
use Rattle.py_tokens.specs.Name.{IsNamePart}
use Rattle.py_tokens.specs.Number.{IsRunPart}
use Rattle.py_tokens.specs.Operator.{spelling, Spells}
use Rattle.py_tokens.specs.Tokens.{line_ends}
use Rattle.py_tokens.specs.Lexeme.{Answer, IsBlank, StringAnswers, PrefixAnswers, WordAnswers, NameAnswers, number_answer, operator_answer, IsFront, may_span}
use Rattle.py_tokens.proofs.Operators.{op_passes}

-- a text with no byte of a line end has no line end
free : (text : List ℕ) → All (λ byte. IsLineByte byte → ⊥) text → line_ends text ≡ 0
free [] all = refl
free (byte ∷ rest) all =
    let here = all 0 byte (omega arith) in
    let lf = ne_eqb byte 10 (λ e. here (inl e)) in
    let cr = ne_eqb byte 13 (λ e. here (inr e)) in
    let others = free rest (λ k d within. all (suc k) d (omega arith)) in
    rw (lf, cr) (omega (arith, others))

free_run : (P : ℕ → Type 0) (text : List ℕ) → ((byte : ℕ) → P byte → IsLineByte byte → ⊥) → All P text → line_ends text ≡ 0
free_run P text apart all = free text (λ k d within. apart _ (all k d within))

no_blank : (byte : ℕ) → IsBlank byte → IsLineByte byte → ⊥
no_blank byte is line = grind (arith, is, line)

no_part : (byte : ℕ) → IsRunPart byte → IsLineByte byte → ⊥
no_part byte is line = grind (arith, is, line)

no_line_ends : AllPass (λ op. line_ends (spelling op) == 0) OPS
no_line_ends = AllPass-from_list_all (λ op. line_ends (spelling op) == 0) OPS refl

free_op : (op : Op) → line_ends (spelling op) ≡ 0
free_op op = (Decides-eqb (line_ends (spelling op)) 0).0 (op_passes (λ text. line_ends text == 0) no_line_ends op)

-- a lexeme that can't hold a line end
abbrev IsFree : Lexeme → List ℕ → Type 0
IsFree lexeme text = may_span lexeme ≡ false → line_ends text ≡ 0

abbrev answer_of : Lexeme → List ℕ → Answer
answer_of lexeme text = Ok (lexeme, text)

same_text : (lexeme its : Lexeme) (text other : List ℕ) → answer_of lexeme text ≡ answer_of its other → text ≡ other
same_text lexeme its text other e = let pair : (lexeme, text) ≡ (its, other) = cc in ap (λ (z : Lexeme × List ℕ). z.1) pair

same_lexeme : (lexeme its : Lexeme) (text other : List ℕ) → answer_of lexeme text ≡ answer_of its other → lexeme ≡ its
same_lexeme lexeme its text other e = let pair : (lexeme, text) ≡ (its, other) = cc in ap (λ (z : Lexeme × List ℕ). z.0) pair

is_free : (lexeme its : Lexeme) (text other : List ℕ) → answer_of lexeme text ≡ answer_of its other → line_ends other ≡ 0 → IsFree lexeme text
is_free lexeme its text other e none _ = ap line_ends (same_text lexeme its text other e) ∙ none

spans : (lexeme its : Lexeme) (text other : List ℕ) → answer_of lexeme text ≡ answer_of its other → may_span its ≡ true → IsFree lexeme text
spans lexeme its text other e may not_may = let same = ap may_span (same_lexeme lexeme its text other e) in absurd cc

string_free : (raw : Bool) (prefix bytes : List ℕ) (lexeme : Lexeme) (text : List ℕ) → StringAnswers raw prefix bytes (answer_of lexeme text) → IsFree lexeme text
string_free raw prefix bytes lexeme text (inl is) = spans lexeme _ text _ is.5 refl
string_free raw prefix bytes lexeme text (inr is) = absurd (let e = is.2 in cc)

prefix_free : (prefix : Prefix) (name bytes : List ℕ) (lexeme : Lexeme) (text : List ℕ) → PrefixAnswers prefix name bytes (answer_of lexeme text) → IsFree lexeme text
prefix_free prefixes.Plain name bytes lexeme text is = string_free false name bytes lexeme text is
prefix_free prefixes.Raw name bytes lexeme text is = string_free true name bytes lexeme text is
prefix_free prefixes.Bytes name bytes lexeme text is = absurd cc
prefix_free prefixes.Format name bytes lexeme text is = absurd cc

word_free : (opt : ℕ) (name : List ℕ) (lexeme : Lexeme) (text : List ℕ) → line_ends name ≡ 0 → WordAnswers opt name (answer_of lexeme text) → IsFree lexeme text
word_free opt name lexeme text none (inl is) = is_free lexeme _ text name is.2 none
word_free opt name lexeme text none (inr (inl is)) = absurd (let e = is.1 in cc)
word_free opt name lexeme text none (inr (inr is)) = is_free lexeme _ text name is.2 none

name_free : (opt : ℕ) (name behind : List ℕ) (lexeme : Lexeme) (text : List ℕ) → line_ends name ≡ 0 → NameAnswers opt name behind (answer_of lexeme text) → IsFree lexeme text
name_free opt name behind lexeme text none (inl is) = prefix_free is.0 name behind lexeme text is.3
name_free opt name behind lexeme text none (inr is) = word_free opt name lexeme text none is.1

number_free : (run : List ℕ) (value : Result ℤ NumberFault) (lexeme : Lexeme) (text : List ℕ) → line_ends run ≡ 0 → answer_of lexeme text ≡ number_answer run value → IsFree lexeme text
number_free run (Ok n) lexeme text none is = is_free lexeme _ text run is none
number_free run (Err numbers.BadToken) lexeme text none is = absurd cc
number_free run (Err numbers.Float) lexeme text none is = absurd cc
number_free run (Err numbers.Complex) lexeme text none is = absurd cc
number_free run (Err numbers.TooBig) lexeme text none is = absurd cc

operator_free : (operator : Operator) (its : List ℕ) (lexeme : Lexeme) (text : List ℕ) → Spells operator its → answer_of lexeme text ≡ operator_answer operator its → IsFree lexeme text
operator_free (operators.Op op) its lexeme text spells is = is_free lexeme _ text its is (ap line_ends spells ∙ free_op op)
operator_free operators.Refused its lexeme text spells is = absurd cc

-- what stands in front holds a line end only where its kind says so
pub front_free : (opt : ℕ) (bytes : List ℕ) (lexeme : Lexeme) (text : List ℕ) → IsFront opt bytes (answer_of lexeme text) → IsFree lexeme text
front_free opt bytes lexeme text (classes.Blank, begins, is) = is_free lexeme lexemes.Blank text is.0 is.2 (free_run IsBlank is.0 no_blank is.1.all)
front_free opt bytes lexeme text (classes.Comment, begins, is) = is_free lexeme lexemes.Comment text is.0 is.2 (free is.0 is.1.all)
front_free opt bytes lexeme text (classes.LineEnd, begins, is) = spans lexeme lexemes.LineEnd text is.0 is.4 refl
front_free opt bytes lexeme text (classes.Backslash, begins, inl is) = spans lexeme lexemes.Join text _ is.4 refl
front_free opt bytes lexeme text (classes.Backslash, begins, inr is) = absurd (let e = is.1 in cc)
front_free opt bytes lexeme text (classes.Name, begins, is) =
    name_free opt is.0 is.1.rest lexeme text (free_run IsNamePart is.0 (λ byte part. no_part byte (inl part)) is.1.all) is.2
front_free opt bytes lexeme text (classes.Number, begins, is) = number_free is.0 is.2 lexeme text (free_run IsRunPart is.0 no_part is.1.all) is.4
front_free opt bytes lexeme text (classes.Quote, begins, is) = string_free false [] bytes lexeme text is
front_free opt bytes lexeme text (classes.Mark, begins, inl is) = operator_free is.0 is.1 lexeme text is.2.spells is.3
front_free opt bytes lexeme text (classes.Mark, begins, inr is) = absurd (let e = is.1 in cc)
front_free opt bytes lexeme text (classes.BadByte, begins, is) = absurd cc
