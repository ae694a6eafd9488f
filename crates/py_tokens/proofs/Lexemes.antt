-- What is found in front of bytes.
use Rattle.std.proofs.Common.{◌≡◌, ◌⊎◌, ℕ, ◌+◌, ◌-◌, ◌<◌, ◌≤◌, Bool, cond, List, [], ◌∷◌, ◌++◌, length, take, drop, get_or, Contains, Option, Some, None, MatchOption, Result, Ok, Err, ℤ, inl, inr, refl, sym, ap, ◌∙◌, subst, append_assoc, arith}
use Rattle.std.proofs.lemmas.List.{take-append-drop, length-take-le, take_at, take_all, take-append-le, drop_more, drop_all, length-append, length-drop}
use Rattle.std.proofs.lemmas.List.Elements.{All-from_recursion, All-cons}
use Rattle.std.proofs.lemmas.Bool.{cases_order}
use Rattle.std.specs.List.{All}
use Rattle.mpy_base.specs.declared.refused.Refused.{Refused}
use Rattle.mpy_base.specs.declared.refused.Refused.TheVariants as refused
use Rattle.mpy_base.specs.declared.source.SourceCode.{SourceCode}
use Rattle.mpy_base.specs.declared.source.SourceCode.TheVariants as code
use Rattle.py_tokens.specs.declared.lexeme.Lexeme.{Lexeme}
use Rattle.py_tokens.specs.declared.lexeme.Lexeme.TheVariants as lexemes
use Rattle.py_tokens.specs.declared.lexeme.LexemeFault.{LexemeFault}
use Rattle.py_tokens.specs.declared.lexeme.Class.{Class}
use Rattle.py_tokens.specs.declared.lexeme.Class.TheVariants as classes
use Rattle.py_tokens.specs.declared.prefix.Prefix.{Prefix}
use Rattle.py_tokens.specs.declared.token.Tok.{Tok}
use Rattle.py_tokens.specs.declared.token.Tok.TheVariants as toks
use Rattle.py_tokens.specs.declared.word.Word.{Word}
use Rattle.py_tokens.specs.declared.number.NumberFault.{NumberFault}
use Rattle.py_tokens.specs.declared.operator.Operator.{Operator}
use Rattle.py_tokens.specs.declared.operator.Operator.TheVariants as operators
use Rattle.py_tokens.specs.LineEnd.{Begins}
use Rattle.py_tokens.specs.Name.{IsNameStart, IsNamePart, IsName}
use Rattle.py_tokens.specs.Number as number
use Rattle.py_tokens.specs.Operator.{Stands, IsLongest}
use Rattle.py_tokens.specs.Prefix.{IsPrefix}
use Rattle.py_tokens.specs.Word.{IsWord, refused_words}
use Rattle.py_tokens.specs.Literal as literal
use Rattle.py_tokens.specs.Tokens.{line_ends}
use Rattle.py_tokens.specs.Lexeme.{Answer, IsRunOf, Announces, StringAnswers, PrefixAnswers, WordAnswers, Answers, IsFront, token, number_answer, Refuses, Finds}

abbrev Found : Type 0
Found = Result (Lexeme × ℕ) (Refused LexemeFault)

-- the fault that was made
abbrev fault_of : SourceCode → ℕ → List ℕ → LexemeFault
fault_of kind at word = record { code = kind; at = at; word = word }

pub refusal_finds : (P : Answer → Type 0) (bytes : List ℕ) (kind : SourceCode) (at : ℕ) (word : List ℕ) (r : Refused LexemeFault) → at ≤ length bytes → Refuses kind at word r → P (Err (record { code = kind; at = at; word = word })) → Finds P bytes (Err r)
refusal_finds P bytes kind at word (refused.Fault its) within is holds =
    (subst (λ (f : LexemeFault). f.at ≤ length bytes) (sym is) within, subst (λ (f : LexemeFault). P (Err f)) (sym is) holds)
refusal_finds P bytes kind at word refused.NoMemory within is holds = tt

pub finds_more : (P Q : Answer → Type 0) (bytes : List ℕ) (r : Found) → ((a : Answer) → P a → Q a) → Finds P bytes r → Finds Q bytes r
finds_more P Q bytes (Ok found) more h = (h.0, h.1, more (Ok (found.0, take found.1 bytes)) h.2)
finds_more P Q bytes (Err (refused.Fault its)) more h = (h.0, more (Err its) h.1)
finds_more P Q bytes (Err refused.NoMemory) more h = tt

take_front : (bytes : List ℕ) (len n : ℕ) → n ≤ length (take len bytes) → take n (take len bytes) ≡ take n bytes
take_front bytes len n within =
    sym (take-append-le n (take len bytes) (drop len bytes) within) ∙ ap (take n) (take-append-drop len bytes)

-- what is found in a front is found in the whole
pub front_finds : (P : Answer → Type 0) (bytes : List ℕ) (len : ℕ) (r : Found) → len ≤ length bytes → Finds P (take len bytes) r → Finds P bytes r
front_finds P bytes len (Ok found) within h =
    let shorter = length-take-le len bytes within in
    (h.0, (let its = h.1 in omega (arith, shorter, its)), subst (λ z. P (Ok (found.0, z))) (take_front bytes len found.1 h.1) h.2)
front_finds P bytes len (Err (refused.Fault its)) within h = let shorter = length-take-le len bytes within in let at = h.0 in (omega (arith, shorter, at), h.1)
front_finds P bytes len (Err refused.NoMemory) within h = tt

pub class_finds : (opt : ℕ) (class : Class) (bytes : List ℕ) (r : Found) → Announces class bytes → Finds (Answers opt class bytes) bytes r → Finds (IsFront opt bytes) bytes r
class_finds opt class bytes r begins h = finds_more (Answers opt class bytes) (IsFront opt bytes) bytes r (λ a is. (class, begins, is)) h

-- runs
-- ====

pub past_run : (P : ℕ → Type 0) (bytes : List ℕ) (len : ℕ) → (len < length bytes → P (get_or bytes len 0) → ⊥) → (len < length bytes) ⊎ (length bytes ≤ len) → Begins P (drop len bytes) → ⊥
past_run P bytes len ends (inl inside) begins = ends inside (subst (Begins P) (drop_more bytes len 0 inside) begins)
past_run P bytes len ends (inr past) begins = subst (Begins P) (drop_all len bytes past) begins

pub inside_or_past : (m n : ℕ) → (m < n) ⊎ (n ≤ m)
inside_or_past m n = elim (cases_order m n) [
  | inl same ↦ inr (omega arith)
  | inr others ↦ elim others [ inl below ↦ inl below | inr past ↦ inr (omega arith) ]
]

abbrev pub run_front : (P : ℕ → Type 0) (bytes : List ℕ) (len : ℕ) → All P (take len bytes) → (len < length bytes → P (get_or bytes len 0) → ⊥) → IsRunOf P (take len bytes) bytes
run_front P bytes len all ends = record {
  rest = drop len bytes;
  parts = sym (take-append-drop len bytes);
  all = all;
  ends = past_run P bytes len ends (inside_or_past len (length bytes));
}

-- numbers
-- =======

one_digit : (byte : ℕ) → number.IsRunPart byte → All number.IsRunPart (byte ∷ [])
one_digit byte is = All-from_recursion number.IsRunPart (byte ∷ []) (is, tt)

two_parts : (byte next : ℕ) → number.IsRunPart byte → number.IsRunPart next → All number.IsRunPart (byte ∷ next ∷ [])
two_parts byte next is also = All-from_recursion number.IsRunPart (byte ∷ next ∷ []) (is, (also, tt))

-- where a run begins there is one
pub some_run : (bytes : List ℕ) (n : ℕ) → number.BeginsRun bytes → ((text rest : List ℕ) → number.IsRun text → bytes ≡ text ++ rest → length text ≤ n) → 1 ≤ n
some_run [] n begins longest = absurd begins
some_run (byte ∷ rest) n (inl digit) longest = longest (byte ∷ []) rest (inl digit, one_digit byte (inl (inr digit))) refl
some_run (byte ∷ []) n (inr dot) longest = absurd dot.1
some_run (byte ∷ next ∷ rest) n (inr dot) longest =
    let two = longest (byte ∷ next ∷ []) rest (inr dot, two_parts byte next (inr dot.0) (inl (inr dot.1))) refl in omega (arith, two)

-- the run is the longest, and the answer is that of its value
pub number_found : (bytes : List ℕ) (len : ℕ) (run : List ℕ) (value : Result ℤ NumberFault) (answer : Answer) (opt : ℕ) → run ≡ take len bytes → All number.IsRunPart (take len bytes) → (len < length bytes → number.IsRunPart (get_or bytes len 0) → ⊥) → number.Says run value → answer ≡ number_answer (take len bytes) value → Answers opt classes.Number bytes answer
number_found bytes len run value answer opt same all ends says is =
    (take len bytes, run_front number.IsRunPart bytes len all ends, value, subst (λ z. number.Says z value) same says, is)

-- names
-- =====

-- where a name begins there is one
pub some_name : (bytes : List ℕ) (n : ℕ) → Begins IsNameStart bytes → ((text rest : List ℕ) → IsName text → bytes ≡ text ++ rest → length text ≤ n) → 1 ≤ n
some_name [] n begins longest = absurd begins
some_name (byte ∷ rest) n begins longest = longest (byte ∷ []) rest (begins, All-from_recursion IsNamePart [] tt) refl

pub name_parts : (name : List ℕ) → IsName name → All IsNamePart name
name_parts [] is = absurd is
name_parts (byte ∷ rest) is = All-cons IsNamePart byte rest (inl is.0) is.1

pub no_prefix : (o : Option Prefix) (name : List ℕ) → MatchOption o ((prefix : Prefix) → IsPrefix prefix name → ⊥) (λ prefix. IsPrefix prefix name) → ((prefix : Prefix) → o ≡ Some prefix → ⊥) → (prefix : Prefix) → IsPrefix prefix name → ⊥
no_prefix None name is none = is
no_prefix (Some found) name is none = absurd (none found refl)

pub prefixed_name : (opt : ℕ) (bytes : List ℕ) (len : ℕ) (prefix : Prefix) (r : Found) → All IsNamePart (take len bytes) → (len < length bytes → IsNamePart (get_or bytes len 0) → ⊥) → IsPrefix prefix (take len bytes) → Begins literal.IsQuote (drop len bytes) → Finds (PrefixAnswers prefix (take len bytes) (drop len bytes)) bytes r → Finds (Answers opt classes.Name bytes) bytes r
prefixed_name opt bytes len prefix r all ends is quote h =
    finds_more (PrefixAnswers prefix (take len bytes) (drop len bytes)) (Answers opt classes.Name bytes) bytes r
    (λ a answers. (take len bytes, run_front IsNamePart bytes len all ends, inl (prefix, is, quote, answers))) h

pub plain_name : (opt : ℕ) (bytes : List ℕ) (len : ℕ) (r : Found) → len ≤ length bytes → All IsNamePart (take len bytes) → (len < length bytes → IsNamePart (get_or bytes len 0) → ⊥) → ((prefix : Prefix) → IsPrefix prefix (take len bytes) → Begins literal.IsQuote (drop len bytes) → ⊥) → Finds (WordAnswers opt (take len bytes)) (take len bytes) r → Finds (Answers opt classes.Name bytes) bytes r
plain_name opt bytes len r within all ends none h =
    finds_more (WordAnswers opt (take len bytes)) (Answers opt classes.Name bytes) bytes r
    (λ a answers. (take len bytes, run_front IsNamePart bytes len all ends, inr (none, answers)))
    (front_finds (WordAnswers opt (take len bytes)) bytes len r within h)

-- words
-- =====

pub word_token : (opt : ℕ) (name : List ℕ) (tok : Tok) (word : Word) → IsWord opt name word → tok ≡ toks.Word word → WordAnswers opt name (Ok (lexemes.Token tok, take (length name) name))
word_token opt name tok word is same =
    inl (word, is, ap (λ (t : Tok). token t (take (length name) name)) same ∙ ap (token (toks.Word word)) (take_all (length name) name (omega arith)))

pub name_token : (opt : ℕ) (name : List ℕ) (tok : Tok) → ((word : Word) → IsWord opt name word → ⊥) → (Contains refused_words name → ⊥) → tok ≡ toks.Name name → WordAnswers opt name (Ok (lexemes.Token tok, take (length name) name))
name_token opt name tok no_word no_refused same =
    inr (inr (no_word, no_refused, ap (λ (t : Tok). token t (take (length name) name)) same ∙ ap (token (toks.Name name)) (take_all (length name) name (omega arith))))

-- strings
-- =======

some_quotes : (quotes rest : List ℕ) (quote : ℕ) → (quotes ≡ quote ∷ quote ∷ quote ∷ []) ⊎ ((quotes ≡ quote ∷ []) × (Stands (quote ∷ quote ∷ []) rest → ⊥)) → 1 ≤ length quotes
some_quotes quotes rest quote (inl three) = omega (arith, ap length three)
some_quotes quotes rest quote (inr one) = omega (arith, ap length one.0)

some_quote : (quotes rest : List ℕ) → literal.Opens quotes rest → 1 ≤ length quotes
some_quote quotes rest opens = some_quotes quotes rest opens.0 opens.2

some_literal : (raw : Bool) (text rest value : List ℕ) → literal.IsLiteral raw text rest value → 1 ≤ length text
some_literal raw text rest value is =
    let some = some_quote is.quotes (is.inner ++ (is.quotes ++ rest)) is.opens in
    omega (arith, ap length is.text_is, length-append is.quotes (is.inner ++ is.quotes), some)

pub string_found : (raw : Bool) (bytes : List ℕ) (prefix len : ℕ) (value its : List ℕ) → prefix ≤ length bytes → its ≡ drop prefix bytes → literal.Reads raw its (Ok (value, len)) → (1 ≤ prefix + len) × (prefix + len ≤ length bytes) × StringAnswers raw (take prefix bytes) (drop prefix bytes) (Ok (lexemes.Token (toks.Str value), take (prefix + len) bytes))
string_found raw bytes prefix len value its within same h =
    let text = h.0 in
    let rest = h.1 in
    let some = some_literal raw text rest value h.2 in
    let behind : drop prefix bytes ≡ text ++ rest = sym same ∙ h.3 in
    let len_is : len ≡ length text = h.4 in
    let all : bytes ≡ (take prefix bytes ++ text) ++ rest =
    sym (take-append-drop prefix bytes) ∙ (ap (λ z. take prefix bytes ++ z) behind ∙ sym (append_assoc (take prefix bytes) text rest)) in
    let long : length (take prefix bytes ++ text) ≡ prefix + len = omega (arith, length-append (take prefix bytes) text, length-take-le prefix bytes within, len_is) in
    let whole : take (prefix + len) bytes ≡ take prefix bytes ++ text =
    ap (take (prefix + len)) all ∙ take_at (take prefix bytes ++ text) rest (prefix + len) long in (
      omega (arith, some, len_is),
      omega (arith, ap length all, length-append (take prefix bytes ++ text) rest, long),
      inl (text, rest, value, h.2, behind, ap (λ z. token (toks.Str value) z) whole),
    )

-- operators
-- =========

pub refused_operator : (opt : ℕ) (bytes : List ℕ) (operator : Operator) (text : List ℕ) (len : ℕ) (front : List ℕ) (r : Refused LexemeFault) → operator ≡ operators.Refused → IsLongest operator text bytes → len ≡ length text → front ≡ take len bytes → Refuses code.NotInProfile 0 front r → Finds (Answers opt classes.Mark bytes) bytes (Err r)
refused_operator opt bytes operator text len front r is longest len_is front_is h =
    let stands = longest.stands in
    let same : front ≡ text =
    front_is ∙ (ap (take len) stands.1 ∙ take_at text stands.0 len (sym len_is)) in
    refusal_finds (Answers opt classes.Mark bytes) bytes code.NotInProfile 0 text r (omega arith)
    (subst (λ z. Refuses code.NotInProfile 0 z r) same h)
    (inl (operators.Refused, text, subst (λ (o : Operator). IsLongest o text bytes) is longest, refl))

-- line ends
-- =========

rest_of : (text : List ℕ) (i : ℕ) → i < length text → take (length text - i) (drop i text) ≡ get_or text i 0 ∷ drop (i + 1) text
rest_of text i inside = take_all (length text - i) (drop i text) (omega (arith, length-drop i text)) ∙ drop_more text i 0 inside

-- what the line ends behind a place are, where one may end there
pub line_ends_more : (text : List ℕ) (i count : ℕ) (ends : Bool) → i < length text → count + line_ends (drop i text) ≡ line_ends text → line_ends (take (length text - i) (drop i text)) ≡ cond ends 1 0 + line_ends (drop 1 (take (length text - i) (drop i text))) → (count + cond ends 1 0) + line_ends (drop (i + 1) text) ≡ line_ends text
line_ends_more text i count ends inside so_far step =
    let whole = rest_of text i inside in
    let here : line_ends (drop i text) ≡ line_ends (take (length text - i) (drop i text)) = ap line_ends (drop_more text i 0 inside ∙ sym whole) in
    let behind : line_ends (drop 1 (take (length text - i) (drop i text))) ≡ line_ends (drop (i + 1) text) = ap (λ z. line_ends (drop 1 z)) whole in
    omega (arith, here, behind, step, so_far)
