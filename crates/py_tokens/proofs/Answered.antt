-- Something stands in front of bytes: a lexeme or a fault.
use Rattle.std.proofs.Common.{◌≡◌, ◌≢◌, ℕ, ◌≤◌, false, true, List, [], ◌∷◌, ◌++◌, length, codes, ℤ, Result, Ok, Err, inl, inr, refl, sym, ap, subst, arith}
use Rattle.py_tokens.specs.declared.lexeme.Lexeme.TheVariants as lexemes
use Rattle.py_tokens.specs.declared.lexeme.Class.{Class}
use Rattle.py_tokens.specs.declared.lexeme.Class.TheVariants as classes
use Rattle.py_tokens.specs.declared.prefix.Prefix.{Prefix}
use Rattle.py_tokens.specs.declared.prefix.Prefix.TheVariants as prefixes
use Rattle.py_tokens.specs.declared.number.NumberFault.{NumberFault}
use Rattle.py_tokens.specs.declared.number.NumberFault.TheVariants as numbers
use Rattle.py_tokens.specs.declared.operator.Operator.{Operator}
use Rattle.py_tokens.specs.declared.operator.Operator.TheVariants as operators
use Rattle.py_tokens.specs.declared.token.Tok.TheVariants as toks
use Rattle.mpy_base.specs.declared.source.SourceCode.TheVariants as code
use Rattle.py_tokens.specs.LineEnd.{Begins, IsLineByte}
use Rattle.py_tokens.specs.Name.{IsNameStart, IsNamePart}
use Rattle.py_tokens.specs.Number as number
use Rattle.py_tokens.specs.Operator.{IsLongest}
use Rattle.py_tokens.specs.Literal.{IsQuote}
use Rattle.py_tokens.specs.Word.{refused_words}
use Rattle.py_tokens.specs.Lexeme.{IsBlank, IsInLine, Announces, PrefixAnswers, WordAnswers, NameAnswers, Answers, IsFront, fault, token, not_in_profile, number_answer, operator_answer}
use Rattle.py_tokens.proofs.Decided.{Decided, yes, no, either, negated, is_number, has_text}
use Rattle.py_tokens.proofs.Runs.{Splits, Found, run_in_front, run_some, begins}
use Rattle.py_tokens.proofs.Numerals.{name_start, name_part, run_part, begins_run, number}
use Rattle.py_tokens.proofs.Recognized.{some_word, some_prefix, longest_operator}
use Rattle.py_tokens.proofs.Operators.{short}
use Rattle.py_tokens.proofs.Escaped.{line_end}
use Rattle.py_tokens.proofs.Quoted.{quote, printable, line_byte, string}

blank : (byte : ℕ) → Decided (IsBlank byte)
blank byte = either (is_number byte 32) (is_number byte 9)

-- by class
-- ========

blanks : (opt : ℕ) (bytes : List ℕ) → Begins IsBlank bytes → Found (Answers opt classes.Blank bytes) bytes
blanks opt bytes some =
    let r = run_in_front IsBlank blank bytes in
    record { answer = Ok (lexemes.Blank, r.text); is = (r.text, r.is, refl); splits = (r.is.rest, r.is.parts, run_some IsBlank r.text bytes r.is some) }

hash_in_line : (bytes : List ℕ) → Begins (λ byte. byte ≡ 35) bytes → Begins IsInLine bytes
hash_in_line [] h = h
hash_in_line (b ∷ bs) h = λ line. elim line [ inl lf ↦ omega (arith, h, lf) | inr cr ↦ omega (arith, h, cr) ]

comment : (opt : ℕ) (bytes : List ℕ) → Begins (λ byte. byte ≡ 35) bytes → Found (Answers opt classes.Comment bytes) bytes
comment opt bytes some =
    let r = run_in_front IsInLine (λ byte. negated (line_byte byte)) bytes in
    record { answer = Ok (lexemes.Comment, r.text); is = (r.text, r.is, refl); splits = (r.is.rest, r.is.parts, run_some IsInLine r.text bytes r.is (hash_in_line bytes some)) }

line : (opt b : ℕ) (bs : List ℕ) → IsLineByte b → Found (Answers opt classes.LineEnd (b ∷ bs)) (b ∷ bs)
line opt b bs is =
    let e = line_end b bs is in
    record { answer = Ok (lexemes.LineEnd, e.text); is = (e.text, e.rest, e.parts, e.is, refl); splits = (e.rest, e.parts, e.some) }

no_join : (opt : ℕ) (bs : List ℕ) → ¬ Begins IsLineByte bs → Found (Answers opt classes.Backslash (92 ∷ bs)) (92 ∷ bs)
no_join opt bs none = record { answer = fault code.BadToken; is = inr (none, refl); splits = tt }

join : (opt : ℕ) (bs : List ℕ) → Found (Answers opt classes.Backslash (92 ∷ bs)) (92 ∷ bs)
join opt [] = no_join opt [] (λ h. h)
join opt (b ∷ bs) = elim (line_byte b) [
  | yes is ↦ (
      let e = line_end b bs is in
      let parts : 92 ∷ b ∷ bs ≡ 92 ∷ (e.text ++ e.rest) = ap (λ z. 92 ∷ z) e.parts in
      record { answer = Ok (lexemes.Join, 92 ∷ e.text); is = inl (e.text, e.rest, parts, e.is, refl); splits = (e.rest, parts, omega arith) })
  | no other ↦ no_join opt (b ∷ bs) other
]

number_splits : (run rest bytes : List ℕ) (value : Result ℤ NumberFault) → bytes ≡ run ++ rest → 1 ≤ length run → Splits (number_answer run value) bytes
number_splits run rest bytes (Ok n) parts some = (rest, parts, some)
number_splits run rest bytes (Err numbers.BadToken) parts some = tt
number_splits run rest bytes (Err numbers.Float) parts some = tt
number_splits run rest bytes (Err numbers.Complex) parts some = tt
number_splits run rest bytes (Err numbers.TooBig) parts some = tt

begins_part : (bytes : List ℕ) → number.BeginsRun bytes → Begins number.IsRunPart bytes
begins_part [] h = h
begins_part (b ∷ bs) (inl digit) = inl (inr digit)
begins_part (b ∷ bs) (inr dot) = inr dot.0

numeral : (opt : ℕ) (bytes : List ℕ) → number.BeginsRun bytes → Found (Answers opt classes.Number bytes) bytes
numeral opt bytes some =
    let r = run_in_front number.IsRunPart run_part bytes in
    let n = number r.text in
    record {
      answer = number_answer r.text n.value;
      is = (r.text, r.is, n.value, n.says, refl);
      splits = number_splits r.text r.is.rest bytes n.value r.is.parts (run_some number.IsRunPart r.text bytes r.is (begins_part bytes some));
    }

operator_splits : (operator : Operator) (text bytes : List ℕ) → IsLongest operator text bytes → Splits (operator_answer operator text) bytes
operator_splits (operators.Op op) text bytes is = (is.stands.0, is.stands.1, (short (operators.Op op) text is.spells).0)
operator_splits operators.Refused text bytes is = tt

mark : (opt : ℕ) (bytes : List ℕ) → Found (Answers opt classes.Mark bytes) bytes
mark opt bytes = elim (longest_operator bytes) [
  | inl h ↦ record { answer = operator_answer h.0 h.1; is = inl (h.0, h.1, h.2, refl); splits = operator_splits h.0 h.1 bytes h.2 }
  | inr none ↦ record { answer = fault code.BadToken; is = inr (none, refl); splits = tt }
]

quoted : (opt b : ℕ) (bs : List ℕ) → IsQuote b → Found (Answers opt classes.Quote (b ∷ bs)) (b ∷ bs)
quoted opt b bs is = let s = string false [] b bs is in record { answer = s.answer; is = s.is; splits = s.splits }

-- names
-- =====

word : (opt : ℕ) (name rest bytes : List ℕ) → bytes ≡ name ++ rest → 1 ≤ length name → Found (WordAnswers opt name) bytes
word opt name rest bytes parts some = elim (some_word opt name) [
  | yes w ↦ record { answer = token (toks.Word w.0) name; is = inl (w.0, w.1, refl); splits = (rest, parts, some) }
  | no other ↦ elim (has_text refused_words name) [
    | yes out ↦ record { answer = not_in_profile name; is = inr (inl (out, refl)); splits = tt }
    | no plain ↦ record { answer = token (toks.Name name) name; is = inr (inr ((λ w is. other (w, is)), plain, refl)); splits = (rest, parts, some) }
  ]
]

prefixed_string : (prefix : Prefix) (name behind : List ℕ) → Begins IsQuote behind → Found (PrefixAnswers prefix name behind) (name ++ behind)
prefixed_string prefix name [] h = absurd h
prefixed_string prefixes.Plain name (b ∷ bs) h = string false name b bs h
prefixed_string prefixes.Raw name (b ∷ bs) h = string true name b bs h
prefixed_string prefixes.Bytes name (b ∷ bs) h = record { answer = not_in_profile (codes "bytes"); is = refl; splits = tt }
prefixed_string prefixes.Format name (b ∷ bs) h = record { answer = not_in_profile (codes "f-string"); is = refl; splits = tt }

named : (opt : ℕ) (name behind : List ℕ) → 1 ≤ length name → Found (NameAnswers opt name behind) (name ++ behind)
named opt name behind some = elim (some_prefix name) [
  | yes p ↦ elim (begins IsQuote quote behind) [
    | yes h ↦ (let s = prefixed_string p.0 name behind h in record { answer = s.answer; is = inl (p.0, p.1, h, s.is); splits = s.splits })
    | no none ↦ (let w = word opt name behind (name ++ behind) refl some in record { answer = w.answer; is = inr ((λ prefix is. none), w.is); splits = w.splits })
  ]
  | no none ↦ (let w = word opt name behind (name ++ behind) refl some in record { answer = w.answer; is = inr ((λ prefix is. absurd (none (prefix, is))), w.is); splits = w.splits })
]

starts_part : (bytes : List ℕ) → Begins IsNameStart bytes → Begins IsNamePart bytes
starts_part [] h = h
starts_part (b ∷ bs) h = inl h

name_in_front : (opt : ℕ) (bytes : List ℕ) → Begins IsNameStart bytes → Found (Answers opt classes.Name bytes) bytes
name_in_front opt bytes some =
    let r = run_in_front IsNamePart name_part bytes in
    let n = named opt r.text r.is.rest (run_some IsNamePart r.text bytes r.is (starts_part bytes some)) in
    record { answer = n.answer; is = (r.text, r.is, n.is); splits = subst (Splits n.answer) (sym r.is.parts) n.splits }

-- what stands in front
-- ====================

of_class : (opt : ℕ) (class : Class) (bytes : List ℕ) → Announces class bytes → Found (Answers opt class bytes) bytes → Found (IsFront opt bytes) bytes
of_class opt class bytes announces f = record { answer = f.answer; is = (class, announces, f.is); splits = f.splits }

backslash : (opt b : ℕ) (bs : List ℕ) → b ≡ 92 → Found (IsFront opt (b ∷ bs)) (b ∷ bs)
backslash opt b bs is = subst (λ z. Found (IsFront opt (z ∷ bs)) (z ∷ bs)) (sym is) (of_class opt classes.Backslash (92 ∷ bs) refl (join opt bs))

-- a byte that is no part of a token but an operator
others : (opt b : ℕ) (bs : List ℕ) → ¬ IsBlank b → b ≢ 35 → b ≢ 92 → ¬ IsNameStart b → ¬ IsQuote b → ¬ number.BeginsRun (b ∷ bs) → ¬ IsLineByte b → Found (IsFront opt (b ∷ bs)) (b ∷ bs)
others opt b bs blank' hash slash name' quote' run line' = elim (printable b) [
  | yes is ↦ of_class opt classes.Mark (b ∷ bs) ((is, blank', hash, slash, name', quote'), run) (mark opt (b ∷ bs))
  | no bad ↦ of_class opt classes.BadByte (b ∷ bs) (bad, line') (record { answer = fault code.BadByte; is = refl; splits = tt })
]

pub front : (opt b : ℕ) (bs : List ℕ) → Found (IsFront opt (b ∷ bs)) (b ∷ bs)
front opt b bs = elim (blank b) [
  | yes is ↦ of_class opt classes.Blank (b ∷ bs) is (blanks opt (b ∷ bs) is)
  | no blank' ↦ elim (is_number b 35) [
    | yes is ↦ of_class opt classes.Comment (b ∷ bs) is (comment opt (b ∷ bs) is)
    | no hash ↦ elim (is_number b 92) [
      | yes is ↦ backslash opt b bs is
      | no slash ↦ elim (line_byte b) [
        | yes is ↦ of_class opt classes.LineEnd (b ∷ bs) is (line opt b bs is)
        | no line' ↦ elim (name_start b) [
          | yes is ↦ of_class opt classes.Name (b ∷ bs) is (name_in_front opt (b ∷ bs) is)
          | no name' ↦ elim (begins_run (b ∷ bs)) [
            | yes is ↦ of_class opt classes.Number (b ∷ bs) is (numeral opt (b ∷ bs) is)
            | no run ↦ elim (quote b) [
              | yes is ↦ of_class opt classes.Quote (b ∷ bs) is (quoted opt b bs is)
              | no quote' ↦ others opt b bs blank' hash slash name' quote' run line'
            ]
          ]
        ]
      ]
    ]
  ]
]
