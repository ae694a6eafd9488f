use Rattle.std.proofs.Common.{◌≡◌, true, false, take, drop, All, sym, ◌∙◌, subst, arith}
use Rattle.py_tokens.specs.declared.prefix.Prefix.{Prefix}
use Rattle.py_tokens.specs.LineEnd.{Begins}
use Rattle.py_tokens.specs.Literal.{IsQuote}
use Rattle.py_tokens.specs.Lexeme.{Finds, WordAnswers}
use Rattle.py_tokens.specs.Name.{IsNamePart}
use Rattle.py_tokens.specs.Prefix.{IsPrefix}
use Rattle.py_tokens.proofs.Lexemes.{some_name, name_parts, no_prefix, prefixed_name, plain_name}
use Rattle.py_tokens.proofs.lexeme.name_at.Goals.{in_default-via-in-Some+else-begins_quote, in_default-via-in_default}
use Rattle.py_tokens.proofs.lexeme.name_at.Goals as goal

pub word_at-requires-clause-some : goal.word_at-requires-clause-some
word_at-requires-clause-some c =
    let some = some_name c.args.bytes.now c.name_len-len.result c.requires.begins c.name_len-len.ensures.longest in
    omega (arith, some, c.split_at.ensures.front_len)

pub returns-in-Some : goal.returns-in-Some
returns-in-Some c =
    let bytes = c.args.bytes.now in
    let len = c.name_len-len.result in
    let some = some_name bytes len c.requires.begins c.name_len-len.ensures.longest in
    let all : All IsNamePart (take len bytes) = name_parts (take len bytes) (c.name_len-len.ensures.name some) in
    let is : IsPrefix c.in-Some.prefix (take len bytes) = subst (IsPrefix c.in-Some.prefix) c.split_at.ensures.front c.in-Some.ensures in
    let quote : Begins IsQuote (drop len bytes) = subst (Begins IsQuote) c.split_at.ensures.back (c.begins_quote.ensures.0 c.if-begins_quote.true) in
    prefixed_name c.args.opt bytes len c.in-Some.prefix c.prefixed_at.result all (c.name_len-len.ensures.ends some) is quote c.prefixed_at.ensures

pub returns-in_default : goal.returns-in_default
returns-in_default c =
    let bytes = c.args.bytes.now in
    let len = c.name_len-len.result in
    let some = some_name bytes len c.requires.begins c.name_len-len.ensures.longest in
    let all : All IsNamePart (take len bytes) = name_parts (take len bytes) (c.name_len-len.ensures.name some) in
    let found : Finds (WordAnswers c.args.opt (take len bytes)) (take len bytes) c.word_at.result = subst (λ z. Finds (WordAnswers c.args.opt z) z c.word_at.result) c.split_at.ensures.front c.word_at.ensures in
    let none : (prefix : Prefix) → IsPrefix prefix (take len bytes) → Begins IsQuote (drop len bytes) → ⊥ = λ prefix is quote.
    elim c.in_default.branch [
      | in_default-via-in-Some+else-begins_quote w ↦ (
          let found : Begins IsQuote c.split_at.result.1.now = subst (Begins IsQuote) (sym c.split_at.ensures.back) quote in
          let none : false ≡ true = sym w.if-begins_quote.false ∙ w.begins_quote.ensures.1 found in
          absurd cc)
      | in_default-via-in_default w ↦ no_prefix c.prefix_of.result c.split_at.result.0.now c.prefix_of.ensures w.in_default.not-Some prefix (subst (IsPrefix prefix) (sym c.split_at.ensures.front) is)
    ] in
    plain_name c.args.opt bytes len c.word_at.result c.name_len-len.ensures.within all (c.name_len-len.ensures.ends some) none found
