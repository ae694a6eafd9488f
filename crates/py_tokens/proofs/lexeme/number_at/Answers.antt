use Rattle.std.proofs.Common.{List, ℕ, ℤ, rules, [], take, codes, Ok, Err, refl, ap, ◌∙◌, subst, arith}
use Rattle.mpy_base.specs.declared.source.SourceCode.TheVariants as code
use Rattle.std.proofs.lemmas.Int.{to_z-of_z}
use mir.Val.{SFits}
use mir.Syntax.{w32}
use Rattle.py_tokens.specs.declared.lexeme.Lexeme.{Lexeme}
use Rattle.py_tokens.specs.declared.lexeme.Lexeme.TheVariants as lexemes
use Rattle.py_tokens.specs.declared.token.Tok.TheVariants as toks
use Rattle.py_tokens.specs.declared.lexeme.Class.TheVariants as classes
use Rattle.py_tokens.specs.declared.number.NumberFault.{NumberFault}
use Rattle.py_tokens.specs.declared.number.NumberFault.TheVariants as numbers
use Rattle.py_tokens.specs.Number.{Says}
use Rattle.py_tokens.specs.Lexeme.{Answer, Answers}
use Rattle.py_tokens.proofs.Lexemes.{some_run, number_found, refusal_finds}
use Rattle.py_tokens.proofs.lexeme.number_at.Goals as goal

abbrev int_of : ℤ → Lexeme
int_of n = lexemes.Token (toks.Int n)

abbrev lexeme_answer : Lexeme → List ℕ → Answer
lexeme_answer lexeme text = Ok (lexeme, text)

pub returns-in-Ok : goal.returns-in-Ok
returns-in-Ok c opt =
    let bytes = c.args.bytes.now in
    let len = c.number_len-len.result in
    let some = some_run bytes len c.requires c.number_len-len.ensures.longest in
    let in_range : SFits w32 c.in-Ok.number = search rules in
    let fits = to_z-of_z w32 c.in-Ok.number in_range in
    (some, c.number_len-len.ensures.within, number_found bytes len c.split_at.result.0.now (Ok c.in-Ok.number) (Ok (c.int_lexeme.result, take len bytes)) opt c.split_at.ensures.front (c.number_len-len.ensures.run some).1 (c.number_len-len.ensures.ends some) c.in-Ok.ensures (ap (λ (l : Lexeme). lexeme_answer l (take len bytes)) (c.int_lexeme.ensures ∙ ap int_of fits)))

pub returns-in-Err-BadToken : goal.returns-in-Err-BadToken
returns-in-Err-BadToken c opt =
    let bytes = c.args.bytes.now in
    let len = c.number_len-len.result in
    let some = some_run bytes len c.requires c.number_len-len.ensures.longest in
    refusal_finds (Answers opt classes.Number bytes) bytes code.BadToken 0 [] c.refusal.result (omega arith) c.refusal.ensures
    (number_found bytes len c.split_at.result.0.now (Err numbers.BadToken) (Err (record { code = code.BadToken; at = 0; word = [] })) opt c.split_at.ensures.front (c.number_len-len.ensures.run some).1 (c.number_len-len.ensures.ends some) (subst (λ (f : NumberFault). Says c.split_at.result.0.now (Err f)) c.in-Err-BadToken.field-0-is c.in-Err-BadToken.ensures) refl)

pub returns-in-Err-Float : goal.returns-in-Err-Float
returns-in-Err-Float c opt =
    let bytes = c.args.bytes.now in
    let len = c.number_len-len.result in
    let some = some_run bytes len c.requires c.number_len-len.ensures.longest in
    refusal_finds (Answers opt classes.Number bytes) bytes code.NotInProfile 0 (codes "float") c.outside.result (omega arith) c.outside.ensures
    (number_found bytes len c.split_at.result.0.now (Err numbers.Float) (Err (record { code = code.NotInProfile; at = 0; word = (codes "float") })) opt c.split_at.ensures.front (c.number_len-len.ensures.run some).1 (c.number_len-len.ensures.ends some) (subst (λ (f : NumberFault). Says c.split_at.result.0.now (Err f)) c.in-Err-Float.field-0-is c.in-Err-Float.ensures) refl)

pub returns-in-Err-Complex : goal.returns-in-Err-Complex
returns-in-Err-Complex c opt =
    let bytes = c.args.bytes.now in
    let len = c.number_len-len.result in
    let some = some_run bytes len c.requires c.number_len-len.ensures.longest in
    refusal_finds (Answers opt classes.Number bytes) bytes code.NotInProfile 0 (codes "complex") c.outside-in-Err-Complex.result (omega arith) c.outside-in-Err-Complex.ensures
    (number_found bytes len c.split_at.result.0.now (Err numbers.Complex) (Err (record { code = code.NotInProfile; at = 0; word = (codes "complex") })) opt c.split_at.ensures.front (c.number_len-len.ensures.run some).1 (c.number_len-len.ensures.ends some) (subst (λ (f : NumberFault). Says c.split_at.result.0.now (Err f)) c.in-Err-Complex.field-0-is c.in-Err-Complex.ensures) refl)

pub returns-in-Err-TooBig : goal.returns-in-Err-TooBig
returns-in-Err-TooBig c opt =
    let bytes = c.args.bytes.now in
    let len = c.number_len-len.result in
    let some = some_run bytes len c.requires c.number_len-len.ensures.longest in
    refusal_finds (Answers opt classes.Number bytes) bytes code.TooBigNumber 0 [] c.refusal-in-Err-TooBig.result (omega arith) c.refusal-in-Err-TooBig.ensures
    (number_found bytes len c.split_at.result.0.now (Err numbers.TooBig) (Err (record { code = code.TooBigNumber; at = 0; word = [] })) opt c.split_at.ensures.front (c.number_len-len.ensures.run some).1 (c.number_len-len.ensures.ends some) (subst (λ (f : NumberFault). Says c.split_at.result.0.now (Err f)) c.in-Err-TooBig.field-0-is c.in-Err-TooBig.ensures) refl)
