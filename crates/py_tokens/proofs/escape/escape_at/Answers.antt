use Rattle.std.proofs.Common.{refl}
use Rattle.py_tokens.specs.declared.escape.Mark.TheVariants as marks
use Rattle.py_tokens.specs.declared.escape.StringFaultKind.TheVariants.{BadToken}
use Rattle.py_tokens.proofs.Escapes.{behind_is, escape_of, stands_escape, code_says, fails_escape}
use Rattle.py_tokens.proofs.escape.escape_at.Goals as goal

pub returns-in-StandsFor : goal.returns-in-StandsFor
returns-in-StandsFor c =
    stands_escape c.args.bytes.now _ c.in-StandsFor.byte (behind_is c.args.bytes.now) c.requires c.in-StandsFor.ensures

pub returns-in-LineEnd : goal.returns-in-LineEnd
returns-in-LineEnd c =
    escape_of c.args.bytes.now _ c.line_end_len.result _ marks.LineEnd (behind_is c.args.bytes.now) c.requires c.in-LineEnd.ensures c.line_end_len.ensures.within (c.line_end_len.ensures.line_end, refl)

pub returns-in-Octal : goal.returns-in-Octal
returns-in-Octal c =
    code_says marks.Octal c.args.bytes.now _ c.octal-len.result.0 c.octal-len.result.1 c.character.result (λ text rest given is. is) (λ is. is) (behind_is c.args.bytes.now) c.requires c.in-Octal.ensures c.octal-len.ensures.within c.octal-len.ensures.code c.character.ensures

pub returns-in-Some : goal.returns-in-Some
returns-in-Some c =
    code_says marks.Hexadecimal c.args.bytes.now _ 3 c.in-Some.value c.character-in-Some.result (λ text rest given is. is) (λ is. is) (behind_is c.args.bytes.now) c.requires c.in-Hexadecimal.ensures c.in-Some.ensures.0 c.in-Some.ensures.1 c.character-in-Some.ensures

pub returns-in-None : goal.returns-in-None
returns-in-None c =
    fails_escape c.args.bytes.now _ marks.Hexadecimal BadToken (behind_is c.args.bytes.now) c.requires c.in-Hexadecimal.ensures c.in-None.ensures
