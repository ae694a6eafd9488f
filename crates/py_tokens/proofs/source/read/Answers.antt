use Rattle.std.proofs.Common.{sym, subst, Ok, Err, arith}
use Rattle.std.proofs.lemmas.Result.{err_from_is_err_and}
use Rattle.mpy_base.specs.declared.refused.Refused.{Refused}
use Rattle.py_tokens.specs.declared.lexeme.LexemeFault.{LexemeFault}
use Rattle.py_tokens.specs.Lexeme.{IsFront, Finds}
use Rattle.py_tokens.proofs.Sources.{read_start, read_more, read_fault, says_refused, cut}
use Rattle.py_tokens.proofs.Spans.{front_free}
use Rattle.py_tokens.proofs.source.read.Goals as goal

pub returns-in_err-add-in-Ok : goal.returns-in_err-add-in-Ok
returns-in_err-add-in-Ok c =
    let p = err_from_is_err_and c.from_residual-in_err-add-in-Ok.result c.from_residual-in_err-add-in-Ok.ensures.1 in
    let rest = c.loop-rest.rest.now in
    let text = c.split_at.result.0.now in
    let front = subst (λ z. IsFront c.args.opt rest (Ok (c.in-Ok.lexeme, z))) (sym c.split_at.ensures.front) c.in-Ok.ensures.2 in
    rw (p.1, p.2) (says_refused c.args.opt c.args.source.now c.loop-rest.lines c.add.new.self rest c.split_at.result.1.now c.in-Ok.lexeme text c.in_err-add-in-Ok.field-0.0 c.loop-rest.invariant.read front (cut rest text c.split_at.result.1.now c.in-Ok.len c.split_at.ensures.front c.split_at.ensures.back) c.in_err-add-in-Ok.ensures.adds)

pub add-requires-clause-plain : goal.add-requires-clause-plain
add-requires-clause-plain c =
    front_free c.args.opt c.loop-rest.rest.now c.in-Ok.lexeme c.split_at.result.0.now (subst (λ z. IsFront c.args.opt c.loop-rest.rest.now (Ok (c.in-Ok.lexeme, z))) (sym c.split_at.ensures.front) c.in-Ok.ensures.2)

pub loop-rest-preserved : goal.loop-rest-preserved
loop-rest-preserved c =
    let rest = c.loop-rest.rest.now in
    let text = c.split_at.result.0.now in
    let front = subst (λ z. IsFront c.args.opt rest (Ok (c.in-Ok.lexeme, z))) (sym c.split_at.ensures.front) c.in-Ok.ensures.2 in
    let done = c.in_ok-add-in-Ok.ensures in
    record {
      place = omega (arith, done.at, c.split_at.ensures.front_len, c.split_at.ensures.back_len, c.loop-rest.invariant.place);
      read = read_more c.args.opt c.args.source.now c.loop-rest.lines c.add.new.self rest c.split_at.result.1.now c.in-Ok.lexeme text c.loop-rest.invariant.read front (cut rest text c.split_at.result.1.now c.in-Ok.len c.split_at.ensures.front c.split_at.ensures.back) done.adds done.at done.line;
    }

pub loop-rest-init : goal.loop-rest-init
loop-rest-init c =
    let start = c.in_ok-lines.ensures.place in
    record {
      place = omega (arith, start.0);
      read = read_start c.args.opt c.args.source.now c.in_ok-lines.lines start.0 start.1 c.in_ok-lines.ensures.whole;
    }

pub returns-in-Err-Fault : goal.returns-in-Err-Fault
returns-in-Err-Fault c =
    let met = subst (λ (r : Refused LexemeFault). Finds (IsFront c.args.opt c.loop-rest.rest.now) c.loop-rest.rest.now (Err r)) c.in-Err-Fault.field-0-is c.in-Err-Fault.ensures in
    let made = rw c.in-Err-Fault.field-0-is at c.placed-fault.ensures in
    read_fault c.args.opt c.args.source.now c.loop-rest.lines c.loop-rest.rest.now c.in-Err-Fault.fault c.placed-fault.result c.fault.result c.loop-rest.invariant.read met.1 made c.fault.ensures
