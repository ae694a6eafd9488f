use Rattle.std.proofs.Common.{◌≡◌, Err, ap}
use Rattle.std.proofs.lemmas.Result.{err_from_is_err_and}
use Rattle.mpy_base.specs.declared.refused.Refused.TheVariants as refused
use Rattle.board_plan.specs.Lines.{lines_of}
use Rattle.board_plan.proofs.Read.{broken}
use Rattle.board_plan.proofs.reading.read_plan.Goals as goal

pub returns-in_err-add_line-clause-fault : goal.returns-in_err-add_line-clause-fault
returns-in_err-add_line-clause-fault c fault e =
    let p = err_from_is_err_and c.from_residual.result c.from_residual.ensures.1 in
    let its : c.in_err-add_line.field-0.0 ≡ refused.Fault fault = cc (p.1, p.2) in
    broken (lines_of c.args.text.now) (lines_of c.more.rest.now) (lines_of c.next_line.result.1.now) c.next_line.result.0.now c.more.number c.more.plan fault
    c.more.invariant.0 c.next_line.ensures.lines (c.in_err-add_line.ensures.fault fault (ap (λ z. Err z) its))
