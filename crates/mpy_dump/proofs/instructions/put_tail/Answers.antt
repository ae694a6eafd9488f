use Rattle.std.proofs.Common.{◌++◌, codes}
use Rattle.mpy_dump.specs.Instructions.{operand_text}
use Rattle.mpy_dump.proofs.Putting.{begin, step, stop, last, puts_is}
use Rattle.mpy_dump.proofs.instructions.put_tail.Goals as goal

pub returns-in_err-put : goal.returns-in_err-put
returns-in_err-put g c =
    let operand = operand_text c.args.module.now c.args.end c.args.instr in
    stop (operand ++ codes "\n") c.from_residual.result c.from_residual.ensures.0 (begin _ _ _ _) (puts_is c.instr_name.ensures c.in_err-put.ensures)

pub returns-in_err-put_operand : goal.returns-in_err-put_operand
returns-in_err-put_operand g c =
    let operand = operand_text c.args.module.now c.args.end c.args.instr in
    stop (codes "\n") c.from_residual-in_err-put_operand.result c.from_residual-in_err-put_operand.ensures.0
    (step (operand ++ codes "\n") (begin _ _ _ _) (puts_is c.instr_name.ensures c.in_ok-put.ensures)) c.in_err-put_operand.ensures

pub returns : goal.returns
returns g c =
    let operand = operand_text c.args.module.now c.args.end c.args.instr in
    last c.put-2.result (step (codes "\n") (step (operand ++ codes "\n") (begin _ _ _ _) (puts_is c.instr_name.ensures c.in_ok-put.ensures)) c.in_ok-put_operand.ensures) c.put-2.ensures
