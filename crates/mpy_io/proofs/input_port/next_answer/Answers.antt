use Rattle.std.proofs.Common.{rules, arith, ◌∙◌, length-set}
use Rattle.mpy_io.proofs.Lines.{took_more}
use Rattle.mpy_io.proofs.input_port.next_answer.Goals as goal

pub loop-len-preserved : goal.loop-len-preserved
loop-len-preserved g c = (
  length-set c.loop-len.line c.loop-len.len c.in-Some.byte ∙ c.loop-len.invariant.0,
  took_more _ _ _ c.loop-len.line c.loop-len.len c.in-Some.byte (omega arith) c.loop-len.invariant.1 (search rules),
)
