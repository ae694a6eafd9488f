use Rattle.std.proofs.Common.{◌∙◌, arith, rules}
use Rattle.bc_ops.proofs.Integers.{grown}
use Rattle.bc_ops.proofs.signed.write_groups.Goals as goal

pub loop-left-preserved : goal.loop-left-preserved
loop-left-preserved c = record {
  last = omega arith;
  room = omega arith;
  size = search rules;
  written = grown c.loop-left.left c.loop-left.first c.loop-left.above c.loop-left.groups (omega arith) (omega arith) (omega arith) ∙ c.loop-left.invariant.written;
}
