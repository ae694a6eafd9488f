use Rattle.vm_fetching.proofs.Operating.{not_jump}
use Rattle.vm_fetching.proofs.operations.jumping.Goals as goal

pub unreachable-requires : goal.unreachable-requires
unreachable-requires c = not_jump c.args.op c.in_default.not-Jump c.in_default.not-PopJumpIfTrue c.in_default.not-PopJumpIfFalse c.in_default.not-JumpIfTrueOrPop c.in_default.not-JumpIfFalseOrPop c.in_default.not-SetupExcept c.in_default.not-SetupFinally c.in_default.not-PopExceptJump c.in_default.not-ForIter c.requires
