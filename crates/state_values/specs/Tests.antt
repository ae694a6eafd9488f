-- Jumps that test the top value.
use Rattle.std.specs.Prelude.{ℕ, Bool, not, drop, if◌then◌else◌}
use Rattle.vm_states.specs.vm_frames.Calls.{Call}
use Rattle.vm_states.specs.frame_moves.Stacks.{gone}
use Rattle.vm_states.specs.vm_fetching.declared.operations.TestOp.{TestOp}
use Rattle.vm_states.specs.vm_fetching.declared.operations.TestOp.TheVariants as test_ops

-- the running call behind it, where the top value has this truth
abbrev pub tested : TestOp → (truth : Bool) → (target end : ℕ) → Call → Call
tested test_ops.PopJumpIfTrue truth target end c = gone (if truth then target else end) (drop 1 c.slots) c
tested test_ops.PopJumpIfFalse truth target end c = gone (if truth then end else target) (drop 1 c.slots) c
tested test_ops.JumpIfTrueOrPop truth target end c = if truth then gone target c.slots c else gone end (drop 1 c.slots) c
tested test_ops.JumpIfFalseOrPop truth target end c = if not truth then gone target c.slots c else gone end (drop 1 c.slots) c
