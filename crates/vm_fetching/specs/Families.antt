-- Instructions by what carries them out: those that have no operand, those that name a text, and those that have an offset.
use Rattle.std.specs.Prelude.{◌≡◌, ℕ}
use Rattle.frame_moves.specs.bc_ops.declared.instr.Op.{Op}
use Rattle.frame_moves.specs.bc_ops.declared.instr.Op.TheVariants as ops
use Rattle.frame_moves.specs.arena_heap.declared.value.StrNo.TheVariants as strs
use Rattle.vm_fetching.specs.declared.instruction.Action.{Action}
use Rattle.vm_fetching.specs.declared.instruction.Action.TheVariants as actions
use Rattle.vm_fetching.specs.declared.instruction.Step.{Step}
use Rattle.vm_fetching.specs.declared.instruction.Step.TheVariants as steps
use Rattle.vm_fetching.specs.Operations.{move_op, item_op, leave_op, name_op, attribute_op, test_op, handler_op}

-- it is the operation, which has no operand
abbrev pub IsWhole : Op → Action → Type 0
IsWhole op (actions.Stays (steps.Move o)) = move_op o ≡ op
IsWhole op (actions.Stays (steps.Item o)) = item_op o ≡ op
IsWhole op (actions.Stays steps.Iterate) = ops.GetIterStack ≡ op
IsWhole op (actions.Leaves o) = leave_op o ≡ op
IsWhole op actions.Finishes = ops.EndFinally ≡ op
IsWhole op _ = ⊥

-- it is the operation, which names the text that has the number in the pool
abbrev pub IsNamed : Op → (text : ℕ) → Action → Type 0
IsNamed op text (actions.Stays (steps.Text s)) = (ops.LoadConstString ≡ op) × (s ≡ strs.Pool text)
IsNamed op text (actions.Stays (steps.Name o s)) = (name_op o ≡ op) × (s ≡ strs.Pool text)
IsNamed op text (actions.Stays (steps.Attribute o s)) = (attribute_op o ≡ op) × (s ≡ strs.Pool text)
IsNamed op text (actions.Imports n) = (ops.ImportName ≡ op) × (n ≡ text)
IsNamed op text _ = ⊥

-- it is the operation, with the target
abbrev pub IsJumping : Op → (target : ℕ) → Step → Type 0
IsJumping op target (steps.Jump t) = (ops.Jump ≡ op) × (t ≡ target)
IsJumping op target (steps.Test o t) = (test_op o ≡ op) × (t ≡ target)
IsJumping op target (steps.Handle o t) = (handler_op o ≡ op) × (t ≡ target)
IsJumping op target (steps.ForIter t) = (ops.ForIter ≡ op) × (t ≡ target)
IsJumping op target _ = ⊥
