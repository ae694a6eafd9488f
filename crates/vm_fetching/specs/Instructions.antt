-- Instructions, each by the family that carries it out.
use Rattle.std.specs.Prelude.{ℕ, ℤ}
use Rattle.frame_moves.specs.arena_heap.declared.value.Value.{Value}
use Rattle.frame_moves.specs.arena_heap.declared.value.StrNo.{StrNo}
use Rattle.vm_fetching.specs.declared.operations.MoveOp.{MoveOp}
use Rattle.vm_fetching.specs.declared.operations.ItemOp.{ItemOp}
use Rattle.vm_fetching.specs.declared.operations.LeaveOp.{LeaveOp}
use Rattle.vm_fetching.specs.declared.operations.LocalOp.{LocalOp}
use Rattle.vm_fetching.specs.declared.operations.BuildOp.{BuildOp}
use Rattle.vm_fetching.specs.declared.operations.MakeOp.{MakeOp}
use Rattle.vm_fetching.specs.declared.operations.CallOp.{CallOp}
use Rattle.vm_fetching.specs.declared.operations.MoveOp.{MoveOp}
use Rattle.vm_fetching.specs.declared.operations.ItemOp.{ItemOp}
use Rattle.vm_fetching.specs.declared.operations.LocalOp.{LocalOp}
use Rattle.vm_fetching.specs.declared.operations.BuildOp.{BuildOp}
use Rattle.vm_fetching.specs.declared.operations.NameOp.{NameOp}
use Rattle.vm_fetching.specs.declared.operations.AttributeOp.{AttributeOp}
use Rattle.vm_fetching.specs.declared.operations.TestOp.{TestOp}
use Rattle.vm_fetching.specs.declared.operations.HandlerOp.{HandlerOp}
use Rattle.vm_fetching.specs.declared.operations.AttributeOp.{AttributeOp}
use Rattle.vm_fetching.specs.declared.operations.TestOp.{TestOp}
use Rattle.vm_fetching.specs.declared.operations.HandlerOp.{HandlerOp}
use Rattle.vm_fetching.specs.declared.instruction.Instruction.{Instruction}
use Rattle.vm_fetching.specs.declared.instruction.Instruction.TheVariants as instructions
use Rattle.vm_fetching.specs.declared.instruction.Action.{Action}
use Rattle.vm_fetching.specs.declared.instruction.Action.TheVariants as actions
use Rattle.vm_fetching.specs.declared.instruction.Step.{Step}
use Rattle.vm_fetching.specs.declared.instruction.Step.TheVariants as steps

-- one without visits
abbrev pub acts : Action → Instruction
acts action = instructions.Acts action

-- one that stays in the running call
abbrev pub stays : Step → Instruction
stays step = acts (actions.Stays step)

-- slots that are moved
abbrev pub move : MoveOp → Instruction
move op = stays (steps.Move op)

-- an integer that is loaded
abbrev pub int : ℤ → Instruction
int z = stays (steps.Int z)

-- a text that is loaded
abbrev pub text : StrNo → Instruction
text s = stays (steps.Text s)

-- an object that is loaded
abbrev pub object : Value → Instruction
object v = stays (steps.Object v)

-- an operation on a local
abbrev pub local : LocalOp → ℕ → Instruction
local op n = stays (steps.Local op n)

-- an operation on an item
abbrev pub item : ItemOp → Instruction
item op = stays (steps.Item op)

-- a collection that is made or taken apart
abbrev pub build : BuildOp → ℕ → Instruction
build op n = stays (steps.Build op n)

-- an operation on a name
abbrev pub name : NameOp → StrNo → Instruction
name op s = stays (steps.Name op s)

-- an operation on an attribute
abbrev pub attribute : AttributeOp → StrNo → Instruction
attribute op s = stays (steps.Attribute op s)

-- an operator over one operand
abbrev pub unary : ℕ → Instruction
unary n = stays (steps.Unary n)

-- a jump
abbrev pub jump : ℕ → Instruction
jump target = stays (steps.Jump target)

-- a jump that tests the top value
abbrev pub test : TestOp → ℕ → Instruction
test op target = stays (steps.Test op target)

-- a handler that is set up or left
abbrev pub handle : HandlerOp → ℕ → Instruction
handle op target = stays (steps.Handle op target)

-- an iterator that is put
abbrev pub iterate : Instruction
iterate = stays steps.Iterate

-- an iterator that goes on
abbrev pub for_iter : ℕ → Instruction
for_iter target = stays (steps.ForIter target)

-- a jump out of entries
abbrev pub unwind : (target byte : ℕ) → Instruction
unwind target byte = stays (steps.Unwind target byte)

-- a return or a raise
abbrev pub leave : LeaveOp → Instruction
leave op = acts (actions.Leaves op)

-- the end of a finally
abbrev pub finish : Instruction
finish = acts actions.Finishes

-- a function that is made
abbrev pub make : MakeOp → ℕ → Instruction
make op n = acts (actions.Makes op n)

-- an import
abbrev pub imports : ℕ → Instruction
imports n = acts (actions.Imports n)

-- an operator over two operands
abbrev pub binary : ℕ → Instruction
binary n = instructions.Binary n

-- a call
abbrev pub call : CallOp → ℕ → Instruction
call op n = instructions.Calls op n
