-- Instructions with a number: an object of the module's table, or the operation with its number.
use Rattle.std.specs.Prelude.{◌≡◌, ℕ, Some}
use Rattle.frame_moves.specs.bc_ops.declared.instr.Op.{Op}
use Rattle.frame_moves.specs.bc_ops.declared.instr.Op.TheVariants as ops
use Rattle.frame_moves.specs.arena_heap.declared.value.Value.{Value}
use Rattle.bc_rows.specs.bc_library.Constants.{object_value}
use Rattle.bc_rows.specs.bc_library.Shelf.{Shelf}
use Rattle.vm_fetching.specs.declared.operations.LocalOp.{LocalOp}
use Rattle.vm_fetching.specs.declared.operations.BuildOp.{BuildOp}
use Rattle.vm_fetching.specs.declared.operations.MakeOp.{MakeOp}
use Rattle.vm_fetching.specs.declared.operations.CallOp.{CallOp}
use Rattle.vm_fetching.specs.declared.instruction.Instruction.{Instruction}
use Rattle.vm_fetching.specs.Instructions as fetched
use Rattle.vm_fetching.specs.Operations.{local_op, build_op, make_op, call_op}

-- what an operation with the number `n` is, in a code of the module `i`
pub data IsNumbered (shelf : Shelf) (i n : ℕ) : Op → Instruction → Type 0 where
  local : (o : LocalOp) → IsNumbered shelf i n (local_op o) (fetched.local o n)
  build : (o : BuildOp) → IsNumbered shelf i n (build_op o) (fetched.build o n)
  make : (o : MakeOp) → IsNumbered shelf i n (make_op o) (fetched.make o n)
  call : (o : CallOp) → IsNumbered shelf i n (call_op o) (fetched.call o n)
  object : (v : Value) → object_value shelf i n ≡ Some v → IsNumbered shelf i n ops.LoadConstObj (fetched.object v)
