-- The visits of an instruction that is no call.
use Rattle.std.specs.Prelude.{ℕ, List, Option}
use Rattle.state_calls.specs.mpy_base.World.{Heap}
use Rattle.state_calls.specs.arena_heap.declared.value.Value.{Value}
use Rattle.state_calls.specs.arena_heap.declared.value.StrNo.{StrNo}
use Rattle.state_calls.specs.arena_heap.declared.value.ConstNo.{ConstNo}
use Rattle.state_values.specs.vm_frames.Calls.{Call}
use Rattle.state_calls.specs.vm_fetching.declared.instruction.Instruction.{Instruction}
use Rattle.state_calls.specs.vm_fetching.declared.instruction.Instruction.TheVariants as instructions
use Rattle.state_values.specs.Operators.{visits_binary}

-- those of an operator with two operands over the heap, and no others
abbrev pub value_visits : (StrNo → Option (List ℕ)) → (ConstNo → Option (List Value)) → Heap Value ℕ → List Call → Instruction → ℕ
value_visits texts tuples heap calls (instructions.Binary number) = visits_binary texts tuples heap calls number
value_visits texts tuples heap calls _ = 0
