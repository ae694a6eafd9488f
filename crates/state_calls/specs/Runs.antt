-- Calls that run a program of a library of files over an arena, at an instruction that was fetched.
use Rattle.std.specs.Prelude.{◌≡◌, ℕ, ◌≤◌, Some, Result}
use Rattle.vm_states.specs.mpy_base.World.{Heap}
use Rattle.frame_calls.specs.arena_heap.declared.value.Value.{Value}
use Rattle.vm_states.specs.bc_library.Shelf.{Shelf}
use Rattle.frame_calls.specs.bc_machine.Library.{Name, Code, code_at}
use Rattle.vm_states.specs.bc_rows.declared.row.Row.{Row}
use Rattle.vm_states.specs.bc_rows.Rows.{IsRow}
use Rattle.frame_calls.specs.prim_faults.declared.stop.Stop.{Stop}
use Rattle.vm_states.specs.vm_frames.Calls.{Call, Calls}
use Rattle.vm_states.specs.vm_fetching.declared.instruction.Fetched.{Fetched}
use Rattle.vm_states.specs.Means.{Program, Means}
use Rattle.vm_states.specs.Ready.{IsFetched, IsReady}
use Rattle.vm_states.specs.State.{IsState}
use Rattle.vm_states.specs.Acting.{Acts}

-- this was fetched at the offset of the call, from the row of its code
pub record IsFetchedAt (shelf : Shelf) (fetched : Fetched) (c : Call) : Type 0 where
  pub row : Row
  pub is_row : IsRow shelf c.module_number c.code row
  pub is_fetched : IsFetched shelf c.module_number row c.at fetched

-- the calls run a program of the library over the arena, and this was fetched for the first of them
pub record RunsIn (shelf : Shelf) (heap : Heap Value ℕ) (s : Calls) (fetched : Fetched) : Type 0 where
  pub program : Program
  pub row : Row
  pub means : Means program
  pub shelf_is : program.shelf ≡ shelf
  pub state : IsState program heap.objects s
  pub ready : IsReady program s row fetched

-- the calls run a program of the library over the arena, no code of which has more slots than there is room for, and this was fetched for
-- the first of them
pub record RunsWithin (room : ℕ) (shelf : Shelf) (heap : Heap Value ℕ) (s : Calls) (fetched : Fetched) : Type 0 where
  pub runs : RunsIn shelf heap s fetched
  pub roomy : (name : Name) (number : ℕ) (code : Code) → code_at runs.program.library name number ≡ Some code → (runs.program.plans name number).n_state ≤ room

-- in each program of the library that the old calls run, where this was fetched for the first of them, the instruction acts so
abbrev pub ActsIn : Shelf → Fetched → (visits : ℕ) → (before behind : Heap Value ℕ) → (old new : Calls) → Result (Unit {0}) Stop → Type 0
ActsIn shelf fetched visits before behind old new result =
    (p : Program) (row : Row) → Means p → p.shelf ≡ shelf → IsState p before.objects old → (ready : IsReady p old row fetched)
    → Acts p ready.place visits before behind old new result

-- the old calls run a program of the library, and the new ones run it again
abbrev pub RunsAgain : Shelf → Fetched → (before behind : Heap Value ℕ) → (old new : Calls) → Type 0
RunsAgain shelf fetched before behind old new =
    (p : Program) (row : Row) → Means p → p.shelf ≡ shelf → IsState p before.objects old → IsReady p old row fetched → IsState p behind.objects new
