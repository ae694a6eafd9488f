-- What an instruction comes to that was fetched for the first of the calls of a program, over an arena.
use Rattle.std.specs.Prelude.{◌≡◌, ℕ, suc, ◌<◌, ◌≤◌, List, Option, Result}
use Rattle.frame_exits.specs.mpy_base.World.{Heap, Later}
use Rattle.frame_exits.specs.mpy_base.Val.{PlainWorld}
use Rattle.frame_exits.specs.arena_heap.declared.value.Value.{Value}
use Rattle.frame_exits.specs.arena_heap.declared.value.StrNo.{StrNo}
use Rattle.frame_exits.specs.arena_heap.declared.value.ConstNo.{ConstNo}
use Rattle.frame_exits.specs.prim_faults.declared.stop.Stop.{Stop}
use Rattle.bc_progress.specs.py_effects.Effect.{Place}
use Rattle.bc_progress.specs.bc_machine.State.{State}
use Rattle.bc_progress.specs.bc_machine.Step.{step}
use Rattle.vm_fetching.specs.bc_rows.declared.row.Row.{Row}
use Rattle.frame_exits.specs.vm_frames.Calls.{Calls}
use Rattle.vm_fetching.specs.frame_moves.Shown.{running_of}
use Rattle.vm_fetching.specs.frame_moves.Outcomes.{world_of, outcome_of}
use Rattle.frame_values.specs.Effects.{IsKnownStop}
use Rattle.vm_fetching.specs.declared.instruction.Fetched.{Fetched}
use Rattle.vm_states.specs.Means.{Program, Means}
use Rattle.vm_states.specs.Ready.{IsReady}
use Rattle.vm_states.specs.State.{IsState}

-- the program's texts and constant tuples are these
pub record Tells (texts : StrNo → Option (List ℕ)) (tuples : ConstNo → Option (List Value)) (p : Program) : Type 0 where
  pub texts_are : p.tables.texts ≡ texts
  pub tuples_are : p.tables.tuples ≡ tuples

-- the calls run a program with these texts and tuples over the arena, and this was fetched for the first of them
pub record RunsOver (texts : StrNo → Option (List ℕ)) (tuples : ConstNo
    → Option (List Value)) (heap : Heap Value ℕ) (s : Calls) (fetched : Fetched) : Type 0 where
  pub program : Program
  pub row : Row
  pub means : Means program
  pub tells : Tells texts tuples program
  pub state : IsState program heap.objects s
  pub ready : IsReady program s row fetched

module _ (p : Program) where
  -- the machine's step of the calls in the world with this heap, where `paid` steps are paid on the running instruction
  abbrev pub stepped : (paid : ℕ) → (s : Calls) → PlainWorld → Heap Value ℕ → State
  stepped paid s w heap = step p.library (running_of p.tables paid s.calls (world_of p.tables w heap))

  -- The machine pays a step for each visit, and then comes from the heap before and the old calls to the heap behind and the
  -- new calls, or to a stop at the place, in each world. The new calls are a state of the program again
  pub record Acts (place : Place) (visits : ℕ) (before behind : Heap Value ℕ) (old new : Calls) (result : Result (Unit {0}) Stop) : Type 0 where
    pub pays : (paid : ℕ) (w : PlainWorld) → paid < visits → stepped paid old w before ≡ running_of p.tables (suc paid) old.calls (world_of p.tables w before)
    pub steps : (paid : ℕ) (w : PlainWorld) → visits ≤ paid → stepped paid old w before ≡ outcome_of p.tables place w behind old.calls new.calls result
    pub state : IsState p behind.objects new
    pub later : Later before.objects behind.objects
    pub stop : IsKnownStop p.tables.texts p.tables.tuples behind.objects result

-- so it is in each program with these texts and tuples that the old calls run, where this was fetched for the first of them
abbrev pub ActsBehind : (texts : StrNo → Option (List ℕ)) → (tuples : ConstNo → Option (List Value)) → Fetched → (visits : ℕ)
    → (before behind : Heap Value ℕ) → (old new : Calls) → Result (Unit {0}) Stop → Type 0
ActsBehind texts tuples fetched visits before behind old new result =
    (p : Program) (row : Row) → Means p → Tells texts tuples p → IsState p before.objects old → (ready : IsReady p old row fetched)
    → Acts p ready.place visits before behind old new result
