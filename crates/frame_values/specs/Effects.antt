-- What an instruction does that may raise, where the texts and tuples of constants are given.
use Rattle.std.specs.Prelude.{ℕ, List, Option, Result, Ok, Err}
use Rattle.frame_moves.specs.mpy_base.World.{Heap, Objects, Later}
use Rattle.prim_names.specs.arena_heap.declared.value.Value.{Value}
use Rattle.prim_names.specs.arena_heap.declared.value.StrNo.{StrNo}
use Rattle.prim_names.specs.arena_heap.declared.value.ConstNo.{ConstNo}
use Rattle.prim_names.specs.arena_objects.Keys.{AllTold}
use Rattle.prim_names.specs.prim_faults.declared.stop.Stop.{Stop}
use Rattle.prim_names.specs.prim_faults.Outcomes.{IsKnownAnswer}
use Rattle.frame_moves.specs.vm_frames.Calls.{Call}
use Rattle.frame_moves.specs.bc_machine.Library.{Name, Item}
use Rattle.frame_moves.specs.Shown.{Tables, IsAt, IsNext}
use Rattle.frame_moves.specs.Outcomes.{Does}

-- the names of modules, and the offsets that the instructions of a code of a module start at
pub record Layout : Type 0 where
  pub module_name : ℕ → Name
  pub starts : ℕ → ℕ → List ℕ

module _ (texts : StrNo → Option (List ℕ)) (tuples : ConstNo → Option (List Value)) where
  -- the tables that a step is told, by the layout
  abbrev pub tables_of : Layout → Tables
  tables_of layout = record { texts = texts; tuples = tuples; module_name = layout.module_name; starts = layout.starts }

  -- the machine's instruction does this, wherever instructions start, where the offset is that of the next one
  abbrev pub Steps : Item → (visits end : ℕ) → (before behind : Heap Value ℕ) → (old new : List Call) → Result (Unit {0}) Stop → Type 0
  Steps item visits end before behind old new result =
      (layout : Layout) → IsNext (tables_of layout) end old → Does (tables_of layout) item visits before behind old new result

  -- the machine's instruction that may jump to a target, which is an offset, does this, wherever instructions start, where the other offset
  -- is that of the next one
  abbrev pub JumpSteps : (ℕ → Item) → (target end : ℕ) → (before behind : Heap Value ℕ) → (old new : List Call) → Result (Unit {0}) Stop → Type 0
  JumpSteps item target end before behind old new result =
      (layout : Layout) (position : ℕ) → IsAt (tables_of layout) target position old → IsNext (tables_of layout) end old
      → Does (tables_of layout) (item position) 0 before behind old new result

  -- what a stop tells is known
  abbrev pub IsKnownStop : Objects Value ℕ → Result (Unit {0}) Stop → Type 0
  IsKnownStop objects (Ok done) = Unit {0}
  IsKnownStop objects (Err stop) = IsKnownAnswer texts tuples objects (Err stop)

  -- the objects stay of their kinds, what they hold is told, and what a stop tells is known
  pub record Leaves (before behind : Heap Value ℕ) (result : Result (Unit {0}) Stop) : Type 0 where
    pub later : Later before.objects behind.objects
    pub all_told : AllTold texts tuples behind.objects
    pub stop : IsKnownStop behind.objects result
