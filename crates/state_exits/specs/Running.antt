-- Where a run of a program comes to, with the modules that are registered.
use Rattle.std.specs.Prelude.{◌≡◌, ℕ, List, Option, IfSome, IfNone}
use Rattle.vm_states.specs.mpy_base.World.{Heap, Objects, Later}
use Rattle.vm_states.specs.mpy_base.Val.{PlainWorld}
use Rattle.prim_faults.specs.arena_heap.declared.value.Value.{Value}
use Rattle.prim_faults.specs.arena_heap.declared.value.StrNo.{StrNo}
use Rattle.prim_faults.specs.arena_heap.declared.value.ConstNo.{ConstNo}
use Rattle.prim_faults.specs.arena_objects.Keys.{AllTold}
use Rattle.vm_states.specs.mpy_tree.bc_prelude.Lines as lines
use Rattle.vm_states.specs.bc_library.Shelf.{Shelf}
use Rattle.bc_progress.specs.py_effects.Effect as effects
use Rattle.vm_states.specs.bc_machine.State.{State}
use Rattle.vm_states.specs.bc_rows.declared.row.Row.{Row}
use Rattle.prim_faults.specs.declared.stop.Stop.{Stop}
use Rattle.vm_states.specs.prim_raising.declared.place.Place.{Place}
use Rattle.vm_states.specs.prim_modules.Registry.{Registry}
use Rattle.vm_states.specs.vm_frames.Calls.{Calls}
use Rattle.vm_states.specs.frame_moves.Outcomes.{world_of, stopping_of}
use Rattle.vm_states.specs.frame_exits.declared.names.ModuleName.{ModuleName}
use Rattle.vm_states.specs.frame_exits.declared.ends.End.{End}
use Rattle.vm_states.specs.frame_exits.declared.ends.After.TheVariants as afters
use Rattle.vm_states.specs.frame_exits.Ends.{with_modules, state_of}
use Rattle.vm_states.specs.frame_exits.Known.{IsKnownAfter}
use Rattle.vm_states.specs.vm_fetching.declared.operations.LeaveOp.{LeaveOp}
use Rattle.vm_states.specs.vm_fetching.declared.instruction.Fetched.{Fetched}
use Rattle.vm_states.specs.vm_fetching.Instructions as fetched
use Rattle.vm_states.specs.vm_fetching.Fetches.{IsVerifiedRow}
use Rattle.vm_states.specs.Means.{Program, Means}
use Rattle.vm_states.specs.Ready.{IsReady}
use Rattle.vm_states.specs.State.{IsState}
use Rattle.vm_states.specs.Acting.{Tells, stepped}
use Rattle.state_exits.specs.Modules.{AreNames, AreRegistered}

-- a return or a raise as it is fetched
abbrev pub fetched_leave : LeaveOp → (end : ℕ) → Fetched
fetched_leave op end = record { instruction = fetched.leave op; end = end }

-- the end of a finally as it is fetched
abbrev pub fetched_finish : (end : ℕ) → Fetched
fetched_finish end = record { instruction = fetched.finish; end = end }

-- the place of the instruction at the offset of the row, by numbers of texts
abbrev pub place_at : Row → (offset : ℕ) → Place
place_at row offset = record { file = row.source; line = lines.line_of row.line_table.now offset; name = row.name }

-- the calls run a program with these texts, tuples and names of modules over the objects, and this was fetched for the first of
-- them, of its row
pub record RunsAt (texts : StrNo → Option (List ℕ)) (tuples : ConstNo
    → Option (List Value)) (names : List ModuleName) (objects : Objects Value ℕ) (s : Calls) (row : Row) (fetched : Fetched) : Type 0 where
  pub program : Program
  pub means : Means program
  pub tells : Tells texts tuples program
  pub named : AreNames program names
  pub state : IsState program objects s
  pub ready : IsReady program s row fetched
  pub number : ℕ
  pub verified : IsVerifiedRow program.shelf number row

-- the calls run a program of the shelf with these texts, tuples, names of modules and modules registered, and this was fetched for the
-- first of them, of its row
pub record RunsWith (texts : StrNo → Option (List ℕ)) (tuples : ConstNo
    → Option (List Value)) (names : List ModuleName) (shelf : Shelf) (heap : Heap Value ℕ) (modules : Registry) (s : Calls) (row : Row)
    (fetched : Fetched) : Type 0 where
  pub runs : RunsAt texts tuples names heap.objects s row fetched
  pub shelf_is : runs.program.shelf ≡ shelf
  pub registered : AreRegistered runs.program heap modules

module _ (p : Program) where
  -- the machine's step of the calls in the world with this heap and these modules registered, where `paid` steps are paid on the instruction
  abbrev pub stepped_with : (paid : ℕ) → Calls → PlainWorld → Heap Value ℕ → Registry → State
  stepped_with paid s w heap modules = stepped p paid s (with_modules p.tables w modules) heap

  -- The run goes on, and its calls are a state of the program, or it has ended so. The modules that are registered are the
  -- program's, and what the objects hold is told
  pub record IsRun (heap : Heap Value ℕ) (modules : Registry) (s : Calls) (end : Option End) : Type 0 where
    pub state : IfNone end (IsState p heap.objects s)
    pub ended : IfSome end (λ e. IsKnownAfter p.tables.texts p.tables.tuples heap.objects (afters.Ends e))
    pub registered : AreRegistered p heap modules
    pub all_told : AllTold p.tables.texts p.tables.tuples heap.objects

  -- the machine's step comes from the old calls to the new ones, or to the end, in each world and whatever was paid
  pub record RunsOn (before behind : Heap Value ℕ) (earlier later : Registry) (old new : Calls) (end : Option End) : Type 0 where
    pub steps : (paid : ℕ) (w : PlainWorld)
        → stepped_with paid old w before earlier
        ≡ state_of p.tables end new.calls (world_of p.tables (with_modules p.tables w later) behind)
    pub run : IsRun behind later new end
    pub objects : Later before.objects behind.objects

  -- so it is where the names are these and the instruction was fetched for the first of the old calls
  abbrev pub RunsOnBehind : (StrNo → Option (List ℕ)) → (ConstNo → Option (List Value)) → List ModuleName → Row → Fetched
      → (before behind : Heap Value ℕ) → (earlier later : Registry) → (old new : Calls) → Option End → Type 0
  RunsOnBehind texts tuples names row fetched before behind earlier later old new end =
      Means p → Tells texts tuples p → AreNames p names → IsState p before.objects old → AreRegistered p before earlier → IsReady p old row fetched
      → RunsOn before behind earlier later old new end

  -- The calls stopped at the place in the heap between. The stop comes to the new calls, or to the end, in each world; and
  -- behind it the run goes on or has ended, if the stop is where the machine's step from the program's state came to, or if the
  -- calls are a state of the program in the heap between
  pub record StopsOn (place : effects.Place) (between behind : Heap Value ℕ) (earlier later : Registry) (old new : Calls) (stop : Stop)
      (end : Option End) : Type 0 where
    pub steps : (w : PlainWorld)
        → stopping_of p.tables place (with_modules p.tables w earlier) between old.calls stop
        ≡ state_of p.tables end new.calls (world_of p.tables (with_modules p.tables w later) behind)
    pub run : (before : Heap Value ℕ) (paid : ℕ) (w v : PlainWorld) → IsState p before.objects old → AreRegistered p before earlier
        → stepped_with paid old w before earlier ≡ stopping_of p.tables place (with_modules p.tables v earlier) between old.calls stop
        → IsRun behind later new end
    pub again : IsState p between.objects old → AreRegistered p between earlier → IsRun behind later new end
    pub objects : Later between.objects behind.objects
