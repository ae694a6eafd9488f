-- What an import comes to that was fetched for the first of the calls of a program.
use Rattle.std.specs.Prelude.{◌≡◌, ℕ, List, Option, Result, OnOk, OnErr}
use Rattle.vm_states.specs.mpy_base.World.{Heap, Later}
use Rattle.vm_states.specs.mpy_base.Val.{PlainWorld}
use Rattle.prim_faults.specs.arena_heap.declared.value.Value.{Value}
use Rattle.prim_faults.specs.arena_heap.declared.value.StrNo.{StrNo}
use Rattle.prim_faults.specs.arena_heap.declared.value.StrNo.TheVariants as strs
use Rattle.prim_faults.specs.arena_heap.declared.value.ConstNo.{ConstNo}
use Rattle.bc_progress.specs.py_effects.Effect as effects
use Rattle.vm_states.specs.bc_rows.declared.row.Row.{Row}
use Rattle.prim_faults.specs.declared.stop.Stop.{Stop}
use Rattle.vm_states.specs.prim_modules.Registry.{Registry}
use Rattle.vm_states.specs.vm_frames.Calls.{Calls}
use Rattle.vm_states.specs.frame_moves.Outcomes.{outcome_of}
use Rattle.vm_states.specs.frame_values.Effects.{IsKnownStop}
use Rattle.vm_states.specs.frame_exits.declared.names.ModuleName.{ModuleName}
use Rattle.vm_states.specs.frame_exits.Ends.{with_modules}
use Rattle.vm_states.specs.vm_fetching.declared.instruction.Fetched.{Fetched}
use Rattle.vm_states.specs.vm_fetching.Instructions as fetched
use Rattle.vm_states.specs.Means.{Program, Means}
use Rattle.vm_states.specs.Ready.{IsReady}
use Rattle.vm_states.specs.State.{IsState}
use Rattle.vm_states.specs.Acting.{Tells}
use Rattle.state_exits.specs.Modules.{AreNames, AreRegistered}
use Rattle.state_exits.specs.Running.{stepped_with}

-- IMPORT_NAME of the text that has this number, as it is fetched
abbrev pub fetched_import : (name end : ℕ) → Fetched
fetched_import name end = record { instruction = fetched.imports name; end = end }

-- no call changes, and the same modules are registered
pub record Stays (earlier later : Registry) (old new : Calls) : Type 0 where
  pub calls : new ≡ old
  pub registered : later ≡ earlier

module _ (p : Program) where
  -- The machine's step comes from the old calls to the new ones, or to a stop at the place, in each world and whatever was paid.
  -- The new calls are a state of the program, and the modules that are registered are its own; where it stops, both stay
  pub record Imports (place : effects.Place) (before behind : Heap Value ℕ) (earlier later : Registry) (old new : Calls)
      (result : Result (Unit {0}) Stop) : Type 0 where
    pub steps : (paid : ℕ) (w : PlainWorld)
        → stepped_with p paid old w before earlier
        ≡ outcome_of p.tables place (with_modules p.tables w later) behind old.calls new.calls result
    pub state : IsState p behind.objects new
    pub registered : OnOk result (AreRegistered p behind later)
    pub stays : OnErr result (Stays earlier later old new)
    pub objects : Later before.objects behind.objects
    pub stop : IsKnownStop p.tables.texts p.tables.tuples behind.objects result

  -- the import went so where the names are these and it was fetched for the first of the old calls
  abbrev pub ImportsBehind : (StrNo → Option (List ℕ)) → (ConstNo → Option (List Value)) → List ModuleName → Row → (name end : ℕ)
      → (before behind : Heap Value ℕ) → (earlier later : Registry) → (old new : Calls) → Result (Unit {0}) Stop → Type 0
  ImportsBehind texts tuples names row name end before behind earlier later old new result =
      Means p → Tells texts tuples p → AreNames p names → IsState p before.objects old → AreRegistered p before earlier
      → (ready : IsReady p old row (fetched_import name end))
      → Imports ready.place before behind earlier later old new result
