-- Where an instruction that makes visits comes to, with the modules that are registered.
use Rattle.std.specs.Prelude.{◌≡◌, ℕ, suc, ◌<◌, ◌≤◌, List, Option}
use Rattle.state_calls.specs.mpy_base.World.{Heap, Later}
use Rattle.state_calls.specs.mpy_base.Val.{PlainWorld}
use Rattle.state_calls.specs.arena_heap.declared.value.Value.{Value}
use Rattle.state_calls.specs.arena_heap.declared.value.StrNo.{StrNo}
use Rattle.state_calls.specs.arena_heap.declared.value.ConstNo.{ConstNo}
use Rattle.state_calls.specs.bc_rows.declared.row.Row.{Row}
use Rattle.state_calls.specs.prim_modules.Registry.{Registry}
use Rattle.state_values.specs.vm_frames.Calls.{Calls}
use Rattle.state_calls.specs.frame_moves.Shown.{running_of}
use Rattle.state_calls.specs.frame_moves.Outcomes.{world_of}
use Rattle.state_calls.specs.frame_exits.declared.names.ModuleName.{ModuleName}
use Rattle.state_calls.specs.frame_exits.declared.ends.End.{End}
use Rattle.state_calls.specs.frame_exits.Ends.{with_modules, state_of}
use Rattle.state_calls.specs.vm_fetching.declared.instruction.Fetched.{Fetched}
use Rattle.state_values.specs.vm_states.Means.{Program, Means}
use Rattle.state_values.specs.vm_states.Ready.{IsReady}
use Rattle.state_values.specs.vm_states.State.{IsState}
use Rattle.state_values.specs.vm_states.Acting.{Tells}
use Rattle.state_exits.specs.Modules.{AreNames, AreRegistered}
use Rattle.state_exits.specs.Running.{stepped_with, IsRun}

module _ (p : Program) where
  -- The machine pays a step for each visit, and then its step comes from the old calls to the new ones, or to the end, in each
  -- world. Behind it the run goes on or has ended
  pub record ComesOn (visits : ℕ) (before behind : Heap Value ℕ) (earlier later : Registry) (old new : Calls) (end : Option End) : Type 0 where
    pub pays : (paid : ℕ) (w : PlainWorld) → paid < visits
        → stepped_with p paid old w before earlier ≡ running_of p.tables (suc paid) old.calls (world_of p.tables (with_modules p.tables w earlier) before)
    pub steps : (paid : ℕ) (w : PlainWorld) → visits ≤ paid
        → stepped_with p paid old w before earlier ≡ state_of p.tables end new.calls (world_of p.tables (with_modules p.tables w later) behind)
    pub run : IsRun p behind later new end
    pub objects : Later before.objects behind.objects

  -- so it is where the names are these and the instruction was fetched for the first of the old calls
  abbrev pub ComesOnBehind : (StrNo → Option (List ℕ)) → (ConstNo → Option (List Value)) → List ModuleName → Row → Fetched → (visits : ℕ)
      → (before behind : Heap Value ℕ) → (earlier later : Registry) → (old new : Calls) → Option End → Type 0
  ComesOnBehind texts tuples names row fetched visits before behind earlier later old new end =
      Means p → Tells texts tuples p → AreNames p names → IsState p before.objects old → AreRegistered p before earlier → IsReady p old row fetched
      → ComesOn visits before behind earlier later old new end
