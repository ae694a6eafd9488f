-- Stops and raises, where a run comes to.
use Rattle.std.proofs.Common.{◌≡◌, ℕ, List, [], length, Option, All, ◌∙◌}
use Rattle.vm_states.specs.mpy_base.World.{Heap}
use Rattle.vm_states.specs.mpy_base.Val.{PlainWorld}
use Rattle.prim_faults.specs.arena_heap.declared.value.Value.{Value}
use Rattle.prim_faults.specs.arena_heap.declared.value.StrNo.{StrNo}
use Rattle.prim_faults.specs.arena_heap.declared.value.ConstNo.{ConstNo}
use Rattle.bc_progress.specs.py_effects.Effect as effects
use Rattle.bc_progress.specs.py_effects.Ends.{new_world}
use Rattle.vm_states.specs.bc_machine.Growth as growth
use Rattle.vm_states.specs.bc_rows.declared.row.Row.{Row}
use Rattle.prim_faults.specs.declared.stop.Stop.{Stop}
use Rattle.vm_states.specs.prim_modules.Registry.{Registry, plain_modules}
use Rattle.vm_states.specs.vm_frames.Calls.{Calls}
use Rattle.vm_states.specs.vm_frames.Views.{View}
use Rattle.vm_states.specs.vm_frames.Placed.{IsPlaced}
use Rattle.vm_states.specs.frame_moves.Shown.{view_of, step_of}
use Rattle.vm_states.specs.frame_moves.Outcomes.{world_of, stopping_of}
use Rattle.vm_states.specs.frame_exits.declared.names.ModuleName.{ModuleName}
use Rattle.vm_states.specs.frame_exits.declared.ends.End.{End}
use Rattle.vm_states.specs.frame_exits.Ends.{with_modules, state_of}
use Rattle.vm_states.specs.frame_exits.Known.{Keeps}
use Rattle.vm_states.specs.frame_exits.Names.{Forgets}
use Rattle.vm_states.specs.frame_exits.Thrown.{HasThrown}
use Rattle.vm_states.specs.vm_fetching.declared.instruction.Fetched.{Fetched}
use Rattle.vm_states.specs.Means.{Program, Means}
use Rattle.vm_states.specs.Ready.{IsReady, item_at}
use Rattle.vm_states.specs.State.{IsState, IsKnownCall}
use Rattle.vm_states.specs.Acting.{Tells}
use Rattle.state_exits.specs.Own.{AreOwn}
use Rattle.state_exits.specs.Modules.{registered_names, AreNames, AreRegistered}
use Rattle.state_exits.specs.Running.{stepped_with, IsRun, RunsOn, StopsOn}
use Rattle.state_exits.proofs.Registered.{own_fewer}
use Rattle.state_exits.proofs.Sounds.{SoundLaw, stopping_in}
use Rattle.state_exits.proofs.Behind.{run_behind}
use Rattle.state_exits.proofs.Ends.{Went, end_known, thrown_same, registered_behind, is_run, own_in, keeps_here}

module _ (went : Went) (sounds : SoundLaw) (texts : StrNo → Option (List ℕ)) (tuples : ConstNo → Option (List Value)) (names : List ModuleName)
    (p : Program) (means : Means p) (tells : Tells texts tuples p) (named : AreNames p names)
    (between behind : Heap Value ℕ) (earlier later : Registry) (old new : Calls) (end : Option End)
    (thrown : HasThrown behind.objects old new end) (placed : (view : View) → All (IsPlaced view) old.calls → All (IsPlaced view) new.calls)
    (keeps : Keeps texts tuples (length names) between.objects behind.objects old.calls new.calls) (forgets : Forgets earlier later) (known : All (IsKnownCall p between.objects) old.calls) where
  abbrev V : PlainWorld → PlainWorld
  V v = world_of p.tables (with_modules p.tables v later) behind

  abbrev Nothing : PlainWorld
  Nothing = new_world 0 0 []

  -- behind a raise
  raised_run : (before : Heap Value ℕ) → IsState p before.objects old → AreRegistered p before earlier → (paid : ℕ) (w v : PlainWorld)
      → stepped_with p paid old w before earlier ≡ state_of p.tables end new.calls (V v) → AreOwn (registered_names p) (plain_modules p.tables.texts p.tables.tuples later) → IsRun p behind later new end
  raised_run before state registered paid w v steps own =
      let here = keeps_here texts tuples p tells names named between.objects behind.objects old.calls new.calls keeps in
      is_run went sounds p means before behind earlier later old new end state registered paid w v steps
      (here.known known) here.all_told (placed (view_of p.tables) state.running.placed) (thrown_same behind.objects old new end thrown)
      (registered_behind went sounds p means before behind earlier later old new end state registered paid w v steps own forgets.room)
      (end_known p.tables.texts p.tables.tuples behind.objects old new end thrown)

  -- a stop
  pub stops_on : (place : effects.Place) (stop : Stop)
      → ((w : PlainWorld) → stopping_of p.tables place (with_modules p.tables w earlier) between old.calls stop ≡ state_of p.tables end new.calls (V w))
      → StopsOn p place between behind earlier later old new stop end
  stops_on place stop steps = record {
    steps = steps;
    run = λ before paid w v state registered e.
        raised_run before state registered paid w v (e ∙ steps v)
        (own_in p end new.calls (V v) (stopping_of p.tables place (with_modules p.tables v earlier) between old.calls stop) (steps v)
        (stopping_in (registered_names p) p.tables (own_fewer (registered_names p)) place (with_modules p.tables v earlier) between old.calls stop registered.own));
    again = run_behind p means place stop between behind earlier later old new end steps
        (keeps_here texts tuples p tells names named between.objects behind.objects old.calls new.calls keeps) (placed (view_of p.tables)) (thrown_same behind.objects old new end thrown) forgets.room
        (end_known p.tables.texts p.tables.tuples behind.objects old new end thrown);
    objects = keeps.later;
  }

  -- an instruction that raises
  pub raises_on : (row : Row) (fetched : Fetched) → IsState p between.objects old → AreRegistered p between earlier → (r : IsReady p old row fetched)
      → ((paid : ℕ) (w : PlainWorld) → AreOwn (registered_names p) w.modules → AreOwn (registered_names p) (growth.world_of (step_of p.tables p.library r.place paid old.calls w (item_at p r.first fetched))).modules)
      → ((paid : ℕ) (w : PlainWorld) → step_of p.tables p.library r.place paid old.calls (world_of p.tables (with_modules p.tables w earlier) between) (item_at p r.first fetched) ≡ state_of p.tables end new.calls (V w))
      → RunsOn p between behind earlier later old new end
  raises_on row fetched state registered r inside lower =
      let w0 = world_of p.tables (with_modules p.tables Nothing earlier) between in
      record {
        steps = λ paid w. r.steps paid (world_of p.tables (with_modules p.tables w earlier) between) ∙ lower paid w;
        run = raised_run between state registered 0 Nothing Nothing (r.steps 0 w0 ∙ lower 0 Nothing)
            (own_in p end new.calls (V Nothing) (step_of p.tables p.library r.place 0 old.calls w0 (item_at p r.first fetched)) (lower 0 Nothing) (inside 0 w0 registered.own));
        objects = keeps.later;
      }
