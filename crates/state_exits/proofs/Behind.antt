-- Where a run comes to behind a stop, from the calls that stopped.
use Rattle.std.proofs.Common.{◌≡◌, ◌<◌, ℕ, List, [], ◌∷◌, length, map, Bool, true, false, Option, Some, None, All, refl, sym, ap, ◌∙◌, subst, if◌then◌else◌}
use Rattle.std.specs.Prelude.{IfNone, IfSome}
use Rattle.std.proofs.lemmas.List.Elements.{All-weaker}
use Rattle.vm_states.specs.mpy_base.World.{Heap}
use Rattle.vm_states.specs.mpy_base.Val.{At, PlainWorld}
use Rattle.prim_faults.specs.arena_heap.declared.value.Value.{Value}
use Rattle.prim_faults.specs.py_primitives.Outcome as primitives
use Rattle.bc_progress.specs.py_effects.Effect as effects
use Rattle.bc_progress.specs.py_effects.Effect.{Fails, Thrown, Filled}
use Rattle.bc_progress.specs.py_effects.Ends.{new_world}
use Rattle.bc_progress.specs.py_effects.Growth.{fails_world}
use Rattle.bc_progress.specs.py_effects.Heaps.{Sound, WorldFollows}
use Rattle.bc_machine.proofs.py_effects_lemmas.ModuleGrows.{forgotten, sounds}
use Rattle.vm_states.specs.bc_machine.State as states
use Rattle.vm_states.specs.bc_machine.State.{Role, Main, Called, Imported, Frame, State, Entry, throw_in, throw_out, throw, fail, enter, abandoned}
use Rattle.vm_states.specs.bc_machine.Growth as growth
use Rattle.vm_states.specs.bc_progress.Slots.{anything}
use Rattle.vm_states.specs.bc_progress.Known.{objects_of}
use Rattle.vm_states.specs.bc_progress.Fits.{Fits}
use Rattle.vm_states.proofs.bc_progress_lemmas.Knowing.{ThrowsKnown, all_covered}
use Rattle.vm_states.proofs.bc_progress_lemmas.Frames.{fails_fit}
use Rattle.prim_faults.specs.declared.stop.Stop.{Stop}
use Rattle.prim_faults.specs.Outcomes.{plain_stop}
use Rattle.vm_states.specs.prim_raising.Places.{stopped_at}
use Rattle.vm_states.specs.prim_modules.Registry.{Registry}
use Rattle.vm_states.specs.vm_frames.Calls.{Call, Calls}
use Rattle.vm_states.specs.vm_frames.Placed.{IsPlaced}
use Rattle.vm_states.specs.vm_frames.Views.{frame_of}
use Rattle.vm_states.specs.frame_moves.Shown.{Tables, view_of, running_of}
use Rattle.vm_states.specs.frame_moves.Outcomes.{world_of, failing_of, stopping_of}
use Rattle.vm_states.specs.frame_exits.declared.ends.End.{End}
use Rattle.vm_states.specs.frame_exits.Ends.{with_modules, state_of}
use Rattle.vm_states.specs.frame_exits.Known.{Keeps}
use Rattle.vm_states.specs.Means.{Program, Means}
use Rattle.vm_states.specs.Running.{FitCalls, IsOfModule}
use Rattle.vm_states.specs.State.{IsState, IsKnownCall}
use Rattle.state_exits.specs.Modules.{registered_names, AreRegistered}
use Rattle.state_exits.specs.Running.{IsRun}
use Rattle.state_exits.proofs.Registered.{own_fewer}
use Rattle.state_exits.proofs.Sounds.{state_world, stopping_in}
use Rattle.state_exits.proofs.Ends.{IsKnownEnd, own_in}
use Rattle.state_exits.proofs.Returns.{same_rooms}

-- the world stays sound
-- =====================

follows_sound : (w v : PlainWorld) → WorldFollows w v → Sound v
follows_sound w v h = record { formed = h.heap.formed; registered = h.registered }

abbrev In : State → Type 0
In s = Sound (growth.world_of s)

either : (b : Bool) (x y : State) → In x → In y → In (if b then x else y)
either true x y h k = h
either false x y h k = k

abandons : (role : Role) (w : PlainWorld) → Sound w → Sound (abandoned role w)
abandons (Imported name m) w h = follows_sound w (abandoned (Imported name m) w) ((forgotten w name).by h)
abandons Main w h = h
abandons Called w h = h

throws_in : (x : ℕ) (entries : List Entry) (frame : Frame) (frames : List Frame) (w : PlainWorld) (out : State) → Sound w → In out → In (throw_in x entries frame frames w out)
throws_in x [] frame frames w out h k = k
throws_in x (e ∷ entries) frame frames w out h k =
    either e.active (throw_in x entries frame frames w out) (enter (record e { kept = Some x }) entries (states.Value (At x)) frame.slots frame frames w) (throws_in x entries frame frames w out h k) h

throws_out : (x : ℕ) (frames : List Frame) (w : PlainWorld) → Sound w → In (throw_out x frames w)
throws_out x [] w h = h
throws_out x (frame ∷ frames) w h = throws_in x frame.entries frame frames w (throw_out x frames (abandoned frame.role w)) h (throws_out x frames (abandoned frame.role w) (abandons frame.role w h))

fails_sound : (f : Fails) (frame : Frame) (frames : List Frame) → Sound (fails_world f) → In (fail f frame frames)
fails_sound (Thrown x w) frame frames h = throws_in x frame.entries frame frames w (throw_out x frames (abandoned frame.role w)) h (throws_out x frames (abandoned frame.role w) (abandons frame.role w h))
fails_sound (Filled e w) frame frames h = h

stopped_sound : (place : effects.Place) (w : PlainWorld) (stop : primitives.Stop) → Sound w → Sound (fails_world (stopped_at place w stop))
stopped_sound place w (primitives.Raises f) h = follows_sound w (fails_world (effects.fault_at place w f)) ((sounds.fault place w f).by h)
stopped_sound place w (primitives.Full e) h = h

failing_sound : (t : Tables) (cs : List Call) (f : Fails) → Sound (fails_world f) → In (failing_of t cs f)
failing_sound t [] (Thrown x w) h = h
failing_sound t [] (Filled e w) h = h
failing_sound t (c ∷ cs) f h = fails_sound f (frame_of (view_of t) c) (map (frame_of (view_of t)) cs) h

-- a stop of calls that run the program
-- ====================================

all_known : (f : Fails) → ThrowsKnown anything f
all_known (Thrown x w) = λ covers. tt
all_known (Filled e w) = tt

module _ (p : Program) (means : Means p) where
  failing_fits : (cs : List Call) → FitCalls p cs → (f : Fails) → Fits p.plans p.library (failing_of p.tables cs f)
  failing_fits [] fits f = absurd fits
  failing_fits (c ∷ cs) fits f =
      let first = frame_of (view_of p.tables) c in
      let others = map (frame_of (view_of p.tables)) cs in
      fails_fit anything p.plans p.library means.follows f (all_known f) first others fits.0 fits.1 (all_covered (objects_of (fail f first others)))

  calls_fit : (cs : List Call) (w : PlainWorld) → Fits p.plans p.library (running_of p.tables 0 cs w) → FitCalls p cs
  calls_fit [] w h = absurd h
  calls_fit (c ∷ cs) w h = h

  module _ (place : effects.Place) (stop : Stop) (between behind : Heap Value ℕ) (earlier later : Registry) (old new : Calls) (end : Option End)
      (steps : (w : PlainWorld) → stopping_of p.tables place (with_modules p.tables w earlier) between old.calls stop ≡ state_of p.tables end new.calls (world_of p.tables (with_modules p.tables w later) behind))
      (keeps : Keeps p.tables.texts p.tables.tuples (length p.shelf.modules) between.objects behind.objects old.calls new.calls)
      (placed : All (IsPlaced (view_of p.tables)) old.calls → All (IsPlaced (view_of p.tables)) new.calls) (same : new ≡ record old { calls = new.calls }) (room : later.room ≡ earlier.room)
      (ended : IfSome end (IsKnownEnd p.tables.texts p.tables.tuples behind.objects))
      (state : IsState p between.objects old) (registered : AreRegistered p between earlier) where
    abbrev Nothing : PlainWorld
    Nothing = new_world 0 0 []

    abbrev W : PlainWorld
    W = world_of p.tables (with_modules p.tables Nothing earlier) between

    abbrev V : PlainWorld
    V = world_of p.tables (with_modules p.tables Nothing later) behind

    abbrev Stopped : Fails
    Stopped = stopped_at place W (plain_stop p.tables.texts p.tables.tuples between stop)

    sound : Sound V
    sound =
        let before : Sound W = record { formed = registered.formed; registered = registered.registered } in
        subst Sound (state_world p.tables end new.calls V)
        (subst In (steps Nothing) (failing_sound p.tables old.calls Stopped (stopped_sound place W (plain_stop p.tables.texts p.tables.tuples between stop) before)))

    again : AreRegistered p behind later
    again = record {
      formed = sound.formed;
      registered = sound.registered;
      own = own_in p end new.calls V (stopping_of p.tables place (with_modules p.tables Nothing earlier) between old.calls stop) (steps Nothing)
          (stopping_in (registered_names p) p.tables (own_fewer (registered_names p)) place (with_modules p.tables Nothing earlier) between old.calls stop registered.own);
      room = subst (λ (n : ℕ). length p.shelf.modules < n) (sym room) registered.room;
    }

    state_by : (e : Option End) → end ≡ e → IfNone e (IsState p behind.objects new)
    state_by None is = record {
      running = record {
        fits = calls_fit new.calls V (subst (Fits p.plans p.library) (steps Nothing ∙ ap (λ (z : Option End). state_of p.tables z new.calls V) is) (failing_fits old.calls state.running.fits Stopped));
        placed = placed state.running.placed;
        of_modules = All-weaker (IsKnownCall p behind.objects) (IsOfModule p) (λ c k. k.of_module) new.calls (keeps.known state.known);
        rooms = same_rooms p old new same state.running.rooms;
      };
      known = keeps.known state.known;
      all_told = keeps.all_told;
    }
    state_by (Some e) is = tt

    pub run_behind : IsRun p behind later new end
    run_behind = record { state = state_by end refl; ended = ended; registered = again; all_told = keeps.all_told }
