-- Where a run comes to behind a step that may leave calls.
use Rattle.std.proofs.Common.{◌≡◌, ◌<◌, ℕ, List, [], ◌∷◌, length, Option, Some, None, Result, Ok, Err, All, refl, sym, ap, ◌∙◌, subst}
use Rattle.std.specs.Prelude.{IfSome, IfNone, IfOk}
use Rattle.std.proofs.lemmas.List.Elements.{All-weaker}
use Rattle.vm_states.specs.mpy_base.declared.room.NoRoom.{NoRoom}
use Rattle.vm_states.specs.mpy_base.World.{Objects, Heap, AnException, IsA}
use Rattle.vm_states.specs.mpy_base.Val.{PlainWorld}
use Rattle.prim_faults.specs.arena_heap.declared.value.Value.{Value}
use Rattle.prim_faults.specs.arena_heap.declared.value.StrNo.{StrNo}
use Rattle.prim_faults.specs.arena_heap.declared.value.ConstNo.{ConstNo}
use Rattle.prim_faults.specs.arena_heap.declared.value.ExcNo.{ExcNo}
use Rattle.prim_faults.specs.arena_objects.Keys.{AllTold}
use Rattle.bc_progress.specs.py_effects.Heaps.{Sound}
use Rattle.vm_states.specs.bc_machine.State.{State}
use Rattle.vm_states.specs.bc_machine.Step.{step}
use Rattle.vm_states.specs.bc_machine.Growth as growth
use Rattle.vm_states.specs.prim_modules.Registry.{Registry, plain_modules}
use Rattle.vm_states.specs.vm_frames.Calls.{Call, Calls}
use Rattle.vm_states.specs.vm_frames.Placed.{IsPlaced}
use Rattle.vm_states.specs.frame_moves.Shown.{view_of, running_of}
use Rattle.vm_states.specs.frame_moves.Outcomes.{world_of}
use Rattle.vm_states.specs.frame_exits.declared.ends.End.{End}
use Rattle.vm_states.specs.frame_exits.declared.ends.After.TheVariants as afters
use Rattle.vm_states.specs.frame_exits.Ends.{with_modules, state_of}
use Rattle.vm_states.specs.frame_exits.Known.{IsKnownAfter, Keeps}
use Rattle.vm_states.specs.frame_exits.Thrown.{thrown, thrown_out, failed_end, HasThrown}
use Rattle.vm_states.specs.Means.{Program, Means}
use Rattle.vm_states.specs.Running.{IsOfModule, IsRunning}
use Rattle.vm_states.specs.State.{IsState, IsKnownCall}
use Rattle.vm_states.specs.Acting.{Tells}
use Rattle.vm_states.specs.frame_exits.declared.names.ModuleName.{ModuleName}
use Rattle.state_exits.specs.Own.{AreOwn}
use Rattle.state_exits.specs.Modules.{registered_names, AreNames, AreRegistered}
use Rattle.state_exits.specs.Running.{stepped_with, IsRun}
use Rattle.state_exits.proofs.Sounds.{SoundLaw, state_world, sound_behind}
use Rattle.state_exits.proofs.Tellings.{into}

abbrev pub Went : Type 0
Went = (p : Program) (s new : Calls) (paid again : ℕ) (before behind : PlainWorld) → Means p → IsRunning p s
    → step p.library (running_of p.tables paid s.calls before) ≡ running_of p.tables again new.calls behind
    → All (IsPlaced (view_of p.tables)) new.calls → All (IsOfModule p) new.calls → new ≡ record s { calls = new.calls } → IsRunning p new

-- how a run ends
-- ==============

module _ (texts : StrNo → Option (List ℕ)) (tuples : ConstNo → Option (List Value)) (objects : Objects Value ℕ) where
  abbrev pub IsKnownEnd : End → Type 0
  IsKnownEnd e = IsKnownAfter texts tuples objects (afters.Ends e)

  out_known : (x : ExcNo) → IsA objects AnException x.cell → (cs : List Call) → IfSome (thrown_out x cs) IsKnownEnd
  out_known x is [] = is
  out_known x is (c ∷ cs) = tt

  failed_known : (failure : Result ExcNo NoRoom) (cs : List Call) → IfOk failure (λ x. IsA objects AnException x.cell) → IfSome (failed_end failure cs) IsKnownEnd
  failed_known (Ok x) cs is = out_known x is (thrown x cs)
  failed_known (Err room) cs is = tt

  pub end_known : (old new : Calls) (end : Option End) → HasThrown objects old new end → IfSome end IsKnownEnd
  end_known old new end h = subst (λ (e : Option End). IfSome e IsKnownEnd) (sym h.end) (failed_known h.failure old.calls h.exception)

pub thrown_same : (objects : Objects Value ℕ) (old new : Calls) (end : Option End) → HasThrown objects old new end → new ≡ record old { calls = new.calls }
thrown_same objects old new end h = h.calls ∙ ap (λ (z : List Call). record old { calls = z }) (sym (ap (λ (z : Calls). z.calls) h.calls))

-- the calls and the registered modules
-- ====================================

module _ (went : Went) (sounds : SoundLaw) (p : Program) (means : Means p) (before behind : Heap Value ℕ) (earlier later : Registry) (old new : Calls) (end : Option End)
    (state : IsState p before.objects old) (registered : AreRegistered p before earlier) (paid : ℕ) (w v : PlainWorld)
    (steps : stepped_with p paid old w before earlier ≡ state_of p.tables end new.calls (world_of p.tables (with_modules p.tables v later) behind)) where
  abbrev W : PlainWorld
  W = world_of p.tables (with_modules p.tables w earlier) before

  abbrev V : PlainWorld
  V = world_of p.tables (with_modules p.tables v later) behind

  sound : Sound V
  sound = subst Sound (state_world p.tables end new.calls V) (sound_behind p before earlier w sounds old paid state registered (state_of p.tables end new.calls V) steps)

  pub registered_behind : AreOwn (registered_names p) (plain_modules p.tables.texts p.tables.tuples later) → later.room ≡ earlier.room → AreRegistered p behind later
  registered_behind own room = record {
    formed = sound.formed;
    registered = sound.registered;
    own = own;
    room = subst (λ (n : ℕ). length p.shelf.modules < n) (sym room) registered.room;
  }

  module _ (known : All (IsKnownCall p behind.objects) new.calls) (all_told : AllTold p.tables.texts p.tables.tuples behind.objects) (placed : All (IsPlaced (view_of p.tables)) new.calls) (same : new ≡ record old { calls = new.calls }) where
    state_by : (e : Option End) → end ≡ e → IfNone e (IsState p behind.objects new)
    state_by None is = record {
      running = went p old new paid 0 W V means state.running (steps ∙ ap (λ (z : Option End). state_of p.tables z new.calls V) is) placed
          (All-weaker (IsKnownCall p behind.objects) (IsOfModule p) (λ c k. k.of_module) new.calls known) same;
      known = known;
      all_told = all_told;
    }
    state_by (Some e) is = tt

    pub is_run : AreRegistered p behind later → IfSome end (IsKnownEnd p.tables.texts p.tables.tuples behind.objects) → IsRun p behind later new end
    is_run again ended = record { state = state_by end refl; ended = ended; registered = again; all_told = all_told }

-- what a state of the machine says of its registered modules
pub own_in : (p : Program) (end : Option End) (cs : List Call) (w : PlainWorld) (x : State) → x ≡ state_of p.tables end cs w → AreOwn (registered_names p) (growth.world_of x).modules → AreOwn (registered_names p) w.modules
own_in p end cs w x e h =
    subst (λ (z : PlainWorld). AreOwn (registered_names p) z.modules) (state_world p.tables end cs w)
    (subst (λ (z : State). AreOwn (registered_names p) (growth.world_of z).modules) e h)

-- what is kept, by the program's texts and its count of modules
pub keeps_here : (texts : StrNo → Option (List ℕ)) (tuples : ConstNo → Option (List Value)) (p : Program) → Tells texts tuples p → (names : List ModuleName) → AreNames p names
    → (before behind : Objects Value ℕ) (old new : List Call) → Keeps texts tuples (length names) before behind old new → Keeps p.tables.texts p.tables.tuples (length p.shelf.modules) before behind old new
keeps_here texts tuples p tells names named before behind old new h =
    into texts tuples p tells (λ x y. Keeps x y (length p.shelf.modules) before behind old new) (subst (λ (n : ℕ). Keeps texts tuples n before behind old new) named.as_many h)
