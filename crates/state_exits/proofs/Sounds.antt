-- The world of a run stays sound, and the modules that are registered stay the program's.
use Rattle.std.proofs.Common.{◌≡◌, ℕ, List, [], ◌∷◌, map, filter, not, Option, Some, None, All, refl, sym, ap, ◌∙◌, subst}
use Rattle.std.specs.Prelude.{bytes_eq}
use Rattle.std.proofs.lemmas.List.Elements.{All-head, All-tail}
use Rattle.vm_states.specs.mpy_base.World.{Objects, Heap, ADict, IsA, object, kind_of}
use Rattle.vm_states.specs.mpy_base.Val.{PlainWorld}
use Rattle.vm_states.specs.bc_ops.declared.instr.Op.TheVariants as ops
use Rattle.vm_states.specs.bc_ops.declared.instr.Instr.TheVariants as instrs
use Rattle.prim_faults.specs.arena_heap.declared.value.Value.{Value}
use Rattle.prim_faults.specs.arena_heap.declared.value.StrNo.{StrNo}
use Rattle.prim_faults.specs.arena_heap.declared.value.ConstNo.{ConstNo}
use Rattle.prim_faults.specs.py_primitives.Outcome as primitives
use Rattle.bc_progress.specs.py_effects.Effect as effects
use Rattle.bc_progress.specs.py_effects.Effect.{Fails, Thrown, Filled}
use Rattle.bc_progress.specs.py_effects.Growth.{fails_world}
use Rattle.bc_progress.specs.py_effects.Heaps.{Sound, WorldFollows, NamesStand}
use Rattle.vm_states.specs.bc_machine.Library.{Name, Library, Plain}
use Rattle.vm_states.specs.bc_machine.State.{State}
use Rattle.vm_states.specs.bc_machine.Step.{step}
use Rattle.vm_states.specs.bc_machine.Growth as growth
use Rattle.vm_states.specs.bc_machine.Growth.{FramesHold, StateFits}
use Rattle.prim_faults.specs.prim_walks.Plain.{plain_object}
use Rattle.prim_faults.proofs.prim_walks_lemmas.PlainValues.{object_plain}
use Rattle.prim_faults.specs.declared.stop.Stop.{Stop}
use Rattle.prim_faults.specs.Outcomes.{plain_stop}
use Rattle.vm_states.specs.prim_raising.Places.{stopped_at}
use Rattle.prim_faults.proofs.Heaps.{kind_plain}
use Rattle.vm_states.specs.prim_modules.Registry.{Registry}
use Rattle.vm_states.specs.vm_frames.Calls.{Call, Calls}
use Rattle.vm_states.specs.vm_frames.Views.{frame_of}
use Rattle.vm_states.specs.frame_moves.Shown.{Tables, view_of, running_of, step_of}
use Rattle.vm_states.specs.frame_moves.Outcomes.{world_of, failing_of, stopping_of}
use Rattle.vm_states.specs.frame_exits.declared.ends.End.{End}
use Rattle.vm_states.specs.frame_exits.Ends.{with_modules, state_of}
use Rattle.vm_states.specs.Means.{Program}
use Rattle.vm_states.specs.State.{IsState, IsKnownCall}
use Rattle.state_exits.specs.Own.{AreOwn}
use Rattle.state_exits.specs.Modules.{AreRegistered}
use Rattle.state_exits.specs.Running.{stepped_with}
use Rattle.state_exits.proofs.Worlds.{fault_modules, fails_in, obj_in, last_in, end_in}

abbrev pub SoundLaw : Type 0
SoundLaw = (library : Library) (s : State) → Sound (growth.world_of s) → StateFits NamesStand s → WorldFollows (growth.world_of s) (growth.world_of (step library s))

dict_plain : (texts : StrNo → Option (List ℕ)) (tuples : ConstNo → Option (List Value)) (objects : Objects Value ℕ) (n : ℕ) → IsA objects ADict n → IsA (map (plain_object texts tuples) objects) ADict n
dict_plain texts tuples objects n h = ap kind_of (object_plain texts tuples objects n) ∙ kind_plain texts tuples (object objects n) ∙ h

stopped_modules : (place : effects.Place) (w : PlainWorld) (stop : primitives.Stop) → (fails_world (stopped_at place w stop)).modules ≡ w.modules
stopped_modules place w (primitives.Raises f) = fault_modules place w f
stopped_modules place w (primitives.Full e) = refl

-- a state's world
-- ===============

pub running_world : (t : Tables) (paid : ℕ) (cs : List Call) (w : PlainWorld) → growth.world_of (running_of t paid cs w) ≡ w
running_world t paid [] w = refl
running_world t paid (c ∷ cs) w = refl

pub state_world : (t : Tables) (end : Option End) (cs : List Call) (w : PlainWorld) → growth.world_of (state_of t end cs w) ≡ w
state_world t None cs w = running_world t 0 cs w
state_world t (Some end) cs w = refl

-- behind a step
-- =============

module _ (p : Program) (heap : Heap Value ℕ) (modules : Registry) (w : PlainWorld) where
  abbrev W : PlainWorld
  W = world_of p.tables (with_modules p.tables w modules) heap

  abbrev Known : Call → Type 0
  Known c = IsKnownCall p heap.objects c

  frames_fit : (cs : List Call) → Sound W → All Known cs → FramesHold (λ n role. NamesStand n) (map (frame_of (view_of p.tables)) cs) W
  frames_fit [] sound known = tt
  frames_fit (c ∷ cs) sound known =
      (record { sound = sound; dict = dict_plain p.tables.texts p.tables.tuples heap.objects c.names.cell (All-head Known c cs known).names }, frames_fit cs sound (All-tail Known c cs known))

  state_fits : (paid : ℕ) (cs : List Call) → Sound W → All Known cs → StateFits NamesStand (running_of p.tables paid cs W)
  state_fits paid [] sound known = tt
  state_fits paid (c ∷ cs) sound known = frames_fit (c ∷ cs) sound known

  pub sound_behind : SoundLaw → (s : Calls) (paid : ℕ) → IsState p heap.objects s → AreRegistered p heap modules → (x : State) → stepped_with p paid s w heap modules ≡ x → Sound (growth.world_of x)
  sound_behind law s paid state registered x e =
      let sound : Sound W = record { formed = registered.formed; registered = registered.registered } in
      let s0 : State = running_of p.tables paid s.calls W in
      let f = law p.library s0 (subst Sound (sym (running_world p.tables paid s.calls W)) sound) (state_fits paid s.calls sound state.known) in
      let behind : Sound (growth.world_of (step p.library s0)) = record { formed = f.heap.formed; registered = f.registered } in
      subst (λ (z : State). Sound (growth.world_of z)) e behind

-- the registered modules
-- ======================

module _ (names : List Name) (t : Tables) where
  abbrev Q : List (Name × ℕ) → Type 0
  Q = AreOwn names

  abbrev In : State → Type 0
  In s = Q (growth.world_of s).modules

  module _ (less : (name : Name) (ms : List (Name × ℕ)) → Q ms → Q (filter (λ (m : Name × ℕ). not (bytes_eq (m.0) name)) ms)) where
    failing_in : (cs : List Call) (f : Fails) → Q (fails_world f).modules → In (failing_of t cs f)
    failing_in [] (Thrown x w) h = h
    failing_in [] (Filled e w) h = h
    failing_in (c ∷ cs) f h = fails_in Q less f (frame_of (view_of t) c) (map (frame_of (view_of t)) cs) h

    pub stopping_in : (place : effects.Place) (w : PlainWorld) (heap : Heap Value ℕ) (cs : List Call) (stop : Stop) → Q w.modules → In (stopping_of t place w heap cs stop)
    stopping_in place w heap cs stop h =
        let s = plain_stop t.texts t.tuples heap stop in
        failing_in cs (stopped_at place (world_of t w heap) s) (subst Q (sym (stopped_modules place (world_of t w heap) s)) h)

    module _ (library : Library) (place : effects.Place) (paid : ℕ) (w : PlainWorld) (h : Q w.modules) where
      pub raising_in : (cs : List Call) → In (step_of t library place paid cs w (Plain (instrs.Plain ops.RaiseObj)))
      raising_in [] = h
      raising_in (c ∷ cs) = obj_in Q less library place paid (frame_of (view_of t) c) (map (frame_of (view_of t)) cs) w h

      pub again_in : (cs : List Call) → In (step_of t library place paid cs w (Plain (instrs.Plain ops.RaiseLast)))
      again_in [] = h
      again_in (c ∷ cs) = last_in Q less library place paid (frame_of (view_of t) c) (map (frame_of (view_of t)) cs) w h

      pub ending_in : (cs : List Call) → In (step_of t library place paid cs w (Plain (instrs.Plain ops.EndFinally)))
      ending_in [] = h
      ending_in (c ∷ cs) = end_in Q less library place paid (frame_of (view_of t) c) (map (frame_of (view_of t)) cs) w h
