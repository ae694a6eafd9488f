-- Returns from calls, as the machine's from its frames.
use Rattle.std.proofs.Common.{◌≡◌, ℕ, zero, suc, ◌<◌, List, [], ◌∷◌, map, drop, length, Bool, true, false, cond, Option, Some, None, Result, Ok, Err, All, slice_get, refl, sym, ap, ◌∙◌, subst, arith}
use Rattle.std.proofs.lemmas.List.Elements.{All-nil, All-cons, All-head, All-tail, All-drop, All-weaker}
use Rattle.std.proofs.lemmas.Option.{none-some, same_Some}
use Rattle.mpy_base.specs.declared.room.NoRoom.{NoRoom}
use Rattle.mpy_base.specs.World.{Objects, Later, names_of, object}
use Rattle.mpy_base.specs.Val.{Val, Nil, PlainWorld}
use Rattle.frame_moves.specs.bc_ops.declared.instr.Op.TheVariants as ops
use Rattle.frame_moves.specs.bc_ops.declared.instr.Instr.TheVariants as instrs
use Rattle.frame_moves.specs.arena_heap.declared.value.Value.{Value}
use Rattle.frame_moves.specs.arena_heap.declared.value.StrNo.{StrNo}
use Rattle.frame_moves.specs.arena_heap.declared.value.ConstNo.{ConstNo}
use Rattle.frame_moves.specs.py_values.Shown.{PlainHeap}
use Rattle.frame_moves.specs.py_primitives.Faults.{Fault}
use Rattle.frame_moves.specs.py_primitives.Outcome.{Raises, gives, is_full}
use Rattle.frame_moves.specs.py_effects.Effect.{Effect, Place, given, does}
use Rattle.frame_moves.specs.py_effects.Modules.{registered_as, outer_name, stored_in, stored_under, store_module}
use Rattle.frame_moves.specs.py_effects.Ends.{Ended}
use Rattle.frame_moves.specs.bc_machine.Library.{Name, Library, Plain}
use Rattle.frame_moves.specs.bc_machine.State as states
use Rattle.frame_moves.specs.bc_machine.State.{State, Running, Halted, on_given, give, leave, go}
use Rattle.frame_moves.specs.bc_machine.Step.{plain_step}
use Rattle.frame_moves.specs.prim_faults.Faults.{IsKnown}
use Rattle.frame_moves.specs.vm_frames.declared.slot.Slot.{Slot}
use Rattle.frame_moves.specs.vm_frames.declared.slot.Slot.TheVariants as slots
use Rattle.frame_moves.specs.vm_frames.declared.slot.Role.{Role}
use Rattle.frame_moves.specs.vm_frames.Calls.{Call, Calls, OfRunning, change_first, on_running}
use Rattle.frame_moves.specs.vm_frames.Moves.{is_run, from_first, returned, CanUnwind}
use Rattle.frame_moves.specs.vm_frames.Views as views
use Rattle.frame_moves.specs.vm_frames.Views.{View, slot_of, slots_of, role_of, starts_of, position_of, frame_of, behind}
use Rattle.frame_moves.specs.vm_frames.Placed.{IsPlaced}
use Rattle.frame_moves.specs.Shown.{Tables, value_of, view_of, running_of, step_of, IsTop, IsNext}
use Rattle.frame_moves.specs.Stacks.{gone}
use Rattle.frame_moves.proofs.Stepping.{goes_to}
use Rattle.frame_exits.specs.declared.ends.After.{After}
use Rattle.frame_exits.specs.declared.ends.After.TheVariants as afters
use Rattle.frame_exits.specs.declared.ends.End.TheVariants as ends
use Rattle.frame_exits.specs.Known.{KeepsException, HasModule, IsKnownSlot, IsKnownCall}
use Rattle.frame_exits.specs.Left.{left, leaving_of, receiving_of, after_of, stored_state}
use Rattle.frame_exits.specs.Thrown.{entered_or}
use Rattle.frame_exits.proofs.Keeping.{going, into_known, first_all, call_later}

pub at_get : {X : Type 0} (P : X → Type 0) (xs : List X) (k : ℕ) (x : X) → slice_get xs k ≡ Some x → All P xs → P x
at_get P [] k x e h = absurd (none-some x e)
at_get P (y ∷ ys) zero x e h = subst P (same_Some y x e) (All-head P y ys h)
at_get P (y ∷ ys) (suc k) x e h = at_get P ys k x e (All-tail P y ys h)

pub role_has : (objects : Objects Value ℕ) (role : Role) (cs : List Call) → OfRunning (λ c. HasModule objects c.role) cs → OfRunning (λ c. role ≡ c.role) cs → HasModule objects role
role_has objects role [] h e = absurd h
role_has objects role (c ∷ cs) h e = subst (HasModule objects) (sym e) h

pub can_return : (v : Value) (P : Call → Type 0) (cs : List Call) → OfRunning P cs → OfRunning (CanUnwind (slots.Return v)) cs
can_return v P [] h = h
can_return v P (c ∷ cs) h = tt

-- within a call, or out of it
-- ===========================

-- a return in a frame is the machine's
abbrev pub ReturnsLaw : Type 0
ReturnsLaw =
    (view : View) (v : Value) (c : Call) (frames : List states.Frame) (w : PlainWorld) → IsPlaced view c
    → leave (view.plain v) (frame_of view c).entries (frame_of view c) frames w ≡ behind view (returned v c) frames w (give (view.plain v) (frame_of view c).role frames w)

module _ (v : Value) (r : Option ℕ) where
  abbrev Handles : Call → Type 0
  Handles c = r ≡ (returned v c).handler

  pub left_here : (cs : List Call) (h : ℕ) → r ≡ Some h → OfRunning Handles cs → left v cs ≡ change_first (λ c. (returned v c).call) cs
  left_here [] h is e = absurd e
  left_here (c ∷ cs) h is e = ap (λ (z : Option ℕ). entered_or z ((returned v c).call ∷ cs) cs) (sym e ∙ is)

  pub left_out : (cs : List Call) → r ≡ None → OfRunning Handles cs → left v cs ≡ drop 1 cs
  left_out [] is e = absurd e
  left_out (c ∷ cs) is e = ap (λ (z : Option ℕ). entered_or z ((returned v c).call ∷ cs) cs) (sym e ∙ is)

  module _ (law : ReturnsLaw) (t : Tables) (w : PlainWorld) where
    abbrev Inside : Call → List Call → Option ℕ → State
    Inside c cs z =
        views.entered_or (view_of t) z (Running 0 (frame_of (view_of t) (returned v c).call) (map (frame_of (view_of t)) cs) w)
        (give (value_of t v) (frame_of (view_of t) c).role (map (frame_of (view_of t)) cs) w)

    pub leaves_here : (cs : List Call) (h : ℕ) → r ≡ Some h → OfRunning Handles cs → OfRunning (IsPlaced (view_of t)) cs → leaving_of t v cs w ≡ running_of t 0 (change_first (λ c. (returned v c).call) cs) w
    leaves_here [] h is e p = absurd e
    leaves_here (c ∷ cs) h is e p = law (view_of t) v c (map (frame_of (view_of t)) cs) w p ∙ ap (Inside c cs) (sym e ∙ is)

    pub leaves_out : (cs : List Call) (n : ℕ) (role : Role) → r ≡ None → OfRunning Handles cs → OfRunning (IsPlaced (view_of t)) cs → OfRunning (λ c. n ≡ c.module_number) cs → OfRunning (λ c. role ≡ c.role) cs
        → leaving_of t v cs w ≡ give (value_of t v) (role_of (view_of t) (t.module_name n) role) (map (frame_of (view_of t)) (drop 1 cs)) w
    leaves_out [] n role is e p number_is role_is = absurd e
    leaves_out (c ∷ cs) n role is e p number_is role_is =
        let frames = map (frame_of (view_of t)) cs in
        law (view_of t) v c frames w p ∙ ap (Inside c cs) (sym e ∙ is)
        ∙ ap (λ (m : ℕ). give (value_of t v) (role_of (view_of t) (t.module_name m) c.role) frames w) (sym number_is)
        ∙ ap (λ (z : Role). give (value_of t v) (role_of (view_of t) (t.module_name n) z) frames w) (sym role_is)

-- to the calls that wait
-- ======================

pub give_none : (v : Val) (role : states.Role) (frames : List states.Frame) (w : PlainWorld) → frames ≡ [] → give v role frames w ≡ Halted Ended w
give_none v states.Main frames w is = refl
give_none v states.Called frames w is = ap (λ (z : List states.Frame). give v states.Called z w) is
give_none v (states.Imported name m) frames w is = ap (λ (z : List states.Frame). give v (states.Imported name m) z w) is

pub no_frames : (t : Tables) (cs : List Call) → cs ≡ [] → map (frame_of (view_of t)) cs ≡ []
no_frames t cs is = ap (λ (z : List Call). map (frame_of (view_of t)) z) is

pub give_value : (t : Tables) (v : Value) (cs : List Call) (w : PlainWorld) → 0 < length cs → give (value_of t v) states.Called (map (frame_of (view_of t)) cs) w ≡ receiving_of t v cs w
give_value t v [] w some = absurd (omega (arith, some))
give_value t v (c ∷ cs) w some = refl

-- where a run is once the module of an import is stored
abbrev pub after_stored : Result (Unit {0}) NoRoom → After
after_stored (Ok done) = afters.Runs
after_stored (Err room) = afters.Ends (ends.Memory room)

stored_after : (t : Tables) (c : Call) (cs : List Call) (w : PlainWorld) (result : Result (Unit {0}) NoRoom)
    → stored_state result (frame_of (view_of t) c) (map (frame_of (view_of t)) cs) w ≡ after_of t (after_stored result) (c ∷ cs) w
stored_after t c cs w (Ok done) = refl
stored_after t c cs w (Err room) = refl

pub give_import : (t : Tables) (v : Value) (name : Name) (m : ℕ) (w w1 : PlainWorld) (result : Result (Unit {0}) NoRoom)
    → ((place : Place) (frame : states.Frame) (frames : List states.Frame) → on_given (given place (store_module w name m)) frame frames (λ done. Running 0 frame frames) ≡ stored_state result frame frames w1)
    → (cs : List Call) → 0 < length cs → give (value_of t v) (states.Imported name m) (map (frame_of (view_of t)) cs) w ≡ after_of t (after_stored result) cs w1
give_import t v name m w w1 result state [] some = absurd (omega (arith, some))
give_import t v name m w w1 result state (c ∷ cs) some =
    state (record { file = []; line = 0; name = [] }) (frame_of (view_of t) c) (map (frame_of (view_of t)) cs) ∙ stored_after t c cs w1 result

-- stores raise nothing
-- ====================

put_never : (b : Bool) (heap wider : PlainHeap) (cells : ℕ) (fault : Fault) → (cond b (gives Nil wider) (is_full heap cells 0)).answer ≡ Err (Raises fault) → ⊥
put_never true heap wider cells fault e = cc
put_never false heap wider cells fault e = cc

in_never : (w : PlainWorld) (name : List ℕ) (m : ℕ) (names : Option ℕ) (fault : Fault) → (stored_in w name m names).answer ≡ Err (Raises fault) → ⊥
in_never w name m None fault e = cc
in_never w name m (Some names) fault e = put_never _ w.heap _ _ fault e

found_never : (w : PlainWorld) (name : List ℕ) (m : ℕ) (found : Option ℕ) (fault : Fault)
    → (let effect : Effect Val = elim found [ Some n ↦ stored_in w name m (names_of (object w.heap.objects n)) | None ↦ does Nil w ] in effect.answer) ≡ Err (Raises fault) → ⊥
found_never w name m None fault e = cc
found_never w name m (Some n) fault e = in_never w name m (names_of (object w.heap.objects n)) fault e

under_never : (w : PlainWorld) (name : List ℕ) (m : ℕ) (outer : Option (List ℕ)) (fault : Fault) → (stored_under w name m outer).answer ≡ Err (Raises fault) → ⊥
under_never w name m None fault e = cc
under_never w name m (Some outer) fault e = found_never w name m (registered_as w.modules outer) fault e

pub store_never : (w : PlainWorld) (name : List ℕ) (m : ℕ) (fault : Fault) → (store_module w name m).answer ≡ Err (Raises fault) → ⊥
store_never w name m fault e = under_never w name m (outer_name name) fault e

-- the instruction
-- ===============

abbrev pub popped : Call → Call
popped c = record c { slots = drop 1 c.slots }

return_slots : (view : View) (starts : List ℕ) (library : Library) (place : Place) (paid : ℕ) (frame : states.Frame) (frames : List states.Frame) (w : PlainWorld) (v : Value) (st : List Slot) → slice_get st 0 ≡ Some (slots.Value v)
    → plain_step library place paid frame frames w ops.ReturnValue (slots_of view starts st) ≡ leave (view.plain v) frame.entries (record frame { slots = slots_of view starts (drop 1 st) }) frames w
return_slots view starts library place paid frame frames w v [] e = absurd (none-some (slots.Value v) e)
return_slots view starts library place paid frame frames w v (s ∷ st) e =
    ap (λ (z : Slot). plain_step library place paid frame frames w ops.ReturnValue (slot_of view starts z ∷ slots_of view starts st)) (same_Some s (slots.Value v) e)

pub return_leaves : (t : Tables) (library : Library) (place : Place) (paid : ℕ) (w : PlainWorld) (v : Value) (cs : List Call) → IsTop (slots.Value v) cs
    → step_of t library place paid cs w (Plain (instrs.Plain ops.ReturnValue)) ≡ leaving_of t v (change_first popped cs) w
return_leaves t library place paid w v [] e = absurd e
return_leaves t library place paid w v (c ∷ cs) e =
    return_slots (view_of t) (starts_of (view_of t) c) library place paid (frame_of (view_of t) c) (map (frame_of (view_of t)) cs) w v c.slots e

-- what stays
-- ==========

module _ (P Q : Call → Type 0) where
  pub changed_all : (change : Call → Call) → ((c : Call) → P c → Q (change c)) → ((c : Call) → P c → Q c) → (cs : List Call) → All P cs → All Q (change_first change cs)
  changed_all change f keep [] h = All-nil Q
  changed_all change f keep (c ∷ cs) h = All-cons Q (change c) cs (f c (All-head P c cs h)) (All-weaker P Q keep cs (All-tail P c cs h))

module _ (P : Call → Type 0) where
  entered_all : (r : Option ℕ) (inside outside : List Call) → All P inside → All P outside → All P (entered_or r inside outside)
  entered_all (Some handler) inside outside i o = i
  entered_all None inside outside i o = o

  pub left_all : (v : Value) → ((c : Call) → P c → P (returned v c).call) → (cs : List Call) → All P cs → All P (left v cs)
  left_all v f [] h = h
  left_all v f (c ∷ cs) h =
      entered_all (returned v c).handler ((returned v c).call ∷ cs) cs (All-cons P (returned v c).call cs (f c (All-head P c cs h)) (All-tail P c cs h)) (All-tail P c cs h)

pub of_changed : (P Q : Call → Type 0) (change : Call → Call) → ((c : Call) → P c → Q (change c)) → (cs : List Call) → OfRunning P cs → OfRunning Q (change_first change cs)
of_changed P Q change f [] h = absurd h
of_changed P Q change f (c ∷ cs) h = f c h

module _ (texts : StrNo → Option (List ℕ)) (tuples : ConstNo → Option (List Value)) (modules : ℕ) (objects : Objects Value ℕ) where
  pub returned_known : (c : Call) → IsKnownCall texts tuples modules objects c → (v : Value) → IsKnown texts tuples objects v → IsKnownCall texts tuples modules objects (returned v c).call
  returned_known c k v is =
      into_known texts tuples modules objects c k (λ e. e) (slots.Return v) is (λ e h. h) (from_first (is_run c.at) c.entries) (first_all (KeepsException objects) (is_run c.at) c.entries k.entries)

  pub popped_known : (c : Call) → IsKnownCall texts tuples modules objects c → IsKnownCall texts tuples modules objects (popped c)
  popped_known c k = going texts tuples modules objects c k c.at (drop 1 c.slots) c.entries (All-drop (IsKnownSlot texts tuples objects) 1 c.slots k.slots) k.entries

  top_known : (v : Value) (st : List Slot) → slice_get st 0 ≡ Some (slots.Value v) → All (IsKnownSlot texts tuples objects) st → IsKnown texts tuples objects v
  top_known v [] e h = absurd (none-some (slots.Value v) e)
  top_known v (s ∷ st) e h = subst (IsKnownSlot texts tuples objects) (same_Some s (slots.Value v) e) (All-head (IsKnownSlot texts tuples objects) s st h)

  pub value_known : (v : Value) (cs : List Call) → IsTop (slots.Value v) cs → All (IsKnownCall texts tuples modules objects) cs → IsKnown texts tuples objects v
  value_known v [] e h = absurd e
  value_known v (c ∷ cs) e h = let k = All-head (IsKnownCall texts tuples modules objects) c cs h in top_known v c.slots e k.slots

-- the call that waited
-- ====================

changed_twice : (f g : Call → Call) (cs : List Call) → change_first g (change_first f cs) ≡ change_first (λ c. g (f c)) cs
changed_twice f g [] = refl
changed_twice f g (c ∷ cs) = refl

pub pushed : (v : Value) (end : ℕ) (old mid new : Calls) → mid ≡ on_running (λ c. record c { slots = slots.Value v ∷ c.slots }) old → new ≡ on_running (λ c. record c { at = end }) mid
    → new ≡ on_running (λ c. gone end (slots.Value v ∷ c.slots) c) old
pushed v end old mid new e f =
    f ∙ ap (λ (z : Calls). on_running (λ c. record c { at = end }) z) e
    ∙ ap (λ (z : List Call). record old { calls = z }) (changed_twice (λ c. record c { slots = slots.Value v ∷ c.slots }) (λ c. record c { at = end }) old.calls)

receiving : (t : Tables) (w : PlainWorld) (v : Value) (end : ℕ) (cs : List Call) → IsNext t end cs → receiving_of t v cs w ≡ running_of t 0 (change_first (λ c. gone end (slots.Value v ∷ c.slots) c) cs) w
receiving t w v end [] next = absurd next
receiving t w v end (c ∷ cs) next = goes_to (view_of t) c (suc (position_of (view_of t) c)) end (slots.Value v ∷ c.slots) (map (frame_of (view_of t)) cs) w next

pub receives : (t : Tables) (w : PlainWorld) (v : Value) (end : ℕ) (old new : Calls) → new ≡ on_running (λ c. gone end (slots.Value v ∷ c.slots) c) old → IsNext t end old.calls
    → receiving_of t v old.calls w ≡ running_of t 0 new.calls w
receives t w v end old new moved next = receiving t w v end old.calls next ∙ ap (λ (z : Calls). running_of t 0 z.calls w) (sym moved)

-- without the top slot
pub popped_placed : (view : View) (c : Call) → IsPlaced view c → IsPlaced view (popped c)
popped_placed view c p = record { bytes = p.bytes; list = p.list; listed = p.listed; starts_are = p.starts_are; here = p.here; handlers = p.handlers }

pub return_known : (texts : StrNo → Option (List ℕ)) (tuples : ConstNo → Option (List Value)) (modules : ℕ) (before behind : Objects Value ℕ) → Later before behind → (v : Value) (cs : List Call) → IsTop (slots.Value v) cs
    → All (IsKnownCall texts tuples modules before) cs → All (IsKnownCall texts tuples modules behind) (left v (change_first popped cs))
return_known texts tuples modules before behind later v cs top h =
    let O : Call → Type 0 = λ c. IsKnownCall texts tuples modules before c in
    let N : Call → Type 0 = λ c. IsKnownCall texts tuples modules behind c in
    let one : All N cs = All-weaker O N (λ c k. call_later texts tuples modules before behind later c k) cs h in
    left_all N v (λ c k. returned_known texts tuples modules behind c k v (value_known texts tuples modules behind v cs top one)) (change_first popped cs)
    (changed_all N N popped (λ c k. popped_known texts tuples modules behind c k) (λ c k. k) cs one)
