-- The ends of finallys, as the machine has them.
use Rattle.std.proofs.Common.{◌≡◌, ℕ, zero, suc, ◌<◌, ◌≤◌, List, [], ◌∷◌, map, drop, length, ◌-◌, Bool, true, false, Option, Some, All, slice_get, refl, sym, ap, ◌∙◌, subst, arith, if◌then◌else◌}
use Rattle.std.proofs.lemmas.List.Elements.{All-cons, All-head, All-tail, All-drop}
use Rattle.std.proofs.lemmas.Option.{none-some, same_Some}
use Rattle.mpy_base.specs.World.{Objects}
use Rattle.mpy_base.specs.Val.{Val, PlainWorld}
use Rattle.frame_moves.specs.bc_ops.declared.instr.Op.TheVariants as ops
use Rattle.frame_moves.specs.bc_ops.declared.instr.Instr.TheVariants as instrs
use Rattle.frame_moves.specs.arena_heap.declared.value.Value.{Value}
use Rattle.frame_moves.specs.arena_heap.declared.value.StrNo.{StrNo}
use Rattle.frame_moves.specs.arena_heap.declared.value.ConstNo.{ConstNo}
use Rattle.frame_moves.specs.arena_heap.declared.value.ExcNo.{ExcNo}
use Rattle.frame_moves.specs.py_effects.Effect.{Place}
use Rattle.frame_moves.specs.bc_machine.Library.{Library, Plain}
use Rattle.frame_moves.specs.bc_machine.State as states
use Rattle.frame_moves.specs.bc_machine.State.{State, Running, enter, is_run, leave, unwind, cut, resume}
use Rattle.frame_moves.specs.bc_machine.Step.{plain_step, end_finally}
use Rattle.frame_moves.specs.vm_frames.declared.slot.Slot.{Slot}
use Rattle.frame_moves.specs.vm_frames.declared.slot.Slot.TheVariants as slots
use Rattle.frame_moves.specs.vm_frames.declared.slot.Entry.{Entry}
use Rattle.frame_moves.specs.vm_frames.Calls.{Call, Calls, OfRunning, change_first, on_running}
use Rattle.frame_moves.specs.vm_frames.Moves as moves
use Rattle.frame_moves.specs.vm_frames.Moves.{Moved, jumped, without_iterator, is_run as runs}
use Rattle.frame_moves.specs.bc_labels.Positions.{position_in}
use Rattle.frame_moves.specs.vm_frames.Views.{View, slot_of, slots_of, entries_of, starts_of, position_of, frame_of}
use Rattle.frame_moves.specs.vm_frames.Placed.{IsPlaced}
use Rattle.frame_moves.specs.Shown.{Tables, view_of, running_of, step_of, IsTop, IsNext}
use Rattle.frame_moves.proofs.Stepping.{goes_with}
use Rattle.frame_exits.specs.declared.causes.Cause.{Cause}
use Rattle.frame_exits.specs.declared.causes.Cause.TheVariants as causes
use Rattle.frame_exits.specs.Causes.{KeepsCause, GoesOn, cause_slot, unkept, resumed, resuming_of}
use Rattle.frame_exits.specs.Known.{KeepsException, IsKnownSlot, IsKnownCall}
use Rattle.frame_exits.proofs.Keeping.{thrown_all, going, raised_known}
use Rattle.frame_exits.proofs.Leaves.{popped, changed_all, left_all, returned_known}
use Rattle.frame_exits.specs.Left.{leaving_of}
use Rattle.frame_exits.specs.Thrown.{throwing_of}

-- a return and a jump look at the entries that they are given alone
leave_same : (v : Val) (es : List states.Entry) (frame : states.Frame) (ds : List states.Entry) (frames : List states.Frame) (w : PlainWorld)
    → leave v es frame frames w ≡ leave v es (record frame { entries = ds }) frames w
leave_same v [] frame ds frames w = refl
leave_same v (e ∷ es) frame ds frames w =
    ap (λ (z : State). if is_run e then enter e es (states.KeptReturn v) frame.slots frame frames w else z) (leave_same v es frame ds frames w)

unwind_same : (target : ℕ) (it : Bool) (count : ℕ) (es : List states.Entry) (st : List states.Slot) (frame : states.Frame) (other : List states.Slot) (ds : List states.Entry) (frames : List states.Frame) (w : PlainWorld)
    → unwind target it count es st frame frames w ≡ unwind target it count es st (record frame { slots = other; entries = ds }) frames w
unwind_same target it zero es st frame other ds frames w = refl
unwind_same target it (suc count) [] st frame other ds frames w = refl
unwind_same target it (suc count) (e ∷ es) st frame other ds frames w =
    ap (λ (z : State). if is_run e then enter e es (states.KeptJump target count it) st frame frames w else z) (unwind_same target it count es (cut e.height st) frame other ds frames w)

module _ (t : Tables) (starts : List ℕ) where
  resume_same : (cause : Cause) (st : List states.Slot) (es : List states.Entry) (frame : states.Frame) (frames : List states.Frame) (w : PlainWorld)
      → resume (slot_of (view_of t) starts (cause_slot cause)) st es frame frames w ≡ resume (slot_of (view_of t) starts (cause_slot cause)) st es (record frame { slots = st; entries = es }) frames w
  resume_same causes.Nothing st es frame frames w = refl
  resume_same (causes.Exception x) st es frame frames w = refl
  resume_same (causes.Return v) st es frame frames w = leave_same _ es (record frame { slots = st }) es frames w
  resume_same (causes.Jump target count iterator) st es frame frames w = unwind_same _ iterator count es st frame st es frames w

  end_step : (library : Library) (place : Place) (paid : ℕ) (frame : states.Frame) (frames : List states.Frame) (w : PlainWorld) (position : ℕ) (s : Slot) (st : List Slot) (es : List Entry)
      → slice_get st 0 ≡ Some s → 0 < length es → frame.entries ≡ entries_of starts position es
      → plain_step library place paid frame frames w ops.EndFinally (slots_of (view_of t) starts st)
      ≡ resume (slot_of (view_of t) starts s) (slots_of (view_of t) starts (drop 1 st)) (entries_of starts position (drop 1 es)) frame frames w
  end_step library place paid frame frames w position s [] es top some is = absurd (none-some s top)
  end_step library place paid frame frames w position s (a ∷ st) [] top some is = absurd (omega (arith, some))
  end_step library place paid frame frames w position s (a ∷ st) (e ∷ es) top some is =
      ap (λ (z : List states.Entry). end_finally library place paid frame frames w (slot_of (view_of t) starts a) (slots_of (view_of t) starts st) z) is
      ∙ ap (λ (z : Slot). resume (slot_of (view_of t) starts z) (slots_of (view_of t) starts st) (entries_of starts position es) frame frames w) (same_Some a s top)

pub end_resumes : (t : Tables) (library : Library) (place : Place) (paid : ℕ) (w : PlainWorld) (cause : Cause) (cs : List Call) → IsTop (cause_slot cause) cs → OfRunning (λ c. 0 < length c.entries) cs
    → step_of t library place paid cs w (Plain (instrs.Plain ops.EndFinally)) ≡ resuming_of t cause (change_first unkept cs) w
end_resumes t library place paid w cause [] top some = absurd top
end_resumes t library place paid w cause (c ∷ cs) top some =
    let view = view_of t in
    let starts = starts_of view c in
    let frame = frame_of view c in
    let frames = map (frame_of view) cs in
    end_step t starts library place paid frame frames w (position_of view c) (cause_slot cause) c.slots c.entries top some refl
    ∙ resume_same t starts cause (slots_of view starts (drop 1 c.slots)) (entries_of starts (position_of view c) (drop 1 c.entries)) frame frames w

-- on with each cause
-- ==================

on_next : (t : Tables) (w : PlainWorld) (end : ℕ) (cs : List Call) → IsNext t end cs → resuming_of t causes.Nothing cs w ≡ running_of t 0 (change_first (λ c. record c { at = end }) cs) w
on_next t w end [] h = absurd h
on_next t w end (c ∷ cs) h = goes_with (view_of t) c (suc (position_of (view_of t) c)) end c.slots c.entries (map (frame_of (view_of t)) cs) w h

pub resumes_next : (t : Tables) (w : PlainWorld) (end : ℕ) (old new : Calls) → new ≡ on_running (λ c. record c { at = end }) old → IsNext t end old.calls
    → resuming_of t causes.Nothing old.calls w ≡ running_of t 0 new.calls w
resumes_next t w end old new moved next = on_next t w end old.calls next ∙ ap (λ (z : Calls). running_of t 0 z.calls w) (sym moved)

pub resumes_throw : (t : Tables) (w : PlainWorld) (x : ExcNo) (cs : List Call) → 0 < length cs → resuming_of t (causes.Exception x) cs w ≡ throwing_of t x cs w
resumes_throw t w x [] some = absurd (omega (arith, some))
resumes_throw t w x (c ∷ cs) some = refl

pub resumes_leave : (t : Tables) (w : PlainWorld) (v : Value) (cs : List Call) → 0 < length cs → resuming_of t (causes.Return v) cs w ≡ leaving_of t v cs w
resumes_leave t w v [] some = absurd (omega (arith, some))
resumes_leave t w v (c ∷ cs) some = refl

-- a jump in a frame is the machine's
abbrev pub JumpsLaw : Type 0
JumpsLaw =
    (view : View) (target count : ℕ) (it : Bool) (c : Call) (frames : List states.Frame) (w : PlainWorld) → IsPlaced view c → count ≤ length c.entries
    → unwind (position_in (starts_of view c) target) it count (frame_of view c).entries (frame_of view c).slots (frame_of view c) frames w
    ≡ Running 0 (frame_of view (jumped target count it c.entries c.slots c).call) frames w

pub resumes_jump : JumpsLaw → (t : Tables) (w : PlainWorld) (target count : ℕ) (it : Bool) (cs : List Call) → OfRunning (λ c. count ≤ length c.entries) cs → OfRunning (IsPlaced (view_of t)) cs
    → resuming_of t (causes.Jump target count it) cs w ≡ running_of t 0 (change_first (λ c. (jumped target count it c.entries c.slots c).call) cs) w
resumes_jump law t w target count it [] fits placed = absurd fits
resumes_jump law t w target count it (c ∷ cs) fits placed = law (view_of t) target count it c (map (frame_of (view_of t)) cs) w placed fits

-- what stays
-- ==========

pub keeps_cause : (cause : Cause) → KeepsCause (cause_slot cause)
keeps_cause causes.Nothing = tt
keeps_cause (causes.Exception x) = tt
keeps_cause (causes.Return v) = tt
keeps_cause (causes.Jump target count iterator) = tt

pub some_cause : (cause : Cause) (s : Slot) (cs : List Call) → IsTop (cause_slot cause) cs → OfRunning (λ c. slice_get c.slots 0 ≡ Some s) cs → cause_slot cause ≡ s
some_cause cause s [] top is = absurd top
some_cause cause s (c ∷ cs) top is = same_Some (cause_slot cause) s (sym top ∙ is)

-- a slot keeps one cause
pub one_cause : (a b : Cause) → cause_slot a ≡ cause_slot b → a ≡ b
one_cause causes.Nothing causes.Nothing e = refl
one_cause causes.Nothing (causes.Exception x) e = absurd cc
one_cause causes.Nothing (causes.Return v) e = absurd cc
one_cause causes.Nothing (causes.Jump target count iterator) e = absurd cc
one_cause (causes.Exception x) causes.Nothing e = absurd cc
one_cause (causes.Exception x) (causes.Exception y) e = let same : x ≡ y = cc in ap (λ (z : ExcNo). causes.Exception z) same
one_cause (causes.Exception x) (causes.Return v) e = absurd cc
one_cause (causes.Exception x) (causes.Jump target count iterator) e = absurd cc
one_cause (causes.Return v) causes.Nothing e = absurd cc
one_cause (causes.Return v) (causes.Exception x) e = absurd cc
one_cause (causes.Return v) (causes.Return u) e = let same : v ≡ u = cc in ap (λ (z : Value). causes.Return z) same
one_cause (causes.Return v) (causes.Jump target count iterator) e = absurd cc
one_cause (causes.Jump target count iterator) causes.Nothing e = absurd cc
one_cause (causes.Jump target count iterator) (causes.Exception x) e = absurd cc
one_cause (causes.Jump target count iterator) (causes.Return v) e = absurd cc
one_cause (causes.Jump target count iterator) (causes.Jump target1 count1 iterator1) e =
    let one : target ≡ target1 = cc in
    let two : count ≡ count1 = cc in
    let three : iterator ≡ iterator1 = cc in
    ap (λ (z : ℕ). causes.Jump z count iterator) one ∙ ap (λ (z : ℕ). causes.Jump target1 z iterator) two ∙ ap (λ (z : Bool). causes.Jump target1 count1 z) three

-- a change of the running call by a fact of it
pub running_all : (P Q : Call → Type 0) (change : Call → Call) → ((c : Call) → Q c → P c → P (change c)) → (cs : List Call) → OfRunning Q cs → All P cs → All P (change_first change cs)
running_all P Q change f [] q h = absurd q
running_all P Q change f (c ∷ cs) q h = All-cons P (change c) cs (f c q (All-head P c cs h)) (All-tail P c cs h)

module _ (texts : StrNo → Option (List ℕ)) (tuples : ConstNo → Option (List Value)) (modules : ℕ) (objects : Objects Value ℕ) (c : Call) (k : IsKnownCall texts tuples modules objects c) where
  abbrev S : Slot → Type 0
  S s = IsKnownSlot texts tuples objects s

  abbrev K : Entry → Type 0
  K e = KeepsException objects e

  abbrev Known : Call → Type 0
  Known d = IsKnownCall texts tuples modules objects d

  without_all : (it : Bool) (st : List Slot) → All S st → All S (without_iterator it st)
  without_all true st h = All-drop S 4 st h
  without_all false st h = h

  either_known : (b : Bool) (m n : Moved) → Known m.call → Known n.call → Known (if b then m else n).call
  either_known true m n h i = h
  either_known false m n h i = i

  pub jumped_known : (target count : ℕ) (it : Bool) (es : List Entry) (st : List Slot) → All K es → All S st → Known (jumped target count it es st c).call
  jumped_known target zero it es st e s = going texts tuples modules objects c k target (without_iterator it st) es (without_all it st s) e
  jumped_known target (suc count) it [] st e s = going texts tuples modules objects c k target (without_iterator it st) [] (without_all it st s) e
  jumped_known target (suc count) it (d ∷ es) st e s =
      let lower : List Slot = moves.cut d.height st in
      let low : All S lower = All-drop S (length st - d.height) st s in
      let entered : Moved = record { handler = Some d.handler; call = record c { at = d.handler; slots = slots.Jump target count it ∷ lower; entries = d ∷ es } } in
      either_known (runs c.at d) entered (jumped target count it es lower c)
      (going texts tuples modules objects c k d.handler (slots.Jump target count it ∷ lower) (d ∷ es) (All-cons S (slots.Jump target count it) lower tt low) e)
      (jumped_known target count it es lower (All-tail K d es e) low)

  pub unkept_known : Known (unkept c)
  unkept_known = going texts tuples modules objects c k c.at (drop 1 c.slots) (drop 1 c.entries) (All-drop S 1 c.slots k.slots) (All-drop K 1 c.entries k.entries)

module _ (texts : StrNo → Option (List ℕ)) (tuples : ConstNo → Option (List Value)) (modules : ℕ) (objects : Objects Value ℕ) where
  abbrev Knows : Call → Type 0
  Knows d = IsKnownCall texts tuples modules objects d

  pub resumed_known : (cause : Cause) (end : ℕ) → IsKnownSlot texts tuples objects (cause_slot cause) → (cs : List Call) → All Knows cs → All Knows (resumed cause end cs)
  resumed_known causes.Nothing end s cs h =
      changed_all Knows Knows (λ c. record c { at = end }) (λ c k. going texts tuples modules objects c k end c.slots c.entries k.slots k.entries) (λ c k. k) cs h
  resumed_known (causes.Exception x) end s cs h = thrown_all Knows x (λ c k. raised_known texts tuples modules objects c k x s.leads.meets) cs h
  resumed_known (causes.Return v) end s cs h = left_all Knows v (λ c k. returned_known texts tuples modules objects c k v s) cs h
  resumed_known (causes.Jump target count it) end s cs h =
      changed_all Knows Knows (λ c. (jumped target count it c.entries c.slots c).call) (λ c k. jumped_known texts tuples modules objects c k target count it c.entries c.slots k.entries k.slots) (λ c k. k) cs h

  top_slot : (s : Slot) (st : List Slot) → slice_get st 0 ≡ Some s → All (IsKnownSlot texts tuples objects) st → IsKnownSlot texts tuples objects s
  top_slot s [] e h = absurd (none-some s e)
  top_slot s (a ∷ st) e h = subst (IsKnownSlot texts tuples objects) (same_Some a s e) (All-head (IsKnownSlot texts tuples objects) a st h)

  pub slot_known : (s : Slot) (cs : List Call) → IsTop s cs → All Knows cs → IsKnownSlot texts tuples objects s
  slot_known s [] e h = absurd e
  slot_known s (c ∷ cs) e h = let k = All-head Knows c cs h in top_slot s c.slots e k.slots

  pub end_known : (cause : Cause) (end : ℕ) (cs : List Call) → IsTop (cause_slot cause) cs → All Knows cs → All Knows (resumed cause end (change_first unkept cs))
  end_known cause end cs top h =
      resumed_known cause end (slot_known (cause_slot cause) cs top h) (change_first unkept cs)
      (changed_all Knows Knows unkept (λ c k. unkept_known texts tuples modules objects c k) (λ c k. k) cs h)

changed_twice : (f g : Call → Call) (cs : List Call) → change_first g (change_first f cs) ≡ change_first (λ c. g (f c)) cs
changed_twice f g [] = refl
changed_twice f g (c ∷ cs) = refl

abbrev pub dropped : Call → Call
dropped c = record c { entries = drop 1 c.entries }

-- the slot and then the entry are dropped
pub unkept_is : (old mid new : Calls) → mid ≡ on_running popped old → new ≡ on_running dropped mid → new ≡ on_running unkept old
unkept_is old mid new e f =
    f ∙ ap (λ (z : Calls). on_running dropped z) e ∙ ap (λ (z : List Call). record old { calls = z }) (changed_twice popped dropped old.calls)

pub goes_unkept : (view : View) (end : ℕ) (cause : Cause) (c : Call) → GoesOn view end cause c → GoesOn view end cause (unkept c)
goes_unkept view end causes.Nothing c h = h
goes_unkept view end (causes.Exception x) c h = h
goes_unkept view end (causes.Return v) c h = h
goes_unkept view end (causes.Jump target count iterator) c h = h

pub next_unkept : (t : Tables) (end : ℕ) (cs : List Call) → IsNext t end cs → IsNext t end (change_first unkept cs)
next_unkept t end [] h = h
next_unkept t end (c ∷ cs) h = h
