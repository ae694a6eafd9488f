-- Calls that are known stay so.
use Rattle.std.proofs.Common.{◌≡◌, ℕ, ◌-◌, List, [], ◌∷◌, length, Bool, true, false, Option, Some, None, Result, Ok, Err, All, refl, sym, ap, subst, if◌then◌else◌}
use Rattle.std.specs.Prelude.{IfSome, IfOk}
use Rattle.std.proofs.lemmas.List.Elements.{All-cons, All-head, All-tail, All-drop, All-weaker}
use Rattle.mpy_base.specs.declared.room.NoRoom.{NoRoom}
use Rattle.mpy_base.specs.World.{Objects, AnException, IsA, Later}
use Rattle.frame_moves.specs.arena_heap.declared.value.Value.{Value}
use Rattle.frame_moves.specs.arena_heap.declared.value.Value.TheVariants as values
use Rattle.frame_moves.specs.arena_heap.declared.value.StrNo.{StrNo}
use Rattle.frame_moves.specs.arena_heap.declared.value.ConstNo.{ConstNo}
use Rattle.frame_moves.specs.arena_heap.declared.value.ExcNo.{ExcNo}
use Rattle.frame_moves.proofs.arena_heap_lemmas.Sounds.{leads_later}
use Rattle.frame_moves.specs.arena_objects.Keys.{AllTold}
use Rattle.frame_moves.specs.prim_faults.Faults.{IsKnown}
use Rattle.frame_moves.specs.vm_frames.declared.slot.Slot.{Slot}
use Rattle.frame_moves.specs.vm_frames.declared.slot.Slot.TheVariants as slots
use Rattle.frame_moves.specs.vm_frames.declared.slot.Entry.{Entry}
use Rattle.frame_moves.specs.vm_frames.declared.slot.Role.{Role}
use Rattle.frame_moves.specs.vm_frames.declared.slot.Role.TheVariants as roles
use Rattle.frame_moves.specs.vm_frames.Calls.{Call, Calls}
use Rattle.frame_moves.specs.vm_frames.Moves.{Moved, is_active, from_first, into_first, with_kept, raised}
use Rattle.frame_exits.specs.Known.{KeepsException, HasModule, IsKnownSlot, IsKnownCall, Keeps}
use Rattle.frame_exits.specs.Thrown.{entered_or, thrown, failed_calls}

-- throws
-- ======

module _ (P : Call → Type 0) where
  entered_all : (r : Option ℕ) (inside outside : List Call) → All P inside → All P outside → All P (entered_or r inside outside)
  entered_all (Some handler) inside outside i o = i
  entered_all None inside outside i o = o

  pub thrown_all : (x : ExcNo) → ((c : Call) → P c → P (raised x c).call) → (cs : List Call) → All P cs → All P (thrown x cs)
  thrown_all x f [] h = h
  thrown_all x f (c ∷ cs) h =
      entered_all (raised x c).handler ((raised x c).call ∷ cs) (thrown x cs)
      (All-cons P (raised x c).call cs (f c (All-head P c cs h)) (All-tail P c cs h)) (thrown_all x f cs (All-tail P c cs h))

  pub failed_all : (failure : Result ExcNo NoRoom) → ((x : ExcNo) → failure ≡ Ok x → (c : Call) → P c → P (raised x c).call) → (cs : List Call) → All P cs → All P (failed_calls failure cs)
  failed_all (Ok x) f cs h = thrown_all x (f x refl) cs h
  failed_all (Err room) f cs h = h

-- known calls
-- ===========

either_all : (P : Entry → Type 0) (b : Bool) (xs ys : List Entry) → All P xs → All P ys → All P (if b then xs else ys)
either_all P true xs ys h k = h
either_all P false xs ys h k = k

pub first_all : (P : Entry → Type 0) (passes : Entry → Bool) (es : List Entry) → All P es → All P (from_first passes es)
first_all P passes [] h = h
first_all P passes (e ∷ es) h = either_all P (passes e) (e ∷ es) (from_first passes es) h (first_all P passes es (All-tail P e es h))

kept_later : {old new : Objects Value ℕ} → Later old new → (kept : Option ExcNo) → IfSome kept (λ x. IsA old AnException x.cell) → IfSome kept (λ x. IsA new AnException x.cell)
kept_later later None k = tt
kept_later later (Some x) k = later.keeps AnException x.cell k

role_later : {old new : Objects Value ℕ} → Later old new → (role : Role) → HasModule old role → HasModule new role
role_later later roles.Main k = tt
role_later later roles.Call k = tt
role_later later (roles.Import m) k = later.keeps Rattle.mpy_base.specs.World.AModule m.cell k

module _ (texts : StrNo → Option (List ℕ)) (tuples : ConstNo → Option (List Value)) where
  pub value_later : {old new : Objects Value ℕ} → Later old new → (v : Value) → IsKnown texts tuples old v → IsKnown texts tuples new v
  value_later later v k = record { leads = leads_later later v k.leads; told = k.told }

  option_later : {old new : Objects Value ℕ} → Later old new → (o : Option Value) → IfSome o (IsKnown texts tuples old) → IfSome o (IsKnown texts tuples new)
  option_later later None k = tt
  option_later later (Some v) k = value_later later v k

  pub slot_later : {old new : Objects Value ℕ} → Later old new → (s : Slot) → IsKnownSlot texts tuples old s → IsKnownSlot texts tuples new s
  slot_later later (slots.Value v) k = value_later later v k
  slot_later later slots.Null k = tt
  slot_later later (slots.Object o) k = option_later later o k
  slot_later later (slots.Iter over at part) k = value_later later over k
  slot_later later (slots.Return v) k = value_later later v k
  slot_later later (slots.Jump target count iterator) k = tt

  pub call_later : (modules : ℕ) (old new : Objects Value ℕ) → Later old new → (c : Call) → IsKnownCall texts tuples modules old c → IsKnownCall texts tuples modules new c
  call_later modules old new later c k = record {
    of_module = k.of_module;
    names = later.keeps Rattle.mpy_base.specs.World.ADict c.names.cell k.names;
    role = role_later later c.role k.role;
    locals = All-weaker (λ v. IfSome v (IsKnown texts tuples old)) (λ v. IfSome v (IsKnown texts tuples new)) (λ v h. option_later later v h) c.locals k.locals;
    slots = All-weaker (IsKnownSlot texts tuples old) (IsKnownSlot texts tuples new) (λ s h. slot_later later s h) c.slots k.slots;
    entries = All-weaker (KeepsException old) (KeepsException new) (λ e h. kept_later later e.kept h) c.entries k.entries;
  }

  module _ (modules : ℕ) (objects : Objects Value ℕ) (c : Call) (k : IsKnownCall texts tuples modules objects c) where
    -- with these slots and entries, and at an offset
    pub going : (at : ℕ) (st : List Slot) (es : List Entry) → All (IsKnownSlot texts tuples objects) st → All (KeepsException objects) es
        → IsKnownCall texts tuples modules objects (record c { at = at; slots = st; entries = es })
    going at st es s e = record { of_module = k.of_module; names = k.names; role = k.role; locals = k.locals; slots = s; entries = e }

    pub into_known : (mark : Entry → Entry) (slot : Slot) → IsKnownSlot texts tuples objects slot → ((e : Entry) → KeepsException objects e → KeepsException objects (mark e))
        → (es : List Entry) → All (KeepsException objects) es → IsKnownCall texts tuples modules objects (into_first mark slot es c).call
    into_known mark slot s m [] h = going c.at c.slots [] k.slots h
    into_known mark slot s m (e ∷ es) h =
        let K : Entry → Type 0 = λ d. KeepsException objects d in
        let S : Slot → Type 0 = λ d. IsKnownSlot texts tuples objects d in
        going e.handler (slot ∷ Rattle.frame_moves.specs.vm_frames.Moves.cut e.height c.slots) (mark e ∷ es)
        (All-cons S slot (Rattle.frame_moves.specs.vm_frames.Moves.cut e.height c.slots) s (All-drop S (length c.slots - e.height) c.slots k.slots))
        (All-cons K (mark e) es (m e (All-head K e es h)) (All-tail K e es h))

    pub raised_known : (x : ExcNo) → IsA objects AnException x.cell → IsKnownCall texts tuples modules objects (raised x c).call
    raised_known x is =
        into_known (with_kept x) (slots.Value (values.Exc x)) (record { leads = record { meets = is; small = tt }; told = tt }) (λ e h. is)
        (from_first (λ e. Rattle.std.proofs.Common.not (is_active c.at e)) c.entries) (first_all (KeepsException objects) (λ e. Rattle.std.proofs.Common.not (is_active c.at e)) c.entries k.entries)

  -- behind a failure
  pub keeps_by : (modules : ℕ) (before behind : Objects Value ℕ) (old new : Calls) (failure : Result ExcNo NoRoom)
      → new ≡ record old { calls = failed_calls failure old.calls } → IfOk failure (λ x. IsA behind AnException x.cell) → Later before behind → AllTold texts tuples behind
      → Keeps texts tuples modules before behind old.calls new.calls
  keeps_by modules before behind old new failure is exception later all_told =
      let to : List Call = failed_calls failure old.calls in
      let same : new.calls ≡ to = ap (λ (z : Calls). z.calls) is in
      let at : (x : ExcNo) → failure ≡ Ok x → IsA behind AnException x.cell = λ x e. subst (λ (r : Result ExcNo NoRoom). IfOk r (λ y. IsA behind AnException y.cell)) e exception in
      let O : Call → Type 0 = λ c. IsKnownCall texts tuples modules before c in
      let N : Call → Type 0 = λ c. IsKnownCall texts tuples modules behind c in
      record {
        known = λ h. subst (All N) (sym same)
            (failed_all N failure (λ x e c k. raised_known modules behind c k x (at x e)) old.calls (All-weaker O N (λ c k. call_later modules before behind later c k) old.calls h));
        later = later;
        all_told = all_told;
      }
