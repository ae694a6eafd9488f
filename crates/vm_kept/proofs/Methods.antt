-- Objects that look-ups left lie on methods of their types.
use Rattle.std.proofs.Common.{◌≡◌, ℕ, zero, suc, List, [], ◌∷◌, map, Bool, true, false, Option, Some, All, subst, if◌then◌else◌}
use Rattle.std.specs.Prelude.{slice_get, bytes_eq}
use Rattle.std.proofs.lemmas.Option.{same_Some}
use Rattle.std.proofs.lemmas.List.Elements.{All-head}
use Rattle.state_calls.specs.mpy_base.declared.builtin.Builtin.{Builtin}
use Rattle.state_calls.specs.mpy_base.World.{ObjectKind, AList, ATuple, AText, ADict, AFunction, AnException, AMethod, ARange, AModule, Objects, object, kind_of, IsA}
use Rattle.state_calls.specs.mpy_base.Val.{Val, Built}
use Rattle.state_calls.specs.arena_heap.declared.value.Value.{Value}
use Rattle.state_calls.specs.arena_heap.declared.value.Value.TheVariants as values
use Rattle.state_calls.specs.arena_heap.declared.value.StrNo.{StrNo}
use Rattle.state_calls.specs.arena_heap.declared.value.ConstNo.{ConstNo}
use Rattle.state_calls.specs.arena_heap.Values.{IsMethodOf, Leads}
use Rattle.bc_progress.specs.py_effects.py_primitives.Builtins.{named, list_methods, dict_methods, str_methods}
use Rattle.bc_progress.specs.bc_flow.Machine as flow
use Rattle.bc_progress.specs.bc_flow.Machine.{Stack}
use Rattle.state_calls.specs.bc_machine.State as states
use Rattle.state_calls.specs.bc_progress.Slots.{Facts, ShowsIn, value, nothing, exception, null, kept_return, kept_jump, iterator1, iterator2, iterator3, iterator4, ShowsAllIn, none, more, bound, free}
use Rattle.state_calls.specs.bc_progress.Known.{KindHas, HasMethod, facts_of}
use Rattle.state_calls.specs.prim_walks.Plain.{fixed_of, fixed_within, plain}
use Rattle.state_calls.specs.vm_frames.declared.slot.Slot.{Slot}
use Rattle.state_calls.specs.vm_frames.declared.slot.Slot.TheVariants as slots
use Rattle.state_calls.specs.vm_frames.Calls.{Call, Calls, OfRunning}
use Rattle.state_calls.specs.vm_frames.Views.{slot_of, starts_of}
use Rattle.state_calls.specs.frame_moves.Shown.{view_of, value_of}
use Rattle.state_calls.specs.vm_states.Means.{Program}
use Rattle.state_calls.specs.vm_states.State.{IsKnownSlot, IsKnownCall, IsState}
use Rattle.state_calls.specs.Taken.{HasMethods}
use Rattle.vm_kept.specs.Kept.{KeepCalls, HoldsKept}
use Rattle.vm_kept.proofs.Plain.{get_map, all_get}

-- methods of types
-- ================

abbrev Each : (Builtin → Type 0) → List (List ℕ × Builtin) → Type 0
Each P [] = Unit {0}
Each P (entry ∷ entries) = P (entry.1) × Each P entries

among : (P : Builtin → Type 0) (methods : List (List ℕ × Builtin)) → Each P methods → (name : List ℕ) (method : Builtin) → named methods name ≡ Some method → P method
among P [] each name method e = cc
among P (entry ∷ entries) each name method e = by (bytes_eq (entry.0) name) e (λ q. among P entries each.1 name method q)
  where
    by : (b : Bool) → (if b then Some (entry.1) else named entries name) ≡ Some method → (named entries name ≡ Some method → P method) → P method
    by true e k = subst P (same_Some (entry.1) method e) each.0
    by false e k = k e

module _ (texts : StrNo → Option (List ℕ)) (tuples : ConstNo → Option (List Value)) (objects : Objects Value ℕ) (method : Builtin) where
  of_kind : (kind : ObjectKind) (n : ℕ) → IsA objects kind n → KindHas (kind_of (object objects n)) method → KindHas (Some kind) method
  of_kind kind n is h = subst (λ o. KindHas o method) is h

  fixed_none : (items : List Val) → HasMethod objects (fixed_of items) method → ⊥
  fixed_none [] h = h
  fixed_none (v ∷ vs) h = h

  -- a value that shows as an object of the method's type is of its type
  pub method_is : (v : Value) → Leads objects v → HasMethod objects (plain texts tuples v) method → IsMethodOf method v
  unfolding fixed_within
  method_is (values.List l) leads h = let m = of_kind AList l.cell leads.meets h in among (λ b. IsMethodOf b (values.List l)) list_methods (tt, (tt, (tt, (tt, tt)))) m.0 method m.1
  method_is (values.Dict d) leads h = let m = of_kind ADict d.cell leads.meets h in among (λ b. IsMethodOf b (values.Dict d)) dict_methods (tt, (tt, (tt, (tt, (tt, tt))))) m.0 method m.1
  method_is (values.Text t) leads h = let m = of_kind AText t.cell leads.meets h in among (λ b. IsMethodOf b (values.Text t)) str_methods (tt, (tt, (tt, (tt, tt)))) m.0 method m.1
  method_is (values.Str s) leads h = among (λ b. IsMethodOf b (values.Str s)) str_methods (tt, (tt, (tt, (tt, tt)))) h.0 method h.1
  method_is (values.Tuple t) leads h = absurd (of_kind ATuple t.cell leads.meets h)
  method_is (values.Fun f) leads h = absurd (of_kind AFunction f.cell leads.meets h)
  method_is (values.Exc x) leads h = absurd (of_kind AnException x.cell leads.meets h)
  method_is (values.Method m) leads h = absurd (of_kind AMethod m.cell leads.meets h)
  method_is (values.Range r) leads h = absurd (of_kind ARange r.cell leads.meets h)
  method_is (values.Module m) leads h = absurd (of_kind AModule m.cell leads.meets h)
  method_is (values.Fixed c) leads h = absurd (fixed_none _ h)
  method_is values.None leads h = absurd h
  method_is (values.Bool b) leads h = absurd h
  method_is (values.Int z) leads h = absurd h
  method_is values.Empty leads h = absurd h
  method_is (values.Built b) leads h = absurd h

-- look-ups on slots
-- =================

never_object : (facts : Facts) (s : states.Slot) (t : flow.Slot) (o : Val) → ShowsIn facts s t → s ≡ states.Object (Some o) → ⊥
never_object facts s t o value e = cc
never_object facts s t o nothing e = cc
never_object facts s t o (exception is) e = cc
never_object facts s t o null e = cc
never_object facts s t o kept_return e = cc
never_object facts s t o kept_jump e = cc
never_object facts s t o iterator1 e = cc
never_object facts s t o iterator2 e = cc
never_object facts s t o iterator3 e = cc
never_object facts s t o iterator4 e = cc

same_object : (o v : Val) → (let a : Option states.Slot = Some (states.Object (Some o)) in let b : Option states.Slot = Some (states.Object (Some v)) in a ≡ b) → o ≡ v
same_object o v e = cc

same_method : (a b : Builtin) → (let x : Option states.Slot = Some (states.Value (Built a)) in let y : Option states.Slot = Some (states.Value (Built b)) in x ≡ y) → a ≡ b
same_method a b e = cc

bound_at : (facts : Facts) (st : List states.Slot) (stack : Stack) → ShowsAllIn facts st stack → (i : ℕ) (o : Val) (method : Builtin) → slice_get st i ≡ Some (states.Object (Some o)) → slice_get st (suc i) ≡ Some (states.Value (Built method))
    → facts.method o method
bound_at facts st stack none i o method e f = absurd cc
bound_at facts st stack (more {s = s} {t = t} h r) zero o method e f = absurd (never_object facts s t o h (same_Some s (states.Object (Some o)) e))
bound_at facts st stack (more {slots = rest} {stack = ss} h r) (suc i) o method e f = bound_at facts rest ss r i o method e f
bound_at facts st stack (bound {object = v} {method = b} is r) zero o method e f = subst (λ z. facts.method z method) (same_object v o e) (subst (λ z. facts.method v z) (same_method b method f) is)
bound_at facts st stack (bound is r) (suc zero) o method e f = absurd cc
bound_at facts st stack (bound {slots = rest} {stack = ss} is r) (suc (suc i)) o method e f = bound_at facts rest ss r i o method e f
bound_at facts st stack (free r) zero o method e f = absurd cc
bound_at facts st stack (free r) (suc zero) o method e f = absurd cc
bound_at facts st stack (free {slots = rest} {stack = ss} r) (suc (suc i)) o method e f = bound_at facts rest ss r i o method e f

module _ (p : Program) (objects : Objects Value ℕ) where
  running_has : (calls : List Call) → All (IsKnownCall p objects) calls → KeepCalls p objects calls → OfRunning (λ c. HasMethods c.slots) calls
  running_has [] known keep = absurd keep
  running_has (c ∷ cs) known keep = λ i object method is below.
      let f : Slot → states.Slot = slot_of (view_of p.tables) (starts_of (view_of p.tables) c) in
      let o = value_of p.tables object in
      let has = bound_at (facts_of objects) (map f c.slots) keep.0.stack keep.0.shows i o method (get_map f c.slots i (slots.Object (Some object)) is) (get_map f c.slots (suc i) (slots.Value (values.Built method)) below) in
      let k = all_get (IsKnownSlot p objects) c.slots i (slots.Object (Some object)) (All-head (IsKnownCall p objects) c cs known).slots is in
      method_is p.tables.texts p.tables.tuples objects method object k.leads has

  pub has_methods : (s : Calls) → IsState p objects s → HoldsKept p objects s → OfRunning (λ c. HasMethods c.slots) s.calls
  has_methods s state holds = running_has s.calls state.known holds.calls
