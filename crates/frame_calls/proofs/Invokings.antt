-- The machine's calls, from the slots of the running call.
use Rattle.std.proofs.Common.{◌≡◌, ℕ, zero, suc, List, [], ◌∷◌, map, drop, Some, None, inl, inr, ◌+◌, slice_get, sym, ap, ◌∙◌, subst, arith}
use Rattle.std.specs.Prelude.{◌⊎◌}
use Rattle.std.proofs.lemmas.Option.{none-some, same_Some}
use Rattle.mpy_base.specs.World.{Heap}
use Rattle.mpy_base.specs.Val.{Val, PlainWorld}
use Rattle.frame_moves.specs.arena_heap.declared.value.Value.{Value}
use Rattle.frame_moves.specs.py_effects.Calling as plain
use Rattle.frame_moves.specs.py_effects.Calling.{Keys}
use Rattle.frame_moves.specs.py_effects.Effect.{Effect, Place}
use Rattle.frame_moves.specs.bc_ops.declared.instr.Op.TheVariants as ops
use Rattle.frame_moves.specs.bc_ops.declared.instr.Instr.TheVariants as instrs
use Rattle.frame_moves.specs.prim_walks.Plain.{plain_pair}
use Rattle.prim_calls.specs.declared.callees.Callee.{Callee}
use Rattle.prim_calls.specs.Callees.{plain_callee}
use Rattle.frame_moves.specs.vm_frames.declared.slot.Slot.{Slot}
use Rattle.frame_moves.specs.vm_frames.declared.slot.Slot.TheVariants as slots
use Rattle.frame_moves.specs.vm_frames.Calls.{Call}
use Rattle.frame_moves.specs.vm_frames.Views.{slot_of, slots_of, starts_of, frame_of}
use Rattle.frame_moves.specs.bc_machine.Library.{Item, Library, Plain}
use Rattle.frame_moves.specs.bc_machine.Operations as machine
use Rattle.frame_moves.specs.bc_machine.State as states
use Rattle.frame_moves.specs.bc_machine.State.{State}
use Rattle.frame_moves.specs.bc_machine.Step as step
use Rattle.frame_moves.specs.Shown.{Tables, view_of, value_of, step_of}
use Rattle.frame_moves.specs.Outcomes.{world_of}
use Rattle.frame_calls.specs.Operands.{running_slots, value_in, args_in, keys_in, operands_count}
use Rattle.frame_calls.specs.Invoking.{IsBound, IsFree, HasLooked, calling_of, Invokes}
use Rattle.frame_calls.proofs.Coming.{GivesIn}
use Rattle.frame_calls.proofs.PlainOperands.{operands_plain, cut_at}

no_slot : {A : Type 0} (n : ℕ) (x : A) → slice_get [] n ≡ Some x → ⊥
no_slot zero x e = none-some x e
no_slot (suc n) x e = none-some x e

module _ (t : Tables) (number : ℕ) (heap : Heap Value ℕ) (callee : Callee) where
  -- a value lies below the operands
  abbrev IsCalled : Value → Type 0
  IsCalled v = (w : PlainWorld) → plain_callee t.texts t.tuples (world_of t w heap) callee ≡ plain.callee_of (world_of t w heap) (value_of t v)

  function_calls : (calls : List Call) (v : Value) → slice_get (running_slots calls) (operands_count number) ≡ Some (slots.Value v) → IsCalled v
      → (library : Library) (place : Place) (paid : ℕ) (w : PlainWorld)
      → step_of t library place paid calls (world_of t w heap) (Plain (instrs.Num ops.CallFunction number))
      ≡ calling_of t library place paid (suc (operands_count number)) calls (world_of t w heap) (plain_callee t.texts t.tuples (world_of t w heap) callee) (args_in number (running_slots calls)) (keys_in number (running_slots calls))
  function_calls [] v e is library place paid w = absurd (no_slot (operands_count number) (slots.Value v) e)
  function_calls (c ∷ cs) v e is library place paid w =
      let n = operands_count number in
      let F = frame_of (view_of t) c in
      let Fs = map (frame_of (view_of t)) cs in
      let W = world_of t w heap in
      let S : List Slot → List states.Slot = slots_of (view_of t) (starts_of (view_of t) c) in
      let A = map (value_of t) (args_in number c.slots) in
      let K = map (plain_pair t.texts t.tuples) (keys_in number c.slots) in
      let O : machine.Operands = record { args = A; keys = K; below = S (drop n c.slots) } in
      ap (λ (o : machine.Operands). step.call_function library place paid F Fs W o o.below) (operands_plain t (starts_of (view_of t) c) number c.slots)
      ∙ (ap (λ (below : List Slot). step.call_function library place paid F Fs W O (S below)) (cut_at n c.slots (slots.Value v) e)
      ∙ ap (λ (z : plain.Callee). step.run_callee library place paid F Fs W (S (drop (suc n) c.slots)) z A K) (sym (is w)))

  pub function_invokes : (calls : List Call) (v : Value) → slice_get (running_slots calls) (operands_count number) ≡ Some (slots.Value v) → IsCalled v
      → Invokes t (Plain (instrs.Num ops.CallFunction number)) (suc (operands_count number)) heap calls (args_in number (running_slots calls)) (keys_in number (running_slots calls)) callee
  function_invokes calls v e is = record { calls_it = function_calls calls v e is }

  -- what a look-up left lies there
  abbrev IsLookedUp : Slot → Slot → Type 0
  IsLookedUp upper lower =
      (library : Library) (place : Place) (paid : ℕ) (frame : states.Frame) (frames : List states.Frame) (w : PlainWorld) (starts : List ℕ) (o : machine.Operands) (below : List states.Slot)
      → step.call_looked library place paid frame frames (world_of t w heap) o (slot_of (view_of t) starts upper ∷ slot_of (view_of t) starts lower ∷ below)
      ≡ step.run_callee library place paid frame frames (world_of t w heap) below (plain_callee t.texts t.tuples (world_of t w heap) callee) o.args o.keys

  -- a value without an object is called
  pub free_called : (upper lower : Slot) (v : Value) → IsFree upper lower → v ≡ value_in lower → IsCalled v → IsLookedUp upper lower
  free_called upper lower v f same is library place paid frame frames w starts o below =
      let W = world_of t w heap in
      let s : Slot → states.Slot = slot_of (view_of t) starts in
      let callee_same : v ≡ f.callee = same ∙ ap value_in f.callee_is in
      ap (λ (z : Slot). step.call_looked library place paid frame frames W o (s z ∷ s lower ∷ below)) f.no_object
      ∙ (ap (λ (z : Slot). step.call_looked library place paid frame frames W o (s (slots.Object None) ∷ s z ∷ below)) f.callee_is
      ∙ ap (λ (z : plain.Callee). step.run_callee library place paid frame frames W below z o.args o.keys) (ap (λ (z : Value). plain.callee_of W (value_of t z)) (sym callee_same) ∙ sym (is w)))

  method_calls : (calls : List Call) (upper lower : Slot) → slice_get (running_slots calls) (operands_count number) ≡ Some upper → slice_get (running_slots calls) (suc (operands_count number)) ≡ Some lower → IsLookedUp upper lower
      → (library : Library) (place : Place) (paid : ℕ) (w : PlainWorld)
      → step_of t library place paid calls (world_of t w heap) (Plain (instrs.Num ops.CallMethod number))
      ≡ calling_of t library place paid (suc (suc (operands_count number))) calls (world_of t w heap) (plain_callee t.texts t.tuples (world_of t w heap) callee) (args_in number (running_slots calls)) (keys_in number (running_slots calls))
  method_calls [] upper lower e f is library place paid w = absurd (no_slot (operands_count number) upper e)
  method_calls (c ∷ cs) upper lower e f is library place paid w =
      let n = operands_count number in
      let F = frame_of (view_of t) c in
      let Fs = map (frame_of (view_of t)) cs in
      let W = world_of t w heap in
      let starts = starts_of (view_of t) c in
      let S : List Slot → List states.Slot = slots_of (view_of t) starts in
      let A = map (value_of t) (args_in number c.slots) in
      let K = map (plain_pair t.texts t.tuples) (keys_in number c.slots) in
      let O : machine.Operands = record { args = A; keys = K; below = S (drop n c.slots) } in
      ap (λ (o : machine.Operands). step.call_looked library place paid F Fs W o o.below) (operands_plain t starts number c.slots)
      ∙ (ap (λ (below : List Slot). step.call_looked library place paid F Fs W O (S below)) (cut_at n c.slots upper e ∙ ap (λ (z : List Slot). upper ∷ z) (cut_at (suc n) c.slots lower f))
      ∙ is library place paid F Fs w starts O (S (drop (suc (suc n)) c.slots)))

  pub method_invokes : (calls : List Call) (upper lower : Slot) → slice_get (running_slots calls) (operands_count number) ≡ Some upper → slice_get (running_slots calls) (suc (operands_count number)) ≡ Some lower → IsLookedUp upper lower
      → Invokes t (Plain (instrs.Num ops.CallMethod number)) (suc (suc (operands_count number))) heap calls (args_in number (running_slots calls)) (keys_in number (running_slots calls)) callee
  method_invokes calls upper lower e f is = record { calls_it = method_calls calls upper lower e f is }

-- what acts at once gives a value onto the slots that are left
pub invokes_in : (t : Tables) (library : Library) (item : Item) (size : ℕ) (heap : Heap Value ℕ) (calls : List Call) (args : List Value) (keys : List (Value × Value)) (callee : Callee) (act : PlainWorld → List Val → Keys → Effect Val)
    → Invokes t item size heap calls args keys callee → ((w : PlainWorld) → plain_callee t.texts t.tuples w callee ≡ plain.Acts (act w))
    → (w : PlainWorld) → GivesIn t library item size calls (world_of t w heap) (act (world_of t w heap) (map (value_of t) args) (map (plain_pair t.texts t.tuples) keys))
invokes_in t library item size heap [] args keys callee act is acts w = tt
invokes_in t library item size heap (c ∷ cs) args keys callee act is acts w =
    let F = frame_of (view_of t) c in
    let Fs = map (frame_of (view_of t)) cs in
    let W = world_of t w heap in
    let below = slots_of (view_of t) (starts_of (view_of t) c) (drop size c.slots) in
    λ place paid.
    is.calls_it library place paid w
    ∙ ap (λ (z : plain.Callee). step.run_callee library place paid F Fs W below z (map (value_of t) args) (map (plain_pair t.texts t.tuples) keys)) (acts W)

-- the slots that were read are those that a look-up left
pub looked_same : (st : List Slot) (n above : ℕ) (upper lower : Slot) → above ≡ n → (h : HasLooked n st) → slice_get st above ≡ Some upper → slice_get st (above + 1) ≡ Some lower → IsBound upper lower ⊎ IsFree upper lower
looked_same st n above upper lower same h e f =
    let next : above + 1 ≡ suc n = omega (arith, same) in
    let u : h.upper ≡ upper = same_Some h.upper upper (sym h.upper_there ∙ (ap (slice_get st) (sym same) ∙ e)) in
    let l : h.lower ≡ lower = same_Some h.lower lower (sym h.lower_there ∙ (ap (slice_get st) (sym next) ∙ f)) in
    subst (λ (z : Slot). IsBound z lower ⊎ IsFree z lower) u (subst (λ (z : Slot). IsBound h.upper z ⊎ IsFree h.upper z) l h.looked)

pub free_is : (upper lower : Slot) → IsBound upper lower ⊎ IsFree upper lower → upper ≡ slots.Object None → IsFree upper lower
free_is upper lower (inl b) e = absurd (let k : slots.Object None ≡ slots.Object (Some b.object) = sym e ∙ b.object_is in cc)
free_is upper lower (inr f) e = f
