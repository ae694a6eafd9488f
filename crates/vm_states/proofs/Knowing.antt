-- Calls that are known stay so.
use Rattle.std.proofs.Common.{◌≡◌, ℕ, List, [], ◌∷◌, length, drop, Option, All, sym, ap, subst}
use Rattle.std.proofs.lemmas.List.Elements.{All-cons, All-head, All-tail, All-drop, All-weaker}
use Rattle.frame_exits.specs.mpy_base.World.{Objects, Later}
use Rattle.frame_exits.specs.arena_heap.declared.value.Value.{Value}
use Rattle.frame_exits.specs.arena_objects.Keys.{AllTold}
use Rattle.frame_exits.specs.vm_frames.declared.slot.Slot.{Slot}
use Rattle.frame_exits.specs.vm_frames.declared.slot.Slot.TheVariants as slots
use Rattle.frame_exits.specs.vm_frames.Calls.{Call, Calls, change_first, on_running}
use Rattle.frame_values.specs.Slots.{with_value, without}
use Rattle.frame_exits.proofs.Keeping.{call_later}
use Rattle.vm_states.specs.Means.{Program}
use Rattle.vm_states.specs.Running.{IsRunning}
use Rattle.vm_states.specs.State.{IsKnownValue, IsKnownSlot, IsKnownLocal, IsKnownCall, IsState}

module _ (p : Program) (before behind : Objects Value ℕ) (s : Calls) (state : IsState p before s) (later : Later before behind) (told : AllTold p.tables.texts p.tables.tuples behind) where
  known_again : All (IsKnownCall p behind) s.calls
  known_again =
      All-weaker (IsKnownCall p before) (IsKnownCall p behind) (λ c h. call_later p.tables.texts p.tables.tuples (length p.shelf.modules) before behind later c h) s.calls state.known

  pub stays : IsState p behind s
  stays = record { running = state.running; known = known_again; all_told = told }

  changed : (change : Call → Call) (calls : List Call) → All (IsKnownCall p behind) calls → ((c : Call) → IsKnownCall p behind c → IsKnownCall p behind (change c)) → All (IsKnownCall p behind) (change_first change calls)
  changed change [] h f = h
  changed change (c ∷ cs) h f =
      let P : Call → Type 0 = λ d. IsKnownCall p behind d in
      All-cons P (change c) cs (f c (All-head P c cs h)) (All-tail P c cs h)

  changes : (new : Calls) (change : Call → Call) → IsRunning p new → new ≡ on_running change s → ((c : Call) → IsKnownCall p behind c → IsKnownCall p behind (change c)) → IsState p behind new
  changes new change run e f =
      let to : new.calls ≡ change_first change s.calls = ap (λ (z : Calls). z.calls) e in
      record { running = run; known = subst (All (IsKnownCall p behind)) (sym to) (changed change s.calls known_again f); all_told = told }

  pub goes_on : (new : Calls) (at : ℕ) (st : Call → List Slot) (locals : Call → List (Option Value)) → IsRunning p new
      → new ≡ on_running (λ c. record c { at = at; slots = st c; locals = locals c }) s
      → ((c : Call) → IsKnownCall p behind c → All (IsKnownSlot p behind) (st c)) → ((c : Call) → IsKnownCall p behind c → All (IsKnownLocal p behind) (locals c))
      → IsState p behind new
  goes_on new at st locals run e in_slots in_locals =
      changes new (λ c. record c { at = at; slots = st c; locals = locals c }) run e
      (λ c k. record { of_module = k.of_module; names = k.names; role = k.role; locals = in_locals c k; slots = in_slots c k; entries = k.entries })

  pub puts : (new : Calls) (end taken : ℕ) (v : Value) → IsRunning p new → IsKnownValue p behind v → new ≡ on_running (with_value end taken v) s → IsState p behind new
  puts new end taken v run is e =
      let P : Slot → Type 0 = λ d. IsKnownSlot p behind d in
      goes_on new end (λ c. slots.Value v ∷ drop taken c.slots) (λ c. c.locals) run e (λ c k. All-cons P (slots.Value v) (drop taken c.slots) is (All-drop P taken c.slots k.slots)) (λ c k. k.locals)

  pub takes : (new : Calls) (end taken : ℕ) → IsRunning p new → new ≡ on_running (without end taken) s → IsState p behind new
  takes new end taken run e =
      let P : Slot → Type 0 = λ d. IsKnownSlot p behind d in
      goes_on new end (λ c. drop taken c.slots) (λ c. c.locals) run e (λ c k. All-drop P taken c.slots k.slots) (λ c k. k.locals)
