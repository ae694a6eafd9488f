-- A slot that is a value or empty.
use Rattle.std.proofs.Common.{◌≡◌, ℕ, ◌<◌, List, [], ◌∷◌, length, true, false, Some, refl, sym, ap, subst, ◌∙◌}
use Rattle.std.specs.Prelude.{slice_get}
use Rattle.std.proofs.lemmas.Option.{slice_get_within, same_Some}
use Rattle.vm_states.specs.prim_names.arena_heap.declared.value.Value.{Value}
use Rattle.vm_states.specs.vm_frames.declared.slot.Slot.{Slot}
use Rattle.vm_states.specs.vm_frames.declared.slot.Slot.TheVariants as slots
use Rattle.vm_states.specs.vm_frames.Calls.{Call, OfRunning}
use Rattle.vm_states.specs.Tops.{IsOperand}
use Rattle.vm_states.specs.frame_values.Slots.{HasValue, HasNull}
use Rattle.state_values.specs.Operands.{is_null, HasOperand}

pub operand_within : (slot : ℕ) (calls : List Call) → HasOperand slot calls → OfRunning (λ c. slot < length c.slots) calls
operand_within slot [] h = h
operand_within slot (c ∷ cs) h = slice_get_within c.slots slot h.operand h.there

null_is : (s : Slot) → is_null s ≡ true → s ≡ slots.Null
null_is slots.Null e = refl
null_is (slots.Value v) e = cc
null_is (slots.Object o) e = cc
null_is (slots.Iter over at part) e = cc
null_is (slots.Return v) e = cc
null_is (slots.Jump target count iterator) e = cc

value_is : (s : Slot) → IsOperand s → is_null s ≡ false → (v : Value) × (s ≡ slots.Value v)
value_is slots.Null o e = cc
value_is (slots.Value v) o e = (v, refl)
value_is (slots.Object object) o e = elim o [ ]
value_is (slots.Iter over at part) o e = elim o [ ]
value_is (slots.Return v) o e = elim o [ ]
value_is (slots.Jump target count iterator) o e = elim o [ ]

pub null_there : (slot : ℕ) (calls : List Call) (s : Slot) → OfRunning (λ c. slice_get c.slots slot ≡ Some s) calls → is_null s ≡ true → HasNull slot calls
null_there slot [] s h e = h
null_there slot (c ∷ cs) s h e = h ∙ ap Some (null_is s e)

pub value_there : (slot : ℕ) (calls : List Call) → HasOperand slot calls → (s : Slot) → OfRunning (λ c. slice_get c.slots slot ≡ Some s) calls → is_null s ≡ false → (v : Value) × HasValue slot v calls
value_there slot [] o s h e = absurd h
value_there slot (c ∷ cs) o s h e =
    let same : o.operand ≡ s = same_Some o.operand s (sym o.there ∙ h) in
    let v = value_is s (subst IsOperand same o.is) e in
    (v.0, h ∙ ap Some v.1)
