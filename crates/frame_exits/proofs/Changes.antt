-- Changes of the running call.
use Rattle.std.proofs.Common.{◌≡◌, ℕ, ◌<◌, ◌≤◌, List, [], ◌∷◌, length, drop, slice_set, refl, ap, ◌∙◌, subst, sym, arith}
use Rattle.frame_moves.specs.arena_heap.declared.value.Value.{Value}
use Rattle.frame_moves.specs.vm_frames.declared.slot.Slot.{Slot}
use Rattle.frame_moves.specs.vm_frames.declared.slot.Slot.TheVariants as slots
use Rattle.frame_moves.specs.vm_frames.Calls.{Call, Calls, OfRunning, change_first, on_running}
use Rattle.frame_moves.specs.Stacks.{gone}

abbrev HasTwo : Call → Type 0
HasTwo c = 2 ≤ length c.slots

pub two_less : (cs : List Call) → OfRunning HasTwo cs → OfRunning (λ c. 0 < length c.slots) cs
two_less [] h = h
two_less (c ∷ cs) h = omega (arith, h)

one_of_two : (st : List Slot) → 2 ≤ length st → 0 < length (drop 1 st)
one_of_two [] h = absurd (omega (arith, h))
one_of_two (x ∷ st) h = omega (arith, h)

left_list : (cs : List Call) → OfRunning HasTwo cs → OfRunning (λ c. 0 < length c.slots) (change_first (λ c. record c { slots = drop 1 c.slots }) cs)
left_list [] h = h
left_list (c ∷ cs) h = one_of_two c.slots h

pub one_left : (old mid : Calls) → mid ≡ on_running (λ c. record c { slots = drop 1 c.slots }) old → OfRunning HasTwo old.calls → OfRunning (λ c. 0 < length c.slots) mid.calls
one_left old mid e h = subst (λ (z : Calls). OfRunning (λ c. 0 < length c.slots) z.calls) (sym e) (left_list old.calls h)

set_second : (s : Slot) (st : List Slot) → 2 ≤ length st → slice_set (drop 1 st) 0 s ≡ s ∷ drop 2 st
set_second s [] h = absurd (omega (arith, h))
set_second s (x ∷ []) h = absurd (omega (arith, h))
set_second s (x ∷ y ∷ st) h = refl

put_list : (v : Value) (end : ℕ) (cs : List Call) → OfRunning HasTwo cs
    → change_first (λ c. record c { at = end }) (change_first (λ c. record c { slots = slice_set c.slots 0 (slots.Value v) }) (change_first (λ c. record c { slots = drop 1 c.slots }) cs))
    ≡ change_first (λ c. gone end (slots.Value v ∷ drop 2 c.slots) c) cs
put_list v end [] h = refl
put_list v end (c ∷ cs) h = ap (λ (st : List Slot). gone end st c ∷ cs) (set_second (slots.Value v) c.slots h)

pub put_over : (v : Value) (end : ℕ) (old s1 s2 s3 : Calls) → OfRunning HasTwo old.calls → s1 ≡ on_running (λ c. record c { slots = drop 1 c.slots }) old
    → s2 ≡ on_running (λ c. record c { slots = slice_set c.slots 0 (slots.Value v) }) s1 → s3 ≡ on_running (λ c. record c { at = end }) s2
    → s3 ≡ on_running (λ c. gone end (slots.Value v ∷ drop 2 c.slots) c) old
put_over v end old s1 s2 s3 h a b d =
    d ∙ (ap (λ (z : Calls). on_running (λ c. record c { at = end }) z) b
    ∙ (ap (λ (z : Calls). on_running (λ c. record c { at = end }) (on_running (λ c. record c { slots = slice_set c.slots 0 (slots.Value v) }) z)) a
    ∙ ap (λ (z : List Call). record old { calls = z }) (put_list v end old.calls h)))
