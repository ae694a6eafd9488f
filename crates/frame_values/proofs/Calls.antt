-- Slots and locals of the running call, and changes of it.
use Rattle.std.proofs.Common.{◌≡◌, ℕ, zero, suc, ◌<◌, ◌≤◌, ◌+◌, ◌-◌, List, [], ◌∷◌, length, drop, Option, Some, slice_get, slice_set, refl, sym, ap, ◌∙◌, subst, arith}
use Rattle.std.proofs.lemmas.Option.{none-some, same_Some}
use Rattle.std.proofs.lemmas.List.{drop-drop, length-drop}
use Rattle.prim_names.specs.arena_heap.declared.value.Value.{Value}
use Rattle.prim_names.specs.arena_heap.declared.value.Value.TheVariants as values
use Rattle.frame_moves.specs.vm_frames.declared.slot.Slot.{Slot}
use Rattle.frame_moves.specs.vm_frames.declared.slot.Slot.TheVariants as slots
use Rattle.frame_moves.specs.vm_frames.Calls.{Call, Calls, OfRunning, change_first, on_running}
use Rattle.frame_moves.proofs.Stepping.{weaker}
use Rattle.frame_moves.proofs.Changing.{then_is, same_on, still}
use Rattle.frame_values.specs.Slots.{HasValue}

abbrev value_in : Slot → Value
value_in (slots.Value v) = v
value_in _ = values.None

-- a slot that is there
pub within : {A : Type 0} (xs : List A) (i : ℕ) (x : A) → slice_get xs i ≡ Some x → i < length xs
within [] i x e = absurd (none-some x e)
within (y ∷ xs) zero x e = omega arith
within (y ∷ xs) (suc i) x e = let less = within xs i x e in omega (arith, less)

pub running_within : (i : ℕ) (s : Slot) (calls : List Call) → OfRunning (λ c. slice_get c.slots i ≡ Some s) calls → OfRunning (λ c. i < length c.slots) calls
running_within i s [] h = h
running_within i s (c ∷ cs) h = within c.slots i s h

pub local_within : (n : ℕ) (local : Option Value) (calls : List Call) → OfRunning (λ c. slice_get c.locals n ≡ Some local) calls → OfRunning (λ c. n < length c.locals) calls
local_within n local [] h = h
local_within n local (c ∷ cs) h = within c.locals n local h

pub none_taken : (P : Call → Type 0) (calls : List Call) → OfRunning P calls → OfRunning (λ c. 0 ≤ length c.slots) calls
none_taken P [] h = h
none_taken P (c ∷ cs) h = omega arith

pub one_runs : (P : Call → Type 0) (calls : List Call) → OfRunning P calls → 0 < length calls
one_runs P [] h = absurd h
one_runs P (c ∷ cs) h = omega arith

pub same_slot : (i : ℕ) (s t : Slot) (calls : List Call) → OfRunning (λ c. slice_get c.slots i ≡ Some s) calls → OfRunning (λ c. slice_get c.slots i ≡ Some t) calls → s ≡ t
same_slot i s t [] h k = absurd h
same_slot i s t (c ∷ cs) h k = same_Some s t (sym h ∙ k)

pub same_value : (i : ℕ) (v x : Value) (calls : List Call) → HasValue i v calls → HasValue i x calls → v ≡ x
same_value i v x calls h k = ap value_in (same_slot i (slots.Value v) (slots.Value x) calls h k)

pub same_local : (n : ℕ) (x y : Option Value) (calls : List Call) → OfRunning (λ c. slice_get c.locals n ≡ Some x) calls → OfRunning (λ c. slice_get c.locals n ≡ Some y) calls → x ≡ y
same_local n x y [] h k = absurd h
same_local n x y (c ∷ cs) h k = same_Some x y (sym h ∙ k)

-- slots that are dropped
-- ======================

set_dropped : {A : Type 0} (n : ℕ) (xs : List A) (x : A) → n < length xs → slice_set (drop n xs) 0 x ≡ x ∷ drop (suc n) xs
set_dropped n [] x there = absurd (omega (arith, there))
set_dropped zero (y ∷ xs) x there = refl
set_dropped (suc n) (y ∷ xs) x there = set_dropped n xs x (omega (arith, there))

abbrev pub dropped : ℕ → Call → Call
dropped n c = record c { slots = drop n c.slots }

abbrev pub put_on : ℕ → Slot → Call → Call
put_on taken s c = record c { slots = s ∷ drop taken c.slots }

none_dropped : (calls : List Call) → calls ≡ change_first (dropped 0) calls
none_dropped [] = refl
none_dropped (c ∷ cs) = refl

pub dropped_none : (s : Calls) → s ≡ on_running (dropped 0) s
dropped_none s = ap (λ (z : List Call). record s { calls = z }) (none_dropped s.calls)

alike : (f g : Call → Call) → ((c : Call) → f c ≡ g c) → (calls : List Call) → change_first f calls ≡ change_first g calls
alike f g same [] = refl
alike f g same (c ∷ cs) = ap (λ (z : Call). z ∷ cs) (same c)

pub dropped_one : (k : ℕ) (s0 s1 s2 : Calls) → s1 ≡ on_running (dropped k) s0 → s2 ≡ on_running (dropped 1) s1 → s2 ≡ on_running (dropped (k + 1)) s0
dropped_one k s0 s1 s2 d e =
    then_is (dropped k) (dropped 1) s0 s1 s2 d e
    ∙ ap (λ (z : List Call). record s0 { calls = z }) (alike (λ c. dropped 1 (dropped k c)) (dropped (k + 1)) (λ c. ap (λ (z : List Slot). record c { slots = z }) (drop-drop 1 k c.slots)) s0.calls)

pub can_drop : (k count : ℕ) (s0 s1 : Calls) → k < count → s1 ≡ on_running (dropped k) s0 → OfRunning (λ c. count ≤ length c.slots) s0.calls → OfRunning (λ c. 0 < length c.slots) s1.calls
can_drop k count s0 s1 less e there =
    still (λ c. 0 < length c.slots) (dropped k) s0 s1 e
    (weaker (λ c. count ≤ length c.slots) (λ c. 0 < length (drop k c.slots)) s0.calls (λ c h. omega (arith, less, h, length-drop k c.slots)) there)

pub fewer : (k count : ℕ) (calls : List Call) → k ≤ count → OfRunning (λ c. count ≤ length c.slots) calls → OfRunning (λ c. k ≤ length c.slots) calls
fewer k count calls less there = weaker (λ c. count ≤ length c.slots) (λ c. k ≤ length c.slots) calls (λ c h. omega (arith, less, h)) there

pub put_none : (s : Slot) (taken : ℕ) (s0 s1 : Calls) → taken ≡ 0 → s1 ≡ on_running (λ c. record c { slots = s ∷ c.slots }) s0 → s1 ≡ on_running (put_on taken s) s0
put_none s taken s0 s1 none e = subst (λ (n : ℕ). s1 ≡ on_running (put_on n s) s0) (sym none) e

pub put_some : (s : Slot) (taken : ℕ) (s0 s1 s2 : Calls) → 0 < taken → OfRunning (λ c. taken ≤ length c.slots) s0.calls → s1 ≡ on_running (dropped (taken - 1)) s0
    → s2 ≡ on_running (λ c. record c { slots = slice_set c.slots 0 s }) s1 → s2 ≡ on_running (put_on taken s) s0
put_some s taken s0 s1 s2 more there d e =
    let one : suc (taken - 1) ≡ taken = omega (arith, more) in
    then_is (dropped (taken - 1)) (λ c. record c { slots = slice_set c.slots 0 s }) s0 s1 s2 d e
    ∙ (same_on (λ c. record c { slots = slice_set (drop (taken - 1) c.slots) 0 s }) (put_on (suc (taken - 1)) s) (λ c. taken ≤ length c.slots) s0
    (λ c h. ap (λ (z : List Slot). record c { slots = z }) (set_dropped (taken - 1) c.slots s (omega (arith, more, h)))) there
    ∙ ap (λ (n : ℕ). on_running (put_on n s) s0) one)

-- the running call still runs once it is changed
pub runs_on : (f : Call → Call) (s0 s1 : Calls) (P : Call → Type 0) → s1 ≡ on_running f s0 → OfRunning P s0.calls → 0 < length s1.calls
runs_on f s0 s1 P e p = one_runs (λ c. Unit {0}) s1.calls (still (λ c. Unit {0}) f s0 s1 e (weaker P (λ c. Unit {0}) s0.calls (λ c h. tt) p))
