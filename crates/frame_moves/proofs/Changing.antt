-- Changes of the running call, one after the other.
use Rattle.std.proofs.Common.{◌≡◌, ℕ, ◌<◌, List, [], ◌∷◌, length, drop, Bool, None, Some, slice_get, slice_set, refl, sym, ap, ◌∙◌, subst, arith}
use Rattle.vm_frames.specs.declared.slot.Slot.{Slot}
use Rattle.vm_frames.specs.Calls.{Call, Calls, OfRunning, change_first, on_running}
use Rattle.frame_moves.specs.Stacks.{gone, set_up, doubled, doubled_two, turned_two, turned_three}
use Rattle.frame_moves.proofs.Stepping.{both}
use Rattle.frame_moves.proofs.Turning.{doubled_is, doubled_two_is, turned_two_is, turned_three_is}

twice : (f g : Call → Call) (cs : List Call) → change_first g (change_first f cs) ≡ change_first (λ c. g (f c)) cs
twice f g [] = refl
twice f g (c ∷ cs) = refl

pub then_is : (f g : Call → Call) (s0 s1 s2 : Calls) → s1 ≡ on_running f s0 → s2 ≡ on_running g s1 → s2 ≡ on_running (λ c. g (f c)) s0
then_is f g s0 s1 s2 d e = e ∙ (ap (on_running g) d ∙ ap (λ (z : List Call). record s0 { calls = z }) (twice f g s0.calls))

alike : (f g : Call → Call) (P : Call → Type 0) (cs : List Call) → ((c : Call) → P c → f c ≡ g c) → OfRunning P cs → change_first f cs ≡ change_first g cs
alike f g P [] h p = refl
alike f g P (c ∷ cs) h p = ap (λ (z : Call). z ∷ cs) (h c p)

pub same_on : (f g : Call → Call) (P : Call → Type 0) (s : Calls) → ((c : Call) → P c → f c ≡ g c) → OfRunning P s.calls → on_running f s ≡ on_running g s
same_on f g P s h p = ap (λ (z : List Call). record s { calls = z }) (alike f g P s.calls h p)

first_still : (P : Call → Type 0) (f : Call → Call) (cs : List Call) → OfRunning (λ c. P (f c)) cs → OfRunning P (change_first f cs)
first_still P f [] p = p
first_still P f (c ∷ cs) p = p

-- what holds of the running call once it is changed
pub still : (P : Call → Type 0) (f : Call → Call) (old new : Calls) → new ≡ on_running f old → OfRunning (λ c. P (f c)) old.calls → OfRunning P new.calls
still P f old new e p = subst (λ (z : Calls). OfRunning P z.calls) (sym e) (first_still P f old.calls p)

pub some_call : (P : Call → Type 0) (cs : List Call) → OfRunning P cs → 0 < length cs
some_call P [] h = absurd h
some_call P (c ∷ cs) h = omega arith

-- the running call's slot at this place
abbrev pub IsSlot : ℕ → Slot → Call → Type 0
IsSlot i s c = slice_get c.slots i ≡ Some s

abbrev pub with_slot : ℕ → Slot → Call → Call
with_slot i s c = record c { slots = slice_set c.slots i s }

abbrev pub at_end : ℕ → Call → Call
at_end end c = record c { at = end }

abbrev pub pushed : Slot → Call → Call
pushed s c = record c { slots = s ∷ c.slots }

pub doubling : (end : ℕ) (a : Slot) (s0 s1 : Calls) → OfRunning (IsSlot 0 a) s0.calls → s1 ≡ on_running (λ c. gone end (a ∷ c.slots) c) s0 → s1 ≡ on_running (λ c. gone end (doubled c.slots) c) s0
doubling end a s0 s1 p e =
    e ∙ same_on (λ c. gone end (a ∷ c.slots) c) (λ c. gone end (doubled c.slots) c) (IsSlot 0 a) s0 (λ c h. ap (λ (z : List Slot). gone end z c) (doubled_is c.slots a h)) p

pub doubling_two : (end : ℕ) (a b : Slot) (s0 s1 s2 : Calls) → OfRunning (IsSlot 0 a) s0.calls → OfRunning (IsSlot 1 b) s0.calls
    → s1 ≡ on_running (pushed b) s0 → s2 ≡ on_running (λ c. gone end (a ∷ c.slots) c) s1 → s2 ≡ on_running (λ c. gone end (doubled_two c.slots) c) s0
doubling_two end a b s0 s1 s2 p q d e =
    let f : Call → Call = λ (c : Call). gone end (a ∷ b ∷ c.slots) c in
    let P : Call → Type 0 = λ (c : Call). IsSlot 0 a c × IsSlot 1 b c in
    then_is (pushed b) (λ c. gone end (a ∷ c.slots) c) s0 s1 s2 d e
    ∙ same_on f (λ c. gone end (doubled_two c.slots) c) P s0 (λ c h. ap (λ (z : List Slot). gone end z c) (doubled_two_is c.slots a b h.0 h.1)) (both (IsSlot 0 a) (IsSlot 1 b) s0.calls p q)

pub turning_two : (end : ℕ) (a b : Slot) (s0 s1 s2 s3 : Calls) → OfRunning (IsSlot 0 a) s0.calls → OfRunning (IsSlot 1 b) s0.calls
    → s1 ≡ on_running (with_slot 0 b) s0 → s2 ≡ on_running (with_slot 1 a) s1 → s3 ≡ on_running (at_end end) s2 → s3 ≡ on_running (λ c. gone end (turned_two c.slots) c) s0
turning_two end a b s0 s1 s2 s3 p q d e f =
    let g : Call → Call = λ (c : Call). with_slot 1 a (with_slot 0 b c) in
    let P : Call → Type 0 = λ (c : Call). IsSlot 0 a c × IsSlot 1 b c in
    then_is g (at_end end) s0 s2 s3 (then_is (with_slot 0 b) (with_slot 1 a) s0 s1 s2 d e) f
    ∙ same_on (λ c. at_end end (g c)) (λ c. gone end (turned_two c.slots) c) P s0 (λ c h. ap (λ (z : List Slot). gone end z c) (turned_two_is c.slots a b h.0 h.1)) (both (IsSlot 0 a) (IsSlot 1 b) s0.calls p q)

pub turning_three : (end : ℕ) (a b x : Slot) (s0 s1 s2 s3 s4 : Calls) → OfRunning (IsSlot 0 a) s0.calls → OfRunning (IsSlot 1 b) s0.calls → OfRunning (IsSlot 2 x) s0.calls
    → s1 ≡ on_running (with_slot 0 b) s0 → s2 ≡ on_running (with_slot 1 x) s1 → s3 ≡ on_running (with_slot 2 a) s2 → s4 ≡ on_running (at_end end) s3
    → s4 ≡ on_running (λ c. gone end (turned_three c.slots) c) s0
turning_three end a b x s0 s1 s2 s3 s4 p q r d e f k =
    let g : Call → Call = λ (c : Call). with_slot 1 x (with_slot 0 b c) in
    let h : Call → Call = λ (c : Call). with_slot 2 a (g c) in
    let P : Call → Type 0 = λ (c : Call). IsSlot 1 b c × IsSlot 2 x c in
    let Q : Call → Type 0 = λ (c : Call). IsSlot 0 a c × P c in
    then_is h (at_end end) s0 s3 s4 (then_is g (with_slot 2 a) s0 s2 s3 (then_is (with_slot 0 b) (with_slot 1 x) s0 s1 s2 d e) f) k
    ∙ same_on (λ c. at_end end (h c)) (λ c. gone end (turned_three c.slots) c) Q s0 (λ c m. ap (λ (z : List Slot). gone end z c) (turned_three_is c.slots a b x m.0 m.1.0 m.1.1))
    (both (IsSlot 0 a) P s0.calls p (both (IsSlot 1 b) (IsSlot 2 x) s0.calls q r))

pub setting_up : (handler : ℕ) (last : Bool) (end : ℕ) (s0 s1 s2 : Calls)
    → s1 ≡ on_running (λ c. record c { entries = (record { handler = handler; is_finally = last; height = length c.slots; kept = None }) ∷ c.entries }) s0
    → s2 ≡ on_running (at_end end) s1 → s2 ≡ on_running (λ c. set_up handler last end c) s0
setting_up handler last end s0 s1 s2 d e =
    then_is (λ c. record c { entries = (record { handler = handler; is_finally = last; height = length c.slots; kept = None }) ∷ c.entries }) (at_end end) s0 s1 s2 d e

pub dropping_entry : (target : ℕ) (s0 s1 s2 : Calls) → s1 ≡ on_running (λ c. record c { entries = drop 1 c.entries }) s0 → s2 ≡ on_running (at_end target) s1
    → s2 ≡ on_running (λ c. record c { at = target; entries = drop 1 c.entries }) s0
dropping_entry target s0 s1 s2 d e = then_is (λ c. record c { entries = drop 1 c.entries }) (at_end target) s0 s1 s2 d e
