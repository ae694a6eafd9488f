-- Changes of the running call.
use Rattle.std.proofs.Common.{◌≡◌, ℕ, zero, suc, ◌+◌, ◌-◌, ◌<◌, ◌≤◌, List, [], ◌∷◌, length, drop, slice_set, refl, sym, ap, ◌∙◌, subst, arith}
use Rattle.std.proofs.lemmas.List.{length-drop, drop-drop}
use Rattle.frame_moves.specs.vm_frames.declared.slot.Slot.{Slot}
use Rattle.frame_moves.specs.vm_frames.Calls.{Call, Calls, OfRunning, change_first, on_running}

pub some_call : (P : Call → Type 0) (cs : List Call) → OfRunning P cs → 0 < length cs
some_call P [] h = absurd h
some_call P (c ∷ cs) h = omega arith

pub weaker : (P Q : Call → Type 0) (cs : List Call) → ((c : Call) → P c → Q c) → OfRunning P cs → OfRunning Q cs
weaker P Q [] f p = p
weaker P Q (c ∷ cs) f p = f c p

twice : (f g : Call → Call) (cs : List Call) → change_first g (change_first f cs) ≡ change_first (λ c. g (f c)) cs
twice f g [] = refl
twice f g (c ∷ cs) = refl

pub then_is : (f g : Call → Call) (s0 s1 s2 : Calls) → s1 ≡ on_running f s0 → s2 ≡ on_running g s1 → s2 ≡ on_running (λ c. g (f c)) s0
then_is f g s0 s1 s2 d e = e ∙ (ap (on_running g) d ∙ ap (λ (z : List Call). record s0 { calls = z }) (twice f g s0.calls))

alike : (f g : Call → Call) (P : Call → Type 0) (cs : List Call) → ((c : Call) → P c → f c ≡ g c) → OfRunning P cs → change_first f cs ≡ change_first g cs
alike f g P [] h p = refl
alike f g P (c ∷ cs) h p = ap (λ (z : Call). z ∷ cs) (h c p)

pub same_on : (f g : Call → Call) (P : Call → Type 0) (s : Calls) → ((c : Call) → P c → f c ≡ g c) → OfRunning P s.calls → on_running f s ≡ on_running g s
same_on f g P s h p = ap (λ (z : List Call). record s { calls = z }) (alike f g P s.calls h p)

first_still : (P : Call → Type 0) (f : Call → Call) (cs : List Call) → OfRunning (λ c. P (f c)) cs → OfRunning P (change_first f cs)
first_still P f [] p = p
first_still P f (c ∷ cs) p = p

-- what holds of the running call once it is changed
pub still : (P : Call → Type 0) (f : Call → Call) (old new : Calls) → new ≡ on_running f old → OfRunning (λ c. P (f c)) old.calls → OfRunning P new.calls
still P f old new e p = subst (λ (z : Calls). OfRunning P z.calls) (sym e) (first_still P f old.calls p)

-- slots that are dropped
-- ======================

abbrev pub dropped : ℕ → Call → Call
dropped count c = record c { slots = drop count c.slots }

no_drop : (cs : List Call) → change_first (dropped 0) cs ≡ cs
no_drop [] = refl
no_drop (c ∷ cs) = refl

pub none_dropped : (s : Calls) → s ≡ on_running (dropped 0) s
none_dropped s = ap (λ (z : List Call). record s { calls = z }) (sym (no_drop s.calls))

any_call : (cs : List Call) → 0 < length cs → OfRunning (λ c. Unit {0}) cs
any_call [] h = absurd (omega (arith, h))
any_call (c ∷ cs) h = tt

-- one more is dropped
pub one_more : (n : ℕ) (s0 s1 s2 : Calls) → 0 < length s0.calls → s1 ≡ on_running (dropped n) s0 → s2 ≡ on_running (dropped 1) s1 → s2 ≡ on_running (dropped (n + 1)) s0
one_more n s0 s1 s2 some d e =
    then_is (dropped n) (dropped 1) s0 s1 s2 d e
    ∙ same_on (λ c. dropped 1 (dropped n c)) (dropped (n + 1)) (λ c. Unit {0}) s0 (λ c h. ap (λ (z : List Slot). record c { slots = z }) (drop-drop 1 n c.slots)) (any_call s0.calls some)

has_more : (n count : ℕ) (cs : List Call) → n < count → OfRunning (λ c. count ≤ length c.slots) cs → OfRunning (λ c. 0 < length (drop n c.slots)) cs
has_more n count [] less h = h
has_more n count (c ∷ cs) less h = omega (arith, less, h, length-drop n c.slots)

-- a slot is there yet
pub more_there : (n count : ℕ) (s0 s1 : Calls) → n < count → OfRunning (λ c. count ≤ length c.slots) s0.calls → s1 ≡ on_running (dropped n) s0 → OfRunning (λ c. 0 < length c.slots) s1.calls
more_there n count s0 s1 less h e = still (λ c. 0 < length c.slots) (dropped n) s0 s1 e (has_more n count s0.calls less h)

set_top : {A : Type 0} (n : ℕ) (xs : List A) (x : A) → n < length xs → slice_set (drop n xs) 0 x ≡ x ∷ drop (suc n) xs
set_top n [] x there = absurd (omega (arith, there))
set_top zero (y ∷ xs) x there = refl
set_top (suc n) (y ∷ xs) x there = set_top n xs x (omega (arith, there))

set_last : {A : Type 0} (n : ℕ) (xs : List A) (x : A) → 0 < n → n ≤ length xs → slice_set (drop (n - 1) xs) 0 x ≡ x ∷ drop n xs
set_last n xs x some there =
    let k : suc (n - 1) ≡ n = omega (arith, some) in
    let h : n - 1 < length xs = omega (arith, some, there) in
    set_top (n - 1) xs x h ∙ ap (λ (m : ℕ). x ∷ drop m xs) k

pub less_there : (taken : ℕ) (cs : List Call) → OfRunning (λ c. taken ≤ length c.slots) cs → OfRunning (λ c. taken - 1 ≤ length c.slots) cs
less_there taken [] h = h
less_there taken (c ∷ cs) h = omega (arith, h)

abbrev pub set_first : Slot → Call → Call
set_first slot c = record c { slots = slice_set c.slots 0 slot }

abbrev pub at_end : ℕ → Call → Call
at_end end c = record c { at = end }

abbrev pub pushed : Slot → Call → Call
pushed slot c = record c { slots = slot ∷ c.slots }

-- all but one are dropped, and the last is set
pub put_is : (taken end : ℕ) (slot : Slot) (s0 s1 s2 s3 : Calls) → 0 < taken → OfRunning (λ c. taken ≤ length c.slots) s0.calls
    → s1 ≡ on_running (dropped (taken - 1)) s0 → s2 ≡ on_running (set_first slot) s1 → s3 ≡ on_running (at_end end) s2
    → s3 ≡ on_running (λ c. record c { at = end; slots = slot ∷ drop taken c.slots }) s0
put_is taken end slot s0 s1 s2 s3 some there d e f =
    then_is (λ c. set_first slot (dropped (taken - 1) c)) (at_end end) s0 s2 s3 (then_is (dropped (taken - 1)) (set_first slot) s0 s1 s2 d e) f
    ∙ same_on (λ c. at_end end (set_first slot (dropped (taken - 1) c))) (λ c. record c { at = end; slots = slot ∷ drop taken c.slots }) (λ c. taken ≤ length c.slots) s0
    (λ c h. ap (λ (z : List Slot). record c { at = end; slots = z }) (set_last taken c.slots slot some h)) there

one_there : (taken : ℕ) (cs : List Call) → 0 < taken → OfRunning (λ c. taken ≤ length c.slots) cs → OfRunning (λ c. 0 < length (drop (taken - 1) c.slots)) cs
one_there taken [] some h = h
one_there taken (c ∷ cs) some h = omega (arith, some, h, length-drop (taken - 1) c.slots)

-- the last of the slots that are taken is there yet
pub last_there : (taken : ℕ) (s0 s1 : Calls) → 0 < taken → OfRunning (λ c. taken ≤ length c.slots) s0.calls → s1 ≡ on_running (dropped (taken - 1)) s0 → OfRunning (λ c. 0 < length c.slots) s1.calls
last_there taken s0 s1 some h e = still (λ c. 0 < length c.slots) (dropped (taken - 1)) s0 s1 e (one_there taken s0.calls some h)

-- a slot more on top
pub push_is : (end : ℕ) (slot : Slot) (s0 s1 s2 : Calls) → s1 ≡ on_running (pushed slot) s0 → s2 ≡ on_running (at_end end) s1 → s2 ≡ on_running (λ c. record c { at = end; slots = slot ∷ drop 0 c.slots }) s0
push_is end slot s0 s1 s2 d e = then_is (pushed slot) (at_end end) s0 s1 s2 d e

pub runs_still : (P : Call → Type 0) (f : Call → Call) (s0 s1 : Calls) → s1 ≡ on_running f s0 → OfRunning P s0.calls → 0 < length s1.calls
runs_still P f s0 s1 e p = some_call (λ c. Unit {0}) s1.calls (still (λ c. Unit {0}) f s0 s1 e (weaker P (λ c. Unit {0}) s0.calls (λ c h. tt) p))
