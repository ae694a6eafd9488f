-- Calls of functions that begin.
use Rattle.std.proofs.Common.{◌≡◌, ℕ, zero, suc, ◌+◌, ◌-◌, ◌<◌, ◌≤◌, List, [], ◌∷◌, ◌++◌, length, map, take, drop, replicate, Bool, true, false, Option, Some, None, Result, Ok, Err, inl, inr, slice_get, slice_set, refl, sym, ap, ◌∙◌, subst, arith}
use Rattle.std.specs.Prelude.{nat_lt, ◌⊎◌}
use Rattle.std.proofs.lemmas.Bool.Decides.{nat_tests}
use Rattle.std.proofs.lemmas.Option.{none-some, same_Some}
use Rattle.std.proofs.lemmas.List.{take_all, length-append, length-drop, length-take-le, length-replicate}
use Rattle.mpy_base.specs.declared.limits.TheConstants.{MAX_CALLS}
use Rattle.mpy_base.specs.World.{Heap}
use Rattle.mpy_base.specs.Val.{Val}
use Rattle.frame_moves.specs.arena_heap.declared.value.Value.{Value}
use Rattle.frame_moves.specs.arena_heap.declared.value.StrNo.{StrNo}
use Rattle.frame_moves.specs.arena_heap.declared.value.ConstNo.{ConstNo}
use Rattle.frame_moves.specs.py_effects.Calling.{bind}
use Rattle.frame_moves.specs.prim_walks.Plain.{plain, plain_pair}
use Rattle.frame_moves.specs.prim_faults.declared.fault.Fault.{Fault}
use Rattle.prim_calls.specs.Binding.{name_text, IsBound}
use Rattle.frame_moves.specs.vm_frames.Calls.{Call, Calls, OfRunning, change_first, on_running}
use Rattle.prim_calls.specs.declared.callees.Function.{Function}
use Rattle.frame_moves.specs.prim_faults.declared.fault.Fault.TheVariants as faults
use Rattle.frame_moves.specs.prim_faults.declared.stop.Stop.TheVariants as stops
use Rattle.frame_calls.specs.Operands.{running_slots}
use Rattle.frame_calls.specs.Entering.{begun, entered, IsEntered}
use Rattle.frame_calls.proofs.Changes.{then_is, same_on, still, dropped}

-- locals that are filled
-- ======================

put_next : {A : Type 0} (vs ls : List A) (i : ℕ) (v : A) → slice_get vs i ≡ Some v → length vs ≤ length ls → slice_set (take i vs ++ drop i ls) i v ≡ take (suc i) vs ++ drop (suc i) ls
put_next [] ls zero v e fits = absurd (none-some v e)
put_next [] ls (suc i) v e fits = absurd (none-some v e)
put_next (x ∷ vs) [] i v e fits = absurd (omega (arith, fits))
put_next (x ∷ vs) (y ∷ ls) zero v e fits = ap (λ z. z ∷ ls) (sym (same_Some x v e))
put_next (x ∷ vs) (y ∷ ls) (suc i) v e fits = ap (λ z. x ∷ z) (put_next vs ls i v e (omega (arith, fits)))

-- the first `i` values are in the locals
abbrev pub partly : List (Option Value) → ℕ → Call → Call
partly vs i c = record c { locals = take i vs ++ drop i c.locals }

none_filled : (vs : List (Option Value)) (cs : List Call) → change_first (partly vs 0) cs ≡ cs
none_filled vs [] = refl
none_filled vs (c ∷ cs) = refl

pub filled_none : (vs : List (Option Value)) (s : Calls) → s ≡ on_running (partly vs 0) s
filled_none vs s = ap (λ (z : List Call). record s { calls = z }) (sym (none_filled vs s.calls))

abbrev Fits : List (Option Value) → Call → Type 0
Fits vs c = length vs ≤ length c.locals

pub filled_more : (vs : List (Option Value)) (i : ℕ) (v : Option Value) (s0 s1 s2 : Calls) → slice_get vs i ≡ Some v → OfRunning (Fits vs) s0.calls → s1 ≡ on_running (partly vs i) s0
    → s2 ≡ on_running (λ c. record c { locals = slice_set c.locals i v }) s1 → s2 ≡ on_running (partly vs (i + 1)) s0
filled_more vs i v s0 s1 s2 e fits d f =
    let k : suc i ≡ i + 1 = omega arith in
    then_is (partly vs i) (λ c. record c { locals = slice_set c.locals i v }) s0 s1 s2 d f
    ∙ same_on (λ c. record c { locals = slice_set (take i vs ++ drop i c.locals) i v }) (partly vs (i + 1)) (Fits vs) s0
    (λ c h. ap (λ (z : List (Option Value)). record c { locals = z }) (put_next vs c.locals i v e h) ∙ ap (λ (n : ℕ). partly vs n c) k) fits

filled_whole : (vs : List (Option Value)) (i : ℕ) (cs : List Call) → i ≡ length vs → change_first (partly vs i) cs ≡ change_first (λ c. record c { locals = vs ++ drop (length vs) c.locals }) cs
filled_whole vs i [] e = refl
filled_whole vs i (c ∷ cs) e =
    let full : length vs ≤ length vs = omega arith in
    ap (λ (n : ℕ). partly vs n c ∷ cs) e ∙ ap (λ (z : List (Option Value)). record c { locals = z ++ drop (length vs) c.locals } ∷ cs) (take_all (length vs) vs full)

pub filled_all : (vs : List (Option Value)) (i : ℕ) (s0 s1 : Calls) → i ≡ length vs → s1 ≡ on_running (partly vs i) s0 → s1 ≡ on_running (λ c. record c { locals = vs ++ drop (length vs) c.locals }) s0
filled_all vs i s0 s1 e d = d ∙ ap (λ (z : List Call). record s0 { calls = z }) (filled_whole vs i s0.calls e)

still_long : (vs : List (Option Value)) (i : ℕ) (cs : List Call) → i < length vs → OfRunning (Fits vs) cs → OfRunning (λ c. i < length (take i vs ++ drop i c.locals)) cs
still_long vs i [] less fits = fits
still_long vs i (c ∷ cs) less fits =
    let within : i ≤ length vs = omega (arith, less) in
    omega (arith, less, fits, length-append (take i vs) (drop i c.locals), length-take-le i vs within, length-drop i c.locals)

pub local_there : (vs : List (Option Value)) (i : ℕ) (s0 s1 : Calls) → i < length vs → OfRunning (Fits vs) s0.calls → s1 ≡ on_running (partly vs i) s0 → OfRunning (λ c. i < length c.locals) s1.calls
local_there vs i s0 s1 less fits d = still (λ c. i < length c.locals) (partly vs i) s0 s1 d (still_long vs i s0.calls less fits)

-- the call that begins
-- ====================

same_count : (f : Call → Call) (cs : List Call) → length (change_first f cs) ≡ length cs
same_count f [] = refl
same_count f (c ∷ cs) = refl

pub same_depth : (f : Call → Call) (s0 s1 : Calls) → s1 ≡ on_running f s0 → length s1.calls ≡ length s0.calls
same_depth f s0 s1 e = ap (λ (z : Calls). length z.calls) e ∙ same_count f s0.calls

pub same_room : (f : Call → Call) (s0 s1 : Calls) → s1 ≡ on_running f s0 → s1.slot_room ≡ s0.slot_room
same_room f s0 s1 e = ap (λ (z : Calls). z.slot_room) e

drop_none : {A : Type 0} (n : ℕ) → drop {A = A} n [] ≡ []
drop_none zero = refl
drop_none (suc n) = refl

drop_empty : {A : Type 0} (n m : ℕ) (x : A) → drop n (replicate m x) ≡ replicate (m - n) x
drop_empty n zero x = let none : zero - n ≡ 0 = omega arith in drop_none n ∙ ap (λ (k : ℕ). replicate k x) (sym none)
drop_empty zero (suc m) x = let all : suc m - 0 ≡ suc m = omega arith in ap (λ (k : ℕ). replicate k x) (sym all)
drop_empty (suc n) (suc m) x = let less : suc m - suc n ≡ m - n = omega arith in drop_empty n m x ∙ ap (λ (k : ℕ). replicate k x) (sym less)

abbrev pub empty_call : Function → (module_number room : ℕ) → Call
empty_call f module_number room = record (begun f module_number room []) { locals = replicate room None }

pub room_there : (f : Function) (number room : ℕ) (vs : List (Option Value)) (s0 s1 : Calls) → length vs ≤ room → s1 ≡ record s0 { calls = empty_call f number room ∷ s0.calls } → OfRunning (Fits vs) s1.calls
room_there f number room vs s0 s1 fits e =
    let none : Option Value = None in
    subst (λ (z : Calls). OfRunning (Fits vs) z.calls) (sym e) (omega (arith, fits, length-replicate room none))

pub entered_is : (f : Function) (number room locals size : ℕ) (vs : List (Option Value)) (s0 s1 s2 s3 : Calls) → room - length vs ≡ locals - length vs
    → s1 ≡ on_running (dropped size) s0 → s2 ≡ record s1 { calls = empty_call f number room ∷ s1.calls }
    → s3 ≡ on_running (λ c. record c { locals = vs ++ drop (length vs) c.locals }) s2
    → s3 ≡ entered size (begun f number locals vs) s0
entered_is f number room locals size vs s0 s1 s2 s3 same d e g =
    let none : Option Value = None in
    let n = length vs in
    let with : List (Option Value) → Call = λ ls. record (empty_call f number room) { locals = vs ++ ls } in
    g ∙ (ap (λ (z : Calls). on_running (λ c. record c { locals = vs ++ drop n c.locals }) z) e
    ∙ (ap (λ (z : Calls). record z { calls = with (drop n (replicate room none)) ∷ z.calls }) d
    ∙ ap (λ (z : List (Option Value)). record s0 { calls = with z ∷ change_first (dropped size) s0.calls })
    (drop_empty n room none ∙ ap (λ (k : ℕ). replicate k none) same)))

-- what is judged
-- ==============

pub is_entered : (size : ℕ) (call : Call) (old new : Calls) (deep : Bool) → deep ≡ true → new ≡ entered size call old → IsEntered deep size call old new (Ok tt)
is_entered size call old new true e is = (refl, is)
is_entered size call old new false e is = absurd cc

pub not_entered : (size : ℕ) (call : Call) (old : Calls) (deep : Bool) → deep ≡ false → IsEntered deep size call old old (Err (stops.Raises faults.TooDeep))
not_entered size call old true e = absurd cc
not_entered size call old false e = (refl, refl)

pub below_limit : (depth : ℕ) → nat_lt depth MAX_CALLS ≡ true → depth < MAX_CALLS
below_limit depth e = grind (arith, nat_tests, e)

pub room_fits : (locals params room most : ℕ) → locals ≤ most → params ≤ most → (room ≡ locals) ⊎ (room ≡ params) → room ≤ most
room_fits locals params room most l p (inl e) = omega (arith, l, e)
room_fits locals params room most l p (inr e) = omega (arith, p, e)

pub room_same : (locals params room : ℕ) → params ≤ room → locals ≤ room → (room ≡ locals) ⊎ (room ≡ params) → room - params ≡ locals - params
room_same locals params room p l (inl e) = omega (arith, e)
room_same locals params room p l (inr e) = omega (arith, e, l)

pub some_runs : (size : ℕ) (cs : List Call) → 0 < size → size ≤ length (running_slots cs) → 0 < length cs
some_runs size [] some there = absurd (omega (arith, some, there))
some_runs size (c ∷ cs) some there = omega arith

-- the same binding of the same arguments
pub bound_same : (texts : StrNo → Option (List ℕ)) (tuples : ConstNo → Option (List Value)) (heap : Heap Value ℕ) (given : ℕ) (defaults : Val) (slots slots' : List (Option Value)) (names names' : List StrNo)
    (args args' : List Value) (keys keys' : List (Value × Value)) (result : Result (Unit {0}) Fault) → slots' ≡ slots → names ≡ names' → args ≡ args' → keys ≡ keys'
    → IsBound texts tuples heap slots result (λ w. bind w (map (name_text texts) names) given defaults (map (plain texts tuples) args) (map (plain_pair texts tuples) keys))
    → IsBound texts tuples heap slots' result (λ w. bind w (map (name_text texts) names') given defaults (map (plain texts tuples) args') (map (plain_pair texts tuples) keys'))
bound_same texts tuples heap given defaults slots slots' names names' args args' keys keys' result s n a k is =
    let B : List (Option Value) → List StrNo → List Value → List (Value × Value) → Type 0 =
    λ ss ns vs ks. IsBound texts tuples heap ss result (λ w. bind w (map (name_text texts) ns) given defaults (map (plain texts tuples) vs) (map (plain_pair texts tuples) ks)) in
    subst (λ (ss : List (Option Value)). B ss names' args' keys') (sym s)
    (subst (λ (ns : List StrNo). B slots ns args' keys') n
    (subst (λ (vs : List Value). B slots names vs keys') a (subst (λ (ks : List (Value × Value)). B slots names args ks) k is)))
