-- The values of slots, read one after the other.
use Rattle.std.proofs.Common.{◌≡◌, ℕ, zero, suc, ◌+◌, ◌*◌, ◌-◌, ◌<◌, ◌≤◌, List, [], ◌∷◌, ◌++◌, length, map, take, drop, reverse, Some, slice_get, refl, sym, ap, ◌∙◌, subst, arith, append_assoc}
use Rattle.std.proofs.lemmas.Option.{none-some, same_Some}
use Rattle.std.proofs.lemmas.List.{reverse-append, length-reverse, length-map, length-take-le, length-drop, length-append}
use Rattle.frame_moves.specs.arena_heap.declared.value.Value.{Value}
use Rattle.frame_moves.specs.vm_frames.declared.slot.Slot.{Slot}
use Rattle.frame_moves.specs.vm_frames.declared.slot.Slot.TheVariants as slots
use Rattle.frame_moves.specs.vm_frames.Calls.{Call, OfRunning}
use Rattle.frame_calls.specs.Operands.{running_slots, value_in, values_in, paired}

-- what is there of the running call's slots
pub of_running : (P : List Slot → Type 0) (cs : List Call) → 0 < length cs → P (running_slots cs) → OfRunning (λ c. P c.slots) cs
of_running P [] some p = absurd (omega (arith, some))
of_running P (c ∷ cs) some p = p

pub slot_there : (i : ℕ) (cs : List Call) → i < length (running_slots cs) → OfRunning (λ c. i < length c.slots) cs
slot_there i [] h = absurd (omega (arith, h))
slot_there i (c ∷ cs) h = h

front : {A B : Type 0} (f : A → B) (xs : List A) (k n : ℕ) (y : B) → slice_get (map f xs) k ≡ Some y → map f (take (suc n) (drop k xs)) ≡ y ∷ map f (take n (drop (suc k) xs))
front f [] zero n y e = absurd (none-some y e)
front f [] (suc k) n y e = absurd (none-some y e)
front f (x ∷ xs) zero n y e = ap (λ z. z ∷ map f (take n xs)) (same_Some (f x) y e)
front f (x ∷ xs) (suc k) n y e = front f xs k n y e

-- one value more, below the others
more : (st : List Slot) (k n : ℕ) (v : Value) → slice_get (map value_in st) k ≡ Some v → values_in (suc n) (drop k st) ≡ values_in n (drop (suc k) st) ++ v ∷ []
more st k n v e = ap reverse (front value_in st k n v e) ∙ reverse-append (v ∷ []) (map value_in (take n (drop (suc k) st)))

-- positional arguments
-- ====================

pub args_begun : (above count : ℕ) (st : List Slot) → [] ≡ values_in (count - count) (drop (above + count) st)
args_begun above count st = let none : 0 ≡ count - count = omega arith in ap (λ (n : ℕ). values_in n (drop (above + count) st)) none

pub args_done : (above count left : ℕ) (st : List Slot) (items : List Value) → left ≡ 0 → items ≡ values_in (count - left) (drop (above + left) st) → items ≡ values_in count (drop above st)
args_done above count left st items e is =
    let n : count - left ≡ count = omega (arith, e) in
    let k : above + left ≡ above = omega (arith, e) in
    is ∙ (ap (λ (z : ℕ). values_in z (drop (above + left) st)) n ∙ ap (λ (z : ℕ). values_in count (drop z st)) k)

pub args_more : (above count left at : ℕ) (st : List Slot) (items : List Value) (v : Value) → at + 1 ≡ left → left ≤ count → items ≡ values_in (count - left) (drop (above + left) st)
    → slice_get (map value_in st) (above + at) ≡ Some v → items ++ v ∷ [] ≡ values_in (count - at) (drop (above + at) st)
args_more above count left at st items v e le is got =
    let n : suc (count - left) ≡ count - at = omega (arith, e, le) in
    let k : above + left ≡ suc (above + at) = omega (arith, e) in
    ap (λ (z : List Value). z ++ v ∷ []) (is ∙ ap (λ (z : ℕ). values_in (count - left) (drop z st)) k)
    ∙ (sym (more st (above + at) (count - left) v got) ∙ ap (λ (z : ℕ). values_in z (drop (above + at) st)) n)

-- keyword arguments
-- =================

even_paired : (n : ℕ) (vs : List Value) (name v : Value) → length vs ≡ 2 * n → paired (vs ++ name ∷ v ∷ []) ≡ paired vs ++ (name, v) ∷ []
even_paired n [] name v e = refl
even_paired n (a ∷ []) name v e = absurd (omega (arith, e))
even_paired zero (a ∷ b ∷ vs) name v e = absurd (omega (arith, e))
even_paired (suc n) (a ∷ b ∷ vs) name v e = ap (λ (z : List (Value × Value)). (a, b) ∷ z) (even_paired n vs name v (omega (arith, e)))

count_is : (n : ℕ) (st : List Slot) → n ≤ length st → length (values_in n st) ≡ n
count_is n st h = length-reverse (map value_in (take n st)) ∙ (length-map (take n st) value_in ∙ length-take-le n st h)

pub keys_begun : (pairs : ℕ) (st : List Slot) → [] ≡ paired (values_in (2 * (pairs - pairs)) (drop (2 * pairs) st))
keys_begun pairs st = let none : 0 ≡ 2 * (pairs - pairs) = omega arith in ap (λ (n : ℕ). paired (values_in n (drop (2 * pairs) st))) none

pub keys_done : (pairs left : ℕ) (st : List Slot) (items : List (Value × Value)) → left ≡ 0 → items ≡ paired (values_in (2 * (pairs - left)) (drop (2 * left) st)) → items ≡ paired (values_in (2 * pairs) st)
keys_done pairs left st items e is =
    let n : 2 * (pairs - left) ≡ 2 * pairs = omega (arith, e) in
    let k : 2 * left ≡ 0 = omega (arith, e) in
    is ∙ (ap (λ (z : ℕ). paired (values_in z (drop (2 * left) st))) n ∙ ap (λ (z : ℕ). paired (values_in (2 * pairs) (drop z st))) k)

two_more : (st : List Slot) (k n : ℕ) (name v : Value) → slice_get (map value_in st) (suc k) ≡ Some name → slice_get (map value_in st) k ≡ Some v
    → values_in (suc (suc n)) (drop k st) ≡ values_in n (drop (suc (suc k)) st) ++ name ∷ v ∷ []
two_more st k n name v e f =
    more st k (suc n) v f ∙ (ap (λ (z : List Value). z ++ v ∷ []) (more st (suc k) n name e) ∙ append_assoc (values_in n (drop (suc (suc k)) st)) (name ∷ []) (v ∷ []))

pub keys_more : (pairs left at : ℕ) (st : List Slot) (items : List (Value × Value)) (name v : Value) → at + 1 ≡ left → left ≤ pairs → 2 * pairs ≤ length st
    → items ≡ paired (values_in (2 * (pairs - left)) (drop (2 * left) st))
    → slice_get (map value_in st) (2 * at + 1) ≡ Some name → slice_get (map value_in st) (2 * at) ≡ Some v
    → items ++ (name, v) ∷ [] ≡ paired (values_in (2 * (pairs - at)) (drop (2 * at) st))
keys_more pairs left at st items name v e le there is got_name got =
    let m = 2 * (pairs - left) in
    let k = 2 * at in
    let one : 2 * at + 1 ≡ suc k = omega arith in
    let n : suc (suc m) ≡ 2 * (pairs - at) = omega (arith, e, le) in
    let l : 2 * left ≡ suc (suc k) = omega (arith, e) in
    let rest = drop (suc (suc k)) st in
    let fits : m ≤ length rest = omega (arith, e, le, there, length-drop (suc (suc k)) st) in
    ap (λ (z : List (Value × Value)). z ++ (name, v) ∷ []) (is ∙ ap (λ (z : ℕ). paired (values_in m (drop z st))) l)
    ∙ (sym (even_paired (pairs - left) (values_in m rest) name v (count_is m rest fits))
    ∙ (ap paired (sym (two_more st k m name v (subst (λ (z : ℕ). slice_get (map value_in st) z ≡ Some name) one got_name) got)) ∙ ap (λ (z : ℕ). paired (values_in z (drop k st))) n))

-- one more
pub longer : {A : Type 0} (xs ys : List A) (x : A) → ys ≡ xs ++ x ∷ [] → length ys ≡ suc (length xs)
longer xs ys x e = ap length e ∙ (length-append xs (x ∷ []) ∙ (omega arith))

-- the slots that a call takes are there
pub size_there : (size : ℕ) (cs : List Call) → 0 < size → size ≤ length (running_slots cs) → OfRunning (λ c. size ≤ length c.slots) cs
size_there size [] some there = absurd (omega (arith, some, there))
size_there size (c ∷ cs) some there = there

within : {A : Type 0} (xs : List A) (i : ℕ) (x : A) → slice_get xs i ≡ Some x → i < length xs
within [] zero x e = absurd (none-some x e)
within [] (suc i) x e = absurd (none-some x e)
within (y ∷ xs) zero x e = omega arith
within (y ∷ xs) (suc i) x e = let less = within xs i x e in omega (arith, less)

pub slot_within : (cs : List Call) (i : ℕ) (s : Slot) → slice_get (running_slots cs) i ≡ Some s → i < length (running_slots cs)
slot_within cs i s e = within (running_slots cs) i s e

-- the value that was read
pub read_value : (st : List Slot) (i : ℕ) (v r : Value) → slice_get st i ≡ Some (slots.Value v) → slice_get (map value_in st) i ≡ Some r → v ≡ r
read_value [] zero v r e f = absurd (none-some (slots.Value v) e)
read_value [] (suc i) v r e f = absurd (none-some (slots.Value v) e)
read_value (s ∷ st) zero v r e f = ap value_in (sym (same_Some s (slots.Value v) e)) ∙ same_Some (value_in s) r f
read_value (s ∷ st) (suc i) v r e f = read_value st i v r e f
