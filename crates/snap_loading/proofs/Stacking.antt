-- Slots, locals and entries that are put on the running call, one on another.
use Rattle.std.proofs.Common.{◌≡◌, ℕ, zero, suc, ◌+◌, ◌-◌, ◌<◌, ◌≤◌, List, [], ◌∷◌, ◌++◌, length, map, take, drop, reverse, Option, Some, slice_get, refl, sym, ap, ap₂, ◌∙◌, subst, arith, All, length-append, length-drop, append_assoc}
use Rattle.std.specs.Prelude.{slice_set}
use Rattle.std.proofs.lemmas.List.{append-nil, drop-drop, drop_all, length-map, length-reverse, reverse-append}
use Rattle.std.proofs.lemmas.List.Elements.{All-head, All-tail}
use Rattle.std.proofs.lemmas.List.Sums.{sum_by-cons, sum_by-take-le, sum_by_push}
use Rattle.arena_heap.specs.declared.value.Value.{Value}
use Rattle.bc_shapes.specs.declared.kinds.Kind.{Kind as SlotKind}
use Rattle.bc_library.specs.Shelf.{Shelf}
use Rattle.snap_grammar.specs.declared.parts.SlotPart.{SlotPart}
use Rattle.snap_grammar.specs.declared.parts.SlotPart.TheVariants as slots
use Rattle.snap_grammar.specs.declared.parts.Snapshot.{Snapshot}
use Rattle.snap_states.specs.Decoded.{iterator_of, slots_of, stack_of, value_of}
use Rattle.snap_loading.specs.Framing.{count_of, slots_in}
use Rattle.vm_frames.specs.declared.slot.Slot.{Slot}
use Rattle.vm_frames.specs.declared.slot.Entry.{Entry}
use Rattle.vm_frames.specs.Calls.{Call, Calls, OfRunning, change_first, on_running}

-- two changes
twice : (f g : Call → Call) (cs : List Call) → change_first g (change_first f cs) ≡ change_first (λ c. g (f c)) cs
twice f g [] = refl
twice f g (c ∷ cs) = refl

pub then_is : (f g : Call → Call) (s0 s1 s2 : Calls) → s1 ≡ on_running f s0 → s2 ≡ on_running g s1 → s2 ≡ on_running (λ c. g (f c)) s0
then_is f g s0 s1 s2 d e = e ∙ (ap (on_running g) d ∙ ap (λ (z : List Call). record s0 { calls = z }) (twice f g s0.calls))

-- no change
same_calls : (cs : List Call) → cs ≡ change_first (λ c. c) cs
same_calls [] = refl
same_calls (c ∷ cs) = refl

pub no_change : (s : Calls) → s ≡ on_running (λ c. c) s
no_change s = ap (λ (z : List Call). record s { calls = z }) (same_calls s.calls)

-- changes that are the same, of each call or of the running one
pub same_change : (f g : Call → Call) (s : Calls) → ((c : Call) → f c ≡ g c) → on_running f s ≡ on_running g s
same_change f g s h = ap (λ (z : List Call). record s { calls = z }) (first s.calls)
  where
    first : (cs : List Call) → change_first f cs ≡ change_first g cs
    first [] = refl
    first (c ∷ cs) = ap (λ z. z ∷ cs) (h c)

pub same_running : (f g : Call → Call) (s : Calls) → OfRunning (λ c. f c ≡ g c) s.calls → on_running f s ≡ on_running g s
same_running f g s h = ap (λ (z : List Call). record s { calls = z }) (first s.calls h)
  where
    first : (cs : List Call) → OfRunning (λ c. f c ≡ g c) cs → change_first f cs ≡ change_first g cs
    first [] e = absurd e
    first (c ∷ cs) e = ap (λ z. z ∷ cs) e

-- what holds of a changed call
pub of_changed : (P : Call → Type 0) (f : Call → Call) (cs : List Call) → OfRunning (λ c. P (f c)) cs → OfRunning P (change_first f cs)
of_changed P f [] h = absurd h
of_changed P f (c ∷ cs) h = h

pub weaker : (P Q : Call → Type 0) (cs : List Call) → ((c : Call) → P c → Q c) → OfRunning P cs → OfRunning Q cs
weaker P Q [] f h = absurd h
weaker P Q (c ∷ cs) f h = f c h

-- slots
abbrev pub with_slots : List Slot → Call → Call
with_slots xs c = record c { slots = xs ++ c.slots }

pub push_more : (xs : List Slot) (x : Slot) (s0 s1 s2 : Calls) → s1 ≡ on_running (with_slots xs) s0 → s2 ≡ on_running (λ c. record c { slots = x ∷ c.slots }) s1 → s2 ≡ on_running (with_slots (x ∷ xs)) s0
push_more xs x s0 s1 s2 d e = then_is (with_slots xs) (λ c. record c { slots = x ∷ c.slots }) s0 s1 s2 d e

pub push_room : (xs : List Slot) (k : ℕ) (s0 s1 : Calls) → s1 ≡ on_running (with_slots xs) s0 → length xs < k → OfRunning (λ c. length c.slots + k ≤ s0.slot_room) s0.calls → OfRunning (λ c. length c.slots < s1.slot_room) s1.calls
push_room xs k s0 s1 d lt h =
    subst (λ (s : Calls). OfRunning (λ c. length c.slots < s.slot_room) s.calls) (sym d)
    (of_changed (λ c. length c.slots < s0.slot_room) (with_slots xs) s0.calls
    (weaker (λ c. length c.slots + k ≤ s0.slot_room) (λ c. length (xs ++ c.slots) < s0.slot_room) s0.calls
    (λ c le. let long : length (xs ++ c.slots) ≡ length xs + length c.slots = length-append xs c.slots in omega (arith, long, le, lt)) h))

pub room_one : (s : Calls) → OfRunning (λ c. length c.slots + 1 ≤ s.slot_room) s.calls → OfRunning (λ c. length c.slots < s.slot_room) s.calls
room_one s h = weaker (λ c. length c.slots + 1 ≤ s.slot_room) (λ c. length c.slots < s.slot_room) s.calls (λ c le. omega (arith, le)) h

-- several slots more, and room for them
pub more_slots : (xs ys : List Slot) (s0 s1 s2 : Calls) → s1 ≡ on_running (with_slots xs) s0 → s2 ≡ on_running (with_slots ys) s1 → s2 ≡ on_running (with_slots (ys ++ xs)) s0
more_slots xs ys s0 s1 s2 d e =
    then_is (with_slots xs) (with_slots ys) s0 s1 s2 d e
    ∙ same_change (λ c. with_slots ys (with_slots xs c)) (with_slots (ys ++ xs)) s0 (λ c. ap (λ (zs : List Slot). record c { slots = zs }) (sym (append_assoc ys xs c.slots)))

pub slots_room : (xs : List Slot) (n k : ℕ) (s0 s1 : Calls) → s1 ≡ on_running (with_slots xs) s0 → length xs + n ≤ k → OfRunning (λ c. length c.slots + k ≤ s0.slot_room) s0.calls → OfRunning (λ c. length c.slots + n ≤ s1.slot_room) s1.calls
slots_room xs n k s0 s1 d le h =
    subst (λ (s : Calls). OfRunning (λ c. length c.slots + n ≤ s.slot_room) s.calls) (sym d)
    (of_changed (λ c. length c.slots + n ≤ s0.slot_room) (with_slots xs) s0.calls
    (weaker (λ c. length c.slots + k ≤ s0.slot_room) (λ c. length (xs ++ c.slots) + n ≤ s0.slot_room) s0.calls
    (λ c few. let long : length (xs ++ c.slots) ≡ length xs + length c.slots = length-append xs c.slots in omega (arith, long, few, le)) h))

-- locals, of which the first are set
abbrev pub with_locals : List (Option Value) → ℕ → Call → Call
with_locals xs k c = record c { locals = xs ++ drop k c.locals }

first_set : {A : Type 0} (xs : List A) (y : A) (ys : List A) (k : ℕ) (v : A) → length xs ≡ k → slice_set (xs ++ y ∷ ys) k v ≡ (xs ++ v ∷ []) ++ ys
first_set [] y ys zero v e = refl
first_set [] y ys (suc k) v e = absurd (omega (arith, e))
first_set (x ∷ xs) y ys zero v e = absurd (omega (arith, e))
first_set (x ∷ xs) y ys (suc k) v e = ap (λ zs. x ∷ zs) (first_set xs y ys k v (omega (arith, e)))

drop_first : {A : Type 0} (xs : List A) (k : ℕ) → k < length xs → (y : A) × (drop k xs ≡ y ∷ drop (suc k) xs)
drop_first [] k lt = absurd (omega (arith, lt))
drop_first (x ∷ xs) zero lt = (x, refl)
drop_first (x ∷ xs) (suc k) lt = drop_first xs k (omega (arith, lt))

set_next : {A : Type 0} (xs ls : List A) (k : ℕ) (v : A) → length xs ≡ k → k < length ls → slice_set (xs ++ drop k ls) k v ≡ (xs ++ v ∷ []) ++ drop (suc k) ls
set_next xs ls k v e lt = let d = drop_first ls k lt in ap (λ zs. slice_set (xs ++ zs) k v) d.1 ∙ first_set xs d.0 (drop (suc k) ls) k v e

pub local_more : (xs : List (Option Value)) (k n : ℕ) (v : Option Value) (s0 s1 s2 : Calls) → length xs ≡ k → k < n → OfRunning (λ c. length c.locals ≡ n) s0.calls
    → s1 ≡ on_running (with_locals xs k) s0 → s2 ≡ on_running (λ c. record c { locals = slice_set c.locals k v }) s1 → s2 ≡ on_running (with_locals (xs ++ v ∷ []) (suc k)) s0
local_more xs k n v s0 s1 s2 long lt h d e =
    let g : Call → Call = λ c. record c { locals = slice_set c.locals k v } in
    then_is (with_locals xs k) g s0 s1 s2 d e
    ∙ same_running (λ c. g (with_locals xs k c)) (with_locals (xs ++ v ∷ []) (suc k)) s0
    (weaker (λ c. length c.locals ≡ n) (λ c. g (with_locals xs k c) ≡ with_locals (xs ++ v ∷ []) (suc k) c) s0.calls
    (λ c q. let within : k < length c.locals = omega (arith, q, lt) in ap (λ (zs : List (Option Value)). record c { locals = zs }) (set_next xs c.locals k v long within)) h)

pub local_room : (xs : List (Option Value)) (k n : ℕ) (s0 s1 : Calls) → length xs ≡ k → k < n → OfRunning (λ c. length c.locals ≡ n) s0.calls → s1 ≡ on_running (with_locals xs k) s0 → OfRunning (λ c. k < length c.locals) s1.calls
local_room xs k n s0 s1 long lt h d =
    subst (λ (s : Calls). OfRunning (λ c. k < length c.locals) s.calls) (sym d)
    (of_changed (λ c. k < length c.locals) (with_locals xs k) s0.calls
    (weaker (λ c. length c.locals ≡ n) (λ c. k < length (xs ++ drop k c.locals)) s0.calls
    (λ c q. let a : length (xs ++ drop k c.locals) ≡ length xs + length (drop k c.locals) = length-append xs (drop k c.locals) in
    let b : length (drop k c.locals) ≡ length c.locals - k = length-drop k c.locals in omega (arith, a, b, q, lt, long)) h))

pub locals_whole : (xs : List (Option Value)) (n : ℕ) (s : Calls) → OfRunning (λ c. length c.locals ≡ n) s.calls → on_running (with_locals xs n) s ≡ on_running (λ c. record c { locals = xs }) s
locals_whole xs n s h =
    same_running (with_locals xs n) (λ c. record c { locals = xs }) s
    (weaker (λ c. length c.locals ≡ n) (λ c. with_locals xs n c ≡ record c { locals = xs }) s.calls
    (λ c q. ap (λ (zs : List (Option Value)). record c { locals = zs }) (ap (λ ys. xs ++ ys) (drop_all n c.locals (omega (arith, q))) ∙ append-nil xs)) h)

-- entries
abbrev pub with_entries : List Entry → Call → Call
with_entries es c = record c { entries = es ++ c.entries }

pub entry_more : (es : List Entry) (e : Entry) (s0 s1 s2 : Calls) → s1 ≡ on_running (with_entries es) s0 → s2 ≡ on_running (λ c. record c { entries = e ∷ c.entries }) s1 → s2 ≡ on_running (with_entries (e ∷ es)) s0
entry_more es e s0 s1 s2 d f = then_is (with_entries es) (λ c. record c { entries = e ∷ c.entries }) s0 s1 s2 d f

pub entry_room : (es : List Entry) (k : ℕ) (s0 s1 : Calls) → s1 ≡ on_running (with_entries es) s0 → length es < k → OfRunning (λ c. length c.entries + k ≤ s0.entry_room) s0.calls → OfRunning (λ c. length c.entries < s1.entry_room) s1.calls
entry_room es k s0 s1 d lt h =
    subst (λ (s : Calls). OfRunning (λ c. length c.entries < s.entry_room) s.calls) (sym d)
    (of_changed (λ c. length c.entries < s0.entry_room) (with_entries es) s0.calls
    (weaker (λ c. length c.entries + k ≤ s0.entry_room) (λ c. length (es ++ c.entries) < s0.entry_room) s0.calls
    (λ c le. let long : length (es ++ c.entries) ≡ length es + length c.entries = length-append es c.entries in omega (arith, long, le, lt)) h))

-- the rooms stay
pub slot_room_same : (f : Call → Call) (s0 s1 : Calls) → s1 ≡ on_running f s0 → s1.slot_room ≡ s0.slot_room
slot_room_same f s0 s1 d = ap (λ (s : Calls). s.slot_room) d

-- the last of the first that are taken is the first of them backwards
pub take_snoc : {A : Type 0} (xs : List A) (k : ℕ) (x : A) → slice_get xs k ≡ Some x → take (suc k) xs ≡ take k xs ++ x ∷ []
take_snoc [] k x e = absurd cc
take_snoc (y ∷ ys) zero x e = let same : y ≡ x = cc in ap (λ z. z ∷ []) same
take_snoc (y ∷ ys) (suc k) x e = ap (λ zs. y ∷ zs) (take_snoc ys k x e)

pub back_next : {A : Type 0} (xs : List A) (k : ℕ) (x : A) → slice_get xs k ≡ Some x → reverse (take (suc k) xs) ≡ x ∷ reverse (take k xs)
back_next xs k x e = ap reverse (take_snoc xs k x e) ∙ reverse-append (take k xs) (x ∷ [])

pub map_next : {A B : Type 0} (f : A → B) (xs : List A) (k : ℕ) (x : A) → slice_get xs k ≡ Some x → map f (take (suc k) xs) ≡ map f (take k xs) ++ f x ∷ []
map_next f [] k x e = absurd cc
map_next f (y ∷ ys) zero x e = let same : y ≡ x = cc in ap (λ z. f z ∷ []) same
map_next f (y ∷ ys) (suc k) x e = ap (λ zs. f y ∷ zs) (map_next f ys k x e)

pub take_none : {A : Type 0} (xs : List A) → take 0 xs ≡ []
take_none [] = refl
take_none (x ∷ xs) = refl

pub reverse_next : {A B : Type 0} (f : A → B) (xs : List A) (k : ℕ) (x : A) → slice_get xs k ≡ Some x → map f (reverse (take (suc k) xs)) ≡ f x ∷ map f (reverse (take k xs))
reverse_next f xs k x e = ap (map f) (back_next xs k x e)

pub reverse_none : {A B : Type 0} (f : A → B) (xs : List A) → map f (reverse (take 0 xs)) ≡ []
reverse_none f [] = refl
reverse_none f (x ∷ xs) = refl

pub take_count : {A : Type 0} (xs : List A) (k : ℕ) → k ≤ length xs → length (take k xs) ≡ k
take_count [] zero le = refl
take_count [] (suc k) le = absurd (omega (arith, le))
take_count (x ∷ xs) zero le = refl
take_count (x ∷ xs) (suc k) le = let less : k ≤ length xs = omega (arith, le) in ap suc (take_count xs k less)

pub reverse_long : {A B : Type 0} (f : A → B) (xs : List A) (k : ℕ) → k ≤ length xs → length (map f (reverse (take k xs))) ≡ k
reverse_long f xs k le = length-map (reverse (take k xs)) f ∙ (length-reverse (take k xs) ∙ take_count xs k le)

pub take_every : {A : Type 0} (xs : List A) → take (length xs) xs ≡ xs
take_every [] = refl
take_every (x ∷ xs) = ap (λ zs. x ∷ zs) (take_every xs)

pub reverse_whole : {A B : Type 0} (f : A → B) (xs : List A) → map f (reverse (take (length xs) xs)) ≡ map f (reverse xs)
reverse_whole f xs = ap (λ zs. map f (reverse zs)) (take_every xs)

-- what holds of all
pub all_get : {A : Type 0} (P : A → Type 0) (xs : List A) (k : ℕ) (x : A) → All P xs → slice_get xs k ≡ Some x → P x
all_get P [] k x h e = absurd cc
all_get P (y ∷ ys) zero x h e = let same : y ≡ x = cc in subst P same (All-head P y ys h)
all_get P (y ∷ ys) (suc k) x h e = all_get P ys k x (All-tail P y ys h) e

-- how many slots parts are
-- ========================

pub iterator_long : (k : ℕ) (over : Value) (at : ℕ) → length (iterator_of k over at) ≡ k
iterator_long zero over at = refl
iterator_long (suc k) over at = ap suc (iterator_long k over at)

pub count_next : (ps : List SlotPart) (k : ℕ) (p : SlotPart) → slice_get ps k ≡ Some p → slots_in (take (suc k) ps) ≡ slots_in (take k ps) + count_of p
count_next ps k p e = ap slots_in (take_snoc ps k p e) ∙ sum_by_push count_of (take k ps) p

pub count_within : (ps : List SlotPart) (k : ℕ) (p : SlotPart) → slice_get ps k ≡ Some p → slots_in (take k ps) + count_of p ≤ slots_in ps
count_within ps k p e = let a = count_next ps k p e in let b = sum_by-take-le count_of ps (suc k) in omega (arith, a, b)

pub count_back : (ps : List SlotPart) → slots_in (reverse ps) ≡ slots_in ps
count_back [] = refl
count_back (p ∷ ps) =
    let a : slots_in (reverse (p ∷ ps)) ≡ slots_in (reverse ps) + count_of p = ap slots_in (reverse-append (p ∷ []) ps) ∙ sum_by_push count_of (reverse ps) p in
    let b = count_back ps in
    let d : slots_in (p ∷ ps) ≡ count_of p + slots_in ps = sum_by-cons count_of p ps in
    omega (arith, a, b, d)

module _ (shelf : Shelf) (s : Snapshot) where
  pub part_long : (kind : Option SlotKind) (p : SlotPart) → length (slots_of shelf s kind p) ≡ count_of p
  part_long kind (slots.Value v) = refl
  part_long kind slots.Empty = refl
  part_long kind (slots.Iterator over at) = iterator_long 4 (value_of shelf s over) at
  part_long kind (slots.Left count over at) = iterator_long count (value_of shelf s over) at
  part_long kind (slots.Return v) = refl
  part_long kind (slots.Jump target entries iterator) = refl

  pub parts_long : (ks : List SlotKind) (ps : List SlotPart) → length (stack_of shelf s ks ps) ≡ slots_in ps
  parts_long ks [] = refl
  parts_long ks (p ∷ ps) =
      let rest = drop (length (slots_of shelf s (slice_get ks 0) p)) ks in
      length-append (slots_of shelf s (slice_get ks 0) p) (stack_of shelf s rest ps)
      ∙ (ap₂ (λ a b. a + b) (part_long (slice_get ks 0) p) (parts_long rest ps) ∙ sym (sum_by-cons count_of p ps))

  first_drop : {A : Type 0} (xs : List A) (n : ℕ) → slice_get (drop n xs) 0 ≡ slice_get xs n
  first_drop [] zero = refl
  first_drop [] (suc n) = refl
  first_drop (x ∷ xs) zero = refl
  first_drop (x ∷ xs) (suc n) = first_drop xs n

  -- a part more on others, where so many of the kinds are left
  pub stack_next : (ks : List SlotKind) (before now : ℕ) (p : SlotPart) (ps : List SlotPart) → now + count_of p ≡ before
      → stack_of shelf s (drop now ks) (p ∷ ps) ≡ slots_of shelf s (slice_get ks now) p ++ stack_of shelf s (drop before ks) ps
  stack_next ks before now p ps e =
      let kind = first_drop ks now in
      let long = part_long (slice_get ks now) p in
      ap (λ k. slots_of shelf s k p ++ stack_of shelf s (drop (length (slots_of shelf s k p)) (drop now ks)) ps) kind
      ∙ ap (λ zs. slots_of shelf s (slice_get ks now) p ++ stack_of shelf s zs ps)
      (drop-drop (length (slots_of shelf s (slice_get ks now) p)) now ks ∙ ap (λ n. drop n ks) (let q : now + length (slots_of shelf s (slice_get ks now) p) ≡ before = omega (arith, long, e) in q))
