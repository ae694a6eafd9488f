-- Slots that lie on top, and what is below.
use Rattle.std.proofs.Common.{◌≡◌, ℕ, zero, suc, ◌+◌, ◌-◌, ◌≤◌, List, [], ◌∷◌, ◌++◌, map, drop, length, replicate, true, false, Some, None, refl, sym, ap, ◌∙◌, subst, arith}
use Rattle.std.proofs.lemmas.Bool.{and_parts, false≢true}
use Rattle.bc_machine.specs.mpy_base.declared.builtin.Builtin.{Builtin}
use Rattle.bc_machine.specs.mpy_base.Val.{Val, Nil, Built, At}
use Rattle.bc_flow.specs.bc_shapes.declared.kinds.Kind.TheVariants as kinds
use Rattle.bc_flow.specs.bc_shapes.declared.kinds.Want.{Want}
use Rattle.bc_flow.specs.bc_shapes.declared.kinds.Want.TheVariants as wants
use Rattle.bc_flow.specs.bc_shapes.declared.kinds.Give.TheVariants.{New}
use Rattle.bc_flow.specs.bc_shapes.Shape.{takes}
use Rattle.bc_flow.specs.Action.{iterator}
use Rattle.bc_flow.specs.Machine as flow
use Rattle.bc_flow.specs.Machine.{Stack, is_wanted, all_wanted, give_slot}
use Rattle.bc_machine.specs.State.{Slot, Value, Null, Object, Iter, cut}
use Rattle.bc_progress.specs.Slots.{Facts, ShowsIn, value, nothing, exception, null, kept_return, kept_jump, iterator1, iterator2, iterator3, iterator4, ShowsAllIn, none, more, bound, free}

pub shows-length : {facts : Facts} → (slots : List Slot) (stack : Stack) → ShowsAllIn facts slots stack → length slots ≡ length stack
shows-length slots stack none = refl
shows-length slots stack (more {slots = st} {stack = ss} h r) = ap suc (shows-length st ss r)
shows-length slots stack (bound {slots = st} {stack = ss} is r) = ap (λ n. suc (suc n)) (shows-length st ss r)
shows-length slots stack (free {slots = st} {stack = ss} r) = ap (λ n. suc (suc n)) (shows-length st ss r)

pub shows_drop : {facts : Facts} → (k : ℕ) (slots : List Slot) (stack : Stack) → ShowsAllIn facts slots stack → ShowsAllIn facts (drop k slots) (drop k stack)
shows_drop zero slots stack h = h
shows_drop (suc k) slots stack none = none
shows_drop (suc k) slots stack (more {slots = st} {stack = ss} h r) = shows_drop k st ss r
shows_drop (suc zero) slots stack (bound is r) = more value r
shows_drop (suc (suc k)) slots stack (bound {slots = st} {stack = ss} is r) = shows_drop k st ss r
shows_drop (suc zero) slots stack (free r) = more value r
shows_drop (suc (suc k)) slots stack (free {slots = st} {stack = ss} r) = shows_drop k st ss r

pub shows_cut : {facts : Facts} → (h : ℕ) (slots : List Slot) (stack : Stack) → ShowsAllIn facts slots stack → ShowsAllIn facts (cut h slots) (flow.cut h stack)
shows_cut {facts = facts} h slots stack r = subst (λ n. ShowsAllIn facts (cut h slots) (drop (n - h) stack)) (shows-length slots stack r) (shows_drop (length slots - h) slots stack r)

-- the top slot, where anything but a method is wanted
pub top : {facts : Facts} → (w : Want) (ws : List Want) (P : List Slot → Stack → Type 0) → is_wanted w flow.Method ≡ false
    → ((s : Slot) (t : flow.Slot) (rest : List Slot) (below : Stack) → ShowsIn facts s t → is_wanted w t ≡ true → ShowsAllIn facts rest below → all_wanted ws below ≡ true → P (s ∷ rest) (t ∷ below))
    → (slots : List Slot) (stack : Stack) → ShowsAllIn facts slots stack → all_wanted (w ∷ ws) stack ≡ true → P slots stack
top w ws P other k slots stack none e = absurd (false≢true e)
top w ws P other k slots stack (more {s = s} {t = t} {slots = st} {stack = ss} h r) e = let q = and_parts _ _ e in k s t st ss h q.0 r q.1
top w ws P other k slots stack (bound is r) e = absurd (false≢true (sym other ∙ (and_parts _ _ e).0))
top w ws P other k slots stack (free r) e = absurd (false≢true (sym other ∙ (and_parts _ _ e).0))

-- a value
pub as_value : {facts : Facts} → (P : Slot → Type 0) (s : Slot) (t : flow.Slot) → ((v : Val) → ShowsIn facts (Value v) t → P (Value v)) → ShowsIn facts s t → is_wanted wants.Value t ≡ true → P s
as_value P s t k (value {v = v}) e = k v value
as_value P s t k nothing e = k Nil nothing
as_value P s t k (exception {x = x} is) e = k (At x) (exception is)
as_value P s t k _ e = absurd (false≢true e)

pub one_value : {facts : Facts} → (ws : List Want) (P : List Slot → Stack → Type 0)
    → ((v : Val) (t : flow.Slot) (rest : List Slot) (below : Stack) → ShowsIn facts (Value v) t → ShowsAllIn facts rest below → all_wanted ws below ≡ true → P (Value v ∷ rest) (t ∷ below))
    → (slots : List Slot) (stack : Stack) → ShowsAllIn facts slots stack → all_wanted (wants.Value ∷ ws) stack ≡ true → P slots stack
one_value ws P k = top wants.Value ws P refl (λ s t rest below h e r w. as_value (λ z. P (z ∷ rest) (t ∷ below)) s t (λ v hv. k v t rest below hv r w) h e)

pub two_values : {facts : Facts} → (ws : List Want) (P : List Slot → Stack → Type 0)
    → ((u v : Val) (s t : flow.Slot) (rest : List Slot) (below : Stack) → ShowsIn facts (Value u) s → ShowsIn facts (Value v) t → ShowsAllIn facts rest below → all_wanted ws below ≡ true → P (Value u ∷ Value v ∷ rest) (s ∷ t ∷ below))
    → (slots : List Slot) (stack : Stack) → ShowsAllIn facts slots stack → all_wanted (wants.Value ∷ wants.Value ∷ ws) stack ≡ true → P slots stack
two_values ws P k = one_value (wants.Value ∷ ws) P (λ u s st ss hu r w. one_value ws (λ a b. P (Value u ∷ a) (s ∷ b)) (λ v t rest below hv q x. k u v s t rest below hu hv q x) st ss r w)

-- a method look-up
pub one_method : {facts : Facts} → (P : List Slot → Stack → Type 0)
    → ((object : Val) (method : Builtin) (rest : List Slot) (below : Stack) → ShowsAllIn facts rest below → P (Object (Some object) ∷ Value (Built method) ∷ rest) (flow.Method ∷ flow.Value ∷ below))
    → ((v : Val) (rest : List Slot) (below : Stack) → ShowsAllIn facts rest below → P (Object None ∷ Value v ∷ rest) (flow.Method ∷ flow.Value ∷ below))
    → (slots : List Slot) (stack : Stack) → ShowsAllIn facts slots stack → all_wanted (wants.Method ∷ wants.Value ∷ []) stack ≡ true → P slots stack
one_method P k f slots stack none e = absurd (false≢true e)
one_method P k f slots stack (bound {object = o} {method = m} {slots = st} {stack = ss} is r) e = k o m st ss r
one_method P k f slots stack (free {v = v} {slots = st} {stack = ss} r) e = f v st ss r
one_method P k f slots stack (more {s = s} {t = t} h r) e = absurd (never s t h (and_parts _ _ e).0)
  where
    never : {facts : Facts} → (s : Slot) (t : flow.Slot) → ShowsIn facts s t → is_wanted wants.Method t ≡ true → ⊥
    never s t value e = false≢true e
    never s t nothing e = false≢true e
    never s t (exception is) e = false≢true e
    never s t null e = false≢true e
    never s t kept_return e = false≢true e
    never s t kept_jump e = false≢true e
    never s t iterator1 e = false≢true e
    never s t iterator2 e = false≢true e
    never s t iterator3 e = false≢true e
    never s t iterator4 e = false≢true e

-- `n` values and the others are taken
pub takes-length : (n : ℕ) (ws : List Want) → length (takes n ws) ≡ n + length ws
takes-length zero ws = omega arith
takes-length (suc n) ws = let e = takes-length n ws in omega (arith, e)

pub wanted_drop : (n : ℕ) (ws : List Want) (stack : Stack) → all_wanted (takes n ws) stack ≡ true → (all_wanted ws (drop n stack) ≡ true) × (n ≤ length stack)
wanted_drop zero ws stack e = (e, omega arith)
wanted_drop (suc n) ws [] e = absurd (false≢true e)
wanted_drop (suc n) ws (t ∷ stack) e = let q = wanted_drop n ws stack (and_parts (is_wanted wants.Value t) (all_wanted (takes n ws) stack) e).1 in let h : n ≤ length stack = q.1 in (q.0, omega (arith, h))

pub wanted_more : (n : ℕ) (stack : Stack) → all_wanted (takes (n + 1) []) stack ≡ true → (all_wanted (wants.Value ∷ []) (drop n stack) ≡ true) × (n ≤ length stack)
wanted_more n stack e = wanted_drop n (wants.Value ∷ []) stack (subst (λ ws. all_wanted ws stack ≡ true) (one_more n) e)
  where
    one_more : (n : ℕ) → takes (n + 1) [] ≡ takes n (wants.Value ∷ [])
    one_more zero = refl
    one_more (suc n) =
        let e : suc n + 1 ≡ suc (n + 1) = omega arith in
        ap (λ m. takes m []) e ∙ ap (λ (ws : List Want). wants.Value ∷ ws) (one_more n)

pub values_show : {facts : Facts} → (vs : List Val) (old : Stack) (slots : List Slot) (stack : Stack) → ShowsAllIn facts slots stack → ShowsAllIn facts (map Value vs ++ slots) (map (give_slot old) (replicate (length vs) (New kinds.Value) ++ []) ++ stack)
values_show [] old slots stack r = r
values_show (v ∷ vs) old slots stack r = more value (values_show vs old slots stack r)

-- a value, or the empty slot
pub as_value_or_null : {facts : Facts} → (P : Slot → Type 0) (s : Slot) (t : flow.Slot) → ((v : Val) → P (Value v)) → P Null → ShowsIn facts s t → is_wanted wants.ValueOrNull t ≡ true → P s
as_value_or_null P s t k n (value {v = v}) e = k v
as_value_or_null P s t k n nothing e = k Nil
as_value_or_null P s t k n (exception {x = x} is) e = k (At x)
as_value_or_null P s t k n null e = n
as_value_or_null P s t k n _ e = absurd (false≢true e)

pub as_null : {facts : Facts} → (P : Slot → Type 0) (s : Slot) (t : flow.Slot) → P Null → ShowsIn facts s t → is_wanted wants.Null t ≡ true → P s
as_null P s t n null e = n
as_null P s t n _ e = absurd (false≢true e)

-- the slots of an iterator, of which the top one says where it is
as_fourth : {facts : Facts} → (P : Slot → flow.Slot → Type 0) (s : Slot) (t : flow.Slot) → ((over : Val) (at : ℕ) → P (Iter over at 3) flow.Iter4) → ShowsIn facts s t → is_wanted wants.Iter4 t ≡ true → P s t
as_fourth P s t k (iterator4 {over = over} {at = at}) e = k over at
as_fourth P s t k _ e = absurd (false≢true e)

as_third : {facts : Facts} → (P : flow.Slot → Type 0) (s : Slot) (t : flow.Slot) → P flow.Iter3 → ShowsIn facts s t → is_wanted wants.Iter3 t ≡ true → P t
as_third P s t k iterator3 e = k
as_third P s t k _ e = absurd (false≢true e)

as_second : {facts : Facts} → (P : flow.Slot → Type 0) (s : Slot) (t : flow.Slot) → P flow.Iter2 → ShowsIn facts s t → is_wanted wants.Iter2 t ≡ true → P t
as_second P s t k iterator2 e = k
as_second P s t k _ e = absurd (false≢true e)

as_first : {facts : Facts} → (P : flow.Slot → Type 0) (s : Slot) (t : flow.Slot) → P flow.Iter1 → ShowsIn facts s t → is_wanted wants.Iter1 t ≡ true → P t
as_first P s t k iterator1 e = k
as_first P s t k _ e = absurd (false≢true e)

pub one_iterator : {facts : Facts} → (P : List Slot → Stack → Type 0)
    → ((over : Val) (at : ℕ) (c b a : Slot) (rest : List Slot) (below : Stack) → ShowsAllIn facts rest below → P (Iter over at 3 ∷ c ∷ b ∷ a ∷ rest) (flow.Iter4 ∷ flow.Iter3 ∷ flow.Iter2 ∷ flow.Iter1 ∷ below))
    → (slots : List Slot) (stack : Stack) → ShowsAllIn facts slots stack → all_wanted iterator stack ≡ true → P slots stack
one_iterator P k = top wants.Iter4 (wants.Iter3 ∷ wants.Iter2 ∷ wants.Iter1 ∷ []) P refl (λ s t st ss h e r w.
    as_fourth (λ x y. P (x ∷ st) (y ∷ ss)) s t (λ over at.
    top wants.Iter3 (wants.Iter2 ∷ wants.Iter1 ∷ []) (λ x y. P (Iter over at 3 ∷ x) (flow.Iter4 ∷ y)) refl (λ s3 t3 st3 ss3 h3 e3 r3 w3.
    top wants.Iter2 (wants.Iter1 ∷ []) (λ x y. P (Iter over at 3 ∷ s3 ∷ x) (flow.Iter4 ∷ t3 ∷ y)) refl (λ s2 t2 st2 ss2 h2 e2 r2 w2.
    top wants.Iter1 [] (λ x y. P (Iter over at 3 ∷ s3 ∷ s2 ∷ x) (flow.Iter4 ∷ t3 ∷ t2 ∷ y)) refl (λ s1 t1 rest below h1 e1 r1 w1.
    as_third (λ y. P (Iter over at 3 ∷ s3 ∷ s2 ∷ s1 ∷ rest) (flow.Iter4 ∷ y ∷ t2 ∷ t1 ∷ below)) s3 t3
    (as_second (λ y. P (Iter over at 3 ∷ s3 ∷ s2 ∷ s1 ∷ rest) (flow.Iter4 ∷ flow.Iter3 ∷ y ∷ t1 ∷ below)) s2 t2
    (as_first (λ y. P (Iter over at 3 ∷ s3 ∷ s2 ∷ s1 ∷ rest) (flow.Iter4 ∷ flow.Iter3 ∷ flow.Iter2 ∷ y ∷ below)) s1 t1 (k over at s3 s2 s1 rest below r1) h1 e1) h2 e2) h3 e3)
    st2 ss2 r2 w2) st3 ss3 r3 w3) st ss r w) h e)
