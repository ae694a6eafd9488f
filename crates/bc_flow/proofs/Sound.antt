-- What holds of a running machine.
use Rattle.std.proofs.Common.{◌≡◌, ℕ, zero, suc, ◌+◌, ◌-◌, ◌<◌, ◌≤◌, Bool, true, false, not, ◌&&◌, ◌||◌, List, [], ◌∷◌, ◌++◌, length, map, get_or, drop, Some, refl, sym, ap, ◌∙◌, subst, arith, if◌then◌else◌, length-drop}
use Rattle.std.specs.Prelude.{nat_le, nat_lt, nat_eq}
use Rattle.std.proofs.lemmas.List.{drop-drop}
use Rattle.std.proofs.lemmas.Bool.{and_parts, and_from, true≢false, false≢true, ltb-true, lt-leb}
use Rattle.bc_shapes.specs.declared.kinds.Kind.{Kind}
use Rattle.bc_shapes.specs.declared.kinds.Kind.TheVariants as kinds
use Rattle.bc_shapes.specs.declared.kinds.Want.{Want}
use Rattle.bc_shapes.specs.declared.kinds.Want.TheVariants as wants
use Rattle.bc_shapes.specs.declared.kinds.Give.{Give}
use Rattle.bc_shapes.specs.declared.kinds.Give.TheVariants.{New, Again}
use Rattle.bc_shapes.specs.declared.shape.Entry.{Entry}
use Rattle.bc_shapes.specs.Shape.{At, Below, same, value, cause, Belows, none, also, stands, fits, give_of, after}
use Rattle.bc_flow.specs.Edges.{mark, is_marked, iterator_if}
use Rattle.bc_flow.specs.Verified.{Assigned}
use Rattle.bc_flow.specs.Machine.{Slot, Value, NoneOrException, KeptReturn, KeptJump, Iter1, Iter2, Iter3, Iter4, Null, Method, Stack, is_wanted, all_wanted, slot_of, give_slot, given, cut, remark, is_run}

-- a slot of a kind
pub data Fit : Slot → Kind → Type 0 where
  val : Fit Value kinds.Value
  none_v : Fit NoneOrException kinds.Value
  none_c : Fit NoneOrException kinds.Cause
  none_b : Fit NoneOrException kinds.Either
  ret : Fit KeptReturn kinds.Cause
  jump : {t d : ℕ} {it : Bool} → Fit (KeptJump t d it) kinds.Cause
  p1 : Fit Iter1 kinds.Iter1
  p2 : Fit Iter2 kinds.Iter2
  p3 : Fit Iter3 kinds.Iter3
  p4 : Fit Iter4 kinds.Iter4
  null : Fit Null kinds.Null
  method : Fit Method kinds.Method

pub data Stands : Stack → List Kind → Type 0 where
  empty : Stands [] []
  more : {s : Slot} {k : Kind} {st : Stack} {ks : List Kind} → Fit s k → Stands st ks → Stands (s ∷ st) (k ∷ ks)

fit_below : (s : Slot) (k l : Kind) → Fit s k → Below k l → Fit s l
fit_below s k l f same = f
fit_below s k l none_b value = none_v
fit_below s k l none_b cause = none_c

pub stands_below : (st : Stack) (ks ls : List Kind) → Stands st ks → Belows ks ls → Stands st ls
stands_below st ks ls empty none = empty
stands_below st ks ls (more f h) (also a b) = more (fit_below _ _ _ f a) (stands_below _ _ _ h b)

pub stands-length : (st : Stack) (ks : List Kind) → Stands st ks → length st ≡ length ks
stands-length st ks empty = refl
stands-length st ks (more {st = s} {ks = k} f h) = ap suc (stands-length s k h)

pub stands_drop : (n : ℕ) (st : Stack) (ks : List Kind) → Stands st ks → Stands (drop n st) (drop n ks)
stands_drop zero st ks h = h
stands_drop (suc n) st ks empty = empty
stands_drop (suc n) st ks (more {st = s} {ks = k} f h) = stands_drop n s k h

pub stands_cut : (h : ℕ) (st : Stack) (ks : List Kind) → Stands st ks → Stands (cut h st) (cut h ks)
stands_cut h st ks s = subst (λ n. Stands (cut h st) (drop (n - h) ks)) (stands-length st ks s) (stands_drop (length st - h) st ks s)

fit_wanted : (w : Want) (s : Slot) (k : Kind) → Fit s k → stands w k ≡ true → is_wanted w s ≡ true
fit_wanted wants.Value s k val e = refl
fit_wanted wants.Value s k none_v e = refl
fit_wanted wants.Value s k none_b e = refl
fit_wanted wants.Cause s k none_c e = refl
fit_wanted wants.Cause s k none_b e = refl
fit_wanted wants.Cause s k ret e = refl
fit_wanted wants.Cause s k jump e = refl
fit_wanted wants.Top s k val e = refl
fit_wanted wants.Top s k none_v e = refl
fit_wanted wants.Top s k none_b e = refl
fit_wanted wants.Top s k p1 e = refl
fit_wanted wants.Top s k p2 e = refl
fit_wanted wants.Top s k p3 e = refl
fit_wanted wants.Top s k p4 e = refl
fit_wanted wants.Iter1 s k p1 e = refl
fit_wanted wants.Iter2 s k p2 e = refl
fit_wanted wants.Iter3 s k p3 e = refl
fit_wanted wants.Iter4 s k p4 e = refl
fit_wanted wants.ValueOrNull s k val e = refl
fit_wanted wants.ValueOrNull s k none_v e = refl
fit_wanted wants.ValueOrNull s k none_b e = refl
fit_wanted wants.ValueOrNull s k null e = refl
fit_wanted wants.Null s k null e = refl
fit_wanted wants.Method s k method e = refl
fit_wanted _ s k _ e = absurd (false≢true e)

pub stands_wanted : (ws : List Want) (st : Stack) (ks : List Kind) → Stands st ks → fits ws ks ≡ true → all_wanted ws st ≡ true
stands_wanted [] st ks h e = refl
stands_wanted (w ∷ ws) st ks empty e = e
stands_wanted (w ∷ ws) st ks (more {s = s} {k = k} {st = tt1} {ks = js} f h) e =
    let p = and_parts (stands w k) (fits ws js) e in
    and_from (is_wanted w s) (all_wanted ws tt1) (fit_wanted w s k f p.0) (stands_wanted ws tt1 js h p.1)

fit_slot : (k : Kind) → Fit (slot_of k) k
fit_slot kinds.Value = val
fit_slot kinds.Cause = none_c
fit_slot kinds.Either = none_b
fit_slot kinds.Iter1 = p1
fit_slot kinds.Iter2 = p2
fit_slot kinds.Iter3 = p3
fit_slot kinds.Iter4 = p4
fit_slot kinds.Null = null
fit_slot kinds.Method = method

fit_get : (n : ℕ) (st : Stack) (ks : List Kind) → Stands st ks → Fit (get_or st n NoneOrException) (get_or ks n kinds.Either)
fit_get n st ks empty = none_b
fit_get zero st ks (more f h) = f
fit_get (suc n) st ks (more {st = s} {ks = k} f h) = fit_get n s k h

fit_give : (g : Give) (st : Stack) (ks : List Kind) → Stands st ks → Fit (give_slot st g) (give_of ks g)
fit_give (New k) st ks h = fit_slot k
fit_give (Again n) st ks h = fit_get n st ks h

stands_append : (gs : List Give) (st : Stack) (ks : List Kind) (su : Stack) (ls : List Kind) → Stands st ks → Stands su ls → Stands (map (give_slot st) gs ++ su) (map (give_of ks) gs ++ ls)
stands_append [] st ks su ls h r = r
stands_append (g ∷ gs) st ks su ls h r = more (fit_give g st ks h) (stands_append gs st ks su ls h r)

pub stands_given : (gs : List Give) (n : ℕ) (st : Stack) (ks : List Kind) → Stands st ks → Stands (given gs n st) (after gs n ks)
stands_given gs n st ks h = stands_append gs st ks (drop n st) (drop n ks) h (stands_drop n st ks h)

-- Cuts.

pub cut_cut : {A : Type 0} → (h j : ℕ) (xs : List A) → h ≤ j → cut h (cut j xs) ≡ cut h xs
cut_cut h j xs le =
    drop-drop (length (cut j xs) - h) (length xs - j) xs
    ∙ ap (λ n. drop n xs) (let e = length-drop (length xs - j) xs in let q : (length xs - j) + (length (cut j xs) - h) ≡ length xs - h = omega (arith, e, le) in q)

pub cut_all : {A : Type 0} → (n : ℕ) (xs : List A) → length xs ≤ n → cut n xs ≡ xs
cut_all n xs le = ap (λ m. drop m xs) (let q : length xs - n ≡ zero = omega (arith, le) in q)

pub cut_push : {A : Type 0} → (h : ℕ) (x : A) (xs : List A) → h ≤ length xs → cut h (x ∷ xs) ≡ cut h xs
cut_push h x xs le = ap (λ m. drop m (x ∷ xs)) (let q : length (x ∷ xs) - h ≡ suc (length xs - h) = omega (arith, le) in q)

pub cut-length : {A : Type 0} → (h : ℕ) (xs : List A) → h ≤ length xs → length (cut h xs) ≡ h
cut-length h xs le = let e = length-drop (length xs - h) xs in omega (arith, e, le)

-- the entries' heights, the top one's at most n
abbrev pub Fits : List Entry → ℕ → Type 0
Fits [] n = Unit {0}
Fits (e ∷ es) n = (e.height ≤ n) × Fits es e.height

-- what a stack and its entries keep
abbrev pub Keeps : Type 1
Keeps = List Entry → Stack → Type 0

-- the assignment has something for this state, which keeps S
pub record Reach (a : Assigned) (S : Keeps) (pc : ℕ) (st : Stack) (es : List Entry) : Type 0 where
  pub at : At
  pub is : a pc ≡ Some at
  pub entries : at.entries ≡ map (remark pc) es
  pub slots : Stands st at.slots
  pub fits : Fits (map (remark pc) es) (length st)
  pub sound : S (map (remark pc) es) st

abbrev pub OnTrue : Bool → Type 0 → Type 0
OnTrue true P = P
OnTrue false P = Unit {0}

-- a return from here is fine, through all the finallys that it runs
abbrev pub CanReturn : Assigned → Keeps → List Entry → Stack → Type 0
CanReturn a S [] st = Unit {0}
CanReturn a S (e ∷ es) st = OnTrue (is_run e) (Reach a S e.handler (KeptReturn ∷ cut e.height st) (e ∷ es)) × CanReturn a S es (cut e.height st)

-- a jump from here to `t` out of the topmost `d` entries is fine, through all the finallys that it runs
abbrev pub CanUnwind : Assigned → Keeps → ℕ → Bool → ℕ → List Entry → Stack → Type 0
CanUnwind a S t it zero es st = (all_wanted (iterator_if it) st ≡ true) × Reach a S t (drop (length (iterator_if it)) st) es
CanUnwind a S t it (suc d) [] st = ⊥
CanUnwind a S t it (suc d) (e ∷ es) st = OnTrue (is_run e) (Reach a S e.handler (KeptJump t d it ∷ cut e.height st) (e ∷ es)) × CanUnwind a S t it d es (cut e.height st)

abbrev pub KeptOk : Assigned → Keeps → Slot → List Entry → Stack → Type 0
KeptOk a S KeptReturn es st = CanReturn a S es st
KeptOk a S (KeptJump t d it) es st = CanUnwind a S t it d es st
KeptOk a S _ es st = Unit {0}

-- the slot at an entry's height, where it keeps a return or a jump, can go on below the entry; for at most n entries
abbrev pub Sound : Assigned → ℕ → Keeps
Sound a zero [] st = Unit {0}
Sound a zero (e ∷ es) st = ⊥
Sound a (suc n) [] st = Unit {0}
Sound a (suc n) (e ∷ es) st = ((above : Stack) (s : Slot) (rest : Stack) → st ≡ above ++ s ∷ rest → length rest ≡ e.height → KeptOk a (Sound a n) s es rest) × Sound a n es (cut e.height st)

-- Marks that are set change nothing of this.

pub marked : (q : ℕ) (es : List Entry) → is_marked q (map (mark q) es) ≡ true → map (mark q) es ≡ map (remark q) es
marked q [] h = refl
marked q (e ∷ es) h =
    let p = and_parts _ _ h in
    ap (λ z. z ∷ map (mark q) es) (one (e.active || nat_eq e.handler q) p.0) ∙ ap (λ z. remark q e ∷ z) (marked q es p.1)
  where
    one : (b : Bool) → (if b then nat_le e.handler q else nat_lt q e.handler) ≡ true → record e { active = b } ≡ remark q e
    one true t = ap (λ z. record e { active = z }) (sym t)
    one false t = ap (λ z. record e { active = z }) (sym (lt-leb e.handler q (ltb-true q e.handler t)))

remark_mark : (p q : ℕ) (es : List Entry) → map (remark p) (map (mark q) es) ≡ map (remark p) es
remark_mark p q [] = refl
remark_mark p q (e ∷ es) = ap (λ z. remark p e ∷ z) (remark_mark p q es)

reach_mark : (a : Assigned) (S : Keeps) (pc q : ℕ) (st : Stack) (es : List Entry) → Reach a S pc st es → Reach a S pc st (map (mark q) es)
reach_mark a S pc q st es r =
    let e = sym (remark_mark pc q es) in
    record { at = r.at; is = r.is; entries = r.entries ∙ e; slots = r.slots; fits = subst (λ z. Fits z (length st)) e r.fits; sound = subst (λ z. S z st) e r.sound }

pub fits_mark : (q n : ℕ) (es : List Entry) → Fits es n → Fits (map (mark q) es) n
fits_mark q n [] h = tt
fits_mark q n (e ∷ es) h = (h.0, fits_mark q e.height es h.1)

run_mark : (f b c : Bool) (P Q : Type 0) → (P → Q) → OnTrue (f && not b) P → OnTrue (f && not (b || c)) Q
run_mark true true c P Q k h = tt
run_mark true false true P Q k h = tt
run_mark true false false P Q k h = k h
run_mark false true c P Q k h = tt
run_mark false false true P Q k h = tt
run_mark false false false P Q k h = tt

return_mark : (a : Assigned) (S : Keeps) (q : ℕ) (es : List Entry) (st : Stack) → CanReturn a S es st → CanReturn a S (map (mark q) es) st
return_mark a S q [] st h = tt
return_mark a S q (e ∷ es) st h =
    (run_mark e.is_finally e.active (nat_eq e.handler q) _ _ (reach_mark a S e.handler q (KeptReturn ∷ cut e.height st) (e ∷ es)) h.0, return_mark a S q es (cut e.height st) h.1)

unwind_mark : (a : Assigned) (S : Keeps) (q t : ℕ) (it : Bool) (d : ℕ) (es : List Entry) (st : Stack) → CanUnwind a S t it d es st → CanUnwind a S t it d (map (mark q) es) st
unwind_mark a S q t it zero es st h = (h.0, reach_mark a S t q (drop (length (iterator_if it)) st) es h.1)
unwind_mark a S q t it (suc d) [] st h = h
unwind_mark a S q t it (suc d) (e ∷ es) st h =
    (run_mark e.is_finally e.active (nat_eq e.handler q) _ _ (reach_mark a S e.handler q (KeptJump t d it ∷ cut e.height st) (e ∷ es)) h.0, unwind_mark a S q t it d es (cut e.height st) h.1)

kept_mark : (a : Assigned) (S : Keeps) (q : ℕ) (s : Slot) (es : List Entry) (st : Stack) → KeptOk a S s es st → KeptOk a S s (map (mark q) es) st
kept_mark a S q KeptReturn es st h = return_mark a S q es st h
kept_mark a S q (KeptJump t d it) es st h = unwind_mark a S q t it d es st h
kept_mark a S q Value es st h = tt
kept_mark a S q NoneOrException es st h = tt
kept_mark a S q Iter1 es st h = tt
kept_mark a S q Iter2 es st h = tt
kept_mark a S q Iter3 es st h = tt
kept_mark a S q Iter4 es st h = tt
kept_mark a S q Null es st h = tt
kept_mark a S q Method es st h = tt

pub sound_mark : (a : Assigned) (n q : ℕ) (es : List Entry) (st : Stack) → Sound a n es st → Sound a n (map (mark q) es) st
sound_mark a zero q [] st h = tt
sound_mark a zero q (e ∷ es) st h = h
sound_mark a (suc n) q [] st h = tt
sound_mark a (suc n) q (e ∷ es) st h = (λ above s rest e1 e2. kept_mark a (Sound a n) q s es rest (h.0 above s rest e1 e2), sound_mark a n q es (cut e.height st) h.1)

-- More entries may be allowed.

run_map : (b : Bool) (P Q : Type 0) → (P → Q) → OnTrue b P → OnTrue b Q
run_map true P Q k h = k h
run_map false P Q k h = tt

reach_map : (a : Assigned) (S R : Keeps) (pc : ℕ) (st : Stack) (es : List Entry) → ((fs : List Entry) (su : Stack) → S fs su → R fs su) → Reach a S pc st es → Reach a R pc st es
reach_map a S R pc st es k r = record { at = r.at; is = r.is; entries = r.entries; slots = r.slots; fits = r.fits; sound = k _ _ r.sound }

pub return_map : (a : Assigned) (S R : Keeps) (es : List Entry) (st : Stack) → ((fs : List Entry) (su : Stack) → S fs su → R fs su) → CanReturn a S es st → CanReturn a R es st
return_map a S R [] st k h = tt
return_map a S R (e ∷ es) st k h = (run_map (is_run e) _ _ (reach_map a S R e.handler (KeptReturn ∷ cut e.height st) (e ∷ es) k) h.0, return_map a S R es (cut e.height st) k h.1)

pub unwind_map : (a : Assigned) (S R : Keeps) (t : ℕ) (it : Bool) (d : ℕ) (es : List Entry) (st : Stack) → ((fs : List Entry) (su : Stack) → S fs su → R fs su) → CanUnwind a S t it d es st → CanUnwind a R t it d es st
unwind_map a S R t it zero es st k h = (h.0, reach_map a S R t (drop (length (iterator_if it)) st) es k h.1)
unwind_map a S R t it (suc d) [] st k h = h
unwind_map a S R t it (suc d) (e ∷ es) st k h = (run_map (is_run e) _ _ (reach_map a S R e.handler (KeptJump t d it ∷ cut e.height st) (e ∷ es) k) h.0, unwind_map a S R t it d es (cut e.height st) k h.1)

kept_map : (a : Assigned) (S R : Keeps) (s : Slot) (es : List Entry) (st : Stack) → ((fs : List Entry) (su : Stack) → S fs su → R fs su) → KeptOk a S s es st → KeptOk a R s es st
kept_map a S R KeptReturn es st k h = return_map a S R es st k h
kept_map a S R (KeptJump t d it) es st k h = unwind_map a S R t it d es st k h
kept_map a S R Value es st k h = tt
kept_map a S R NoneOrException es st k h = tt
kept_map a S R Iter1 es st k h = tt
kept_map a S R Iter2 es st k h = tt
kept_map a S R Iter3 es st k h = tt
kept_map a S R Iter4 es st k h = tt
kept_map a S R Null es st k h = tt
kept_map a S R Method es st k h = tt

pub sound_up : (a : Assigned) (n : ℕ) (es : List Entry) (st : Stack) → Sound a n es st → Sound a (suc n) es st
sound_up a zero [] st h = tt
sound_up a zero (e ∷ es) st h = absurd h
sound_up a (suc n) [] st h = tt
sound_up a (suc n) (e ∷ es) st h = (λ above s rest e1 e2. kept_map a (Sound a n) (Sound a (suc n)) s es rest (sound_up a n) (h.0 above s rest e1 e2), sound_up a n es (cut e.height st) h.1)

-- Slots above the top entry's height come and go.

pub sound_pop : (a : Assigned) (n : ℕ) (es : List Entry) (s : Slot) (st : Stack) → Fits es (length st) → Sound a n es (s ∷ st) → Sound a n es st
sound_pop a zero [] s st f h = tt
sound_pop a zero (e ∷ es) s st f h = h
sound_pop a (suc n) [] s st f h = tt
sound_pop a (suc n) (e ∷ es) s st f h = (λ above r rest e1 e2. h.0 (s ∷ above) r rest (ap (λ z. s ∷ z) e1) e2, subst (Sound a n es) (cut_push e.height s st f.0) h.1)

-- a slot that keeps a return or a jump
abbrev pub is_kept : Slot → Bool
is_kept KeptReturn = true
is_kept (KeptJump t d it) = true
is_kept _ = false

not_kept : (a : Assigned) (S : Keeps) (s : Slot) (es : List Entry) (st : Stack) → is_kept s ≡ false → KeptOk a S s es st
not_kept a S KeptReturn es st h = absurd (true≢false h)
not_kept a S (KeptJump t d it) es st h = absurd (true≢false h)
not_kept a S Value es st h = tt
not_kept a S NoneOrException es st h = tt
not_kept a S Iter1 es st h = tt
not_kept a S Iter2 es st h = tt
not_kept a S Iter3 es st h = tt
not_kept a S Iter4 es st h = tt
not_kept a S Null es st h = tt
not_kept a S Method es st h = tt

head_is : (x : Slot) (xs : Stack) (y : Slot) (ys : Stack) → x ∷ xs ≡ y ∷ ys → x ≡ y
head_is x xs y ys e = cc

tail_is : (x : Slot) (xs : Stack) (y : Slot) (ys : Stack) → x ∷ xs ≡ y ∷ ys → xs ≡ ys
tail_is x xs y ys e = cc

pub sound_push : (a : Assigned) (n : ℕ) (es : List Entry) (s : Slot) (st : Stack) → Fits es (length st) → is_kept s ≡ false → Sound a n es st → Sound a n es (s ∷ st)
sound_push a zero [] s st f p h = tt
sound_push a zero (e ∷ es) s st f p h = h
sound_push a (suc n) [] s st f p h = tt
sound_push a (suc n) (e ∷ es) s st f p h = (split, subst (Sound a n es) (sym (cut_push e.height s st f.0)) h.1)
  where
    split : (above : Stack) (r : Slot) (rest : Stack) → s ∷ st ≡ above ++ r ∷ rest → length rest ≡ e.height → KeptOk a (Sound a n) r es rest
    split [] r rest e1 e2 = subst (λ z. KeptOk a (Sound a n) z es rest) (head_is s st r rest e1) (not_kept a (Sound a n) s es rest p)
    split (b ∷ above) r rest e1 e2 = h.0 above r rest (tail_is s st b (above ++ r ∷ rest) e1) e2

-- A slot at an entry's height: all that is asked is that it can go on below the entry.

too_long : (above : Stack) (r : Slot) (rest : Stack) (st : Stack) → st ≡ above ++ r ∷ rest → length rest < length st
too_long [] r rest st e = let q = ap length e in omega (arith, q)
too_long (b ∷ above) r rest [] e = cc
too_long (b ∷ above) r rest (s ∷ st) e = let lt = too_long above r rest st (tail_is s st b (above ++ r ∷ rest) e) in omega (arith, lt)

pub sound_enter : (a : Assigned) (n : ℕ) (e : Entry) (es : List Entry) (s : Slot) (st : Stack) → e.height ≤ length st → KeptOk a (Sound a n) s es (cut e.height st) → Sound a n es (cut e.height st) → Sound a (suc n) (e ∷ es) (s ∷ cut e.height st)
sound_enter a n e es s st le k h =
    (split, subst (Sound a n es) (sym (cut_push e.height s (cut e.height st) (let q = cut-length e.height st le in omega (arith, q)) ∙ cut_cut e.height e.height st (omega arith))) h)
  where
    split : (above : Stack) (r : Slot) (rest : Stack) → s ∷ cut e.height st ≡ above ++ r ∷ rest → length rest ≡ e.height → KeptOk a (Sound a n) r es rest
    split [] r rest e1 e2 = subst (λ z. KeptOk a (Sound a n) z es rest) (head_is s (cut e.height st) r rest e1) (subst (KeptOk a (Sound a n) s es) (tail_is s (cut e.height st) r rest e1) k)
    split (b ∷ above) r rest e1 e2 = let lt = too_long above r rest (cut e.height st) (tail_is s (cut e.height st) b (above ++ r ∷ rest) e1) in let q = cut-length e.height st le in absurd (omega (arith, lt, q, e2))

-- a new entry has no slot yet
pub sound_setup : (a : Assigned) (n : ℕ) (e : Entry) (es : List Entry) (st : Stack) → e.height ≡ length st → Sound a n es st → Sound a (suc n) (e ∷ es) st
sound_setup a n e es st q h =
    (λ above r rest e1 e2. let lt = too_long above r rest st e1 in absurd (omega (arith, lt, e2, q)), subst (Sound a n es) (sym (cut_all e.height st (omega (arith, q)))) h)
