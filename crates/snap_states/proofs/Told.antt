-- What the tests of slots and jumps tell, and that slots which may be None or an exception serve wherever values do.
use Rattle.std.proofs.Common.{◌≡◌, ℕ, zero, suc, ◌+◌, ◌-◌, ◌<◌, Bool, true, false, not, List, [], ◌∷◌, ◌++◌, length, map, take, drop, Option, Some, None, refl, sym, ap, subst, ◌∙◌, arith, length-append}
use Rattle.std.specs.Prelude.{nat_lt, ◌||◌}
use Rattle.std.proofs.Math.Seq.{drop-append_seam}
use Rattle.std.proofs.lemmas.List.{take-append-drop}
use Rattle.std.proofs.lemmas.Bool.{and_parts, and_from, false≢true, ltb-true, lt-ltb}
use Rattle.bc_shapes.specs.declared.kinds.Kind.{Kind}
use Rattle.bc_shapes.specs.declared.kinds.Kind.TheVariants as kinds
use Rattle.bc_shapes.specs.declared.kinds.Want.{Want}
use Rattle.bc_shapes.specs.declared.kinds.Want.TheVariants as wants
use Rattle.bc_shapes.specs.declared.shape.Entry.{Entry}
use Rattle.bc_shapes.specs.Shape.{At, same_entries}
use Rattle.bc_shapes.proofs.Joins.{same_entries_is, same_entries_from}
use Rattle.bc_flow.specs.Edges.{iterator_if}
use Rattle.bc_flow.specs.Machine.{Slot, Stack, Value, NoneOrException, KeptReturn, KeptJump, Iter1, Iter2, Iter3, Iter4, Null, Method, is_wanted, all_wanted, cut, remark, is_run}
use Rattle.bc_flow.specs.Verified.{Assigned}
use Rattle.bc_flow.proofs.Sound.{Fit, val, none_v, none_c, none_b, ret, jump, p1, p2, p3, p4, null, method, Stands, empty, more, cut-length}
use Rattle.snap_states.specs.Shapes.{IsShapeAt, LeadsOn, JumpsLeadOn}
use Rattle.snap_states.specs.Stacks.{fits_kind, fit_kinds, is_shape_of, is_shape, passes, leads_on, top_leads_on, jump_leads_on, jumps_lead_on, Covers, both_empty, same, caught}

-- shapes
-- ======

fit_from : (s : Slot) (k : Kind) → fits_kind s k ≡ true → Fit s k
fit_from Value kinds.Value e = val
fit_from NoneOrException kinds.Value e = none_v
fit_from NoneOrException kinds.Cause e = none_c
fit_from NoneOrException kinds.Either e = none_b
fit_from KeptReturn kinds.Cause e = ret
fit_from (KeptJump t d it) kinds.Cause e = jump
fit_from Iter1 kinds.Iter1 e = p1
fit_from Iter2 kinds.Iter2 e = p2
fit_from Iter3 kinds.Iter3 e = p3
fit_from Iter4 kinds.Iter4 e = p4
fit_from Null kinds.Null e = null
fit_from Method kinds.Method e = method
fit_from _ _ e = absurd (false≢true e)

fit_to : (s : Slot) (k : Kind) → Fit s k → fits_kind s k ≡ true
fit_to s k val = refl
fit_to s k none_v = refl
fit_to s k none_c = refl
fit_to s k none_b = refl
fit_to s k ret = refl
fit_to s k jump = refl
fit_to s k p1 = refl
fit_to s k p2 = refl
fit_to s k p3 = refl
fit_to s k p4 = refl
fit_to s k null = refl
fit_to s k method = refl

pub stands_from : (st : Stack) (ks : List Kind) → fit_kinds st ks ≡ true → Stands st ks
stands_from [] [] e = empty
stands_from [] (k ∷ ks) e = absurd (false≢true e)
stands_from (s ∷ st) [] e = absurd (false≢true e)
stands_from (s ∷ st) (k ∷ ks) e = let p = and_parts (fits_kind s k) (fit_kinds st ks) e in more (fit_from s k p.0) (stands_from st ks p.1)

pub stands_to : (st : Stack) (ks : List Kind) → Stands st ks → fit_kinds st ks ≡ true
stands_to st ks empty = refl
stands_to st ks (more {s = s} {k = k} {st = su} {ks = ls} f h) = and_from (fits_kind s k) (fit_kinds su ls) (fit_to s k f) (stands_to su ls h)

shape_from : (a : Assigned) (p : ℕ) (st : Stack) (es : List Entry) → is_shape a p st es ≡ true → IsShapeAt a p st es
shape_from a p st es e = go (a p) refl e
  where
    go : (o : Option At) → o ≡ a p → is_shape_of o p st es ≡ true → IsShapeAt a p st es
    go None h e = absurd (false≢true e)
    go (Some x) h e =
        let q = and_parts (same_entries x.entries (map (remark p) es)) (fit_kinds st x.slots) e in
        record { shape = x; is = sym h; entries = same_entries_is x.entries (map (remark p) es) q.0; slots = stands_from st x.slots q.1 }

shape_to : (a : Assigned) (p : ℕ) (st : Stack) (es : List Entry) → IsShapeAt a p st es → is_shape a p st es ≡ true
shape_to a p st es h =
    ap (λ o. is_shape_of o p st es) h.is
    ∙ and_from (same_entries h.shape.entries (map (remark p) es)) (fit_kinds st h.shape.slots) (same_entries_from h.shape.entries (map (remark p) es) h.entries) (stands_to st h.shape.slots h.slots)

-- jumps
-- =====

run_from : (r b : Bool) → (not r || b) ≡ true → r ≡ true → b ≡ true
run_from true b e h = e
run_from false b e h = absurd (false≢true h)

run_to : (r b : Bool) → (r ≡ true → b ≡ true) → (not r || b) ≡ true
run_to true b f = f refl
run_to false b f = refl

leads_from : (a : Assigned) (t : ℕ) (it : Bool) (d : ℕ) (es : List Entry) (st : Stack) → leads_on a t it d es st ≡ true → LeadsOn a t it d es st
leads_from a t it zero es st e =
    let p = and_parts (all_wanted (iterator_if it) st) (is_shape a t (drop (length (iterator_if it)) st) es) e in
    (p.0, shape_from a t (drop (length (iterator_if it)) st) es p.1)
leads_from a t it (suc d) [] st e = absurd (false≢true e)
leads_from a t it (suc d) (x ∷ es) st e =
    let p = and_parts (passes a t it d x es st) (leads_on a t it d es (cut x.height st)) e in
    (λ run. shape_from a x.handler (KeptJump t d it ∷ cut x.height st) (x ∷ es) (run_from (is_run x) (is_shape a x.handler (KeptJump t d it ∷ cut x.height st) (x ∷ es)) p.0 run), leads_from a t it d es (cut x.height st) p.1)

leads_to : (a : Assigned) (t : ℕ) (it : Bool) (d : ℕ) (es : List Entry) (st : Stack) → LeadsOn a t it d es st → leads_on a t it d es st ≡ true
leads_to a t it zero es st h = and_from (all_wanted (iterator_if it) st) (is_shape a t (drop (length (iterator_if it)) st) es) h.0 (shape_to a t (drop (length (iterator_if it)) st) es h.1)
leads_to a t it (suc d) [] st h = absurd h
leads_to a t it (suc d) (x ∷ es) st h =
    and_from (passes a t it d x es st) (leads_on a t it d es (cut x.height st))
    (run_to (is_run x) (is_shape a x.handler (KeptJump t d it ∷ cut x.height st) (x ∷ es)) (λ run. shape_to a x.handler (KeptJump t d it ∷ cut x.height st) (x ∷ es) (h.0 run)))
    (leads_to a t it d es (cut x.height st) h.1)

-- the slots from one on that has so many below it
cut_above : (above : Stack) (x : Slot) (rest : Stack) → cut (suc (length rest)) (above ++ x ∷ rest) ≡ x ∷ rest
cut_above above x rest =
    let long = length-append above (x ∷ rest) in
    ap (λ n. drop n (above ++ x ∷ rest)) (let e : length (above ++ x ∷ rest) - suc (length rest) ≡ length above = omega (arith, long) in e)
    ∙ drop-append_seam above (x ∷ rest)

-- the jump that lies at a height leads on
abbrev LeadsAt : Assigned → List Entry → ℕ → Stack → Type 0
LeadsAt a es h st = (above rest : Stack) (t d : ℕ) (it : Bool) → st ≡ above ++ KeptJump t d it ∷ rest → length rest ≡ h → LeadsOn a t it d es rest

at_from : (a : Assigned) (es : List Entry) (h : ℕ) (st : Stack) → jump_leads_on a es h st ≡ true → LeadsAt a es h st
at_from a es h st e above rest t d it parts long =
    let whole : length st ≡ length above + suc (length rest) = ap length parts ∙ length-append above (KeptJump t d it ∷ rest) in
    let lower : nat_lt h (length st) ≡ true = lt-ltb h (length st) (omega (arith, whole, long)) in
    let top : top_leads_on a es (cut (suc h) st) ≡ true = run_from (nat_lt h (length st)) (top_leads_on a es (cut (suc h) st)) e lower in
    let is : cut (suc h) st ≡ KeptJump t d it ∷ rest = ap (λ n. cut (suc n) st) (sym long) ∙ ap (cut (suc (length rest))) parts ∙ cut_above above (KeptJump t d it) rest in
    leads_from a t it d es rest (ap (top_leads_on a es) (sym is) ∙ top)

at_to : (a : Assigned) (es : List Entry) (h : ℕ) (st : Stack) → LeadsAt a es h st → jump_leads_on a es h st ≡ true
at_to a es h st f = run_to (nat_lt h (length st)) (top_leads_on a es (cut (suc h) st)) (λ lower. go (cut (suc h) st) refl (ltb-true h (length st) lower))
  where
    go : (top : Stack) → top ≡ cut (suc h) st → h < length st → top_leads_on a es top ≡ true
    go [] e lt = refl
    go (KeptJump t d it ∷ rest) e lt =
        let parts : st ≡ take (length st - suc h) st ++ KeptJump t d it ∷ rest = sym (take-append-drop (length st - suc h) st) ∙ ap (λ z. take (length st - suc h) st ++ z) (sym e) in
        let long : suc (length rest) ≡ suc h = ap length e ∙ cut-length (suc h) st (omega arith) in
        leads_to a t it d es rest (f (take (length st - suc h) st) rest t d it parts (omega (arith, long)))
    go (Value ∷ rest) e lt = refl
    go (NoneOrException ∷ rest) e lt = refl
    go (KeptReturn ∷ rest) e lt = refl
    go (Iter1 ∷ rest) e lt = refl
    go (Iter2 ∷ rest) e lt = refl
    go (Iter3 ∷ rest) e lt = refl
    go (Iter4 ∷ rest) e lt = refl
    go (Null ∷ rest) e lt = refl
    go (Method ∷ rest) e lt = refl

pub jumps_from : (a : Assigned) (es : List Entry) (st : Stack) → jumps_lead_on a es st ≡ true → JumpsLeadOn a es st
jumps_from a [] st e = tt
jumps_from a (x ∷ es) st e =
    let p = and_parts (jump_leads_on a es x.height st) (jumps_lead_on a es (cut x.height st)) e in
    (at_from a es x.height st p.0, jumps_from a es (cut x.height st) p.1)

pub jumps_to : (a : Assigned) (es : List Entry) (st : Stack) → JumpsLeadOn a es st → jumps_lead_on a es st ≡ true
jumps_to a [] st h = refl
jumps_to a (x ∷ es) st h = and_from (jump_leads_on a es x.height st) (jumps_lead_on a es (cut x.height st)) (at_to a es x.height st h.0) (jumps_to a es (cut x.height st) h.1)

-- covering
-- ========

pub covers_refl : (st : Stack) → Covers st st
covers_refl [] = both_empty
covers_refl (s ∷ st) = same (covers_refl st)

pub covers_append : (st su tv uv : Stack) → Covers st su → Covers tv uv → Covers (st ++ tv) (su ++ uv)
covers_append st su tv uv both_empty d = d
covers_append st su tv uv (same {st = xs} {su = ys} c) d = same (covers_append xs ys tv uv c d)
covers_append st su tv uv (caught {st = xs} {su = ys} c) d = caught (covers_append xs ys tv uv c d)

covers-length : (st su : Stack) → Covers st su → length st ≡ length su
covers-length st su both_empty = refl
covers-length st su (same {st = xs} {su = ys} c) = ap suc (covers-length xs ys c)
covers-length st su (caught {st = xs} {su = ys} c) = ap suc (covers-length xs ys c)

covers_drop : (n : ℕ) (st su : Stack) → Covers st su → Covers (drop n st) (drop n su)
covers_drop zero st su c = c
covers_drop (suc n) st su both_empty = both_empty
covers_drop (suc n) st su (same {st = xs} {su = ys} c) = covers_drop n xs ys c
covers_drop (suc n) st su (caught {st = xs} {su = ys} c) = covers_drop n xs ys c

covers_cut : (h : ℕ) (st su : Stack) → Covers st su → Covers (cut h st) (cut h su)
covers_cut h st su c = subst (λ n. Covers (cut h st) (drop (n - h) su)) (covers-length st su c) (covers_drop (length st - h) st su c)

pub covers_stands : (st su : Stack) (ks : List Kind) → Covers st su → Stands su ks → Stands st ks
covers_stands st su ks both_empty h = h
covers_stands st su ks (same {st = xs} {su = ys} c) (more {ks = ls} f h) = more f (covers_stands xs ys ls c h)
covers_stands st su ks (caught {st = xs} {su = ys} c) (more {ks = ls} val h) = more none_v (covers_stands xs ys ls c h)

wanted_caught : (w : Want) → is_wanted w Value ≡ true → is_wanted w NoneOrException ≡ true
wanted_caught wants.Value e = refl
wanted_caught wants.Top e = refl
wanted_caught wants.ValueOrNull e = refl
wanted_caught _ e = absurd (false≢true e)

covers_wanted : (ws : List Want) (st su : Stack) → Covers st su → all_wanted ws su ≡ true → all_wanted ws st ≡ true
covers_wanted [] st su c e = refl
covers_wanted (w ∷ ws) st su both_empty e = e
covers_wanted (w ∷ ws) st su (same {s = s} {st = xs} {su = ys} c) e =
    let p = and_parts (is_wanted w s) (all_wanted ws ys) e in
    and_from (is_wanted w s) (all_wanted ws xs) p.0 (covers_wanted ws xs ys c p.1)
covers_wanted (w ∷ ws) st su (caught {st = xs} {su = ys} c) e =
    let p = and_parts (is_wanted w Value) (all_wanted ws ys) e in
    and_from (is_wanted w NoneOrException) (all_wanted ws xs) (wanted_caught w p.0) (covers_wanted ws xs ys c p.1)

shape_covers : (a : Assigned) (p : ℕ) (st su : Stack) (es : List Entry) → Covers st su → IsShapeAt a p su es → IsShapeAt a p st es
shape_covers a p st su es c h = record { shape = h.shape; is = h.is; entries = h.entries; slots = covers_stands st su h.shape.slots c h.slots }

leads_covers : (a : Assigned) (t : ℕ) (it : Bool) (d : ℕ) (es : List Entry) (st su : Stack) → Covers st su → LeadsOn a t it d es su → LeadsOn a t it d es st
leads_covers a t it zero es st su c h = (
  covers_wanted (iterator_if it) st su c h.0,
  shape_covers a t (drop (length (iterator_if it)) st) (drop (length (iterator_if it)) su) es (covers_drop (length (iterator_if it)) st su c) h.1,
)
leads_covers a t it (suc d) [] st su c h = h
leads_covers a t it (suc d) (x ∷ es) st su c h = (
  λ run. shape_covers a x.handler (KeptJump t d it ∷ cut x.height st) (KeptJump t d it ∷ cut x.height su) (x ∷ es) (same (covers_cut x.height st su c)) (h.0 run),
  leads_covers a t it d es (cut x.height st) (cut x.height su) (covers_cut x.height st su c) h.1,
)

-- a jump that lies in slots lies in those that they cover
record Lower (t d : ℕ) (it : Bool) (rest su : Stack) : Type 0 where
  above : Stack
  below : Stack
  parts : su ≡ above ++ KeptJump t d it ∷ below
  covers : Covers rest below

lower : (above : Stack) (t d : ℕ) (it : Bool) (rest su : Stack) → Covers (above ++ KeptJump t d it ∷ rest) su → Lower t d it rest su
lower [] t d it rest su (same {su = ys} c) = record { above = []; below = ys; parts = refl; covers = c }
lower (x ∷ above) t d it rest su (same {s = s} {su = ys} c) = let l = lower above t d it rest ys c in record { above = s ∷ l.above; below = l.below; parts = ap (λ z. s ∷ z) l.parts; covers = l.covers }
lower (x ∷ above) t d it rest su (caught {su = ys} c) = let l = lower above t d it rest ys c in record { above = Value ∷ l.above; below = l.below; parts = ap (λ z. Value ∷ z) l.parts; covers = l.covers }

pub jumps_covers : (a : Assigned) (es : List Entry) (st su : Stack) → Covers st su → JumpsLeadOn a es su → JumpsLeadOn a es st
jumps_covers a [] st su c h = tt
jumps_covers a (x ∷ es) st su c h = (at, jumps_covers a es (cut x.height st) (cut x.height su) (covers_cut x.height st su c) h.1)
  where
    at : LeadsAt a es x.height st
    at above rest t d it parts long =
        let l = lower above t d it rest su (subst (λ z. Covers z su) parts c) in
        let same_long = covers-length rest l.below l.covers in
        leads_covers a t it d es rest l.below l.covers (h.0 l.above l.below t d it l.parts (sym same_long ∙ long))
