-- In an assignment whose entries are held a return runs each finally: its handler has the shape of the slots up to its entry.
use Rattle.std.proofs.Common.{◌≡◌, ℕ, zero, suc, ◌-◌, ◌<◌, ◌≤◌, Bool, true, false, not, ◌&&◌, ◌||◌, List, [], ◌∷◌, ◌++◌, length, map, drop, Option, Some, refl, sym, ap, ◌∙◌, subst, arith, if◌then◌else◌}
use Rattle.std.specs.Prelude.{nat_eq}
use Rattle.std.proofs.lemmas.List.{length-map}
use Rattle.std.proofs.lemmas.Bool.{and_parts, and_from, false≢true, leb-true, eqb-true}
use Rattle.bc_flow.specs.bc_shapes.declared.kinds.Kind.{Kind}
use Rattle.bc_flow.specs.bc_shapes.declared.shape.Entry.{Entry}
use Rattle.bc_flow.specs.bc_shapes.Shape.{At, Belows, same, also as more}
use Rattle.bc_flow.specs.Code.{Code}
use Rattle.bc_flow.specs.Action.{Action, Return}
use Rattle.bc_flow.specs.Edges.{Way, mark, is_marked, way_in, raise_ways, one_run, run_ways, all_marked, pushed, slots_of, edge_of}
use Rattle.bc_flow.specs.Verified.{Assigned, Leads, Each, none, also, Fine, Holds}
use Rattle.bc_flow.specs.Machine.{cut}
use Rattle.bc_flow.proofs.bc_shapes_lemmas.Joins.{belows_refl, belows-length, belows_drop, under_trans}
use Rattle.bc_flow.proofs.Sound.{cut_cut, cut_push, cut-length, Fits}
use Rattle.bc_flow.proofs.Runs.{each_append}
use Rattle.snap_laws.proofs.Holding.{has_count, are_held, is_whole, fall_fits, raise_along}

-- cuts
-- ====

belows_cut : (h : ℕ) (ks ls : List Kind) → Belows ks ls → Belows (cut h ks) (cut h ls)
belows_cut h ks ls b = subst (λ n. Belows (cut h ks) (drop (n - h) ls)) (belows-length ks ls b) (belows_drop (length ks - h) ks ls b)

pushed_cut : (last : Bool) (h : ℕ) (ks : List Kind) → h ≤ length ks → cut h (pushed last ks) ≡ cut h ks
pushed_cut true h ks le = cut_push h _ ks le
pushed_cut false h ks le = cut_push h _ ks le

pushed_below : (last : Bool) (ks ls : List Kind) → Belows ks ls → Belows (pushed last ks) (pushed last ls)
pushed_below true ks ls b = more same b
pushed_below false ks ls b = more same b

-- the slots up to a height lie below those of a handler up to it
lower : (ks ls : List Kind) (last : Bool) (top h : ℕ) → top ≤ length ks → Belows (pushed last (cut top ks)) ls → h ≤ top → Belows (cut h ks) (cut h ls)
lower ks ls last top h le b hl =
    let long = cut-length top ks le in
    let e : cut h (pushed last (cut top ks)) ≡ cut h ks = pushed_cut last h (cut top ks) (omega (arith, long, hl)) ∙ cut_cut h top ks hl in
    subst (λ zs. Belows zs (cut h ls)) e (belows_cut h (pushed last (cut top ks)) ls b)

-- marks
-- =====

same_active : (act eq : Bool) → (act ≡ false → eq ≡ true → ⊥) → (act || eq) ≡ act
same_active true eq f = refl
same_active false true f = absurd (f refl refl)
same_active false false f = refl

count_is : (o : Option At) (y : At) (n : ℕ) (act : Bool) → o ≡ Some y → act ≡ false → (act || has_count o n) ≡ true → length y.entries ≡ n
count_is o y n act e f h =
    let k : (act || has_count (Some y) n) ≡ true = subst (λ z. (act || has_count z n) ≡ true) e h in
    let m : (false || has_count (Some y) n) ≡ true = subst (λ z. (z || has_count (Some y) n) ≡ true) f k in
    eqb-true _ _ m

-- no entry below has its handler where more entries are than it has
marks_none : (b : Assigned) (q : ℕ) (y : At) (es : List Entry) → b q ≡ Some y → are_held b es ≡ true → length es < length y.entries → map (mark q) es ≡ es
marks_none b q y [] is h lt = refl
marks_none b q y (e ∷ es) is h lt =
    let p = and_parts _ _ h in
    let one : (e.active || nat_eq e.handler q) ≡ e.active =
    same_active e.active (nat_eq e.handler q) (λ off there.
    let at : b e.handler ≡ Some y = ap b (eqb-true _ _ there) ∙ is in
    let n = count_is (b e.handler) y (suc (length es)) e.active at off p.0 in
    omega (arith, n, lt)) in
    ap (λ z. record e { active = z } ∷ map (mark q) es) one ∙ ap (λ zs. e ∷ zs) (marks_none b q y es is p.1 (omega (arith, lt)))

-- edges
-- =====

module _ (c : Assigned) where
  each_join : (i : Action) (x : At) (ws vs : List Way) → Each c (map (edge_of i x) ws) → Each c (map (edge_of i x) vs) → Each c (map (edge_of i x) (ws ++ vs))
  each_join i x [] vs h k = k
  each_join i x (w ∷ ws) vs (also l h) k = also l (each_join i x ws vs h k)

  lead_lower : (i j : Action) (x y : At) (e : Entry) (es : List Entry) → Belows (cut e.height x.slots) (cut e.height y.slots) → Leads c (edge_of j y (way_in e es)) → Leads c (edge_of i x (way_in e es))
  unfolding slots_of
  lead_lower i j x y e es b l = record {
    at = l.at;
    is = l.is;
    under = under_trans (edge_of i x (way_in e es)).at (edge_of j y (way_in e es)).at l.at (record { slots = pushed_below e.is_finally _ _ b; entries = refl }) l.under;
  }

  one_lower : (x y : At) (t : Bool) (e : Entry) (es : List Entry) → Belows (cut e.height x.slots) (cut e.height y.slots)
      → Each c (map (edge_of Return y) (if t then (way_in e es ∷ []) else [])) → Each c (map (edge_of Return x) (if t then (way_in e es ∷ []) else []))
  one_lower x y true e es b (also l r) = also (lead_lower Return Return x y e es b l) none
  one_lower x y false e es b h = none

  -- the finallys that are run from slots that lie above are run from those below
  each_lower : (x y : At) (top : ℕ) → ((h : ℕ) → h ≤ top → Belows (cut h x.slots) (cut h y.slots)) → (n : ℕ) (es : List Entry) (m : ℕ) → Fits es m → m ≤ top
      → Each c (map (edge_of Return y) (run_ways n es)) → Each c (map (edge_of Return x) (run_ways n es))
  each_lower x y top b zero es m f le h = none
  each_lower x y top b (suc n) [] m f le h = none
  each_lower x y top b (suc n) (e ∷ es) m f le h =
      let p = each_append c Return y (one_run e es) (run_ways n es) h in
      let le1 : e.height ≤ top = omega (arith, f.0, le) in
      each_join Return x (one_run e es) (run_ways n es) (one_lower x y _ e es (b e.height le1) p.0) (each_lower x y top b n es e.height f.1 le1 p.1)

  one_each : (x : At) (t : Bool) (e : Entry) (es : List Entry) → Leads c (edge_of Return x (way_in e es)) → Each c (map (edge_of Return x) (if t then (way_in e es ∷ []) else []))
  one_each x true e es l = also l none
  one_each x false e es l = none

one_marked : (t : Bool) (e : Entry) (es : List Entry) (ws : List Way) → is_marked e.handler (map (mark e.handler) (record e { active = true } ∷ es)) ≡ true → all_marked ws ≡ true
    → all_marked ((if t then (way_in e es ∷ []) else []) ++ ws) ≡ true
one_marked true e es ws m h = and_from _ _ m h
one_marked false e es ws m h = h

off_after : (last act : Bool) → act ≡ true → (last && not act) ≡ false
off_after true true e = refl
off_after false true e = refl
off_after last false e = absurd (false≢true e)

none_run : (e : Entry) (es : List Entry) → e.active ≡ true → one_run e es ≡ []
none_run e es on = ap (λ (t : Bool). if t then (way_in e es ∷ []) else []) (off_after e.is_finally e.active on)

-- held entries
-- ============

-- what a return runs, and that its marks are right
abbrev pub Returns : Assigned → At → ℕ → List Entry → Type 0
Returns c x n es = Each c (map (edge_of Return x) (run_ways n es)) × (all_marked (run_ways n es) ≡ true)

module _ (code : Code) (b c : Assigned) (h : Holds code c) (sub : (p : ℕ) (x : At) → c p ≡ Some x → (b p ≡ Some x) × (is_whole code b x ≡ true)) where
  -- behind the edge to an inactive entry's handler, where the entries below it raise on
  behind_entry : (i : Action) (x : At) (e : Entry) (es : List Entry) → are_held b es ≡ true → (l : Leads c (edge_of i x (way_in e es))) → (f : Fine code c e.handler l.at)
      → Each c (map (edge_of f.action l.at) (raise_ways es)) × (all_marked (raise_ways es) ≡ true)
  behind_entry i x e es held l f =
      let y = l.at in
      let q = ap (λ (zs : List Entry). length zs) l.under.entries in
      let m = length-map es (mark e.handler) in
      let none_marked = marks_none b e.handler y es (sub e.handler y l.is).0 held (omega (arith, q, m)) in
      let entries : y.entries ≡ record e { active = true } ∷ es = sym l.under.entries ∙ ap (λ zs. record e { active = true } ∷ zs) none_marked in
      subst (λ zs. Each c (map (edge_of f.action y) (raise_ways zs)) × (all_marked (raise_ways zs) ≡ true)) entries (raise_along code c e.handler y f)

  active_case : (i : Action) (x : At) (n : ℕ) (e : Entry) (es : List Entry) → Fits (e ∷ es) (length x.slots) → are_held b es ≡ true
      → ((j : Action) (y : At) (m : ℕ) → Fits es m → m ≤ length y.slots → Each c (map (edge_of j y) (raise_ways es)) → all_marked (raise_ways es) ≡ true → Returns c y n es)
      → (act : Bool) → e.active ≡ act → Each c (map (edge_of i x) (if act then raise_ways es else (way_in e es ∷ []))) → all_marked (if act then raise_ways es else (way_in e es ∷ [])) ≡ true
      → Returns c x (suc n) (e ∷ es)
  unfolding slots_of
  active_case i x n e es f held ih true on each marks =
      let r = ih i x e.height f.1 f.0 each marks in
      subst (λ ws. Each c (map (edge_of Return x) (ws ++ run_ways n es)) × (all_marked (ws ++ run_ways n es) ≡ true)) (sym (none_run e es on)) r
  active_case i x n e es f held ih false off (also l rest) marks =
      let mk = (and_parts _ _ marks).0 in
      let y = l.at in
      let g = h.closed e.handler y l.is in
      let k = behind_entry i x e es held l g in
      let low = lower x.slots y.slots e.is_finally e.height in
      let long = cut-length e.height x.slots f.0 in
      let size = belows-length (pushed e.is_finally (cut e.height x.slots)) y.slots l.under.slots in
      let longer = pushed_long e.is_finally (cut e.height x.slots) in
      let r = ih g.action y e.height f.1 (omega (arith, long, size, longer)) k.0 k.1 in
      let below = each_lower c x y e.height (λ hh le. low hh f.0 l.under.slots le) n es e.height f.1 (omega arith) r.0 in
      let same : Belows (cut e.height x.slots) (cut e.height x.slots) = refl_belows (cut e.height x.slots) in
      (each_join c Return x (one_run e es) (run_ways n es) (one_each c x _ e es (lead_lower c Return i x x e es same l)) below, one_marked _ e es (run_ways n es) mk r.1)
    where
      pushed_long : (last : Bool) (ks : List Kind) → length (pushed last ks) ≡ suc (length ks)
      pushed_long true ks = refl
      pushed_long false ks = refl

      refl_belows : (ks : List Kind) → Belows ks ks
      refl_belows ks = belows_refl ks

  returns_from : (n : ℕ) (es : List Entry) (i : Action) (x : At) (m : ℕ) → Fits es m → m ≤ length x.slots → are_held b es ≡ true → Each c (map (edge_of i x) (raise_ways es)) → all_marked (raise_ways es) ≡ true
      → Returns c x n es
  returns_from zero es i x m f le held each marks = (none, refl)
  returns_from (suc n) [] i x m f le held each marks = (none, refl)
  returns_from (suc n) (e ∷ es) i x m f le held each marks =
      let q = and_parts _ _ held in
      active_case i x n e es (omega (arith, f.0, le), f.1) q.1 (λ j y k g lk ea mk. returns_from n es j y k g lk q.1 ea mk) e.active refl each marks

  -- at each position of the assignment heights fall, and a return runs each finally
  pub returns_at : (p : ℕ) (x : At) → c p ≡ Some x → Fits x.entries (length x.slots) × (length x.entries ≤ code.n_exc) × Returns c x (length x.entries) x.entries
  returns_at p x is =
      let t = and_parts _ _ (sub p x is).1 in
      let s = and_parts _ _ t.0 in
      let f = fall_fits x.entries (length x.slots) s.0 in
      let g = h.closed p x is in
      let r = raise_along code c p x g in
      (f, leb-true _ _ s.1, returns_from (length x.entries) x.entries g.action x (length x.slots) f (omega arith) t.1 r.0 r.1)
