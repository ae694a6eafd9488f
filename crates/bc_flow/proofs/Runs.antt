-- The machine's moves, along the edges of verified code.
use Rattle.std.proofs.Common.{◌≡◌, ℕ, zero, suc, ◌-◌, ◌≤◌, Bool, true, false, List, [], ◌∷◌, ◌++◌, length, map, drop, Some, refl, sym, ◌∙◌, subst, arith, if◌then◌else◌, length-drop}
use Rattle.std.specs.Prelude.{min}
use Rattle.std.proofs.lemmas.Bool.{and_parts, and_from, false≢true}
use Rattle.bc_shapes.specs.declared.kinds.Kind.{Kind}
use Rattle.bc_shapes.specs.declared.kinds.Kind.TheVariants as kinds
use Rattle.bc_shapes.specs.declared.shape.Entry.{Entry}
use Rattle.bc_shapes.specs.Shape.{At, fits}
use Rattle.bc_flow.specs.Action.{Action}
use Rattle.bc_flow.specs.Edges.{How, Run as InRun, mark, is_marked, iterator_if, floor, lowest, Way, arrive, way_in, raise_ways, one_run, run_ways, all_marked, pushed, slots_of, edge_of}
use Rattle.bc_flow.specs.Verified.{Assigned, Leads, Each, none, also}
use Rattle.bc_flow.specs.Machine.{Slot, NoneOrException, KeptReturn, KeptJump, Stack, St, Run, Ends, Stuck, all_wanted, cut, go, enter, throw, is_run, leave, unwind}
use Rattle.bc_flow.proofs.Sound.{Fit, none_c, none_b, ret, jump, Stands, more, stands_below, stands_drop, stands_cut, stands_wanted, cut_cut, cut-length, Fits, Reach, OnTrue, CanReturn, CanUnwind, KeptOk, Sound, marked, fits_mark, sound_mark, return_map, unwind_map, sound_up, sound_pop, sound_enter}

-- a state that the assignment has
pub record Runs (a : Assigned) (pc : ℕ) (st : Stack) (es : List Entry) : Type 0 where
  pub bound : ℕ
  pub at : At
  pub is : a pc ≡ Some at
  pub entries : at.entries ≡ es
  pub slots : Stands st at.slots
  pub fits : Fits es (length st)
  pub sound : Sound a bound es st

abbrev pub GoodOut : Assigned → St → Type 0
GoodOut a (Run pc st es) = Runs a pc st es
GoodOut a Ends = Unit {0}
GoodOut a Stuck = ⊥

pub reach_good : (a : Assigned) (n pc : ℕ) (st : Stack) (es : List Entry) → Reach a (Sound a n) pc st es → GoodOut a (go pc st es)
reach_good a n pc st es r = record { bound = n; at = r.at; is = r.is; entries = r.entries; slots = r.slots; fits = r.fits; sound = r.sound }

pub fits_floor : (es : List Entry) (n m : ℕ) → Fits es n → floor es ≤ m → Fits es m
fits_floor [] n m f h = tt
fits_floor (e ∷ es) n m f h = (h, f.1)

pub floor_fits : (es : List Entry) (n : ℕ) → Fits es n → floor es ≤ n
floor_fits [] n f = omega arith
floor_fits (e ∷ es) n f = f.0

module _ (a : Assigned) (i : Action) (x : At) where
  pub way_reach : (to n : ℕ) (es : List Entry) (how : How) (st : Stack) → Leads a (edge_of i x (arrive to es how)) → is_marked to (map (mark to) es) ≡ true → Stands st (slots_of i x how) → Fits es (length st) → Sound a n es st → Reach a (Sound a n) to st es
  way_reach to n es how st l m s f k =
      let e = marked to es m in
      record {
        at = l.at;
        is = l.is;
        entries = sym l.under.entries ∙ e;
        slots = stands_below st (slots_of i x how) l.at.slots s l.under.slots;
        fits = subst (λ z. Fits z (length st)) e (fits_mark to (length st) es f);
        sound = subst (λ z. Sound a n z st) e (sound_mark a n to es st k);
      }

  pub slots-run : (h : ℕ) (last : Bool) → slots_of i x (InRun h last) ≡ pushed last (cut h x.slots)
  unfolding slots_of
  slots-run h last = refl

  active_of : Entry → Entry
  active_of e = record e { active = true }

  pub enter_reach : (n : ℕ) (e : Entry) (es : List Entry) (s : Slot) (st : Stack) → Leads a (edge_of i x (way_in e es)) → is_marked e.handler (map (mark e.handler) (record e { active = true } ∷ es)) ≡ true → Stands (s ∷ cut e.height st) (pushed e.is_finally (cut e.height x.slots)) → Fits (e ∷ es) (length st) → KeptOk a (Sound a n) s es (cut e.height st) → Sound a n es (cut e.height st) → Reach a (Sound a (suc n)) e.handler (s ∷ cut e.height st) (e ∷ es)
  enter_reach n e es s st l m h f k w =
      let r = way_reach e.handler (suc n) (record e { active = true } ∷ es) (InRun e.height e.is_finally) (s ∷ cut e.height st) l m
      (subst (Stands (s ∷ cut e.height st)) (sym (slots-run e.height e.is_finally)) h)
      (let q = cut-length e.height st f.0 in omega (arith, q), f.1)
      (sound_enter a n e es s st f.0 k w) in
      record { at = r.at; is = r.is; entries = r.entries; slots = r.slots; fits = r.fits; sound = r.sound }

  pub none_stands : (last : Bool) (st : Stack) (ks : List Kind) → Stands st ks → Stands (NoneOrException ∷ st) (pushed last ks)
  none_stands true st ks h = more none_c h
  none_stands false st ks h = more none_b h

  kept_stands : (last : Bool) (s : Slot) (st : Stack) (ks : List Kind) → last ≡ true → Fit s kinds.Cause → Stands st ks → Stands (s ∷ st) (pushed last ks)
  kept_stands true s st ks e f h = more f h
  kept_stands false s st ks e f h = absurd (false≢true e)

  -- what stands to m stands to each height below
  lower : (h m : ℕ) (st : Stack) → h ≤ m → Stands st (cut m x.slots) → Stands (cut h st) (cut h x.slots)
  lower h m st le s = subst (Stands (cut h st)) (cut_cut h m x.slots le) (stands_cut h st (cut m x.slots) s)

  throw_if : (b : Bool) (n : ℕ) (e : Entry) (es : List Entry) (st : Stack) → (Each a (map (edge_of i x) (raise_ways es)) → all_marked (raise_ways es) ≡ true → GoodOut a (throw es (cut e.height st))) → Fits (e ∷ es) (length st) → Stands (cut e.height st) (cut e.height x.slots) → Sound a n es (cut e.height st) → Each a (map (edge_of i x) (if b then raise_ways es else (way_in e es ∷ []))) → all_marked (if b then raise_ways es else (way_in e es ∷ [])) ≡ true → GoodOut a (if b then throw es (cut e.height st) else enter e es NoneOrException st)
  throw_if true n e es st ih f s w each m = ih each m
  throw_if false n e es st ih f s w (also l r) m =
      reach_good a (suc n) e.handler (NoneOrException ∷ cut e.height st) (e ∷ es) (enter_reach n e es NoneOrException st l (and_parts _ _ m).0 (none_stands e.is_finally (cut e.height st) (cut e.height x.slots) s) f tt w)

  pub throw_good : (n m : ℕ) (es : List Entry) (st : Stack) → length st ≡ m → Fits es (length st) → Stands st (cut m x.slots) → Sound a n es st → Each a (map (edge_of i x) (raise_ways es)) → all_marked (raise_ways es) ≡ true → GoodOut a (throw es st)
  throw_good n m [] st long f s w each mk = tt
  throw_good zero m (e ∷ es) st long f s w each mk = absurd w
  throw_good (suc n) m (e ∷ es) st long f s w each mk =
      let q = cut-length e.height st f.0 in
      let low = lower e.height m st (omega (arith, f.0, long)) s in
      throw_if e.active n e es st
      (λ each1 mk1. throw_good n e.height es (cut e.height st) q (subst (Fits es) (sym q) f.1) low w.1 each1 mk1)
      f low w.1 each mk

  enter_if : (b : Bool) (e : Entry) (es : List Entry) (s : Slot) (st rest : Stack) (n : ℕ) (o : St) → OnTrue b (Reach a (Sound a n) e.handler (s ∷ cut e.height st) (e ∷ es)) → GoodOut a o → GoodOut a (if b then enter e es s st else o)
  enter_if true e es s st rest n o r g = reach_good a n e.handler (s ∷ cut e.height st) (e ∷ es) r
  enter_if false e es s st rest n o r g = g

  pub leave_good : (n : ℕ) (es : List Entry) (st : Stack) → CanReturn a (Sound a n) es st → GoodOut a (leave es st)
  leave_good n [] st h = tt
  leave_good n (e ∷ es) st h = enter_if (is_run e) e es KeptReturn st st n (leave es (cut e.height st)) h.0 (leave_good n es (cut e.height st) h.1)

  without_if : (b : Bool) (n t : ℕ) (st : Stack) (es : List Entry) → b ≡ true → Reach a (Sound a n) t st es → GoodOut a (if b then go t st es else Stuck)
  without_if true n t st es e r = reach_good a n t st es r
  without_if false n t st es e r = absurd (false≢true e)

  pub unwind_good : (n t : ℕ) (it : Bool) (d : ℕ) (es : List Entry) (st : Stack) → CanUnwind a (Sound a n) t it d es st → GoodOut a (unwind t it d es st)
  unwind_good n t it zero es st h = without_if (all_wanted (iterator_if it) st) n t (drop (length (iterator_if it)) st) es h.0 h.1
  unwind_good n t it (suc d) [] st h = absurd h
  unwind_good n t it (suc d) (e ∷ es) st h = enter_if (is_run e) e es (KeptJump t d it) st st n (unwind t it d es (cut e.height st)) h.0 (unwind_good n t it d es (cut e.height st) h.1)

  pub each_append : (ws vs : List Way) → Each a (map (edge_of i x) (ws ++ vs)) → Each a (map (edge_of i x) ws) × Each a (map (edge_of i x) vs)
  each_append [] vs h = (none, h)
  each_append (w ∷ ws) vs (also l h) = let r = each_append ws vs h in (also l r.0, r.1)

  pub marked_append : (ws vs : List Way) → all_marked (ws ++ vs) ≡ true → (all_marked ws ≡ true) × (all_marked vs ≡ true)
  marked_append [] vs h = (refl, h)
  marked_append (w ∷ ws) vs h = let p = and_parts _ _ h in let r = marked_append ws vs p.1 in (and_from _ _ p.0 r.0, r.1)

  one_if : (b : Bool) (e : Entry) (es : List Entry) (P : Type 0) → Each a (map (edge_of i x) (if b then (way_in e es ∷ []) else [])) → all_marked (if b then (way_in e es ∷ []) else []) ≡ true → (b ≡ true → Leads a (edge_of i x (way_in e es)) → is_marked e.handler (map (mark e.handler) (record e { active = true } ∷ es)) ≡ true → P) → OnTrue b P
  one_if true e es P (also l r) m k = k refl l (and_parts _ _ m).0
  one_if false e es P each m k = tt

  -- a return is fine where its edges are
  pub can_return : (n m : ℕ) (es : List Entry) (st : Stack) → length st ≡ m → Fits es (length st) → Stands st (cut m x.slots) → Sound a n es st → Each a (map (edge_of i x) (run_ways (length es) es)) → all_marked (run_ways (length es) es) ≡ true → CanReturn a (Sound a n) es st
  can_return n m [] st long f s w each mk = tt
  can_return zero m (e ∷ es) st long f s w each mk = absurd w
  can_return (suc n) m (e ∷ es) st long f s w each mk =
      let q = cut-length e.height st f.0 in
      let low = lower e.height m st (omega (arith, f.0, long)) s in
      let ea = each_append (one_run e es) (run_ways (length es) es) each in
      let ma = marked_append (one_run e es) (run_ways (length es) es) mk in
      let ih = can_return n e.height es (cut e.height st) q (subst (Fits es) (sym q) f.1) low w.1 ea.1 ma.1 in (
        one_if (is_run e) e es (Reach a (Sound a (suc n)) e.handler (KeptReturn ∷ cut e.height st) (e ∷ es)) ea.0 ma.0
            (λ t l k. enter_reach n e es KeptReturn st l k (kept_stands e.is_finally KeptReturn (cut e.height st) (cut e.height x.slots) (and_parts _ _ t).0 ret low) f ih w.1),
        return_map a (Sound a n) (Sound a (suc n)) es (cut e.height st) (sound_up a n) ih,
      )

  pub sound_drop : (n k : ℕ) (es : List Entry) (st : Stack) → Fits es (length (drop k st)) → Sound a n es st → Sound a n es (drop k st)
  sound_drop n zero es st f w = w
  sound_drop n (suc k) es [] f w = w
  sound_drop n (suc k) es (s ∷ st) f w = sound_drop n k es st f (sound_pop a n es s st (fits_floor es _ (length st) f (let fl = floor_fits es _ f in let l = length-drop k st in omega (arith, fl, l))) w)

  -- and so is a jump out of entries
  pub can_unwind : (n m t : ℕ) (it : Bool) (d : ℕ) (es : List Entry) (st : Stack) → length st ≡ m → Fits es (length st) → Stands st (cut m x.slots) → Sound a n es st → d ≤ length es
      → Each a (map (edge_of i x) (run_ways d es)) → all_marked (run_ways d es) ≡ true
      → Leads a (record { to = t; at = record { slots = drop (length (iterator_if it)) (cut (lowest d es m) x.slots); entries = map (mark t) (drop d es) } }) → is_marked t (map (mark t) (drop d es)) ≡ true
      → fits (iterator_if it) (cut (lowest d es m) x.slots) ≡ true → floor (drop d es) ≤ lowest d es m - length (iterator_if it) → CanUnwind a (Sound a n) t it d es st
  can_unwind n m t it zero es st long f s w le each mk l lm fi fl =
      let ld = length-drop (length (iterator_if it)) st in
      let ff = fits_floor es (length st) (length (drop (length (iterator_if it)) st)) f (omega (arith, fl, ld, long)) in
      let e = marked t es lm in (
        stands_wanted (iterator_if it) st (cut m x.slots) s fi,
        record {
          at = l.at;
          is = l.is;
          entries = sym l.under.entries ∙ e;
          slots = stands_below (drop (length (iterator_if it)) st) _ l.at.slots (stands_drop (length (iterator_if it)) st (cut m x.slots) s) l.under.slots;
          fits = subst (λ z. Fits z (length (drop (length (iterator_if it)) st))) e (fits_mark t _ es ff);
          sound = subst (λ z. Sound a n z (drop (length (iterator_if it)) st)) e (sound_mark a n t es (drop (length (iterator_if it)) st) (sound_drop n (length (iterator_if it)) es st ff w));
        },
      )
  can_unwind n m t it (suc d) [] st long f s w le each mk l lm fi fl = absurd (omega (arith, le))
  can_unwind zero m t it (suc d) (e ∷ es) st long f s w le each mk l lm fi fl = absurd w
  can_unwind (suc n) m t it (suc d) (e ∷ es) st long f s w le each mk l lm fi fl =
      let q = cut-length e.height st f.0 in
      let low = lower e.height m st (omega (arith, f.0, long)) s in
      let ea = each_append (one_run e es) (run_ways d es) each in
      let ma = marked_append (one_run e es) (run_ways d es) mk in
      let mn : min e.height m ≡ e.height = omega (arith, f.0, long) in
      let ih = can_unwind n e.height t it d es (cut e.height st) q (subst (Fits es) (sym q) f.1) low w.1 (omega (arith, le)) ea.1 ma.1
      (subst (λ z. Leads a (record { to = t; at = record { slots = drop (length (iterator_if it)) (cut (lowest d es z) x.slots); entries = map (mark t) (drop d es) } })) mn l) lm
      (subst (λ z. fits (iterator_if it) (cut (lowest d es z) x.slots) ≡ true) mn fi)
      (subst (λ z. floor (drop d es) ≤ lowest d es z - length (iterator_if it)) mn fl) in (
        one_if (is_run e) e es (Reach a (Sound a (suc n)) e.handler (KeptJump t d it ∷ cut e.height st) (e ∷ es)) ea.0 ma.0
            (λ b l1 k. enter_reach n e es (KeptJump t d it) st l1 k (kept_stands e.is_finally (KeptJump t d it) (cut e.height st) (cut e.height x.slots) (and_parts _ _ b).0 jump low) f ih w.1),
        unwind_map a (Sound a n) (Sound a (suc n)) t it d es (cut e.height st) (sound_up a n) ih,
      )
