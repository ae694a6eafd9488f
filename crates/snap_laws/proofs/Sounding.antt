-- A state of the shape of an assignment whose entries are held is sound, where its kept jumps lead on.
use Rattle.std.proofs.Common.{◌≡◌, ℕ, zero, suc, ◌≤◌, Bool, true, false, List, [], ◌∷◌, ◌++◌, length, map, drop, Some, refl, sym, ap, ◌∙◌, subst, arith, if◌then◌else◌, length-append, length-drop}
use Rattle.std.proofs.lemmas.List.{length-map}
use Rattle.std.proofs.lemmas.Bool.{and_parts, false≢true}
use Rattle.bc_flow.specs.bc_shapes.declared.kinds.Kind.{Kind}
use Rattle.bc_flow.specs.bc_shapes.declared.kinds.Kind.TheVariants as kinds
use Rattle.bc_flow.specs.bc_shapes.declared.shape.Entry.{Entry}
use Rattle.bc_flow.specs.bc_shapes.Shape.{At}
use Rattle.bc_flow.specs.Action.{Return}
use Rattle.bc_flow.specs.Edges.{iterator_if, mark, is_marked, way_in, one_run, run_ways, all_marked, pushed, edge_of}
use Rattle.bc_flow.specs.Verified.{Assigned, Leads, Each, also, Grows}
use Rattle.bc_flow.specs.Machine.{Slot, Value, NoneOrException, KeptReturn, KeptJump, Iter1, Iter2, Iter3, Iter4, Null, Method, Stack, cut, remark, is_run}
use Rattle.bc_flow.proofs.Sound.{Fit, jump, Stands, more, stands_below, stands-length, stands_cut, cut_cut, cut_all, cut_push, cut-length, Fits, Reach, OnTrue, CanUnwind, KeptOk, Sound, unwind_map, sound_up}
use Rattle.bc_flow.proofs.Runs.{fits_floor, floor_fits, enter_reach, each_append, marked_append, can_return}
use Rattle.snap_laws.specs.Jumps.{IsShapeAt, LeadsOn, JumpsLeadOn}
use Rattle.snap_laws.proofs.Returning.{Returns}

-- jumps that lead on
-- ==================

module _ (a c : Assigned) (up : Grows a c) where
  shape_up : (p : ℕ) (st : Stack) (es : List Entry) → IsShapeAt a p st es → IsShapeAt c p st es
  shape_up p st es s =
      let l = up.each p s.at s.is in
      record { at = l.at; is = l.is; entries = sym l.under.entries ∙ s.entries; slots = stands_below st s.at.slots l.at.slots s.slots l.under.slots }

  leads_up : (t : ℕ) (it : Bool) (d : ℕ) (es : List Entry) (st : Stack) → LeadsOn a t it d es st → LeadsOn c t it d es st
  leads_up t it zero es st h = (h.0, shape_up t (drop (length (iterator_if it)) st) es h.1)
  leads_up t it (suc d) [] st h = absurd h
  leads_up t it (suc d) (e ∷ es) st h = leads_up t it d es (cut e.height st) h

  -- jumps that lead on by one assignment do so by each above it
  pub jumps_up : (es : List Entry) (st : Stack) → JumpsLeadOn a es st → JumpsLeadOn c es st
  jumps_up [] st h = tt
  jumps_up (e ∷ es) st h = (λ above rest t d it parts height. leads_up t it d es rest (h.0 above rest t d it parts height), jumps_up es (cut e.height st) h.1)

remark_again : (p q : ℕ) (es : List Entry) → map (remark p) (map (remark q) es) ≡ map (remark p) es
remark_again p q [] = refl
remark_again p q (e ∷ es) = ap (λ z. remark p e ∷ z) (remark_again p q es)

module _ (c : Assigned) where
  leads_remark : (q t : ℕ) (it : Bool) (d : ℕ) (es : List Entry) (st : Stack) → LeadsOn c t it d es st → LeadsOn c t it d (map (remark q) es) st
  leads_remark q t it zero es st h = (h.0, record { at = h.1.at; is = h.1.is; entries = h.1.entries ∙ sym (remark_again t q es); slots = h.1.slots })
  leads_remark q t it (suc d) [] st h = h
  leads_remark q t it (suc d) (e ∷ es) st h = leads_remark q t it d es (cut e.height st) h

  jumps_remark : (q : ℕ) (es : List Entry) (st : Stack) → JumpsLeadOn c es st → JumpsLeadOn c (map (remark q) es) st
  jumps_remark q [] st h = tt
  jumps_remark q (e ∷ es) st h = (λ above rest t d it parts height. leads_remark q t it d es rest (h.0 above rest t d it parts height), jumps_remark q es (cut e.height st) h.1)

  jumps_pop : (es : List Entry) (s : Slot) (st : Stack) → Fits es (length st) → JumpsLeadOn c es (s ∷ st) → JumpsLeadOn c es st
  jumps_pop [] s st f h = tt
  jumps_pop (e ∷ es) s st f h = (λ above rest t d it parts height. h.0 (s ∷ above) rest t d it (ap (λ z. s ∷ z) parts) height, subst (JumpsLeadOn c es) (cut_push e.height s st f.0) h.1)

  jumps_drop : (k : ℕ) (es : List Entry) (st : Stack) → Fits es (length (drop k st)) → JumpsLeadOn c es st → JumpsLeadOn c es (drop k st)
  jumps_drop zero es st f h = h
  jumps_drop (suc k) es [] f h = h
  jumps_drop (suc k) es (s ∷ st) f h =
      jumps_drop k es st f (jumps_pop es s st (fits_floor es _ (length st) f (let fl = floor_fits es _ f in let l = length-drop k st in omega (arith, fl, l))) h)

-- stacks
-- ======

pub cut_rest : (above : Stack) (s : Slot) (rest : Stack) → cut (length rest) (above ++ s ∷ rest) ≡ rest
cut_rest [] s rest = cut_push (length rest) s rest (omega arith) ∙ cut_all (length rest) rest (omega arith)
cut_rest (b ∷ above) s rest =
    let n = length-append above (s ∷ rest) in
    cut_push (length rest) b (above ++ s ∷ rest) (omega (arith, n)) ∙ cut_rest above s rest

fits_remark : (q : ℕ) (es : List Entry) (n : ℕ) → Fits (map (remark q) es) n → Fits es n
fits_remark q [] n f = tt
fits_remark q (e ∷ es) n f = (f.0, fits_remark q es e.height f.1)

run_stands : (last : Bool) (s : Slot) (st : Stack) (ks : List Kind) → last ≡ true → Fit s kinds.Cause → Stands st ks → Stands (s ∷ st) (pushed last ks)
run_stands true s st ks e f h = more f h
run_stands false s st ks e f h = absurd (false≢true e)

-- soundness
-- =========

-- slots and entries as a position has them up to a height, with jumps that lead on
record Inside (c : Assigned) (x : At) (es : List Entry) (st : Stack) : Type 0 where
  stands : Stands st (cut (length st) x.slots)
  fits : Fits es (length st)
  runs : Returns c x (length es) es
  jumps : JumpsLeadOn c es st

abbrev SoundAt : Assigned → ℕ → Type 0
SoundAt c n = (x : At) (es : List Entry) (st : Stack) → length es ≤ n → Inside c x es st → Sound c n es st

module _ (c : Assigned) (whole : (p : ℕ) (x : At) → c p ≡ Some x → Fits x.entries (length x.slots) × Returns c x (length x.entries) x.entries) where
  inside_below : (x : At) (e : Entry) (es : List Entry) (st : Stack) → Inside c x (e ∷ es) st → Inside c x es (cut e.height st)
  inside_below x e es st i =
      let n = cut-length e.height st i.fits.0 in
      let low = subst (λ zs. Stands (cut e.height st) zs) (cut_cut e.height (length st) x.slots i.fits.0) (stands_cut e.height st (cut (length st) x.slots) i.stands) in
      record {
        stands = subst (λ k. Stands (cut e.height st) (cut k x.slots)) (sym n) low;
        fits = subst (λ k. Fits es k) (sym n) i.fits.1;
        runs = (
          (each_append c Return x (one_run e es) (run_ways (length es) es) i.runs.0).1,
          (marked_append c Return x (one_run e es) (run_ways (length es) es) i.runs.1).1,
        );
        jumps = i.jumps.1;
      }

  -- at the shape of a position
  inside_at : (t : ℕ) (es : List Entry) (st : Stack) (s : IsShapeAt c t st es) → JumpsLeadOn c es st → Inside c s.at (map (remark t) es) st
  inside_at t es st s j =
      let w = whole t s.at s.is in
      let n = stands-length st s.at.slots s.slots in
      record {
        stands = subst (λ zs. Stands st zs) (sym (cut_all (length st) s.at.slots (omega (arith, n)))) s.slots;
        fits = subst (λ zs. Fits zs (length st)) s.entries (subst (λ k. Fits s.at.entries k) (sym n) w.0);
        runs = subst (λ zs. Returns c s.at (length zs) zs) s.entries w.1;
        jumps = jumps_remark c t es st j;
      }

  runs_if : (x : At) (b : Bool) (e : Entry) (es : List Entry) (P : Type 0) → Each c (map (edge_of Return x) (if b then (way_in e es ∷ []) else [])) → all_marked (if b then (way_in e es ∷ []) else []) ≡ true
      → (b ≡ true → Leads c (edge_of Return x (way_in e es)) → is_marked e.handler (map (mark e.handler) (record e { active = true } ∷ es)) ≡ true → P) → OnTrue b P
  runs_if x true e es P (also l r) m k = k refl l (and_parts _ _ m).0
  runs_if x false e es P each m k = tt

  -- a jump that leads on can go on, through the finallys that it runs
  can_jump : (n : ℕ) → ((k : ℕ) → k ≤ n → SoundAt c k) → (x : At) (es : List Entry) (st : Stack) (t : ℕ) (it : Bool) (d : ℕ) → length es ≤ n → Inside c x es st → Sound c n es st → LeadsOn c t it d es st
      → CanUnwind c (Sound c n) t it d es st
  can_jump n up x es st t it zero le i w l =
      let k = length (iterator_if it) in
      let s = l.1 in
      let long = length-map es (remark t) in
      let at = whole t s.at s.is in
      let size = stands-length (drop k st) s.at.slots s.slots in
      let fits : Fits (map (remark t) es) (length (drop k st)) = subst (λ zs. Fits zs (length (drop k st))) s.entries (subst (λ m. Fits s.at.entries m) (sym size) at.0) in
      let j = jumps_drop c k es st (fits_remark t es (length (drop k st)) fits) i.jumps in
      let inside = inside_at t es (drop k st) s j in (
        l.0,
        record { at = s.at; is = s.is; entries = s.entries; slots = s.slots; fits = fits; sound = up n (omega arith) s.at (map (remark t) es) (drop k st) (omega (arith, long, le)) inside },
      )
  can_jump n up x [] st t it (suc d) le i w l = absurd l
  can_jump zero up x (e ∷ es) st t it (suc d) le i w l = absurd w
  can_jump (suc n) up x (e ∷ es) st t it (suc d) le i w l =
      let below = inside_below x e es st i in
      let ih = can_jump n (λ k lk. up k (omega (arith, lk))) x es (cut e.height st) t it d (omega (arith, le)) below w.1 l in
      let q = cut-length e.height st i.fits.0 in
      let ea = each_append c Return x (one_run e es) (run_ways (length es) es) i.runs.0 in
      let ma = marked_append c Return x (one_run e es) (run_ways (length es) es) i.runs.1 in
      let low : Stands (cut e.height st) (cut e.height x.slots) = subst (λ m. Stands (cut e.height st) (cut m x.slots)) q below.stands in (
        runs_if x (is_run e) e es (Reach c (Sound c (suc n)) e.handler (KeptJump t d it ∷ cut e.height st) (e ∷ es)) ea.0 ma.0
            (λ b l1 k. enter_reach c Return x n e es (KeptJump t d it) st l1 k (run_stands e.is_finally (KeptJump t d it) (cut e.height st) (cut e.height x.slots) (and_parts _ _ b).0 jump low) i.fits ih w.1),
        unwind_map c (Sound c n) (Sound c (suc n)) t it d es (cut e.height st) (sound_up c n) ih,
      )

  kept : (n : ℕ) → ((k : ℕ) → k ≤ n → SoundAt c k) → (x : At) (es : List Entry) (rest : Stack) → length es ≤ n → Inside c x es rest → Sound c n es rest → (s : Slot)
      → ((t d : ℕ) (it : Bool) → s ≡ KeptJump t d it → LeadsOn c t it d es rest) → KeptOk c (Sound c n) s es rest
  kept n up x es rest le i w KeptReturn l = can_return c Return x n (length rest) es rest refl i.fits i.stands w i.runs.0 i.runs.1
  kept n up x es rest le i w (KeptJump t d it) l = can_jump n up x es rest t it d le i w (l t d it refl)
  kept n up x es rest le i w Value l = tt
  kept n up x es rest le i w NoneOrException l = tt
  kept n up x es rest le i w Iter1 l = tt
  kept n up x es rest le i w Iter2 l = tt
  kept n up x es rest le i w Iter3 l = tt
  kept n up x es rest le i w Iter4 l = tt
  kept n up x es rest le i w Null l = tt
  kept n up x es rest le i w Method l = tt

  sound_more : (n : ℕ) → ((k : ℕ) → k ≤ n → SoundAt c k) → SoundAt c (suc n)
  sound_more n up x [] st le i = tt
  sound_more n up x (e ∷ es) st le i =
      let below = inside_below x e es st i in
      let less : length es ≤ n = omega (arith, le) in
      let w = up n (omega arith) x es (cut e.height st) less below in (
        λ above s rest parts height.
            let r : cut e.height st ≡ rest = ap (λ z. cut e.height z) parts ∙ ap (λ k. cut k (above ++ s ∷ rest)) (sym height) ∙ cut_rest above s rest in
            kept n up x es rest less (subst (λ z. Inside c x es z) r below) (subst (λ z. Sound c n es z) r w) s
            (λ t d it q. i.jumps.0 above rest t d it (parts ∙ ap (λ z. above ++ z ∷ rest) q) height),
        w,
      )

  sound_none : SoundAt c 0
  sound_none x [] st le i = tt
  sound_none x (e ∷ es) st le i = absurd (omega (arith, le))

  sound_all : (n k : ℕ) → k ≤ n → SoundAt c k
  sound_all n zero le = sound_none
  sound_all zero (suc k) le = absurd (omega (arith, le))
  sound_all (suc n) (suc k) le = sound_more k (λ j lj. sound_all n j (omega (arith, lj, le)))

  -- slots and entries as a position has them are sound, where kept jumps lead on
  pub sound_at : (p : ℕ) (x : At) (st : Stack) → c p ≡ Some x → Stands st x.slots → JumpsLeadOn c x.entries st → Fits x.entries (length st) × Sound c (length x.entries) x.entries st
  sound_at p x st is s j =
      let w = whole p x is in
      let n = stands-length st x.slots s in
      let inside : Inside c x x.entries st = record {
        stands = subst (λ zs. Stands st zs) (sym (cut_all (length st) x.slots (omega (arith, n)))) s;
        fits = subst (λ k. Fits x.entries k) (sym n) w.0;
        runs = w.1;
        jumps = j;
      } in
      (inside.fits, sound_all (length x.entries) (length x.entries) (omega arith) x x.entries st (omega arith) inside)
