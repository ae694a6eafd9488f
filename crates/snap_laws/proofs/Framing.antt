-- A frame as the least assignment of its code has it, whose kept jumps lead on, stands as each assignment has it that keeps the rules.
use Rattle.std.proofs.Common.{◌≡◌, ℕ, zero, suc, ◌-◌, ◌≤◌, Bool, true, List, [], ◌∷◌, ◌++◌, length, map, drop, Some, refl, sym, subst, arith, length-drop}
use Rattle.std.specs.Prelude.{slice_get}
use Rattle.std.proofs.lemmas.Bool.{and_parts, leb-true}
use Rattle.bc_flow.specs.bc_shapes.declared.kinds.Kind.{Kind}
use Rattle.bc_flow.specs.bc_shapes.declared.kinds.Kind.TheVariants as kinds
use Rattle.bc_flow.specs.bc_shapes.declared.kinds.Want.{Want}
use Rattle.bc_flow.specs.bc_shapes.declared.kinds.Give.{Give}
use Rattle.bc_flow.specs.bc_shapes.declared.shape.Entry.{Entry}
use Rattle.bc_flow.specs.bc_shapes.Shape.{At}
use Rattle.bc_flow.specs.Code.{Code}
use Rattle.bc_flow.specs.Action.{Action, Straight}
use Rattle.bc_flow.specs.Edges.{takes, change, base, finds, floor}
use Rattle.bc_flow.specs.Verified.{Assigned, Holds, IsLeastOf}
use Rattle.bc_flow.specs.Machine.{Slot, KeptJump, Stack, Run, slot_of, remark}
use Rattle.bc_flow.proofs.Sound.{Fit, val, none_b, none_c, p1, p2, p3, p4, null, method, Stands, more, stands_below, stands-length, cut_push, Fits}
use Rattle.bc_flow.proofs.Runs.{fits_floor}
use Rattle.bc_flow.proofs.Never.{Good}
use Rattle.snap_laws.specs.Jumps.{LeadsOn, JumpsLeadOn}
use Rattle.snap_laws.proofs.Least.{is_good}
use Rattle.snap_laws.proofs.Cutting.{only_where, where_parts, grows_where}
use Rattle.snap_laws.proofs.Holding.{is_held, fall_fits, holds_whole, marks_are}
use Rattle.snap_laws.proofs.Returning.{Returns, returns_at}
use Rattle.snap_laws.proofs.Sounding.{jumps_up, sound_at}

module _ (code : Code) (a b : Assigned) (least : IsLeastOf code a) (h : Holds code b) where
  pub is_framed : (p : ℕ) (x : At) (st : Stack) → a p ≡ Some x → Stands st x.slots → JumpsLeadOn a x.entries st → Good code b (Run p st x.entries)
  is_framed p x st is s j =
      let c : Assigned = only_where (is_held code b) b in
      let hc = holds_whole code b h in
      let up = least c hc in
      let r : (q : ℕ) (z : At) → c q ≡ Some z → Fits z.entries (length z.slots) × (length z.entries ≤ code.n_exc) × Returns c z (length z.entries) z.entries =
      returns_at code b c hc (λ q z e. let w = where_parts (is_held code b) b q z e in (w.0, (and_parts _ _ w.1).0)) in
      let l = up.each p x is in
      let y = l.at in
      let jumps = subst (λ zs. JumpsLeadOn c zs st) l.under.entries (jumps_up a c up x.entries st j) in
      let stands = stands_below st x.slots y.slots s l.under.slots in
      let w = sound_at c (λ q z e. let t = r q z e in (t.0, t.2)) p y st l.is stands jumps in
      let good : Good code c (Run p st y.entries) = record {
        runs = record { bound = length y.entries; at = y; is = l.is; entries = refl; slots = stands; fits = w.0; sound = w.1 };
        few = (r p y l.is).1;
      } in
      is_good c b (grows_where code b (is_held code b)) code (Run p st x.entries) (subst (λ zs. Good code c (Run p st zs)) (sym l.under.entries) good)

  -- the slots at a position keep its entries' heights
  pub heights_at : (p : ℕ) (x : At) → a p ≡ Some x → Fits x.entries (length x.slots)
  heights_at p x is =
      let c : Assigned = only_where (is_held code b) b in
      let l = (least c (holds_whole code b h)).each p x is in
      let t = (and_parts _ _ (where_parts (is_held code b) b p l.at l.is).1).0 in
      let f = fall_fits l.at.entries (length l.at.slots) (and_parts _ _ (and_parts _ _ t).0).0 in
      subst (λ k. Fits x.entries k) (sym (Rattle.bc_flow.proofs.bc_shapes_lemmas.Joins.belows-length x.slots l.at.slots l.under.slots)) (subst (λ zs. Fits zs (length l.at.slots)) (sym l.under.entries) f)

  -- its entries are active from their handlers on
  pub marks_at : (p : ℕ) (x : At) → a p ≡ Some x → map (remark p) x.entries ≡ x.entries
  marks_at p x is =
      let l = (least (only_where (is_held code b) b) (holds_whole code b h)).each p x is in
      let m = (and_parts _ _ (where_parts (is_held code b) b p l.at l.is).1).1 in
      subst (λ zs. map (remark p) zs ≡ zs) (sym l.under.entries) (marks_are p l.at.entries m)

-- operands that a call took
-- =========================

fit_new : (k : Kind) → Fit (slot_of k) k
fit_new kinds.Value = val
fit_new kinds.Cause = none_c
fit_new kinds.Either = none_b
fit_new kinds.Iter1 = p1
fit_new kinds.Iter2 = p2
fit_new kinds.Iter3 = p3
fit_new kinds.Iter4 = p4
fit_new kinds.Null = null
fit_new kinds.Method = method

-- new slots of these kinds, as many as that, on others
abbrev pub on_top : ℕ → List Kind → Stack → Stack
on_top zero ks st = st
on_top (suc n) [] st = st
on_top (suc n) (k ∷ ks) st = slot_of k ∷ on_top n ks st

stands_on : (n : ℕ) (ks : List Kind) (st : Stack) → Stands st (drop n ks) → Stands (on_top n ks st) ks
stands_on zero ks st h = h
stands_on (suc n) [] st h = h
stands_on (suc n) (k ∷ ks) st h = more (fit_new k) (stands_on n ks st h)

pub drop_top : (n : ℕ) (ks : List Kind) (st : Stack) → n ≤ length ks → drop n (on_top n ks st) ≡ st
drop_top zero ks st le = refl
drop_top (suc n) [] st le = absurd (omega (arith, le))
drop_top (suc n) (k ∷ ks) st le = drop_top n ks st (omega (arith, le))

-- no new slot is a kept jump
no_jump : (k : Kind) (t d : ℕ) (it : Bool) → slot_of k ≡ KeptJump t d it → ⊥
no_jump kinds.Value t d it e = cc
no_jump kinds.Cause t d it e = cc
no_jump kinds.Either t d it e = cc
no_jump kinds.Iter1 t d it e = cc
no_jump kinds.Iter2 t d it e = cc
no_jump kinds.Iter3 t d it e = cc
no_jump kinds.Iter4 t d it e = cc
no_jump kinds.Null t d it e = cc
no_jump kinds.Method t d it e = cc

jumps_push : (a : Assigned) (k : Kind) (es : List Entry) (st : Stack) → Fits es (length st) → JumpsLeadOn a es st → JumpsLeadOn a es (slot_of k ∷ st)
jumps_push a k [] st f j = tt
jumps_push a k (e ∷ es) st f j = (split, subst (JumpsLeadOn a es) (sym (cut_push e.height (slot_of k) st f.0)) j.1)
  where
    first : (x : Slot) (xs : Stack) (y : Slot) (ys : Stack) → x ∷ xs ≡ y ∷ ys → x ≡ y
    first x xs y ys e = cc

    others : (x : Slot) (xs : Stack) (y : Slot) (ys : Stack) → x ∷ xs ≡ y ∷ ys → xs ≡ ys
    others x xs y ys e = cc

    split : (above rest : Stack) (t d : ℕ) (it : Bool) → slot_of k ∷ st ≡ above ++ KeptJump t d it ∷ rest → length rest ≡ e.height → LeadsOn a t it d es rest
    split [] rest t d it parts height = absurd (no_jump k t d it (first (slot_of k) st (KeptJump t d it) rest parts))
    split (s ∷ above) rest t d it parts height = j.0 above rest t d it (others (slot_of k) st s (above ++ KeptJump t d it ∷ rest) parts) height

top_length : (n : ℕ) (ks : List Kind) (st : Stack) → length st ≤ length (on_top n ks st)
top_length zero ks st = omega arith
top_length (suc n) [] st = omega arith
top_length (suc n) (k ∷ ks) st = let q = top_length n ks st in omega (arith, q)

jumps_top : (a : Assigned) (n : ℕ) (ks : List Kind) (es : List Entry) (st : Stack) → Fits es (length st) → JumpsLeadOn a es st → JumpsLeadOn a es (on_top n ks st)
jumps_top a zero ks es st f j = j
jumps_top a (suc n) [] es st f j = j
jumps_top a (suc n) (k ∷ ks) es st f j =
    jumps_push a k es (on_top n ks st) (fits_longer es (length st) (length (on_top n ks st)) f (top_length n ks st)) (jumps_top a n ks es st f j)
  where
    fits_longer : (zs : List Entry) (m l : ℕ) → Fits zs m → m ≤ l → Fits zs l
    fits_longer [] m l g le = tt
    fits_longer (z ∷ zs) m l g le = (omega (arith, g.0, le), g.1)

-- what a call takes lies above the entries' heights
straight_deep : (ws : List Want) (gs : List Give) (x : At) → finds (Straight ws gs) x ≡ true → (length ws ≤ length x.slots) × (floor x.entries ≤ length x.slots - length ws)
unfolding finds takes change base
straight_deep ws gs x f =
    let d = and_parts _ _ (and_parts _ _ f).1 in
    let e = and_parts _ _ d.0 in
    let n = length-drop (length x.slots - length x.slots) x.slots in
    let taken : length ws ≤ length (drop (length x.slots - length x.slots) x.slots) = leb-true _ _ e.0 in
    let low : floor x.entries ≤ length (drop (length x.slots - length x.slots) x.slots) - length ws = leb-true _ _ e.1 in
    (omega (arith, n, taken), omega (arith, n, low))

module _ (code : Code) (a b : Assigned) (own : Holds code a) (least : IsLeastOf code a) (h : Holds code b) where
  -- a frame that waits at a call, without what the call took
  pub is_waiting : (p : ℕ) (x : At) (ws : List Want) (gs : List Give) (st : Stack) → a p ≡ Some x → slice_get code.actions p ≡ Some (Straight ws gs) → Stands st (drop (length ws) x.slots) → JumpsLeadOn a x.entries st
      → Good code b (Run p (on_top (length ws) x.slots st) x.entries) × (drop (length ws) (on_top (length ws) x.slots st) ≡ st)
  is_waiting p x ws gs st is act s j =
      let f = own.closed p x is in
      let finds_it = subst (λ i. finds i x ≡ true) (action_is _ f.action (Straight ws gs) f.is act) f.height in
      let deep = straight_deep ws gs x finds_it in
      let size = stands-length st (drop (length ws) x.slots) s in
      let n = length-drop (length ws) x.slots in
      let fits = fits_floor x.entries (length x.slots) (length st) (heights_at code a b least h p x is) (omega (arith, size, n, deep.1)) in
      (is_framed code a b least h p x (on_top (length ws) x.slots st) is (stands_on (length ws) x.slots st s) (jumps_top a (length ws) x.slots x.entries st fits j), drop_top (length ws) x.slots st deep.0)
    where
      action_is : (o : Rattle.std.specs.Prelude.Option Action) (i k : Action) → o ≡ Some i → o ≡ Some k → i ≡ k
      action_is o i k e g = cc
