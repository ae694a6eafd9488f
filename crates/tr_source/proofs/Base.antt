-- Rules at one position, from where its edges lead.
use Rattle.std.proofs.Common.{◌≡◌, ℕ, zero, suc, ◌+◌, ◌-◌, ◌<◌, ◌≤◌, Bool, true, false, not, ◌&&◌, ◌||◌, List, [], ◌∷◌, ◌++◌, length, map, drop, Option, Some, None, refl, sym, ap, ◌∙◌, subst, arith, slice_get, if◌then◌else◌}
use Rattle.std.specs.Prelude.{nat_lt}
use Rattle.std.proofs.lemmas.Bool.{and_parts, and_from, le-leb}
use Rattle.std.proofs.lemmas.Option.{slice_get_within}
use Rattle.bc_resolved.specs.bc_shapes.declared.kinds.Kind.{Kind}
use Rattle.bc_resolved.specs.bc_shapes.declared.shape.Entry.{Entry}
use Rattle.bc_resolved.specs.bc_shapes.Shape.{At, Belows, fits, after}
use Rattle.bc_resolved.proofs.bc_shapes_lemmas.Joins.{belows_refl}
use Rattle.bc_resolved.specs.bc_progress.bc_flow.Action.{Action}
use Rattle.bc_resolved.specs.bc_progress.bc_flow.Code.{Code}
use Rattle.bc_resolved.specs.bc_progress.bc_flow.Edges.{How, Next, There, takes, gives, gives_there, falls, target, change, runs, floor, behind, asks, floor_of, left, leaves, Way, mark, arrive, way_in, raise_ways, one_run, run_ways, next_way, jump_way, ways, is_marked, all_marked, holds, base, deep, finds, pushed, slots_of, has_room, room, stays, edge_of}
use Rattle.bc_resolved.specs.bc_progress.bc_flow.Verified.{Leads, Each, none, also, Fine}
use Rattle.emit_measures.specs.bc_scheme.bc_machine.Library.{Line}
use Rattle.emit_measures.specs.bc_scheme.Context.{Context}
use Rattle.bc_resolved.specs.bc_progress.Plans.{action_of}
use Rattle.bc_resolved.specs.mpy_base.declared.limits.TheConstants.{MAX_ITEMS}

abbrev pub shape : List Kind → List Entry → At
shape ks es = record { slots = ks; entries = es }

-- the lowest `h` slots
abbrev pub cut : ℕ → List Kind → List Kind
cut h ks = drop (length ks - h) ks

pub cut_more : (h : ℕ) (above ks : List Kind) → h ≤ length ks → cut h (above ++ ks) ≡ cut h ks
cut_more h [] ks le = refl
cut_more h (k ∷ above) ks le =
    let long : length ks ≤ length (above ++ ks) = longer above ks in
    let e : suc (length (above ++ ks)) - h ≡ suc (length (above ++ ks) - h) = omega (arith, le, long) in
    ap (λ n. drop n (k ∷ (above ++ ks))) e ∙ cut_more h above ks le
  where
    longer : (above ks : List Kind) → length ks ≤ length (above ++ ks)
    longer [] ks = omega arith
    longer (k ∷ above) ks = let h = longer above ks in omega (arith, h)

pub cut_all : (ks : List Kind) → cut (length ks) ks ≡ ks
cut_all ks = let e : length ks - length ks ≡ 0 = omega arith in ap (λ n. drop n ks) e

-- what the code is about, and the room in it
pub record Setting : Type 0 where
  pub c : Context
  pub code : Code
  pub actions : code.actions ≡ map (λ (l : Line). action_of l.item) c.lines
  pub top : ℕ
  pub room : code.locals + top ≤ code.n_state
  pub slots : length c.locals ≤ code.n_state
  pub small : code.n_state ≤ MAX_ITEMS

-- the entries that arrive at a position, with their marks
pub record Turns (t : ℕ) (es fs : List Entry) : Type 0 where
  pub same : map (mark t) es ≡ fs
  pub marked : is_marked t fs ≡ true

-- something is assigned there that lies above
pub record Lands (w : List At) (t : ℕ) (es : List Entry) (ks : List Kind) : Type 0 where
  pub at : At
  pub is : slice_get w t ≡ Some at
  pub turns : Turns t es at.entries
  pub below : Belows ks at.slots

-- an entry's handler is assigned what its edge brings
pub record Entered (w : List At) (ks : List Kind) (e : Entry) (es : List Entry) : Type 0 where
  pub is : slice_get w e.handler ≡ Some (shape (pushed e.is_finally (cut e.height ks)) (record e { active = true } ∷ es))
  pub turns : Turns e.handler (record e { active = true } ∷ es) (record e { active = true } ∷ es)

pub record Caught (w : List At) (ks : List Kind) (e : Entry) (es : List Entry) : Type 0 where
  pub low : e.height ≤ length ks
  pub enter : e.active ≡ false → Entered w ks e es

-- every entry that is still to enter has its handler, over these slots or more
abbrev pub Safe : List At → List Kind → List Entry → Type 0
Safe w ks [] = Unit {0}
Safe w ks (e ∷ es) = Caught w ks e es × Safe w ks es

pub safe_floor : (w : List At) (ks : List Kind) (es : List Entry) → Safe w ks es → floor es ≤ length ks
safe_floor w ks [] s = omega arith
safe_floor w ks (e ∷ es) s = s.0.low

pub length-more : (above ks : List Kind) → length (above ++ ks) ≡ length above + length ks
length-more [] ks = omega arith
length-more (k ∷ above) ks = let h = length-more above ks in omega (arith, h)

pub safe_more : (w : List At) (above ks : List Kind) (es : List Entry) → Safe w ks es → Safe w (above ++ ks) es
safe_more w above ks [] s = tt
safe_more w above ks (e ∷ es) s = (
  record {
    low = (let h = s.0.low in let l = length-more above ks in omega (arith, h, l));
    enter = λ a. (let t = s.0.enter a in record {
      is = subst (λ z. slice_get w e.handler ≡ Some (shape (pushed e.is_finally z) (record e { active = true } ∷ es))) (sym (cut_more e.height above ks s.0.low)) t.is;
      turns = t.turns;
    });
  },
  safe_more w above ks es s.1,
)

-- ways
-- ====

module _ (w : List At) (i : Action) (x : At) where
  pub record WayOk (v : Way) : Type 0 where
    pub marked : is_marked v.to v.entries ≡ true
    pub leads : Leads (slice_get w) (edge_of i x v)

  abbrev pub WaysOk : List Way → Type 0
  WaysOk [] = Unit {0}
  WaysOk (v ∷ vs) = WayOk v × WaysOk vs

  pub ways_append : (us vs : List Way) → WaysOk us → WaysOk vs → WaysOk (us ++ vs)
  ways_append [] vs a b = b
  ways_append (u ∷ us) vs a b = (a.0, ways_append us vs a.1 b)

  pub ways_marked : (vs : List Way) → WaysOk vs → all_marked vs ≡ true
  ways_marked [] a = refl
  ways_marked (v ∷ vs) a = and_from _ _ a.0.marked (ways_marked vs a.1)

  pub ways_each : (vs : List Way) → WaysOk vs → Each (slice_get w) (map (edge_of i x) vs)
  ways_each [] a = none
  ways_each (v ∷ vs) a = also a.0.leads (ways_each vs a.1)

  -- the way to where something is assigned
  pub way_to : (t : ℕ) (es : List Entry) (how : How) (ks : List Kind) → slots_of i x how ≡ ks → Lands w t es ks → WayOk (arrive t es how)
  way_to t es how ks e l = record {
    marked = subst (λ z. is_marked t z ≡ true) (sym l.turns.same) l.turns.marked;
    leads = record { at = l.at; is = l.is; under = record { slots = subst (λ z. Belows z l.at.slots) (sym e) l.below; entries = l.turns.same } };
  }

  way_entered : (e : Entry) (es : List Entry) → Entered w x.slots e es → WayOk (way_in e es)
  unfolding slots_of
  way_entered e es t = record {
    marked = subst (λ z. is_marked e.handler z ≡ true) (sym t.turns.same) t.turns.marked;
    leads = record { at = shape (pushed e.is_finally (cut e.height x.slots)) (record e { active = true } ∷ es); is = t.is; under = record { slots = belows_refl _; entries = t.turns.same } };
  }

  raise_one : (b : Bool) (e : Entry) (es : List Entry) → (b ≡ false → Entered w x.slots e es) → WaysOk (raise_ways es) → WaysOk (if b then raise_ways es else (way_in e es ∷ []))
  raise_one true e es enter rest = rest
  raise_one false e es enter rest = (way_entered e es (enter refl), tt)

  pub raise_ok : (es : List Entry) → Safe w x.slots es → WaysOk (raise_ways es)
  raise_ok [] s = tt
  raise_ok (e ∷ es) s = raise_one e.active e es s.0.enter (raise_ok es s.1)

  run_one : (last active : Bool) (e : Entry) (es : List Entry) → (active ≡ false → Entered w x.slots e es) → WaysOk (if last && not active then (way_in e es ∷ []) else [])
  run_one true true e es enter = tt
  run_one true false e es enter = (way_entered e es (enter refl), tt)
  run_one false active e es enter = tt

  pub run_ok : (n : ℕ) (es : List Entry) → Safe w x.slots es → WaysOk (run_ways n es)
  run_ok zero es s = tt
  run_ok (suc n) [] s = tt
  run_ok (suc n) (e ∷ es) s = ways_append (one_run e es) (run_ways n es) (run_one e.is_finally e.active e es s.0.enter) (run_ok n es s.1)

  next_ok : (b : Bool) (p : ℕ) (es : List Entry) (ks : List Kind) → slots_of i x Next ≡ ks → (b ≡ true → Lands w (suc p) es ks) → WaysOk (next_way b p es)
  next_ok true p es ks e l = (way_to (suc p) es Next ks e (l refl), tt)
  next_ok false p es ks e l = tt

-- where an instruction jumps
abbrev pub OnJump : Option ℕ → (ℕ → Type 0) → Type 0
OnJump (Some t) P = P t
OnJump None P = Unit {0}

jump_ok : (w : List At) (i : Action) (x : At) (o : Option ℕ) (es : List Entry) (ks : List Kind) → slots_of i x There ≡ ks → OnJump o (λ t. Lands w t es ks) → WaysOk w i x (jump_way o es)
jump_ok w i x (Some t) es ks e l = (way_to w i x t es There ks e l, tt)
jump_ok w i x None es ks e l = tt

-- what is to show of an instruction: bs are the slots that it works on
pub record Shown (code : Code) (top : ℕ) (w : List At) (p : ℕ) (i : Action) (x : At) (bs : List Kind) : Type 0 where
  pub safe : Safe w x.slots x.entries
  pub asked : asks (change i) x.entries ≡ true
  pub held : length (behind (change i) (length x.slots) x.entries) ≤ code.n_exc
  pub based : cut (left (change i) x.entries (length x.slots)) x.slots ≡ bs
  pub fit : fits (takes i) bs ≡ true
  pub deep : floor_of (change i) x.entries + length (takes i) ≤ length bs
  pub leave : leaves (change i) x.entries (length bs - length (takes i)) ≡ true
  pub next : falls i ≡ true → Lands w (suc p) (behind (change i) (length x.slots) x.entries) (after (gives i) (length (takes i)) bs)
  pub there : OnJump (target i) (λ t. Lands w t (behind (change i) (length x.slots) x.entries) (after (gives_there i) (length (takes i)) bs))
  pub before_top : length x.slots ≤ top
  pub next_top : length (after (gives i) (length (takes i)) bs) ≤ top
  pub there_top : length (after (gives_there i) (length (takes i)) bs) ≤ top

-- it is there, so there is an instruction
pub inside : (w : List At) (t : ℕ) (es : List Entry) (ks : List Kind) → Lands w t es ks → t < length w
inside w t es ks l = slice_get_within w t l.at l.is

stays_by : (b : Bool) (p n : ℕ) → (b ≡ true → suc p < n) → (not b || nat_lt (suc p) n) ≡ true
stays_by true p n h = le-leb _ _ (h refl)
stays_by false p n h = refl

falls_by : (b c : Bool) → (b && c) ≡ true → b ≡ true
falls_by b c h = (and_parts b c h).0

deep_from : (i : Action) (es : List Entry) (taken n : ℕ) → floor_of (change i) es + taken ≤ n → leaves (change i) es (n - taken) ≡ true → deep (change i) es taken n ≡ true
deep_from i es taken n d l =
    let a : taken ≤ n = omega (arith, d) in
    let b : floor_of (change i) es ≤ n - taken = omega (arith, d) in
    and_from _ _ (and_from _ _ (le-leb _ _ a) (le-leb _ _ b)) l

room_from : (locals top n_state before next there : ℕ) → locals + top ≤ n_state → before ≤ top → next ≤ top → there ≤ top → has_room locals n_state before next there ≡ true
room_from locals top n_state before next there r a b c =
    let d : locals + before ≤ n_state = omega (arith, r, a) in
    let e : locals + next ≤ n_state = omega (arith, r, b) in
    let f : locals + there ≤ n_state = omega (arith, r, c) in
    and_from _ _ (and_from _ _ (le-leb _ _ d) (le-leb _ _ e)) (le-leb _ _ f)

pub fine_of : (code : Code) (top : ℕ) (w : List At) (p : ℕ) (i : Action) (x : At) (bs : List Kind) → code.locals + top ≤ code.n_state → length w ≡ length code.actions
    → slice_get code.actions p ≡ Some i → Shown code top w p i x bs → Fine code (slice_get w) p x
unfolding ways holds base finds slots_of room stays
fine_of code top w p i x bs roomy long is s =
    let n = length x.slots in
    let n1 : slots_of i x Next ≡ after (gives i) (length (takes i)) bs = ap (after (gives i) (length (takes i))) s.based in
    let n2 : slots_of i x There ≡ after (gives_there i) (length (takes i)) bs = ap (after (gives_there i) (length (takes i))) s.based in
    let all : WaysOk w i x (ways code i p n x.entries) =
    ways_append w i x _ _
    (ways_append w i x _ _ (ways_append w i x _ _ (next_ok w i x _ p _ _ n1 (λ t. s.next (falls_by _ _ t))) (jump_ok w i x _ _ _ n2 s.there)) (raise_ok w i x x.entries s.safe))
    (run_ok w i x (runs i (length x.entries)) x.entries s.safe) in
    record {
      action = i;
      is = is;
      handlers = and_from _ _ (and_from _ _ s.asked (le-leb _ _ s.held)) (ways_marked w i x _ all);
      height = subst (λ z. (fits (takes i) z && deep (change i) x.entries (length (takes i)) (length z)) ≡ true) (sym s.based)
          (and_from _ _ s.fit (deep_from i x.entries (length (takes i)) (length bs) s.deep s.leave));
      state = room_from code.locals top code.n_state _ _ _ roomy s.before_top (subst (λ z. length z ≤ top) (sym n1) s.next_top) (subst (λ z. length z ≤ top) (sym n2) s.there_top);
      falls = stays_by (falls i) p (length code.actions) (λ t. subst (λ m. suc p < m) long (inside w (suc p) _ _ (s.next t)));
      along = ways_each w i x _ all;
    }
