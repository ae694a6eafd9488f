-- What a finally keeps lies on the height of an entry, wherever a walk comes to.
use Rattle.std.proofs.Common.{◌≡◌, ◌⊎◌, inl, inr, ℕ, zero, suc, ◌-◌, ◌<◌, ◌≤◌, Bool, true, false, ◌&&◌, List, [], ◌∷◌, ◌++◌, length, map, drop, replicate, get_or, Option, Some, None, refl, sym, ap, subst, arith, if◌then◌else◌, length-drop}
use Rattle.std.specs.Prelude.{min, nat_eq, nat_le, nat_lt, option_map, slice_get}
use Rattle.std.proofs.lemmas.Bool.{and_parts, false≢true, eqb-true}
use Rattle.bc_flow.specs.bc_shapes.declared.kinds.Kind.{Kind}
use Rattle.bc_flow.specs.bc_shapes.declared.kinds.Kind.TheVariants as kinds
use Rattle.bc_flow.specs.bc_shapes.declared.kinds.Want.{Want}
use Rattle.bc_flow.specs.bc_shapes.declared.kinds.Want.TheVariants as wants
use Rattle.bc_flow.specs.bc_shapes.declared.kinds.Give.{Give}
use Rattle.bc_flow.specs.bc_shapes.declared.kinds.Give.TheVariants.{New, Again}
use Rattle.bc_flow.specs.bc_shapes.declared.shape.Entry.{Entry}
use Rattle.bc_flow.specs.bc_shapes.Shape.{At, stands, fits, give_of, after, join_kind, both, join, opens, same_entries}
use Rattle.bc_flow.specs.Action.{Action, Straight, Branch, Jump, Setup, PopExcept, EndFinally, Unwind, Return, Raise}
use Rattle.bc_flow.specs.Code.{Code}
use Rattle.bc_flow.specs.declared.edges.Change.{Change}
use Rattle.bc_flow.specs.declared.edges.Change.TheVariants.{Keep, Push, DropExcept, DropActive, Leave}
use Rattle.bc_flow.specs.Edges.{Way, Edge, takes, gives, gives_there, falls, target, change, runs, rest_of, behind, floor, floor_of, lowest, left, leaves, base, holds, finds, room, stays, ways, mark, way_in, next_way, jump_way, raise_ways, one_run, run_ways, pushed, slots_of, edge_of, edges}
use Rattle.bc_flow.specs.Verified.{Assigned, Holds, Cell, Unseen, Pending, Done, Table, at, meet_at, settle, meet, put, put_next, agree, done_at, after_holds, visit_action, visit, table_at, Reached, starts, goes}
use Rattle.bc_flow.proofs.bc_shapes_lemmas.Joins.{On, belows-length, same_entries_is}
use Rattle.bc_flow.proofs.Decides.{at_visit, stays_below}
use Rattle.bc_flow.proofs.Going.{is_fine, all_fine, gives_fine}
use Rattle.bc_flow.proofs.Puts.{on_map, some_is}
use Rattle.bc_flow.proofs.Sound.{cut-length, Fits}
use Rattle.bc_flow.proofs.Visits.{OnVisit, pending_is}
use Rattle.snap_states.specs.Shapes.{HasHeight, LieOnEntries}

-- heights of entries
-- ==================

has_mark : (q : ℕ) (es : List Entry) (h : ℕ) → HasHeight es h → HasHeight (map (mark q) es) h
has_mark q [] h p = p
has_mark q (e ∷ es) h (inl p) = inl p
has_mark q (e ∷ es) h (inr p) = inr (has_mark q es h p)

has_rest : (es : List Entry) (d h : ℕ) → h < d → nat_eq d (floor es) ≡ true → HasHeight es h → HasHeight (rest_of es) h
has_rest [] d h lt e p = p
has_rest (x ∷ es) d h lt e (inl p) = let q = eqb-true d x.height e in absurd (omega (arith, lt, q, p))
has_rest (x ∷ es) d h lt e (inr p) = p

lowest_least : (k : ℕ) (es : List Entry) (n : ℕ) → lowest k es n ≤ n
lowest_least zero es n = omega arith
lowest_least (suc k) [] n = omega arith
lowest_least (suc k) (e ∷ es) n = let q = lowest_least k es (min e.height n) in omega (arith, q)

has_drop : (k : ℕ) (es : List Entry) (n h : ℕ) → h < lowest k es n → HasHeight es h → HasHeight (drop k es) h
has_drop zero es n h lt p = p
has_drop (suc k) [] n h lt p = p
has_drop (suc k) (e ∷ es) n h lt (inl p) = let q = lowest_least k es (min e.height n) in absurd (omega (arith, lt, q, p))
has_drop (suc k) (e ∷ es) n h lt (inr p) = has_drop k es (min e.height n) h lt p

-- an entry that lies below what is left stays
has_behind : (c : Change) (n : ℕ) (es : List Entry) (d h : ℕ) → h < d → d ≤ left c es n → leaves c es d ≡ true → HasHeight es h → HasHeight (behind c n es) h
has_behind Keep n es d h lt le lv p = p
has_behind (Push hd last) n es d h lt le lv p = inr p
has_behind DropExcept n es d h lt le lv p = has_rest es d h lt lv p
has_behind DropActive n es d h lt le lv p = has_rest es d h lt lv p
has_behind (Leave k) n es d h lt le lv p = has_drop k es n h (omega (arith, lt, le)) p

-- causes on them
-- ==============

pub lie_drop : (n : ℕ) (es : List Entry) (ks : List Kind) → LieOnEntries es ks → LieOnEntries es (drop n ks)
lie_drop zero es ks l = l
lie_drop (suc n) es [] l = l
lie_drop (suc n) es (k ∷ ks) l = lie_drop n es ks l.1

lie_on : (es fs : List Entry) (ks : List Kind) → ((h : ℕ) → h < length ks → HasHeight es h → HasHeight fs h) → LieOnEntries es ks → LieOnEntries fs ks
lie_on es fs [] f l = tt
lie_on es fs (k ∷ ks) f l = (λ e. f (length ks) (omega arith) (l.0 e), lie_on es fs ks (λ h lt. f h (omega (arith, lt))) l.1)

-- slots that are no causes
abbrev NoCauses : List Kind → Type 0
NoCauses [] = Unit {0}
NoCauses (k ∷ ks) = (k ≡ kinds.Cause → ⊥) × NoCauses ks

lie_append : (es : List Entry) (js ks : List Kind) → NoCauses js → LieOnEntries es ks → LieOnEntries es (js ++ ks)
lie_append es [] ks n l = l
lie_append es (j ∷ js) ks n l = (λ e. absurd (n.0 e), lie_append es js ks n.1 l)

lie_pushed : (last : Bool) (es : List Entry) (ks : List Kind) → HasHeight es (length ks) → LieOnEntries es ks → LieOnEntries es (pushed last ks)
lie_pushed true es ks h l = (λ e. h, l)
lie_pushed false es ks h l = (λ e. absurd (other e), l)
  where
    other : kinds.Either ≡ kinds.Cause → ⊥
    other e = cc

-- slots that an instruction gives
-- ===============================

-- it makes no cause
abbrev makes_none : Give → Bool
makes_none (New kinds.Cause) = false
makes_none _ = true

abbrev pub all_none : List Give → Bool
all_none [] = true
all_none (g ∷ gs) = makes_none g && all_none gs

abbrev pub gives_none : Action → Bool
gives_none (Straight ws gs) = all_none gs
gives_none (Branch ws gs there to) = all_none gs && all_none there
gives_none _ = true

want_none : (w : Want) → is_fine (w ∷ []) (Again 0) ≡ true → stands w kinds.Cause ≡ true → ⊥
want_none wants.Cause f e = absurd (false≢true f)
want_none _ f e = absurd (false≢true e)

again_none : (ws : List Want) (n : ℕ) (ks : List Kind) → is_fine ws (Again n) ≡ true → fits ws ks ≡ true → get_or ks n kinds.Either ≡ kinds.Cause → ⊥
again_none [] n ks f e p = absurd (false≢true f)
again_none (w ∷ ws) n [] f e p = absurd (false≢true e)
again_none (w ∷ ws) zero (k ∷ ks) f e p = want_none w f (subst (λ z. stands w z ≡ true) p (and_parts _ _ e).0)
again_none (w ∷ ws) (suc n) (k ∷ ks) f e p = again_none ws n ks f (and_parts _ _ e).1 p

give_none : (ws : List Want) (g : Give) (ks : List Kind) → is_fine ws g ≡ true → makes_none g ≡ true → fits ws ks ≡ true → give_of ks g ≡ kinds.Cause → ⊥
give_none ws (New k) ks f m e p = absurd (false≢true (subst (λ z. makes_none (New z) ≡ true) p m))
give_none ws (Again n) ks f m e p = again_none ws n ks f e p

list_none : (ws : List Want) (gs : List Give) (ks : List Kind) → all_fine ws gs ≡ true → all_none gs ≡ true → fits ws ks ≡ true → NoCauses (map (give_of ks) gs)
list_none ws [] ks f m e = tt
list_none ws (g ∷ gs) ks f m e =
    let p = and_parts (is_fine ws g) (all_fine ws gs) f in
    let q = and_parts (makes_none g) (all_none gs) m in
    (give_none ws g ks p.0 q.0 e, list_none ws gs ks p.1 q.1 e)

next_none : (i : Action) (ks : List Kind) → gives_fine i ≡ true → gives_none i ≡ true → fits (takes i) ks ≡ true → NoCauses (map (give_of ks) (gives i))
unfolding takes gives
next_none (Straight ws gs) ks f m e = list_none ws gs ks f m e
next_none (Branch ws gs there to) ks f m e = list_none ws gs ks (and_parts (all_fine ws gs) (all_fine ws there) f).0 (and_parts (all_none gs) (all_none there) m).0 e
next_none (Jump to) ks f m e = tt
next_none (Setup to last) ks f m e = tt
next_none (PopExcept to) ks f m e = tt
next_none EndFinally ks f m e = tt
next_none (Unwind to d it) ks f m e = tt
next_none Return ks f m e = tt
next_none (Raise n) ks f m e = tt

there_none : (i : Action) (ks : List Kind) → gives_fine i ≡ true → gives_none i ≡ true → fits (takes i) ks ≡ true → NoCauses (map (give_of ks) (gives_there i))
unfolding takes gives_there
there_none (Straight ws gs) ks f m e = tt
there_none (Branch ws gs there to) ks f m e = list_none ws there ks (and_parts (all_fine ws gs) (all_fine ws there) f).1 (and_parts (all_none gs) (all_none there) m).1 e
there_none (Jump to) ks f m e = tt
there_none (Setup to last) ks f m e = tt
there_none (PopExcept to) ks f m e = tt
there_none EndFinally ks f m e = tt
there_none (Unwind to d it) ks f m e = tt
there_none Return ks f m e = tt
there_none (Raise n) ks f m e = tt

-- edges
-- =====

abbrev LieIn : At → Type 0
LieIn x = LieOnEntries x.entries x.slots

abbrev LieAlong : List Edge → Type 0
LieAlong [] = Unit {0}
LieAlong (e ∷ es) = LieIn e.at × LieAlong es

module _ (i : Action) (x : At) where
  along_append : (ws vs : List Way) → LieAlong (map (edge_of i x) ws) → LieAlong (map (edge_of i x) vs) → LieAlong (map (edge_of i x) (ws ++ vs))
  along_append [] vs g k = k
  along_append (w ∷ ws) vs g k = (g.0, along_append ws vs g.1 k)

  -- what is left of the slots, and what is given on it
  on_left : (to : ℕ) (gs : List Give) → LieIn x → finds i x ≡ true → NoCauses (map (give_of (base i x)) gs) → LieOnEntries (map (mark to) (behind (change i) (length x.slots) x.entries)) (after gs (length (takes i)) (base i x))
  unfolding finds base
  on_left to gs l f none =
      let n = length x.slots in
      let long = length-drop (n - left (change i) x.entries n) x.slots in
      let d : ((nat_le (length (takes i)) (length (base i x)) && nat_le (floor_of (change i) x.entries) (length (base i x) - length (takes i))) ≡ true) × (leaves (change i) x.entries (length (base i x) - length (takes i)) ≡ true) = and_parts _ _ (and_parts _ _ f).1 in
      lie_append (map (mark to) (behind (change i) n x.entries)) (map (give_of (base i x)) gs) (drop (length (takes i)) (base i x)) none
      (lie_on x.entries (map (mark to) (behind (change i) n x.entries)) (drop (length (takes i)) (base i x))
      (λ h lt p. let rest = length-drop (length (takes i)) (base i x) in has_mark to (behind (change i) n x.entries) h
      (has_behind (change i) n x.entries (length (base i x) - length (takes i)) h (omega (arith, lt, rest)) (omega (arith, long)) d.1 p))
      (lie_drop (length (takes i)) x.entries (base i x) (lie_drop (n - left (change i) x.entries n) x.entries x.slots l)))

  module _ (l : LieIn x) (f : finds i x ≡ true) (fine : gives_fine i ≡ true) (none : gives_none i ≡ true) (heights : Fits x.entries (length x.slots)) where
    fits_in : fits (takes i) (base i x) ≡ true
    unfolding finds
    fits_in = (and_parts _ _ f).0

    next_along : (b : Bool) (p : ℕ) → LieAlong (map (edge_of i x) (next_way b p (behind (change i) (length x.slots) x.entries)))
    unfolding slots_of
    next_along true p = (on_left (suc p) (gives i) l f (next_none i (base i x) fine none fits_in), tt)
    next_along false p = tt

    jump_along : (o : Option ℕ) → LieAlong (map (edge_of i x) (jump_way o (behind (change i) (length x.slots) x.entries)))
    unfolding slots_of
    jump_along (Some t) = (on_left t (gives_there i) l f (there_none i (base i x) fine none fits_in), tt)
    jump_along None = tt

    -- an edge to a handler, where the entries from it on are all those below some height
    enters : (e : Entry) (es : List Entry) (m : ℕ) → Fits (e ∷ es) m → m ≤ length x.slots → ((h : ℕ) → h < m → HasHeight x.entries h → HasHeight (e ∷ es) h) → LieIn (edge_of i x (way_in e es)).at
    unfolding slots_of
    enters e es m g le below =
        let high : e.height ≤ length x.slots = omega (arith, g.0, le) in
        let n = length x.slots - e.height in
        let long : length (drop n x.slots) ≡ e.height = cut-length e.height x.slots high in
        let active = record e { active = true } in
        lie_pushed e.is_finally (map (mark e.handler) (active ∷ es)) (drop n x.slots) (inl (sym long))
        (lie_on x.entries (map (mark e.handler) (active ∷ es)) (drop n x.slots)
        (λ h lt p. has_mark e.handler (active ∷ es) h (below h (omega (arith, lt, long, g.0)) p)) (lie_drop n x.entries x.slots l))

    -- the entries below the first
    below_first : (e : Entry) (es : List Entry) (m : ℕ) → Fits (e ∷ es) m → ((h : ℕ) → h < m → HasHeight x.entries h → HasHeight (e ∷ es) h) → (h : ℕ) → h < e.height → HasHeight x.entries h → HasHeight es h
    below_first e es m g below h lt p = others (below h (omega (arith, lt, g.0)) p)
      where
        others : HasHeight (e ∷ es) h → HasHeight es h
        others (inl q) = absurd (omega (arith, lt, q))
        others (inr q) = q

    raise_if : (b : Bool) (e : Entry) (es : List Entry) → LieAlong (map (edge_of i x) (raise_ways es)) → LieIn (edge_of i x (way_in e es)).at → LieAlong (map (edge_of i x) (if b then raise_ways es else (way_in e es ∷ [])))
    raise_if true e es g k = g
    raise_if false e es g k = (k, tt)

    raises_along : (es : List Entry) (m : ℕ) → Fits es m → m ≤ length x.slots → ((h : ℕ) → h < m → HasHeight x.entries h → HasHeight es h) → LieAlong (map (edge_of i x) (raise_ways es))
    raises_along [] m g le below = tt
    raises_along (e ∷ es) m g le below =
        raise_if e.active e es (raises_along es e.height g.1 (omega (arith, g.0, le)) (below_first e es m g below)) (enters e es m g le below)

    run_if : (b : Bool) (e : Entry) (es : List Entry) → LieIn (edge_of i x (way_in e es)).at → LieAlong (map (edge_of i x) (if b then (way_in e es ∷ []) else []))
    run_if true e es k = (k, tt)
    run_if false e es k = tt

    runs_along : (n : ℕ) (es : List Entry) (m : ℕ) → Fits es m → m ≤ length x.slots → ((h : ℕ) → h < m → HasHeight x.entries h → HasHeight es h) → LieAlong (map (edge_of i x) (run_ways n es))
    runs_along zero es m g le below = tt
    runs_along (suc n) [] m g le below = tt
    runs_along (suc n) (e ∷ es) m g le below =
        along_append (one_run e es) (run_ways n es) (run_if _ e es (enters e es m g le below)) (runs_along n es e.height g.1 (omega (arith, g.0, le)) (below_first e es m g below))

    all_along : (code : Code) (p : ℕ) → LieAlong (edges code i p x)
    unfolding ways
    all_along code p =
        let es = behind (change i) (length x.slots) x.entries in
        let nx = next_way (falls i && nat_lt (suc p) (length code.actions)) p es in
        let jm = jump_way (target i) es in
        along_append (nx ++ jm ++ raise_ways x.entries) (run_ways (runs i (length x.entries)) x.entries)
        (along_append (nx ++ jm) (raise_ways x.entries) (along_append nx jm (next_along _ p) (jump_along (target i)))
        (raises_along x.entries (length x.slots) heights (omega arith) (λ h lt p. p)))
        (runs_along (runs i (length x.entries)) x.entries (length x.slots) heights (omega arith) (λ h lt p. p))

-- where two meet
-- ==============

kind_cause : (k l j : Kind) → join_kind k l ≡ Some j → j ≡ kinds.Cause → (k ≡ kinds.Cause) ⊎ (l ≡ kinds.Cause)
kind_cause kinds.Cause l j e c = inl refl
kind_cause k kinds.Cause j e c = inr refl
kind_cause _ _ j e c = cc

-- as many slots as in both, with causes on the entries
abbrev Joined : List Entry → List Kind → List Kind → List Kind → Type 0
Joined es ks ls js = (length js ≡ length ks) × (length js ≡ length ls) × LieOnEntries es js

both_lie : (es : List Entry) (k l : Kind) (ks ls : List Kind) (o : Option Kind) (q : Option (List Kind)) → join_kind k l ≡ o → LieOnEntries es (k ∷ ks) → LieOnEntries es (l ∷ ls) → On q (Joined es ks ls) → On (both o q) (Joined es (k ∷ ks) (l ∷ ls))
both_lie es k l ks ls None q e a b h = tt
both_lie es k l ks ls (Some j) None e a b h = tt
both_lie es k l ks ls (Some j) (Some js) e a b h = (ap suc h.0, ap suc h.1, (λ c. one (kind_cause k l j e c), h.2))
  where
    one : (k ≡ kinds.Cause) ⊎ (l ≡ kinds.Cause) → HasHeight es (length js)
    one (inl c) = subst (HasHeight es) (sym h.0) (a.0 c)
    one (inr c) = subst (HasHeight es) (sym h.1) (b.0 c)

join_lie : (es : List Entry) (ks ls : List Kind) → LieOnEntries es ks → LieOnEntries es ls → On (join ks ls) (Joined es ks ls)
join_lie es [] [] a b = (refl, refl, tt)
join_lie es [] (l ∷ ls) a b = tt
join_lie es (k ∷ ks) [] a b = tt
join_lie es (k ∷ ks) (l ∷ ls) a b = both_lie es k l ks ls (join_kind k l) (join ks ls) refl a b (join_lie es ks ls a.1 b.1)

meet_if : (b : Bool) (y x : At) → same_entries y.entries x.entries ≡ b → LieIn y → LieIn x → On (if b then option_map (λ s. let z : At = record { slots = s; entries = y.entries } in z) (join y.slots x.slots) else None) LieIn
meet_if false y x e a l = tt
meet_if true y x e a l = on_map (join y.slots x.slots) (λ s. let z : At = record { slots = s; entries = y.entries } in z) (Joined y.entries y.slots x.slots) LieIn (λ s h. h.2)
    (join_lie y.entries y.slots x.slots a (subst (λ es. LieOnEntries es x.slots) (sym (same_entries_is y.entries x.entries e)) l))

meet_at_lie : (y x : At) → LieIn y → LieIn x → On (meet_at y x) LieIn
meet_at_lie y x a l = meet_if (same_entries y.entries x.entries) y x refl a l

-- tables
-- ======

abbrev LieCell : Cell → Type 0
LieCell Unseen = Unit {0}
LieCell (Pending x) = LieIn x
LieCell (Done x) = LieIn x

abbrev LieTable : Table → Type 0
LieTable [] = Unit {0}
LieTable (c ∷ t) = LieCell c × LieTable t

settle_if : (b : Bool) (z : At) → LieIn z → LieCell (if b then Done z else Pending z)
settle_if true z l = l
settle_if false z l = l

meet_lie : (c : Cell) (x : At) → LieCell c → LieIn x → On (meet c x) LieCell
meet_lie Unseen x h l = l
meet_lie (Pending y) x h l = on_map (meet_at y x) Pending LieIn LieCell (λ z k. k) (meet_at_lie y x h l)
meet_lie (Done y) x h l = on_map (meet_at y x) (settle y) LieIn LieCell (λ z k. settle_if (nat_eq (opens z.slots) (opens y.slots)) z k) (meet_at_lie y x h l)

put_lie : (t : Table) (n : ℕ) (x : At) → LieTable t → LieIn x → On (put t n x) LieTable
put_lie [] n x h l = tt
put_lie (c ∷ t) zero x h l = on_map (meet c x) (λ d. d ∷ t) LieCell LieTable (λ d k. (k, h.1)) (meet_lie c x h.0 l)
put_lie (c ∷ t) (suc n) x h l = on_map (put t n x) (λ u. c ∷ u) LieTable LieTable (λ u k. (h.0, k)) (put_lie t n x h.1 l)

next_lie : (es : List Edge) (o : Option Table) → LieAlong es → On o LieTable → On (put_next es o) LieTable
next_lie es None l h = tt
next_lie [] (Some t) l h = h
next_lie (e ∷ es) (Some t) l h = next_lie es (put t e.to e.at) l.1 (put_lie t e.to e.at h l.0)

done_lie : (t : Table) (p : ℕ) (x : At) → LieTable t → LieIn x → LieTable (done_at t p x)
done_lie [] p x h l = tt
done_lie (c ∷ t) zero x h l = (l, h.1)
done_lie (c ∷ t) (suc p) x h l = (h.0, done_lie t p x h.1 l)

at_lie : (t : Table) (p : ℕ) (x : At) → at t p ≡ Some x → LieTable t → LieIn x
at_lie [] p x e h = cc
at_lie (Unseen ∷ t) zero x e h = cc
at_lie (Pending y ∷ t) zero x e h = subst LieIn (some_is y x e) h.0
at_lie (Done y ∷ t) zero x e h = subst LieIn (some_is y x e) h.0
at_lie (c ∷ t) (suc p) x e h = at_lie t p x e h.1

unseen_lie : (n : ℕ) → LieTable (replicate n Unseen)
unseen_lie zero = tt
unseen_lie (suc n) = (tt, unseen_lie n)

start_lie : (n : ℕ) → LieTable (table_at n)
start_lie zero = tt
start_lie (suc n) = (tt, unseen_lie n)

after_lie : (h f r s : Bool) (o : Option Table) → (f ≡ true → On o LieTable) → OnVisit (after_holds h f r s o) (λ _. Unit {0}) LieTable
after_lie true true true true (Some u) k = k refl
after_lie true true true false (Some u) k = tt
after_lie true true false s (Some u) k = tt
after_lie true true r s None k = tt
after_lie true false r s o k = tt
after_lie false f r s o k = tt

-- walks
-- =====

module _ (code : Code) (a : Assigned) (h : Holds code a) (heights : (p : ℕ) (x : At) → a p ≡ Some x → Fits x.entries (length x.slots)) (fine : (p : ℕ) (i : Action) → slice_get code.actions p ≡ Some i → gives_fine i ≡ true) (none : (p : ℕ) (i : Action) → slice_get code.actions p ≡ Some i → gives_none i ≡ true) where
  action_lie : (t : Table) (p : ℕ) (x : At) (o : Option Action) → slice_get code.actions p ≡ o → LieTable t → LieIn x → Fits x.entries (length x.slots) → OnVisit (visit_action code t p x o) (λ _. Unit {0}) LieTable
  action_lie t p x None e g l f = tt
  action_lie t p x (Some i) e g l f =
      after_lie (holds code i p (length x.slots) x.entries && agree t (edges code i p x)) (finds i x) (room code i x) (stays code i p) (put_next (edges code i p x) (Some (done_at t p x)))
      (λ finds_it. next_lie (edges code i p x) (Some (done_at t p x)) (all_along i x l finds_it (fine p i e) (none p i e) f code p) (done_lie t p x g l))

  -- entries fall wherever a walk comes to, since they do in the end
  fits_in_walk : (t : Table) → Reached code t → (p : ℕ) (x : At) → at t p ≡ Some x → Fits x.entries (length x.slots)
  fits_in_walk t r p x e =
      let l = (stays_below code a h t r).each p x e in
      subst (λ n. Fits x.entries n) (sym (belows-length x.slots l.at.slots l.under.slots))
      (subst (λ es. Fits es (length l.at.slots)) (sym l.under.entries) (heights p l.at l.is))

  walk_lie : (t : Table) → Reached code t → LieTable t
  walk_lie t starts = start_lie (length code.actions)
  walk_lie t (goes {t = s} {u = u} {p = p} {x = x} r w e) =
      let g = walk_lie s r in
      let there = pending_is s p x w in
      at_visit (visit code s p x) _ _ u e (action_lie s p x (slice_get code.actions p) refl g (at_lie s p x there g) (fits_in_walk s r p x there))

  pub causes_lie : (t : Table) → Reached code t → (p : ℕ) (x : At) → at t p ≡ Some x → LieOnEntries x.entries x.slots
  causes_lie t r p x e = at_lie t p x e (walk_lie t r)
