-- What each position of a least assignment has: heights of entries fall and none is above the slots, entries have their room, and each
-- entry that isn't active has its handler, where just the entries up to it are.
use Rattle.std.proofs.Common.{◌≡◌, ℕ, zero, suc, ◌-◌, ◌≤◌, Bool, true, false, ◌&&◌, ◌||◌, List, [], ◌∷◌, ◌++◌, length, map, drop, Option, Some, None, refl, sym, ap, ◌∙◌, subst, arith, if◌then◌else◌, length-drop}
use Rattle.std.specs.Prelude.{nat_le, nat_lt, nat_eq}
use Rattle.std.proofs.lemmas.List.{length-map}
use Rattle.std.proofs.lemmas.Bool.{and_parts, and_from, false≢true, leb-true, le-leb, lt-leb, ltb-true, eqb-true, eq-eqb}
use Rattle.bc_flow.specs.bc_shapes.declared.shape.Entry.{Entry}
use Rattle.bc_flow.specs.bc_shapes.Shape.{At, Under}
use Rattle.bc_flow.specs.Code.{Code}
use Rattle.bc_flow.specs.Action.{Action, Straight, Branch, Jump, Setup, PopExcept, EndFinally, Unwind, Return, Raise}
use Rattle.bc_flow.specs.declared.edges.Change.{Change}
use Rattle.bc_flow.specs.declared.edges.Change.TheVariants.{Keep, Push, DropExcept, DropActive, Leave}
use Rattle.bc_flow.specs.Edges.{How, Next, There, Run, Way, Edge, takes, gives, gives_there, falls, target, change, runs, rest_of, behind, floor, floor_of, leaves, base, holds, finds, ways, mark, is_marked, arrive, way_in, next_way, jump_way, raise_ways, one_run, run_ways, all_marked, slots_of, edge_of, edges, edges_marked}
use Rattle.bc_flow.specs.Verified.{Assigned, Leads, Each, also, Fine, Holds, begin}
use Rattle.bc_flow.specs.Machine.{remark}
use Rattle.bc_flow.proofs.bc_shapes_lemmas.Joins.{belows-length}
use Rattle.bc_flow.proofs.bc_shapes_lemmas.Loops.{after_size}
use Rattle.bc_flow.proofs.Sound.{cut-length, Fits}
use Rattle.bc_flow.proofs.Few.{holds_few}
use Rattle.bc_flow.proofs.Runs.{fits_floor, each_append, marked_append}
use Rattle.snap_laws.proofs.Cutting.{Along, only_where, holds_where}

-- tests
-- =====

abbrev pub has_count : Option At → ℕ → Bool
has_count None n = false
has_count (Some x) n = nat_eq (length x.entries) n

-- each entry that isn't active has its handler, where as many entries are as up to it
abbrev pub are_held : Assigned → List Entry → Bool
are_held a [] = true
are_held a (e ∷ es) = (e.active || has_count (a e.handler) (suc (length es))) && are_held a es

abbrev fall : List Entry → ℕ → Bool
fall [] n = true
fall (e ∷ es) n = nat_le e.height n && fall es e.height

abbrev pub is_whole : Code → Assigned → At → Bool
is_whole code a x = fall x.entries (length x.slots) && nat_le (length x.entries) code.n_exc && are_held a x.entries

-- that, with each entry active exactly from its handler on
abbrev pub is_held : Code → Assigned → ℕ → At → Bool
is_held code a p x = is_whole code a x && is_marked p x.entries

pub fall_fits : (es : List Entry) (n : ℕ) → fall es n ≡ true → Fits es n
fall_fits [] n h = tt
fall_fits (e ∷ es) n h = let p = and_parts _ _ h in (leb-true _ _ p.0, fall_fits es e.height p.1)

fits_fall : (es : List Entry) (n : ℕ) → Fits es n → fall es n ≡ true
fits_fall [] n h = refl
fits_fall (e ∷ es) n h = and_from _ _ (le-leb _ _ h.0) (fits_fall es e.height h.1)

-- heights
-- =======

fits_more : (es : List Entry) (n m : ℕ) → Fits es n → n ≤ m → Fits es m
fits_more [] n m f le = tt
fits_more (e ∷ es) n m f le = (omega (arith, f.0, le), f.1)

fits_drop : (k : ℕ) (es : List Entry) (n m : ℕ) → Fits es n → floor (drop k es) ≤ m → Fits (drop k es) m
fits_drop zero es n m f le = fits_floor es n m f le
fits_drop (suc k) [] n m f le = tt
fits_drop (suc k) (e ∷ es) n m f le = fits_drop k es e.height m f.1 le

fits_mark : (q : ℕ) (es : List Entry) (n : ℕ) → Fits es n → Fits (map (mark q) es) n
fits_mark q [] n h = tt
fits_mark q (e ∷ es) n h = (h.0, fits_mark q es e.height h.1)

fits_rest : (es : List Entry) (d m : ℕ) (n : ℕ) → Fits es n → d ≤ m → nat_eq d (floor es) ≡ true → Fits (rest_of es) m
fits_rest [] d m n f le e = tt
fits_rest (x ∷ es) d m n f le e = let q = eqb-true d x.height e in fits_more es x.height m f.1 (omega (arith, q, le))

abbrev is_push : Change → Bool
is_push (Push h last) = true
is_push _ = false

fits_behind : (c : Change) (n : ℕ) (es : List Entry) (d m : ℕ) → Fits es n → (is_push c ≡ true → n ≤ d) → d ≤ m → floor_of c es ≤ d → leaves c es d ≡ true → Fits (behind c n es) m
fits_behind Keep n es d m f p le fl lv = fits_floor es n m f (omega (arith, fl, le))
fits_behind (Push h last) n es d m f p le fl lv = let q = p refl in (omega (arith, q, le), f)
fits_behind DropExcept n es d m f p le fl lv = fits_rest es d m n f le lv
fits_behind DropActive n es d m f p le fl lv = fits_rest es d m n f le lv
fits_behind (Leave k) n es d m f p le fl lv = fits_drop k es n m f (omega (arith, fl, le))

-- a handler's entry is pushed by an instruction that takes nothing
setup_whole : (i : Action) (x : At) → is_push (change i) ≡ true → length x.slots ≤ length (base i x) - length (takes i)
unfolding change takes base
setup_whole (Setup to last) x e = let q = length-drop (length x.slots - length x.slots) x.slots in omega (arith, q)
setup_whole (Straight ws gs) x e = absurd (false≢true e)
setup_whole (Branch ws gs there to) x e = absurd (false≢true e)
setup_whole (Jump to) x e = absurd (false≢true e)
setup_whole (PopExcept to) x e = absurd (false≢true e)
setup_whole EndFinally x e = absurd (false≢true e)
setup_whole (Unwind to count it) x e = absurd (false≢true e)
setup_whole Return x e = absurd (false≢true e)
setup_whole (Raise count) x e = absurd (false≢true e)

module _ (i : Action) (x : At) where
  next_long : length (base i x) - length (takes i) ≤ length (slots_of i x Next)
  unfolding slots_of
  next_long = let q = after_size (gives i) (length (takes i)) (base i x) in omega (arith, q)

  there_long : length (base i x) - length (takes i) ≤ length (slots_of i x There)
  unfolding slots_of
  there_long = let q = after_size (gives_there i) (length (takes i)) (base i x) in omega (arith, q)

  run_long : (h : ℕ) (last : Bool) → h ≤ length x.slots → length (slots_of i x (Run h last)) ≡ suc h
  unfolding slots_of
  run_long h true le = ap suc (cut-length h x.slots le)
  run_long h false le = ap suc (cut-length h x.slots le)

  -- entries behind an instruction, where as many slots or more are
  fits_on : (m : ℕ) → finds i x ≡ true → Fits x.entries (length x.slots) → length (base i x) - length (takes i) ≤ m → Fits (behind (change i) (length x.slots) x.entries) m
  unfolding finds
  fits_on m h f le =
      let d = and_parts _ _ (and_parts _ _ h).1 in
      fits_behind (change i) (length x.slots) x.entries (length (base i x) - length (takes i)) m f (setup_whole i x) le (leb-true _ _ (and_parts _ _ d.0).1) d.1

-- held entries
-- ============

module _ (a : Assigned) where
  held_rest : (es : List Entry) → are_held a es ≡ true → are_held a (rest_of es) ≡ true
  held_rest [] h = refl
  held_rest (e ∷ es) h = (and_parts _ _ h).1

  held_drop : (k : ℕ) (es : List Entry) → are_held a es ≡ true → are_held a (drop k es) ≡ true
  held_drop zero es h = h
  held_drop (suc k) [] h = refl
  held_drop (suc k) (e ∷ es) h = held_drop k es (and_parts _ _ h).1

  held_behind : (c : Change) (n : ℕ) (es : List Entry) → are_held a es ≡ true → are_held a (rest_of (behind c n es)) ≡ true
  held_behind Keep n es h = held_rest es h
  held_behind (Push hd last) n es h = h
  held_behind DropExcept n es h = held_rest (rest_of es) (held_rest es h)
  held_behind DropActive n es h = held_rest (rest_of es) (held_rest es h)
  held_behind (Leave k) n es h = held_rest (drop k es) (held_drop k es h)

  marked_count : (act eq : Bool) (o : Option At) (n m : ℕ) → m ≡ n → (act || has_count o (suc n)) ≡ true → ((act || eq) || has_count o (suc m)) ≡ true
  marked_count true eq o n m e h = refl
  marked_count false true o n m e h = refl
  marked_count false false o n m e h = subst (λ k. has_count o (suc k) ≡ true) (sym e) h

  held_mark : (q : ℕ) (es : List Entry) → are_held a es ≡ true → are_held a (map (mark q) es) ≡ true
  held_mark q [] h = refl
  held_mark q (e ∷ es) h =
      let p = and_parts _ _ h in
      and_from _ _ (marked_count e.active (nat_eq e.handler q) (a e.handler) (length es) (length (map (mark q) es)) (length-map es (mark q)) p.0) (held_mark q es p.1)

  count_is : (o : Option At) (y : At) (n : ℕ) → o ≡ Some y → length y.entries ≡ n → has_count o n ≡ true
  count_is o y n e q = subst (λ z. has_count z n ≡ true) (sym e) (eq-eqb _ _ q)

  lead_count : (i : Action) (x : At) (e : Entry) (es : List Entry) → Leads a (edge_of i x (way_in e es)) → has_count (a e.handler) (suc (length es)) ≡ true
  lead_count i x e es l =
      let q = ap (λ (zs : List Entry). length zs) l.under.entries in
      let m = length-map es (mark e.handler) in
      count_is (a e.handler) l.at (suc (length es)) l.is (omega (arith, q, m))

  top_if : (i : Action) (x : At) (b : Bool) (e : Entry) (es : List Entry) → Each a (map (edge_of i x) (if b then raise_ways es else (way_in e es ∷ []))) → (b || has_count (a e.handler) (suc (length es))) ≡ true
  top_if i x true e es h = refl
  top_if i x false e es (also l r) = lead_count i x e es l

  -- the topmost entry is held where a raise leads to its handler
  top_held : (i : Action) (x : At) (es : List Entry) → Each a (map (edge_of i x) (raise_ways es)) → are_held a (rest_of es) ≡ true → are_held a es ≡ true
  top_held i x [] h r = refl
  top_held i x (e ∷ es) h r = and_from _ _ (top_if i x e.active e es h) r

-- the edges of a raise are among those of each instruction
pub raise_along : (code : Code) (a : Assigned) (p : ℕ) (x : At) (f : Fine code a p x) → Each a (map (edge_of f.action x) (raise_ways x.entries)) × (all_marked (raise_ways x.entries) ≡ true)
unfolding ways holds
raise_along code a p x f =
    let i = f.action in
    let nx = next_way (falls i && nat_lt (suc p) (length code.actions)) p (behind (change i) (length x.slots) x.entries) in
    let jm = jump_way (target i) (behind (change i) (length x.slots) x.entries) in
    let e = each_append a i x (nx ++ jm ++ raise_ways x.entries) (run_ways (runs i (length x.entries)) x.entries) f.along in
    let m = marked_append a i x (nx ++ jm ++ raise_ways x.entries) (run_ways (runs i (length x.entries)) x.entries) (and_parts _ _ f.handlers).1 in
    ((each_append a i x (nx ++ jm) (raise_ways x.entries) e.0).1, (marked_append a i x (nx ++ jm) (raise_ways x.entries) m.0).1)

-- along edges
-- ===========

module _ (code : Code) (a : Assigned) (h : Holds code a) where
  whole_at : (to : ℕ) (y : At) → a to ≡ Some y → (es : List Entry) → map (mark to) es ≡ y.entries → Fits es (length y.slots) → length es ≤ code.n_exc → are_held a (rest_of es) ≡ true → is_whole code a y ≡ true
  whole_at to y is es e f few held =
      let fine = h.closed to y is in
      let long = length-map es (mark to) in
      let rest : are_held a (rest_of (map (mark to) es)) ≡ true = rest_mark es held in
      and_from _ _
      (and_from _ _ (subst (λ zs. fall zs (length y.slots) ≡ true) e (fits_fall _ _ (fits_mark to es (length y.slots) f)))
      (subst (λ zs. nat_le (length zs) code.n_exc ≡ true) e (le-leb _ _ (omega (arith, long, few)))))
      (top_held a fine.action y y.entries (raise_along code a to y fine).0 (subst (λ zs. are_held a (rest_of zs) ≡ true) e rest))
    where
      rest_mark : (zs : List Entry) → are_held a (rest_of zs) ≡ true → are_held a (rest_of (map (mark to) zs)) ≡ true
      rest_mark [] g = refl
      rest_mark (z ∷ zs) g = held_mark a to zs g

  first_whole : (y : At) → a 0 ≡ Some y → Under begin y → is_whole code a y ≡ true
  first_whole y is u = whole_at 0 y is [] u.entries tt (omega arith) refl

  module _ (p : ℕ) (x : At) (f : Fine code a p x) where
    along_append : (ws vs : List Way) → Along (λ q. is_whole code a) a (map (edge_of f.action x) ws) → Along (λ q. is_whole code a) a (map (edge_of f.action x) vs) → Along (λ q. is_whole code a) a (map (edge_of f.action x) (ws ++ vs))
    along_append [] vs g k = k
    along_append (w ∷ ws) vs g k = (g.0, along_append ws vs g.1 k)

    -- an edge that arrives with these entries
    arrives : (to : ℕ) (es : List Entry) (how : How) → Fits es (length (slots_of f.action x how)) → length es ≤ code.n_exc → are_held a (rest_of es) ≡ true
        → (y : At) → a to ≡ Some y → Under (edge_of f.action x (arrive to es how)).at y → is_whole code a y ≡ true
    arrives to es how g few held y is u =
        whole_at to y is es u.entries (subst (λ n. Fits es n) (belows-length (slots_of f.action x how) y.slots u.slots) g) few held

    next_along : (b : Bool) (es : List Entry) → Fits es (length (slots_of f.action x Next)) → length es ≤ code.n_exc → are_held a (rest_of es) ≡ true → Along (λ q. is_whole code a) a (map (edge_of f.action x) (next_way b p es))
    next_along true es g few held = (arrives (suc p) es Next g few held, tt)
    next_along false es g few held = tt

    jump_along : (o : Option ℕ) (es : List Entry) → Fits es (length (slots_of f.action x There)) → length es ≤ code.n_exc → are_held a (rest_of es) ≡ true → Along (λ q. is_whole code a) a (map (edge_of f.action x) (jump_way o es))
    jump_along (Some t) es g few held = (arrives t es There g few held, tt)
    jump_along None es g few held = tt

    -- an edge to a handler
    enters : (e : Entry) (es : List Entry) (m : ℕ) → Fits (e ∷ es) m → m ≤ length x.slots → length (e ∷ es) ≤ code.n_exc → are_held a es ≡ true
        → (y : At) → a e.handler ≡ Some y → Under (edge_of f.action x (way_in e es)).at y → is_whole code a y ≡ true
    enters e es m g le few held =
        let long = run_long f.action x e.height e.is_finally (omega (arith, g.0, le)) in
        arrives e.handler (record e { active = true } ∷ es) (Run e.height e.is_finally) (omega (arith, long), g.1) few held

    raise_if : (b : Bool) (e : Entry) (es : List Entry) → Along (λ q. is_whole code a) a (map (edge_of f.action x) (raise_ways es)) → ((y : At) → a e.handler ≡ Some y → Under (edge_of f.action x (way_in e es)).at y → is_whole code a y ≡ true)
        → Along (λ q. is_whole code a) a (map (edge_of f.action x) (if b then raise_ways es else (way_in e es ∷ [])))
    raise_if true e es g k = g
    raise_if false e es g k = (k, tt)

    raises_along : (es : List Entry) (m : ℕ) → Fits es m → m ≤ length x.slots → length es ≤ code.n_exc → are_held a es ≡ true → Along (λ q. is_whole code a) a (map (edge_of f.action x) (raise_ways es))
    raises_along [] m g le few held = tt
    raises_along (e ∷ es) m g le few held =
        let rest = (and_parts _ _ held).1 in
        raise_if e.active e es (raises_along es e.height g.1 (omega (arith, g.0, le)) (omega (arith, few)) rest) (enters e es m g le few rest)

    run_if : (b : Bool) (e : Entry) (es : List Entry) → ((y : At) → a e.handler ≡ Some y → Under (edge_of f.action x (way_in e es)).at y → is_whole code a y ≡ true)
        → Along (λ q. is_whole code a) a (map (edge_of f.action x) (if b then (way_in e es ∷ []) else []))
    run_if true e es k = (k, tt)
    run_if false e es k = tt

    runs_along : (n : ℕ) (es : List Entry) (m : ℕ) → Fits es m → m ≤ length x.slots → length es ≤ code.n_exc → are_held a es ≡ true → Along (λ q. is_whole code a) a (map (edge_of f.action x) (run_ways n es))
    runs_along zero es m g le few held = tt
    runs_along (suc n) [] m g le few held = tt
    runs_along (suc n) (e ∷ es) m g le few held =
        let rest = (and_parts _ _ held).1 in
        along_append (one_run e es) (run_ways n es) (run_if _ e es (enters e es m g le few rest)) (runs_along n es e.height g.1 (omega (arith, g.0, le)) (omega (arith, few)) rest)

    all_along : is_whole code a x ≡ true → Along (λ q. is_whole code a) a (edges code f.action p x)
    unfolding ways
    all_along t =
        let i = f.action in
        let q = and_parts _ _ t in
        let r = and_parts _ _ q.0 in
        let g = fall_fits x.entries (length x.slots) r.0 in
        let few : length x.entries ≤ code.n_exc = leb-true _ _ r.1 in
        let es = behind (change i) (length x.slots) x.entries in
        let room = holds_few code i p (length x.slots) x.entries f.handlers in
        let held = held_behind a (change i) (length x.slots) x.entries q.1 in
        let nx = next_way (falls i && nat_lt (suc p) (length code.actions)) p es in
        let jm = jump_way (target i) es in
        along_append (nx ++ jm ++ raise_ways x.entries) (run_ways (runs i (length x.entries)) x.entries)
        (along_append (nx ++ jm) (raise_ways x.entries)
        (along_append nx jm (next_along _ es (fits_on i x _ f.height g (next_long i x)) room held) (jump_along (target i) es (fits_on i x _ f.height g (there_long i x)) room held))
        (raises_along x.entries (length x.slots) g (omega arith) few q.1))
        (runs_along (runs i (length x.entries)) x.entries (length x.slots) g (omega arith) few q.1)

  -- marks
  both_along : (es : List Edge) → edges_marked es ≡ true → Along (λ q. is_whole code a) a es → Along (is_held code a) a es
  both_along [] m g = tt
  both_along (e ∷ es) m g =
      let q = and_parts _ _ m in
      ((λ y is u. and_from _ _ (g.0 y is u) (subst (λ zs. is_marked e.to zs ≡ true) u.entries q.0)), both_along es q.1 g.1)

  ways_marked : (i : Action) (x : At) (ws : List Way) → all_marked ws ≡ true → edges_marked (map (edge_of i x) ws) ≡ true
  ways_marked i x [] m = refl
  ways_marked i x (w ∷ ws) m = let q = and_parts _ _ m in and_from _ _ q.0 (ways_marked i x ws q.1)

  edges_are_marked : (p : ℕ) (x : At) (f : Fine code a p x) → edges_marked (edges code f.action p x) ≡ true
  unfolding holds
  edges_are_marked p x f = ways_marked f.action x (ways code f.action p (length x.slots) x.entries) (and_parts _ _ f.handlers).1

  -- the assignment where all this holds is one
  pub holds_whole : Holds code (only_where (is_held code a) a)
  holds_whole =
      holds_where code a (is_held code a) h (λ y is u. and_from _ _ (first_whole y is u) (subst (λ zs. is_marked 0 zs ≡ true) u.entries refl))
      (λ p x is t f. both_along (edges code f.action p x) (edges_are_marked p x f) (all_along p x f (and_parts _ _ t).0))

-- an entry that is marked right is active from its handler's position on
pub marks_are : (p : ℕ) (es : List Entry) → is_marked p es ≡ true → map (remark p) es ≡ es
marks_are p [] m = refl
marks_are p (e ∷ es) m =
    let q = and_parts _ _ m in
    ap (λ z. record e { active = z } ∷ map (remark p) es) (one e.active q.0) ∙ ap (λ zs. e ∷ zs) (marks_are p es q.1)
  where
    one : (b : Bool) → (if b then nat_le e.handler p else nat_lt p e.handler) ≡ true → nat_le e.handler p ≡ b
    one true t = t
    one false t = lt-leb e.handler p (ltb-true p e.handler t)
