-- Steps of the code's loops over its table.
use Rattle.std.proofs.Common.{◌≡◌, ℕ, zero, suc, ◌+◌, ◌<◌, ◌≤◌, Bool, true, false, not, ◌&&◌, List, [], ◌∷◌, ◌++◌, length, map, get_or, set, drop, replicate, Option, Some, None, refl, sym, ap, ◌∙◌, subst, arith, if◌then◌else◌}
use Rattle.std.specs.Prelude.{slice_get, option_map, nat_eq, ◌||◌}
use Rattle.std.proofs.lemmas.Bool.{and_parts, and_from, eq-eqb, false≢true}
use Rattle.std.proofs.lemmas.List.{drop_more}
use Rattle.bc_shapes.specs.declared.shape.Entry.{Entry}
use Rattle.bc_shapes.specs.declared.shape.Shape.{Shape}
use Rattle.bc_shapes.specs.declared.kinds.Kind.{Kind}
use Rattle.bc_shapes.specs.Shape.{At, join, opens, same_entries}
use Rattle.bc_shapes.specs.Joins.{Joins}
use Rattle.bc_shapes.proofs.Joins.{same_entries_is}
use Rattle.bc_shapes.specs.Views.{at_of}
use Rattle.bc_shapes.proofs.Loops.{drop_uncons}
use Rattle.bc_flow.specs.declared.edges.Edge.{Edge as RustEdge}
use Rattle.bc_flow.specs.declared.walk.State.{State}
use Rattle.bc_flow.specs.declared.walk.State.TheVariants as Rust
use Rattle.bc_flow.specs.Edges.{Edge}
use Rattle.bc_flow.specs.Verified.{Cell, Unseen, Pending, Done, Table, meet_at, settle, meet, put, put_next, agrees_cell, agrees, others, agree, done_at, IsPending, here, later, table_at, begin}
use Rattle.bc_flow.specs.Views.{cell_of, cell_if, has_if, edge_of_rust}
use Rattle.bc_flow.proofs.Visits.{pending_in}

pub agrees_in : (cells : List State) (n : ℕ) (es : List Entry) (s : State) → n < length cells → s ≡ get_or cells n s → agrees (map cell_of cells) n es ≡ agrees_cell (cell_of s) es
agrees_in [] n es s lt e = absurd (omega (arith, lt))
agrees_in (c ∷ cells) zero es s lt e = ap (λ z. agrees_cell (cell_of z) es) (sym e)
agrees_in (c ∷ cells) (suc n) es s lt e = agrees_in cells n es s (omega (arith, lt)) e

pub agrees_out : (cells : List State) (n : ℕ) (es : List Entry) → length cells ≤ n → agrees (map cell_of cells) n es ≡ false
agrees_out [] n es h = refl
agrees_out (c ∷ cells) zero es h = absurd (omega (arith, h))
agrees_out (c ∷ cells) (suc n) es h = agrees_out cells n es (omega (arith, h))

pub others_step : (e : Edge) (es : List RustEdge) (k : ℕ) (f : RustEdge) → k < length es → f ≡ get_or es k f → others e (map edge_of_rust (drop k es)) ≡ ((not (nat_eq e.to f.to) || same_entries e.at.entries (edge_of_rust f).at.entries) && others e (map edge_of_rust (drop (k + 1) es)))
others_step e es k f lt h = ap (λ z. others e (map edge_of_rust z)) (drop_uncons es k f lt h)

pub agree_step : (t : Table) (es : List RustEdge) (k : ℕ) (e : RustEdge) → k < length es → e ≡ get_or es k e → agree t (map edge_of_rust (drop k es)) ≡ (agrees t e.to (edge_of_rust e).at.entries && others (edge_of_rust e) (map edge_of_rust (drop (k + 1) es)) && agree t (map edge_of_rust (drop (k + 1) es)))
agree_step t es k e lt h = ap (λ z. agree t (map edge_of_rust z)) (drop_uncons es k e lt h)

pub map-set : (cells : List State) (n : ℕ) (c : State) → map cell_of (set cells n c) ≡ set (map cell_of cells) n (cell_of c)
map-set [] n c = refl
map-set (d ∷ cells) zero c = refl
map-set (d ∷ cells) (suc n) c = ap (λ z. cell_of d ∷ z) (map-set cells n c)

put_in : (cells : List State) (n : ℕ) (x : At) (s : State) → n < length cells → s ≡ get_or cells n s → put (map cell_of cells) n x ≡ option_map (λ c. set (map cell_of cells) n c) (meet (cell_of s) x)
put_in [] n x s lt e = absurd (omega (arith, lt))
put_in (c ∷ cells) zero x s lt e = ap (λ z. option_map (λ d. d ∷ map cell_of cells) (meet (cell_of z) x)) (sym e)
put_in (c ∷ cells) (suc n) x s lt e = ap (option_map (λ u. cell_of c ∷ u)) (put_in cells n x s (omega (arith, lt)) e) ∙ twice (meet (cell_of s) x)
  where
    twice : (o : Option Cell) → option_map (λ u. cell_of c ∷ u) (option_map (λ d. set (map cell_of cells) n d) o) ≡ option_map (λ d. cell_of c ∷ set (map cell_of cells) n d) o
    twice None = refl
    twice (Some d) = refl

pub put_some : (cells : List State) (n : ℕ) (x : At) (s c : State) → n < length cells → s ≡ get_or cells n s → Some (cell_of c) ≡ meet (cell_of s) x → Some (map cell_of (set cells n c)) ≡ put (map cell_of cells) n x
put_some cells n x s c lt e h = ap Some (map-set cells n c) ∙ ap (option_map (λ d. set (map cell_of cells) n d)) h ∙ sym (put_in cells n x s lt e)

pub put_none : (cells : List State) (n : ℕ) (x : At) (s : State) → n < length cells → s ≡ get_or cells n s → None ≡ meet (cell_of s) x → None ≡ put (map cell_of cells) n x
put_none cells n x s lt e h = ap (option_map (λ d. set (map cell_of cells) n d)) h ∙ sym (put_in cells n x s lt e)

pub put_out : (cells : List State) (n : ℕ) (x : At) → length cells ≤ n → put (map cell_of cells) n x ≡ None
put_out [] n x h = refl
put_out (c ∷ cells) zero x h = absurd (omega (arith, h))
put_out (c ∷ cells) (suc n) x h = ap (option_map (λ u. cell_of c ∷ u)) (put_out cells n x (omega (arith, h)))

pub put_next_step : (t : Table) (es : List RustEdge) (k : ℕ) (e : RustEdge) → k < length es → e ≡ get_or es k e → put_next (map edge_of_rust (drop k es)) (Some t) ≡ put_next (map edge_of_rust (drop (k + 1) es)) (put t e.to (edge_of_rust e).at)
put_next_step t es k e lt h = ap (λ z. put_next (map edge_of_rust z) (Some t)) (drop_uncons es k e lt h)

pub put_next_none : (es : List Edge) (o : Option Table) → o ≡ None → put_next es o ≡ None
put_next_none es o e = ap (put_next es) e

pub pending_get : (t : Table) (p : ℕ) (x : At) → IsPending t p x → slice_get t p ≡ Some (Pending x)
pending_get t p x here = refl
pending_get t p x (later {t = u} {p = q} h) = pending_get u q x h

pub pending_from : (t : Table) (p : ℕ) (x : At) → slice_get t p ≡ Some (Pending x) → IsPending t p x
pending_from [] p x e = cc
pending_from (c ∷ t) zero x e = subst (λ z. IsPending (z ∷ t) 0 x) (sym (cell_is c (Pending x) e)) here
  where
    cell_is : (a b : Cell) → Some a ≡ Some b → a ≡ b
    cell_is a b e = cc
pending_from (c ∷ t) (suc p) x e = later (pending_from t p x e)

get_there : (cells : List State) (p : ℕ) (d : Cell) (s : State) → s ≡ get_or cells p s → slice_get (map cell_of cells) p ≡ Some d → cell_of s ≡ d
get_there [] p d s e h = cc
get_there (c ∷ cells) zero d s e h = ap cell_of e ∙ cell_is (cell_of c) d h
  where
    cell_is : (a b : Cell) → Some a ≡ Some b → a ≡ b
    cell_is a b e = cc
get_there (c ∷ cells) (suc p) d s e h = get_there cells p d s e h

pub cell_there : (cells : List State) (p : ℕ) (x : At) (s : State) → s ≡ get_or cells p s → IsPending (map cell_of cells) p x → cell_of s ≡ Pending x
cell_there cells p x s e h = get_there cells p (Pending x) s e (pending_get (map cell_of cells) p x h)

pub there_is : (cells : List State) (p : ℕ) (s : State) → p < length cells → s ≡ get_or cells p s → slice_get (map cell_of cells) p ≡ Some (cell_of s)
there_is [] p s lt e = absurd (omega (arith, lt))
there_is (c ∷ cells) zero s lt e = ap Some (ap cell_of (sym e))
there_is (c ∷ cells) (suc p) s lt e = there_is cells p s (omega (arith, lt)) e

pub pending_here : (cells : List State) (p : ℕ) (s : State) (x : Shape) → p < length cells → s ≡ get_or cells p s → s ≡ Rust.Pending x → IsPending (map cell_of cells) p (at_of x)
pending_here cells p s x lt e h = pending_from (map cell_of cells) p (at_of x) (there_is cells p s lt e ∙ ap (λ z. Some (cell_of z)) h)

done_set : (t : Table) (p : ℕ) (x : At) → done_at t p x ≡ set t p (Done x)
done_set [] p x = refl
done_set (c ∷ t) zero x = refl
done_set (c ∷ t) (suc p) x = ap (λ z. c ∷ z) (done_set t p x)

set_twice : (cells : List State) (p : ℕ) (a b : State) → set (set cells p a) p b ≡ set cells p b
set_twice [] p a b = refl
set_twice (c ∷ cells) zero a b = refl
set_twice (c ∷ cells) (suc p) a b = ap (λ z. c ∷ z) (set_twice cells p a b)

at_is : (a b : At) → Pending a ≡ Pending b → a ≡ b
at_is a b e = cc

pub same_at : (cells : List State) (p : ℕ) (x : At) (s : State) (y : Shape) → s ≡ get_or cells p s → s ≡ Rust.Pending y → IsPending (map cell_of cells) p x → at_of y ≡ x
same_at cells p x s y e h w = at_is (at_of y) x (sym (ap cell_of h) ∙ cell_there cells p x s e w)

pub done_here : (cells : List State) (p : ℕ) (x : At) (s a : State) (y : Shape) → s ≡ get_or cells p s → s ≡ Rust.Pending y → IsPending (map cell_of cells) p x → map cell_of (set (set cells p a) p (Rust.Done y)) ≡ done_at (map cell_of cells) p x
done_here cells p x s a y e h w =
    ap (map cell_of) (set_twice cells p a (Rust.Done y))
    ∙ map-set cells p (Rust.Done y)
    ∙ ap (λ z. set (map cell_of cells) p (Done z)) (same_at cells p x s y e h w)
    ∙ sym (done_set (map cell_of cells) p x)

pub not_here : (cells : List State) (p : ℕ) (s : State) → s ≡ get_or cells p s → ((x : Shape) → s ≡ Rust.Pending x → ⊥) → (q : ℕ) (y : At) → IsPending (map cell_of cells) q y → p ≡ q → ⊥
not_here cells p s e f q y w h = by_cases s f (cell_there cells p y s e (subst (λ n. IsPending (map cell_of cells) n y) (sym h) w))
  where
    by_cases : (s : State) → ((x : Shape) → s ≡ Rust.Pending x → ⊥) → cell_of s ≡ Pending y → ⊥
    by_cases Rust.Unseen f g = cc
    by_cases (Rust.Pending x) f g = f x refl
    by_cases (Rust.Done x) f g = cc

length-cells : (cells : List State) → length (map cell_of cells) ≡ length cells
length-cells [] = refl
length-cells (c ∷ cells) = ap suc (length-cells cells)

pub none_left : (cells : List State) (p : ℕ) → length cells ≤ p → ((q : ℕ) (y : At) → IsPending (map cell_of cells) q y → p ≤ q) → (q : ℕ) (y : At) → IsPending (map cell_of cells) q y → ⊥
none_left cells p h f q y w = let a = f q y w in let b = pending_in (map cell_of cells) q y w in let e = length-cells cells in omega (arith, a, b, e, h)

pub table_more : (xs : List State) (i : ℕ) → 1 ≤ i → map cell_of xs ≡ table_at i → map cell_of (xs ++ Rust.Unseen ∷ []) ≡ table_at (i + 1)
table_more xs zero h e = absurd (omega (arith, h))
table_more xs (suc n) h e = push xs ∙ ap (λ t. t ++ Unseen ∷ []) e ∙ ap (λ t. Pending begin ∷ t) (more n) ∙ ap table_at (let q : suc (suc n) ≡ suc n + 1 = omega arith in q)
  where
    push : (xs : List State) → map cell_of (xs ++ Rust.Unseen ∷ []) ≡ map cell_of xs ++ Unseen ∷ []
    push [] = refl
    push (x ∷ xs) = ap (λ t. cell_of x ∷ t) (push xs)

    more : (n : ℕ) → replicate n Unseen ++ Unseen ∷ [] ≡ replicate (suc n) Unseen
    more zero = refl
    more (suc n) = ap (λ t. Unseen ∷ t) (more n)

-- the same of a state that is read where it is
same_get : {A : Type 0} → (xs : List A) (p : ℕ) (d : A) → get_or xs p d ≡ get_or xs p (get_or xs p d)
same_get [] p d = refl
same_get (x ∷ xs) zero d = refl
same_get (x ∷ xs) (suc p) d = same_get xs p d

pub is_pending_at : (states : List State) (p : ℕ) (d : State) (x : Shape) → p < length states → get_or states p d ≡ Rust.Pending x → (y : At) × IsPending (map cell_of states) p y
is_pending_at states p d x lt e = (at_of x, pending_here states p (get_or states p d) x lt (same_get states p d) e)

pub not_pending_at : (states : List State) (p : ℕ) (d : State) → ((x : Shape) → get_or states p d ≡ Rust.Pending x → ⊥) → (y : At) → IsPending (map cell_of states) p y → ⊥
not_pending_at states p d f y w = not_here states p (get_or states p d) (same_get states p d) f p y w refl

pub past_pending : (states : List State) (p : ℕ) → length states ≤ p → (y : At) → IsPending (map cell_of states) p y → ⊥
past_pending states p le y w = let lt = pending_in (map cell_of states) p y w in let e = length-cells states in omega (arith, lt, e, le)

-- Slots that are joined where they are.

abbrev pub with_slots : List Entry → List Kind → At
with_slots es s = record { slots = s; entries = es }

meet_is : (y x : At) (o : Option (List Kind)) → same_entries y.entries x.entries ≡ true → join y.slots x.slots ≡ o → meet_at y x ≡ option_map (with_slots y.entries) o
meet_is y x o t e =
    ap (λ b. if b then option_map (with_slots y.entries) (join y.slots x.slots) else None) t
    ∙ ap (option_map (with_slots y.entries)) e

pub meet_pending : (y x : At) (s : List Kind) (b : Bool) → same_entries y.entries x.entries ≡ true → Joins y.slots x.slots s b → Some (Pending (with_slots y.entries s)) ≡ meet (Pending y) x
meet_pending y x s b t j = sym (ap (option_map Pending) (meet_is y x (Some s) t j.is))

pub meet_changed : (y x : At) (s : List Kind) → same_entries y.entries x.entries ≡ true → Joins y.slots x.slots s true → Some (Pending (with_slots y.entries s)) ≡ meet (Done y) x
meet_changed y x s t j =
    let less = j.fewer in
    let ne : nat_eq (opens s) (opens y.slots) ≡ false = grind (arith, less) in
    sym (ap (option_map (settle y)) (meet_is y x (Some s) t j.is) ∙ ap (λ b. Some (if b then Done (with_slots y.entries s) else Pending (with_slots y.entries s))) ne)

pub meet_kept : (y x : At) (s : List Kind) → same_entries y.entries x.entries ≡ true → Joins y.slots x.slots s false → Some (Done (with_slots y.entries s)) ≡ meet (Done y) x
meet_kept y x s t j =
    let e : nat_eq (opens s) (opens y.slots) ≡ true = eq-eqb (opens s) (opens y.slots) (ap opens j.kept) in
    sym (ap (option_map (settle y)) (meet_is y x (Some s) t j.is) ∙ ap (λ b. Some (if b then Done (with_slots y.entries s) else Pending (with_slots y.entries s))) e)

pub meet_unseen : (c : Cell) (x y : At) → c ≡ Unseen → y ≡ x → Some (Pending y) ≡ meet c x
meet_unseen c x y e f = ap (λ z. Some (Pending z)) f ∙ ap (λ z. meet z x) (sym e)

pub refuse_pending : (y x : At) → same_entries y.entries x.entries ≡ true → join y.slots x.slots ≡ None → None ≡ meet (Pending y) x
refuse_pending y x t e = sym (ap (option_map Pending) (meet_is y x None t e))

pub refuse_done : (y x : At) → same_entries y.entries x.entries ≡ true → join y.slots x.slots ≡ None → None ≡ meet (Done y) x
refuse_done y x t e = sym (ap (option_map (settle y)) (meet_is y x None t e))

pub put_meets : (cells : List State) (n : ℕ) (x : At) (s c : State) (b : Bool) → n < length cells → s ≡ get_or cells n s → cell_if b c ≡ meet (cell_of s) x → has_if b (set cells n c) ≡ put (map cell_of cells) n x
put_meets cells n x s c true lt e h = put_some cells n x s c lt e h
put_meets cells n x s c false lt e h = put_none cells n x s lt e h

-- Lists of entries still agree.

agrees_done : (t : Table) (p n : ℕ) (x : At) (es : List Entry) → IsPending t p x → agrees (done_at t p x) n es ≡ agrees t n es
agrees_done t p zero x es here = refl
agrees_done t p (suc n) x es here = refl
agrees_done t p zero x es (later w) = refl
agrees_done t p (suc n) x es (later {t = u} {p = q} w) = agrees_done u q n x es w

pub agree_done : (t : Table) (p : ℕ) (x : At) (es : List Edge) → IsPending t p x → agree (done_at t p x) es ≡ agree t es
agree_done t p x [] w = refl
agree_done t p x (e ∷ es) w = ap (λ b. b && others e es && agree (done_at t p x) es) (agrees_done t p e.to x e.at.entries w) ∙ ap (λ b. agrees t e.to e.at.entries && others e es && b) (agree_done t p x es w)

none_some : {A : Type 0} → (x : A) → Some x ≡ None → ⊥
none_some x e = cc

some_is : {A : Type 0} → (x y : A) → Some x ≡ Some y → x ≡ y
some_is x y e = cc

settled : (b : Bool) (z : At) (es : List Entry) → same_entries z.entries es ≡ true → agrees_cell (if b then Done z else Pending z) es ≡ true
settled true z es h = h
settled false z es h = h

-- what arrived at a position has the entries that were there, or its own
cell_after : (c : Cell) (x : At) (d : Cell) (es : List Entry) → Some d ≡ meet c x → agrees_cell c x.entries ≡ true → same_entries x.entries es ≡ true → agrees_cell d es ≡ true
cell_after Unseen x d es e a s = subst (λ z. agrees_cell z es ≡ true) (some_is (Pending x) d (sym e)) s
cell_after (Pending y) x d es e a s = by_join (join y.slots x.slots) refl
  where
    ends : same_entries y.entries es ≡ true
    ends = subst (λ z. same_entries z es ≡ true) (sym (same_entries_is y.entries x.entries a)) s

    by_join : (o : Option (List Kind)) → join y.slots x.slots ≡ o → agrees_cell d es ≡ true
    by_join None h = absurd (none_some d (e ∙ ap (option_map Pending) (meet_is y x None a h)))
    by_join (Some l) h = subst (λ z. agrees_cell z es ≡ true) (sym (some_is d (Pending (with_slots y.entries l)) (e ∙ ap (option_map Pending) (meet_is y x (Some l) a h)))) ends
cell_after (Done y) x d es e a s = by_join (join y.slots x.slots) refl
  where
    ends : same_entries y.entries es ≡ true
    ends = subst (λ z. same_entries z es ≡ true) (sym (same_entries_is y.entries x.entries a)) s

    by_join : (o : Option (List Kind)) → join y.slots x.slots ≡ o → agrees_cell d es ≡ true
    by_join None h = absurd (none_some d (e ∙ ap (option_map (settle y)) (meet_is y x None a h)))
    by_join (Some l) h =
        subst (λ q. agrees_cell q es ≡ true) (sym (some_is d (settle y (with_slots y.entries l)) (e ∙ ap (option_map (settle y)) (meet_is y x (Some l) a h))))
        (settled (nat_eq (opens l) (opens y.slots)) (with_slots y.entries l) es ends)

-- after an edge, at the target of another
agrees_after : (t u : Table) (n : ℕ) (x : At) (m : ℕ) (es : List Entry) → Some u ≡ put t n x → agrees t n x.entries ≡ true → agrees t m es ≡ true → (n ≡ m → same_entries x.entries es ≡ true) → agrees u m es ≡ true
agrees_after [] u n x m es e a b f = absurd (false≢true a)
agrees_after (c ∷ t) u zero x m es e a b f = by_meet (meet c x) refl
  where
    at_place : (d : Cell) (m : ℕ) → Some d ≡ meet c x → agrees (c ∷ t) m es ≡ true → (zero ≡ m → same_entries x.entries es ≡ true) → agrees (d ∷ t) m es ≡ true
    at_place d zero h b f = cell_after c x d es h a (f refl)
    at_place d (suc m) h b f = b

    by_meet : (o : Option Cell) → o ≡ meet c x → agrees u m es ≡ true
    by_meet None h = absurd (none_some u (e ∙ ap (option_map (λ d. d ∷ t)) (sym h)))
    by_meet (Some d) h = subst (λ v. agrees v m es ≡ true) (sym (some_is u (d ∷ t) (e ∙ ap (option_map (λ d. d ∷ t)) (sym h)))) (at_place d m h b f)
agrees_after (c ∷ t) u (suc n) x m es e a b f = by_put (λ v m h b f. agrees_after t v n x m es h a b f) (put t n x) refl
  where
    at_place : ((v : Table) (m : ℕ) → Some v ≡ put t n x → agrees t m es ≡ true → (n ≡ m → same_entries x.entries es ≡ true) → agrees v m es ≡ true) → (v : Table) (m : ℕ) → Some v ≡ put t n x → agrees (c ∷ t) m es ≡ true → (suc n ≡ m → same_entries x.entries es ≡ true) → agrees (c ∷ v) m es ≡ true
    at_place g v zero h b f = b
    at_place g v (suc m) h b f = g v m h b (λ q. f (ap suc q))

    by_put : ((v : Table) (m : ℕ) → Some v ≡ put t n x → agrees t m es ≡ true → (n ≡ m → same_entries x.entries es ≡ true) → agrees v m es ≡ true) → (o : Option Table) → o ≡ put t n x → agrees u m es ≡ true
    by_put g None h = absurd (none_some u (e ∙ ap (option_map (λ v. c ∷ v)) (sym h)))
    by_put g (Some v) h = subst (λ w. agrees w m es ≡ true) (sym (some_is u (c ∷ v) (e ∙ ap (option_map (λ v. c ∷ v)) (sym h)))) (at_place g v m h b f)

not_other : (a b : Bool) → (not a || b) ≡ true → a ≡ true → b ≡ true
not_other true b h e = h
not_other false b h e = absurd (false≢true e)

agree_others : (t u : Table) (e : Edge) (es : List Edge) → Some u ≡ put t e.to e.at → agrees t e.to e.at.entries ≡ true → others e es ≡ true → agree t es ≡ true → agree u es ≡ true
agree_others t u e [] h a o g = refl
agree_others t u e (f ∷ fs) h a o g =
    let os = and_parts (not (nat_eq e.to f.to) || same_entries e.at.entries f.at.entries) (others e fs) o in
    let gs = and_parts (agrees t f.to f.at.entries && others f fs) (agree t fs) g in
    let hs = and_parts (agrees t f.to f.at.entries) (others f fs) gs.0 in
    and_from (agrees u f.to f.at.entries && others f fs) (agree u fs)
    (and_from (agrees u f.to f.at.entries) (others f fs) (agrees_after t u e.to e.at f.to f.at.entries h a hs.0 (λ q. not_other (nat_eq e.to f.to) (same_entries e.at.entries f.at.entries) os.0 (eq-eqb e.to f.to q))) hs.1)
    (agree_others t u e fs h a os.1 gs.1)

-- the first agrees, and all that are left do so after it
pub agree_first : (t : Table) (e : Edge) (es : List Edge) → agree t (e ∷ es) ≡ true → agrees t e.to e.at.entries ≡ true
agree_first t e es h = (and_parts (agrees t e.to e.at.entries) (others e es) (and_parts (agrees t e.to e.at.entries && others e es) (agree t es) h).0).0

pub agree_rest : (t u : Table) (e : Edge) (es : List Edge) → Some u ≡ put t e.to e.at → agree t (e ∷ es) ≡ true → agree u es ≡ true
agree_rest t u e es h g =
    let p = and_parts (agrees t e.to e.at.entries && others e es) (agree t es) g in
    let q = and_parts (agrees t e.to e.at.entries) (others e es) p.0 in
    agree_others t u e es h q.0 q.1 p.1

pub put_all_step : (t u : Table) (es : List RustEdge) (k : ℕ) (f : RustEdge) → k < length es → Some u ≡ put t (get_or es k f).to (edge_of_rust (get_or es k f)).at → put_next (map edge_of_rust (drop k es)) (Some t) ≡ put_next (map edge_of_rust (drop (k + 1) es)) (Some u)
put_all_step t u es k f lt h = ap (λ z. put_next (map edge_of_rust z) (Some t)) (drop_more es k f lt) ∙ ap (put_next (map edge_of_rust (drop (k + 1) es))) (sym h)

pub agree_all_step : (t u : Table) (es : List RustEdge) (k : ℕ) (f : RustEdge) → k < length es → Some u ≡ put t (get_or es k f).to (edge_of_rust (get_or es k f)).at → agree t (map edge_of_rust (drop k es)) ≡ true → agree u (map edge_of_rust (drop (k + 1) es)) ≡ true
agree_all_step t u es k f lt h g = agree_rest t u (edge_of_rust (get_or es k f)) (map edge_of_rust (drop (k + 1) es)) h (subst (λ z. agree t (map edge_of_rust z) ≡ true) (drop_more es k f lt) g)

-- where entries agree there is a state
pub agrees_within : (cells : List State) (n : ℕ) (es : List Entry) → agrees (map cell_of cells) n es ≡ true → n < length cells
agrees_within [] n es h = absurd (false≢true h)
agrees_within (c ∷ cells) zero es h = omega arith
agrees_within (c ∷ cells) (suc n) es h = let lt = agrees_within cells n es h in omega (arith, lt)

pub agrees_here : (cells : List State) (n : ℕ) (es : List Entry) (s : State) → agrees (map cell_of cells) n es ≡ true → s ≡ get_or cells n s → agrees_cell (cell_of s) es ≡ true
agrees_here cells n es s h e = sym (agrees_in cells n es s (agrees_within cells n es h) e) ∙ h
