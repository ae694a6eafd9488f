-- A position is out of the table while slots pass along its edges.
use Rattle.std.proofs.Common.{◌≡◌, ◌⊎◌, ℕ, zero, suc, ◌<◌, ◌≤◌, Bool, true, false, ◌&&◌, List, [], ◌∷◌, ◌++◌, length, map, set, Option, Some, None, refl, sym, ap, ◌∙◌, subst, arith, inl, inr}
use Rattle.std.specs.Prelude.{Result, Ok, Err, OnOk, option_map, slice_get, nat_lt}
use Rattle.std.proofs.lemmas.Bool.{and_parts, and_from, false≢true}
use Rattle.std.proofs.lemmas.List.{length-map}
use Rattle.std.specs.declared.cmp.Reverse.{Reverse}
use Rattle.bc_shapes.specs.declared.kinds.Kind.{Kind}
use Rattle.bc_shapes.specs.declared.shape.Entry.{Entry}
use Rattle.bc_shapes.specs.declared.span.Span.{Span}
use Rattle.bc_shapes.specs.Shape.{At}
use Rattle.bc_shapes.proofs.Joins.{On, on_at}
use Rattle.bc_shapes.proofs.InPlace.{nat_decides}
use Rattle.bc_shapes.proofs.Spans.{same_refl}
use Rattle.bc_flow.specs.declared.code.Rule.{Rule}
use Rattle.bc_flow.specs.declared.code.Rule.TheVariants.{Height}
use Rattle.bc_flow.specs.declared.edges.Edge.{Edge as RustEdge}
use Rattle.bc_flow.specs.declared.walk.State.{State}
use Rattle.bc_flow.specs.Action.{Action, action}
use Rattle.bc_flow.specs.Code.{Code, code_of}
use Rattle.bc_flow.specs.declared.code.Code.{Code as RustCode}
use Rattle.bc_flow.specs.Edges.{Edge, Way, edge_of, edges, ways, falls, target, change, behind, runs, next_way, jump_way, raise_ways, run_ways, holds, finds, room, stays}
use Rattle.bc_flow.specs.Holes.{without, filled, going, jumping, raising, leaving, Away, Passes}
use Rattle.bc_flow.specs.Queue.{Queued}
use Rattle.bc_flow.specs.Spans.{Changed, EachOutside, Outside, Since, StillHolds, updated}
use Rattle.bc_flow.specs.Verified.{Assigned, Cell, Unseen, Pending, Done, Table, Visit, Bad, Good, after_put, agree, agrees, at, done_at, meet, others, put, put_next, visit, IsPending, here, later}
use Rattle.bc_flow.specs.Views.{edge_of_rust, has_if, option_list, table_of, visit_of}
use Rattle.bc_flow.proofs.Puts.{some_is}
use Rattle.bc_flow.proofs.Spans.{Elsewhere, changed_at, each_outside, put_grows, updated_here, updated_there}
use Rattle.bc_flow.proofs.Tables.{agree_first, agree_rest}
use Rattle.bc_flow.proofs.Visits.{PutsAll, pending_in, puts_all}
use Rattle.bc_flow.proofs.Walks.{visit_at}

-- What arrives elsewhere.

over_map : {A B C : Type 0} → (f : A → B) (g : B → C) (h : A → C) → ((x : A) → h x ≡ g (f x)) → (o : Option A) → option_map h o ≡ option_map g (option_map f o)
over_map f g h e None = refl
over_map f g h e (Some x) = ap Some (e x)

put_elsewhere : (t : Table) (p n : ℕ) (c : Cell) (x : At) → (n ≡ p → ⊥) → put (set t p c) n x ≡ option_map (λ u. set u p c) (put t n x)
put_elsewhere [] p n c x g = refl
put_elsewhere (d ∷ t) zero zero c x g = absurd (g refl)
put_elsewhere (d ∷ t) zero (suc n) c x g = over_map (λ u. d ∷ u) (λ u. set u 0 c) (λ u. c ∷ u) (λ u. refl) (put t n x)
put_elsewhere (d ∷ t) (suc p) zero c x g = over_map (λ e. e ∷ t) (λ u. set u (suc p) c) (λ e. e ∷ set t p c) (λ e. refl) (meet d x)
put_elsewhere (d ∷ t) (suc p) (suc n) c x g =
    ap (option_map (λ u. d ∷ u)) (put_elsewhere t p n c x (λ e. g (ap suc e)))
    ∙ sym (over_map (λ u. set u p c) (λ u. d ∷ u) (λ u. d ∷ set u p c) (λ u. refl) (put t n x))
    ∙ over_map (λ u. d ∷ u) (λ u. set u (suc p) c) (λ u. d ∷ set u p c) (λ u. refl) (put t n x)

pub next_elsewhere : (es : List Edge) (p : ℕ) (c : Cell) (o : Option Table) → Away p es → put_next es (option_map (λ u. set u p c) o) ≡ option_map (λ u. set u p c) (put_next es o)
next_elsewhere [] p c None a = refl
next_elsewhere [] p c (Some t) a = refl
next_elsewhere (e ∷ es) p c None a = refl
next_elsewhere (e ∷ es) p c (Some t) a = ap (put_next es) (put_elsewhere t p e.to c e.at a.0) ∙ next_elsewhere es p c (put t e.to e.at) a.1

agrees_elsewhere : (t : Table) (p : ℕ) (c : Cell) (n : ℕ) (es : List Entry) → (n ≡ p → ⊥) → agrees (set t p c) n es ≡ agrees t n es
agrees_elsewhere [] p c n es g = refl
agrees_elsewhere (d ∷ t) zero c zero es g = absurd (g refl)
agrees_elsewhere (d ∷ t) zero c (suc n) es g = refl
agrees_elsewhere (d ∷ t) (suc p) c zero es g = refl
agrees_elsewhere (d ∷ t) (suc p) c (suc n) es g = agrees_elsewhere t p c n es (λ e. g (ap suc e))

pub agree_elsewhere : (t : Table) (p : ℕ) (c : Cell) (es : List Edge) → Away p es → agree (set t p c) es ≡ agree t es
agree_elsewhere t p c [] a = refl
agree_elsewhere t p c (e ∷ es) a =
    ap (λ b. b && others e es && agree (set t p c) es) (agrees_elsewhere t p c e.to e.at.entries a.0)
    ∙ ap (λ b. agrees t e.to e.at.entries && others e es && b) (agree_elsewhere t p c es a.1)

at_elsewhere : (t : Table) (p : ℕ) (c : Cell) (n : ℕ) → (n ≡ p → ⊥) → at (set t p c) n ≡ at t n
at_elsewhere [] p c n g = refl
at_elsewhere (d ∷ t) zero c zero g = absurd (g refl)
at_elsewhere (d ∷ t) zero c (suc n) g = refl
at_elsewhere (d ∷ t) (suc p) c zero g = refl
at_elsewhere (d ∷ t) (suc p) c (suc n) g = at_elsewhere t p c n (λ e. g (ap suc e))

pub outside_elsewhere : (o : Option Span) (t : Table) (p : ℕ) (c : Cell) (es : List Edge) → Away p es → EachOutside o (at t) es → EachOutside o (at (set t p c)) es
outside_elsewhere o t p c [] a h = tt
outside_elsewhere o t p c (e ∷ es) a h = (subst (Outside o e.at) (sym (at_elsewhere t p c e.to a.0)) h.0, outside_elsewhere o t p c es a.1 h.1)

set_twice : (t : Table) (p : ℕ) (c d : Cell) → set (set t p c) p d ≡ set t p d
set_twice [] p c d = refl
set_twice (e ∷ t) zero c d = refl
set_twice (e ∷ t) (suc p) c d = ap (λ z. e ∷ z) (set_twice t p c d)

done_set : (t : Table) (p : ℕ) (x : At) → done_at t p x ≡ set t p (Done x)
done_set [] p x = refl
done_set (c ∷ t) zero x = refl
done_set (c ∷ t) (suc p) x = ap (λ z. c ∷ z) (done_set t p x)

long_set : (t : Table) (p : ℕ) (c : Cell) → length (set t p c) ≡ length t
long_set [] p c = refl
long_set (d ∷ t) zero c = refl
long_set (d ∷ t) (suc p) c = ap suc (long_set t p c)

at_set : (t : Table) (p : ℕ) (x : At) → p < length t → at (filled t p x) p ≡ Some x
at_set [] p x lt = absurd (omega (arith, lt))
at_set (c ∷ t) zero x lt = refl
at_set (c ∷ t) (suc p) x lt = at_set t p x (omega (arith, lt))

-- The queue and the changes.

pending_hole : (t : Table) (p : ℕ) (x : At) (q : ℕ) (y : At) → IsPending (without t p) q y → IsPending (done_at t p x) q y
pending_hole [] p x q y h = h
pending_hole (c ∷ t) zero x q y (later h) = later h
pending_hole (c ∷ t) (suc p) x q y here = here
pending_hole (c ∷ t) (suc p) x q y (later {p = r} h) = later (pending_hole t p x r y h)

pending_filled : (u : Table) (p : ℕ) (x : At) (q : ℕ) (y : At) → IsPending (filled u p x) q y → IsPending u q y
pending_filled [] p x q y h = h
pending_filled (c ∷ u) zero x q y (later h) = later h
pending_filled (c ∷ u) (suc p) x q y here = here
pending_filled (c ∷ u) (suc p) x q y (later {p = r} h) = later (pending_filled u p x r y h)

pub queued_hole : (t u : Table) (p : ℕ) (x : At) (xs : List (Reverse ℕ)) → u ≡ without t p → Queued (done_at t p x) xs → Queued u xs
queued_hole t u p x xs uw q = subst (λ z. Queued z xs) (sym uw) (record { ordered = q.ordered; each = λ r y w. q.each r y (pending_hole t p x r y w) })

queued_filled : (u : Table) (p : ℕ) (x : At) (xs : List (Reverse ℕ)) → Queued u xs → Queued (filled u p x) xs
queued_filled u p x xs q = record { ordered = q.ordered; each = λ r y w. q.each r y (pending_filled u p x r y w) }

pub since_hole : (old : Assigned) (t u : Table) (p : ℕ) (ch new : List (Option Span)) → u ≡ without t p → ((s : Span) → slice_get new p ≡ Some (Some s) → ⊥) → Elsewhere ch new p → Since old (at t) ch → Since old (at u) new
since_hole old t u p ch new uw none o h = subst (λ z. Since old (at z) new) (sym uw) (record { each = λ q s is. by_place q s is (nat_decides q p) })
  where
    by_place : (q : ℕ) (s : Span) → slice_get new q ≡ Some (Some s) → (q ≡ p) ⊎ (q ≡ p → ⊥) → Changed old (at (without t p)) q s
    by_place q s is (inl g) = absurd (none s (subst (λ z. slice_get new z ≡ Some (Some s)) g is))
    by_place q s is (inr g) = changed_at old (at t) (at (without t p)) q s (at_elsewhere t p Unseen q g) (h.each q s (sym (o q g) ∙ is))

since_filled : (old : Assigned) (u : Table) (p : ℕ) (x : At) (ch new : List (Option Span)) → p < length u → Elsewhere ch new p → Since old (at u) ch → Since (updated old p x) (at (filled u p x)) new
since_filled old u p x ch new lt o h = record { each = λ q s is. by_place q s is (nat_decides q p) }
  where
    by_place : (q : ℕ) (s : Span) → slice_get new q ≡ Some (Some s) → (q ≡ p) ⊎ (q ≡ p → ⊥) → Changed (updated old p x) (at (filled u p x)) q s
    by_place q s is (inl g) = subst (λ z. Changed (updated old p x) (at (filled u p x)) z s) (sym g) (record {
      before = x;
      was = updated_here old p x;
      now = record { now = x; is = at_set u p x lt; slots = same_refl s x.slots; entries = refl };
    })
    by_place q s is (inr g) =
        let c = changed_at old (at u) (at (filled u p x)) q s (at_elsewhere u p (Done x) q g) (h.each q s (sym (o q g) ∙ is)) in
        record { before = c.before; was = updated_there old p x q g ∙ c.was; now = c.now }

-- A visit with the position out of the table.

abbrev pub fill_visit : ℕ → At → Visit → Visit
fill_visit p x (Bad r) = Bad r
fill_visit p x (Good u) = Good (filled u p x)

fill_put : (p : ℕ) (x : At) (o : Option Table) → after_put true true (option_map (λ u. filled u p x) o) ≡ fill_visit p x (after_put true true o)
fill_put p x None = refl
fill_put p x (Some u) = refl

fill_of : {A : Type 0} → (p : ℕ) (x : At) (r : Result A Rule) (left last : List State) → table_of last ≡ filled (table_of left) p x → visit_of r last ≡ fill_visit p x (visit_of r left)
fill_of p x (Ok a) left last e = ap Good e
fill_of p x (Err k) left last e = refl

passed_visit : (code : Code) (t : Table) (p : ℕ) (x : At) (i : Action) (s : Span) → slice_get code.actions p ≡ Some i → Passes code t p x i s → after_put true true (put_next (edges code i p x) (Some (done_at t p x))) ≡ visit code t p x
passed_visit code t p x i s is h =
    visit_at code t p x i true true true true (edges code i p x) is (sym (and_from (holds code i p (length x.slots) x.entries) (agree t (edges code i p x)) h.still.handlers h.still.meets)) (sym h.height) (sym h.still.state) (sym h.still.falls) refl

-- the position is back, and it was visited
pub filled_visit : {A : Type 0} → (code : Code) (t u : Table) (p : ℕ) (x y : At) (i : Action) (s : Span) (es : List Edge) (r : Result A Rule) (left last : List State) → slice_get code.actions p ≡ Some i → Passes code t p x i s → u ≡ without t p → y ≡ x → es ≡ edges code i p y → visit_of r left ≡ after_put true true (put_next es (Some u)) → table_of last ≡ filled (table_of left) p y → visit_of r last ≡ visit code t p x
filled_visit code t u p x y i s es r left last is h uw yx e v f =
    fill_of p x r left last (f ∙ ap (filled (table_of left) p) yx)
    ∙ ap (fill_visit p x) v
    ∙ ap (λ z. fill_visit p x (after_put true true (put_next es (Some z)))) uw
    ∙ ap (λ z. fill_visit p x (after_put true true (put_next z (Some (without t p))))) (e ∙ ap (edges code i p) yx)
    ∙ sym (fill_put p x (put_next (edges code i p x) (Some (without t p))))
    ∙ ap (after_put true true) (sym (next_elsewhere (edges code i p x) p (Done x) (Some (without t p)) h.away))
    ∙ ap (λ z. after_put true true (put_next (edges code i p x) (Some z))) (set_twice t p Unseen (Done x) ∙ sym (done_set t p x))
    ∙ passed_visit code t p x i s is h

-- its edges may arrive while it is out of the table
pub left_agree : (code : Code) (t u : Table) (p : ℕ) (x y : At) (i : Action) (s : Span) (es : List Edge) → Passes code t p x i s → u ≡ without t p → y ≡ x → es ≡ edges code i p y → agree u es ≡ true
left_agree code t u p x y i s es h uw yx e =
    ap (λ z. agree z es) uw
    ∙ ap (agree (without t p)) (e ∙ ap (edges code i p) yx)
    ∙ agree_elsewhere t p Unseen (edges code i p x) h.away
    ∙ h.still.meets

pub left_outside : (code : Code) (t u : Table) (p : ℕ) (x y : At) (i : Action) (s : Span) (es : List Edge) → Passes code t p x i s → u ≡ without t p → y ≡ x → es ≡ edges code i p y → EachOutside (Some s) (at u) es
left_outside code t u p x y i s es h uw yx e =
    subst (λ z. EachOutside (Some s) (at z) es) (sym uw)
    (subst (EachOutside (Some s) (at (without t p))) (sym (e ∙ ap (edges code i p) yx)) (outside_elsewhere (Some s) t p Unseen (edges code i p x) h.away h.still.outside))

good_is : (u : Table) (o : Option Table) → Good u ≡ after_put true true o → Some u ≡ o
good_is u None e = cc
good_is u (Some v) e = ap Some (good_same u v e)
  where
    good_same : (a b : Table) → Good a ≡ Good b → a ≡ b
    good_same a b e = cc

left_long : (es : List Edge) (t u : Table) (p : ℕ) (v : Table) → p < length t → u ≡ without t p → Good v ≡ after_put true true (put_next es (Some u)) → p < length v
left_long es t u p v lt uw e =
    let m : PutsAll u es v = on_at (put_next es (Some u)) (PutsAll u es) v (sym (good_is v (put_next es (Some u)) e)) (puts_all es u) in
    let l = m.long in
    let k = ap length uw ∙ long_set t p Unseen in
    omega (arith, lt, l, k)

pub filled_since : {A : Type 0} → (old : Assigned) (t u : Table) (p : ℕ) (x y : At) (es : List Edge) (r : Result A Rule) (left last : List State) (ch new : List (Option Span)) → p < length t → u ≡ without t p → y ≡ x → visit_of r left ≡ after_put true true (put_next es (Some u)) → table_of last ≡ filled (table_of left) p y → Elsewhere ch new p → OnOk r (Since old (at (table_of left)) ch) → OnOk r (Since (updated old p x) (at (table_of last)) new)
filled_since old t u p x y es (Err k) left last ch new lt uw yx v f o h = tt
filled_since old t u p x y es (Ok a) left last ch new lt uw yx v f o h =
    subst (λ z. Since (updated old p x) (at z) new) (sym (f ∙ ap (filled (table_of left) p) yx)) (since_filled old (table_of left) p x ch new (left_long es t u p (table_of left) lt uw v) o h)

pub filled_queued : {A : Type 0} → (p : ℕ) (y : At) (r : Result A Rule) (left last : List State) (xs : List (Reverse ℕ)) → table_of last ≡ filled (table_of left) p y → OnOk r (Queued (table_of left) xs) → OnOk r (Queued (table_of last) xs)
filled_queued p y (Err k) left last xs f h = tt
filled_queued p y (Ok a) left last xs f h = subst (λ z. Queued z xs) (sym f) (queued_filled (table_of left) p y xs h)

pub actions_long : (c : RustCode) (size : ℕ) → size ≡ length c.items.items → length (code_of c).actions ≡ size
actions_long c size e = length-map c.items.items (action (length c.items.items)) ∙ sym e

-- Edges that may be there or not.

abbrev pub one_of : Option RustEdge → List Edge
one_of o = map edge_of_rust (option_list o)

pub next_nil : (o : Option Table) → put_next [] o ≡ o
next_nil None = refl
next_nil (Some t) = refl

none_some : {A : Type 0} → (x : A) → None ≡ Some x → ⊥
none_some x e = cc

pub next_past : (t u : Table) (o : Option RustEdge) (bs : List Edge) → Some u ≡ put_next (one_of o) (Some t) → put_next (one_of o ++ bs) (Some t) ≡ put_next bs (Some u)
next_past t u None bs e = ap (put_next bs) (sym e)
next_past t u (Some f) bs e = ap (put_next bs) (sym (e ∙ next_nil (put t f.to (edge_of_rust f).at)))

pub next_stop : (t : Table) (o : Option RustEdge) (bs : List Edge) → None ≡ put_next (one_of o) (Some t) → None ≡ put_next (one_of o ++ bs) (Some t)
next_stop t None bs e = absurd (none_some t e)
next_stop t (Some f) bs e = ap (put_next bs) (e ∙ next_nil (put t f.to (edge_of_rust f).at))

pub agree_one : (t : Table) (o : Option RustEdge) (bs : List Edge) → agree t (one_of o ++ bs) ≡ true → agree t (one_of o) ≡ true
agree_one t None bs h = refl
agree_one t (Some f) bs h = and_from (agrees t f.to (edge_of_rust f).at.entries && true) true (and_from (agrees t f.to (edge_of_rust f).at.entries) true (agree_first t (edge_of_rust f) bs h) refl) refl

pub agree_past : (t u : Table) (o : Option RustEdge) (bs : List Edge) → Some u ≡ put_next (one_of o) (Some t) → agree t (one_of o ++ bs) ≡ true → agree u bs ≡ true
agree_past t u None bs e h = subst (λ z. agree z bs ≡ true) (sym (some_is u t e)) h
agree_past t u (Some f) bs e h = agree_rest t u (edge_of_rust f) bs (e ∙ next_nil (put t f.to (edge_of_rust f).at)) h

pub outside_one : (s : Option Span) (a : Assigned) (o : Option RustEdge) (bs : List Edge) → EachOutside s a (one_of o ++ bs) → EachOutside s a (one_of o)
outside_one s a None bs h = tt
outside_one s a (Some f) bs h = (h.0, tt)

pub outside_past : (s : Option Span) (t u : Table) (o : Option RustEdge) (bs : List Edge) → Some u ≡ put_next (one_of o) (Some t) → EachOutside s (at t) (one_of o ++ bs) → EachOutside s (at u) bs
outside_past s t u None bs e h = subst (λ z. EachOutside s (at z) bs) (sym (some_is u t e)) h
outside_past s t u (Some f) bs e h = each_outside s (at t) (at u) bs (put_grows t u f.to (edge_of_rust f).at (e ∙ next_nil (put t f.to (edge_of_rust f).at))) h.1

pub away_both : (p : ℕ) (ks bs : List Edge) → Away p ks → Away p bs → Away p (ks ++ bs)
away_both p [] bs a b = b
away_both p (e ∷ ks) bs a b = (a.0, away_both p ks bs a.1 b)

map-both : {A B : Type 0} → (f : A → B) (ks bs : List A) → map f (ks ++ bs) ≡ map f ks ++ map f bs
map-both f [] bs = refl
map-both f (a ∷ ks) bs = ap (λ z. f a ∷ z) (map-both f ks bs)

end_nil : {A : Type 0} → (ks : List A) → ks ++ [] ≡ ks
end_nil [] = refl
end_nil (a ∷ ks) = ap (λ z. a ∷ z) (end_nil ks)

both_ways : {A : Type 0} → (ks bs cs : List A) → ks ++ (bs ++ cs) ≡ (ks ++ bs) ++ cs
both_ways [] bs cs = refl
both_ways (a ∷ ks) bs cs = ap (λ z. a ∷ z) (both_ways ks bs cs)

-- the edges, where no finally is run
pub edges_are : (code : Code) (i : Action) (p : ℕ) (x : At) (size : ℕ) (ks bs cs : List Edge) → length code.actions ≡ size → runs i (length x.entries) ≡ 0 → ks ≡ map (edge_of i x) (next_way (falls i && nat_lt (suc p) size) p (behind (change i) (length x.slots) x.entries)) → bs ≡ map (edge_of i x) (jump_way (target i) (behind (change i) (length x.slots) x.entries)) → cs ≡ map (edge_of i x) (raise_ways x.entries) → ks ++ (bs ++ cs) ≡ edges code i p x
unfolding ways
edges_are code i p x size ks bs cs long none a b c =
    let es = behind (change i) (length x.slots) x.entries in
    let nw = next_way (falls i && nat_lt (suc p) (length code.actions)) p es in
    let jw = jump_way (target i) es in
    let rw = raise_ways x.entries in
    let f = edge_of i x in
    ap (λ z. z ++ (bs ++ cs)) (a ∙ ap (λ n. map f (next_way (falls i && nat_lt (suc p) n) p es)) (sym long))
    ∙ ap (λ z. map f nw ++ (z ++ cs)) b
    ∙ ap (λ z. map f nw ++ (map f jw ++ z)) c
    ∙ ap (λ z. map f nw ++ z) (sym (map-both f jw rw))
    ∙ sym (map-both f nw (jw ++ rw))
    ∙ ap (map f) (both_ways nw jw rw)
    ∙ ap (map f) (sym (end_nil ((nw ++ jw) ++ rw)))
    ∙ ap (λ n. map f (((nw ++ jw) ++ rw) ++ run_ways n x.entries)) (sym none)

-- Changes in place.

pub none_set : (ch : List (Option Span)) (p : ℕ) (s : Span) → slice_get (set ch p None) p ≡ Some (Some s) → ⊥
none_set [] p s e = cc
none_set (c ∷ ch) zero s e = cc
none_set (c ∷ ch) (suc p) s e = none_set ch p s e

pub set_past : {A : Type 0} → (xs : List A) (p : ℕ) (x : A) → length xs ≤ p → set xs p x ≡ xs
set_past [] p x le = refl
set_past (y ∷ xs) zero x le = absurd (omega (arith, le))
set_past (y ∷ xs) (suc p) x le = ap (λ z. y ∷ z) (set_past xs p x (omega (arith, le)))

pub passed_good : (b : Bool) (states : List State) (o : Option Table) → b ≡ true → has_if b states ≡ o → Good (table_of states) ≡ after_put true true o
passed_good b states o e h = ap (after_put true true) (ap (λ z. has_if z states) (sym e) ∙ h)

pub passed_bad : (b : Bool) (states : List State) (o : Option Table) → b ≡ false → has_if b states ≡ o → Bad Height ≡ after_put true true o
passed_bad b states o e h = ap (after_put true true) (ap (λ z. has_if z states) (sym e) ∙ h)

pub none_run_at : (code : Code) (t : Table) (p : ℕ) (x y : At) (i : Action) (s : Span) → Passes code t p x i s → y ≡ x → runs i (length y.entries) ≡ 0
none_run_at code t p x y i s h e = ap (λ z. runs i (length z.entries)) e ∙ h.none_run

pub states_within : (t : Table) (p : ℕ) (x : At) → IsPending t p x → p < length t
states_within t p x w = pending_in t p x w

pub passes_are : (code : Code) (t : Table) (p : ℕ) (x y : At) (i : Action) (s : Span) (es : List Edge) → y ≡ x → StillHolds code t p y i s → finds i y ≡ true → runs i (length y.entries) ≡ 0 → es ≡ edges code i p y → Away p es → Passes code t p x i s
passes_are code t p x y i s es e still found none is away =
    subst (λ z. Passes code t p z i s) e (record { still = still; height = found; none_run = none; away = subst (Away p) is away })

pub leaving_are : (code : Code) (i : Action) (p : ℕ) (x : At) (size : ℕ) → length code.actions ≡ size → runs i (length x.entries) ≡ 0 → leaving i p size x ≡ edges code i p x
leaving_are code i p x size long none = edges_are code i p x size (going i p size x) (jumping i x) (raising i x) long none refl refl refl
