-- Steps of the code's loops.
use Rattle.std.proofs.Common.{◌≡◌, ℕ, zero, suc, ◌+◌, ◌-◌, ◌<◌, ◌≤◌, Bool, true, false, ◌&&◌, List, [], ◌∷◌, ◌++◌, length, get_or, take, drop, map, replicate, refl, sym, ap, ◌∙◌, arith, if◌then◌else◌, append_assoc}
use Rattle.std.proofs.lemmas.List.{drop_more, drop_all, length-map, take_all}
use Rattle.bc_shapes.specs.declared.kinds.Kind.{Kind}
use Rattle.bc_shapes.specs.declared.kinds.Kind.TheVariants as kinds
use Rattle.bc_shapes.specs.declared.kinds.Give.{Give}
use Rattle.bc_shapes.specs.declared.kinds.Give.TheVariants.{New}
use Rattle.bc_shapes.specs.declared.shape.Entry.{Entry}
use Rattle.bc_shapes.specs.Shape.{At, give_of, after, same_entry, same_entries}
use Rattle.bc_shapes.proofs.Loops.{drop_uncons, at_rest}
use Rattle.bc_flow.specs.Action.{Action}
use Rattle.std.specs.Prelude.{nat_le, nat_lt, min}
use Rattle.bc_flow.specs.Edges.{Edge, rest_of, floor, is_marked, lowest, Way, way_in, raise_ways, one_run, run_ways, edges_marked, edge_of, all_marked, mark, pushed}

-- entries that arrive, with their marks
entries_step : (ds es : List Entry) (to i : ℕ) (e f : Entry) → i < length ds → i < length es → e ≡ mark to (get_or es i e) → same_entries (drop i ds) (map (mark to) (drop i es)) ≡ (same_entry (get_or ds i f) e && same_entries (drop (i + 1) ds) (map (mark to) (drop (i + 1) es)))
entries_step ds es to i e f a b q =
    ap (λ z. same_entries z (map (mark to) (drop i es))) (drop_more ds i f a)
    ∙ ap (λ z. same_entries (get_or ds i f ∷ drop (i + 1) ds) (map (mark to) z)) (drop_more es i e b)
    ∙ ap (λ z. same_entry (get_or ds i f) z && same_entries (drop (i + 1) ds) (map (mark to) (drop (i + 1) es))) (sym q)

arriving_step : (ds es : List Entry) (from to i : ℕ) (d e : Entry) → i < length ds → i < length es → d ≡ mark from (get_or ds i d) → e ≡ mark to (get_or es i e) → same_entries (map (mark from) (drop i ds)) (map (mark to) (drop i es)) ≡ (same_entry d e && same_entries (map (mark from) (drop (i + 1) ds)) (map (mark to) (drop (i + 1) es)))
arriving_step ds es from to i d e a b p q =
    ap (λ z. same_entries (map (mark from) z) (map (mark to) (drop i es))) (drop_more ds i d a)
    ∙ ap (λ z. same_entries (mark from (get_or ds i d) ∷ map (mark from) (drop (i + 1) ds)) (map (mark to) z)) (drop_more es i e b)
    ∙ ap (λ z. same_entry z (mark to (get_or es i e)) && same_entries (map (mark from) (drop (i + 1) ds)) (map (mark to) (drop (i + 1) es))) (sym p)
    ∙ ap (λ z. same_entry d z && same_entries (map (mark from) (drop (i + 1) ds)) (map (mark to) (drop (i + 1) es))) (sym q)

and_on : (r a b : Bool) → r ≡ a → r ≡ true → (a && b) ≡ b
and_on r a b e t = ap (λ z. z && b) (sym e ∙ t)

and_off : (r a b : Bool) → r ≡ a → r ≡ false → (a && b) ≡ false
and_off r a b e t = ap (λ z. z && b) (sym e ∙ t)

pub entries_on : (ds es : List Entry) (to i : ℕ) (e f : Entry) (r : Bool) → i < length ds → i < length es → e ≡ mark to (get_or es i e) → r ≡ same_entry (get_or ds i f) e → r ≡ true → same_entries (drop i ds) (map (mark to) (drop i es)) ≡ same_entries (drop (i + 1) ds) (map (mark to) (drop (i + 1) es))
entries_on ds es to i e f r a b q s t = entries_step ds es to i e f a b q ∙ and_on r _ _ s t

pub entries_off : (ds es : List Entry) (to i : ℕ) (e f : Entry) (r : Bool) → i < length ds → i < length es → e ≡ mark to (get_or es i e) → r ≡ same_entry (get_or ds i f) e → r ≡ false → same_entries (drop i ds) (map (mark to) (drop i es)) ≡ false
entries_off ds es to i e f r a b q s t = entries_step ds es to i e f a b q ∙ and_off r _ _ s t

pub arriving_on : (ds es : List Entry) (from to i : ℕ) (d e : Entry) (r : Bool) → i < length ds → i < length es → d ≡ mark from (get_or ds i d) → e ≡ mark to (get_or es i e) → r ≡ same_entry d e → r ≡ true → same_entries (map (mark from) (drop i ds)) (map (mark to) (drop i es)) ≡ same_entries (map (mark from) (drop (i + 1) ds)) (map (mark to) (drop (i + 1) es))
arriving_on ds es from to i d e r a b p q s t = arriving_step ds es from to i d e a b p q ∙ and_on r _ _ s t

pub arriving_off : (ds es : List Entry) (from to i : ℕ) (d e : Entry) (r : Bool) → i < length ds → i < length es → d ≡ mark from (get_or ds i d) → e ≡ mark to (get_or es i e) → r ≡ same_entry d e → r ≡ false → same_entries (map (mark from) (drop i ds)) (map (mark to) (drop i es)) ≡ false
arriving_off ds es from to i d e r a b p q s t = arriving_step ds es from to i d e a b p q ∙ and_off r _ _ s t

pub entries_end : (ds es : List Entry) (to i : ℕ) → length ds ≤ i → length es ≤ i → same_entries (drop i ds) (map (mark to) (drop i es)) ≡ true
entries_end ds es to i a b = ap (λ z. same_entries z (map (mark to) (drop i es))) (drop_all i ds a) ∙ ap (λ z. same_entries [] (map (mark to) z)) (drop_all i es b)

pub arriving_end : (ds es : List Entry) (from to i : ℕ) → length ds ≤ i → length es ≤ i → same_entries (map (mark from) (drop i ds)) (map (mark to) (drop i es)) ≡ true
arriving_end ds es from to i a b = ap (λ z. same_entries (map (mark from) z) (map (mark to) (drop i es))) (drop_all i ds a) ∙ ap (λ z. same_entries [] (map (mark to) z)) (drop_all i es b)

unlike : (ds es : List Entry) → (length ds ≡ length es → ⊥) → false ≡ same_entries ds es
unlike [] [] f = absurd (f refl)
unlike [] (e ∷ es) f = refl
unlike (d ∷ ds) [] f = refl
unlike (d ∷ ds) (e ∷ es) f = sym (and_false (same_entry d e) (same_entries ds es) (sym (unlike ds es (λ p. f (ap suc p)))))
  where
    and_false : (a b : Bool) → b ≡ false → (a && b) ≡ false
    and_false true b h = h
    and_false false b h = refl

pub entries_differ : (ds es : List Entry) (to : ℕ) → (length ds ≡ length es → ⊥) → false ≡ same_entries ds (map (mark to) es)
entries_differ ds es to f = unlike ds (map (mark to) es) (λ h. f (h ∙ length-map es (mark to)))

pub arriving_differ : (ds es : List Entry) (from to : ℕ) → (length ds ≡ length es → ⊥) → false ≡ same_entries (map (mark from) ds) (map (mark to) es)
arriving_differ ds es from to f = unlike (map (mark from) ds) (map (mark to) es) (λ h. f (sym (length-map ds (mark from)) ∙ h ∙ length-map es (mark to)))

marked_step : (to : ℕ) (es : List Entry) (i : ℕ) (e : Entry) → i < length es → e ≡ mark to (get_or es i e) → is_marked to (map (mark to) (drop i es)) ≡ ((if e.active then nat_le e.handler to else nat_lt to e.handler) && is_marked to (map (mark to) (drop (i + 1) es)))
marked_step to es i e lt h =
    ap (λ z. is_marked to (map (mark to) z)) (drop_more es i e lt)
    ∙ ap (λ z. (if z.active then nat_le z.handler to else nat_lt to z.handler) && is_marked to (map (mark to) (drop (i + 1) es))) (sym h)

pub marked_on : (to : ℕ) (es : List Entry) (i : ℕ) (e : Entry) (r : Bool) → i < length es → e ≡ mark to (get_or es i e) → r ≡ (if e.active then nat_le e.handler to else nat_lt to e.handler) → r ≡ true → is_marked to (map (mark to) (drop i es)) ≡ is_marked to (map (mark to) (drop (i + 1) es))
marked_on to es i e r lt h s t = marked_step to es i e lt h ∙ and_on r _ _ s t

pub marked_off : (to : ℕ) (es : List Entry) (i : ℕ) (e : Entry) (r : Bool) → i < length es → e ≡ mark to (get_or es i e) → r ≡ (if e.active then nat_le e.handler to else nat_lt to e.handler) → r ≡ false → is_marked to (map (mark to) (drop i es)) ≡ false
marked_off to es i e r lt h s t = marked_step to es i e lt h ∙ and_off r _ _ s t

pub marked_end : (to : ℕ) (es : List Entry) (i : ℕ) → length es ≤ i → is_marked to (map (mark to) (drop i es)) ≡ true
marked_end to es i le = ap (λ z. is_marked to (map (mark to) z)) (drop_all i es le)

pub mark_more : (to : ℕ) (es : List Entry) (i : ℕ) (e : Entry) → i < length es → e ≡ mark to (get_or es i e) → map (mark to) (take i es) ++ e ∷ [] ≡ map (mark to) (take (i + 1) es)
mark_more to [] i e lt h = absurd (omega (arith, lt))
mark_more to (d ∷ es) zero e lt h = ap (λ z. z ∷ []) h ∙ ap (λ n. map (mark to) (take n (d ∷ es))) (let q : 1 ≡ zero + 1 = omega arith in q)
mark_more to (d ∷ es) (suc i) e lt h =
    ap (λ z. mark to d ∷ z) (mark_more to es i e (omega (arith, lt)) h)
    ∙ ap (λ n. map (mark to) (take n (d ∷ es))) (let q : suc (i + 1) ≡ suc i + 1 = omega arith in q)

pub mark_all : (to : ℕ) (es : List Entry) (i : ℕ) → length es ≤ i → map (mark to) (take i es) ≡ map (mark to) es
mark_all to es i le = ap (map (mark to)) (take_all i es le)

pub at_cons : {A : Type 0} → (y : A) (xs : List A) (i : ℕ) (x d : A) → i < length (y ∷ xs) → (i ≡ 0 → ⊥) → x ≡ get_or xs (i - 1) x → x ≡ get_or (y ∷ xs) i d
at_cons y xs zero x d lt f e = absurd (f refl)
at_cons y xs (suc i) x d lt f e = at_rest xs i x d (omega (arith, lt)) (e ∙ ap (λ j. get_or xs j x) (let q : suc i - 1 ≡ i = omega arith in q))

pub lowest_end : (k n : ℕ) (es : List Entry) (i : ℕ) → length es ≤ i → lowest k (drop i es) n ≡ n
lowest_end zero n es i h = refl
lowest_end (suc k) n [] zero h = refl
lowest_end (suc k) n [] (suc i) h = refl
lowest_end (suc k) n (e ∷ es) zero h = absurd (omega (arith, h))
lowest_end (suc k) n (e ∷ es) (suc i) h = lowest_end (suc k) n es i (omega (arith, h))

pub raise_step : (es : List Entry) (i : ℕ) (e : Entry) → i < length es → e ≡ get_or es i e → raise_ways (drop i es) ≡ (if e.active then raise_ways (drop (i + 1) es) else (way_in e (drop (i + 1) es) ∷ []))
raise_step es i e lt h = ap raise_ways (drop_uncons es i e lt h)

pub runs_end : (k : ℕ) (es : List Entry) (i : ℕ) → length es ≤ i → run_ways k (drop i es) ≡ []
runs_end zero es i h = refl
runs_end (suc k) [] zero h = refl
runs_end (suc k) [] (suc i) h = refl
runs_end (suc k) (e ∷ es) zero h = absurd (omega (arith, h))
runs_end (suc k) (e ∷ es) (suc i) h = runs_end (suc k) es i (omega (arith, h))

pub rest_drop : (es : List Entry) → drop 1 es ≡ rest_of es
rest_drop [] = refl
rest_drop (e ∷ es) = refl

pub floor_at : (es : List Entry) (n : ℕ) (e : Entry) → n < length es → e ≡ get_or es n e → floor (drop n es) ≡ e.height
floor_at es n e lt h = ap floor (drop_uncons es n e lt h)

pub floor_past : (es : List Entry) (n : ℕ) → length es ≤ n → floor (drop n es) ≡ 0
floor_past es n h = ap floor (drop_all n es h)

pub lowest_more : (k i n m : ℕ) (es : List Entry) (d : Entry) → i < length es → i < k → m ≡ min (get_or es i d).height n → lowest (k - i) (drop i es) n ≡ lowest (k - (i + 1)) (drop (i + 1) es) m
lowest_more k i n m es d lt lk h = ap (λ z. lowest (k - i) z n) (drop_more es i d lt) ∙ ap (λ j. lowest j (get_or es i d ∷ drop (i + 1) es) n) (let q : k - i ≡ suc (k - (i + 1)) = omega arith in q) ∙ ap (lowest (k - (i + 1)) (drop (i + 1) es)) (sym h)

-- the marks of edges are those of their ways
pub marks_are : (a : Action) (x : At) (ws : List Way) → edges_marked (map (edge_of a x) ws) ≡ all_marked ws
marks_are a x [] = refl
marks_are a x (w ∷ ws) = ap (λ z. is_marked w.to w.entries && z) (marks_are a x ws)

pub pushed_is : (last : Bool) (gs : List Give) (ks : List Kind) → gs ≡ (if last then New kinds.Cause ∷ [] else New kinds.Either ∷ []) → after (replicate 0 (New kinds.Value) ++ gs) 0 ks ≡ pushed last ks
pushed_is true gs ks e = ap (λ z. map (give_of ks) z ++ ks) e
pushed_is false gs ks e = ap (λ z. map (give_of ks) z ++ ks) e

map_append : {A B : Type 0} → (f : A → B) (xs ys : List A) → map f (xs ++ ys) ≡ map f xs ++ map f ys
map_append f [] ys = refl
map_append f (x ∷ xs) ys = ap (λ z. f x ∷ z) (map_append f xs ys)

-- the edges of one more entry
pub run_edges_more : (f : Way → Edge) (ws vs : List Edge) (k i : ℕ) (es bs : List Entry) (d : Entry) → i < length es → i < k → bs ≡ drop (i + 1) es → vs ≡ ws ++ map f (one_run (get_or es i d) bs) → vs ++ map f (run_ways (k - (i + 1)) (drop (i + 1) es)) ≡ ws ++ map f (run_ways (k - i) (drop i es))
run_edges_more f ws vs k i es bs d lt lk b q =
    let n : k - i ≡ suc (k - (i + 1)) = omega arith in
    ap (λ z. z ++ map f (run_ways (k - (i + 1)) (drop (i + 1) es))) (q ∙ ap (λ z. ws ++ map f (one_run (get_or es i d) z)) b)
    ∙ append_assoc ws (map f (one_run (get_or es i d) (drop (i + 1) es))) (map f (run_ways (k - (i + 1)) (drop (i + 1) es)))
    ∙ ap (λ z. ws ++ z) (sym (map_append f (one_run (get_or es i d) (drop (i + 1) es)) (run_ways (k - (i + 1)) (drop (i + 1) es))))
    ∙ ap (λ z. ws ++ map f z) (sym (ap (λ z. run_ways (k - i) z) (drop_more es i d lt) ∙ ap (λ m. run_ways m (get_or es i d ∷ drop (i + 1) es)) n))
