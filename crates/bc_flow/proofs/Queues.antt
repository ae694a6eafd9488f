-- The queue holds each pending position, and its top is the least of them.
use Rattle.std.proofs.Common.{◌≡◌, ◌⊎◌, ℕ, zero, suc, ◌≤◌, Bool, true, false, List, [], ◌∷◌, replicate, Some, None, refl, sym, ap, ◌∙◌, subst, arith, inl, inr}
use Rattle.std.specs.BinaryHeap.{IsHeap, IsUpperBound}
use Rattle.std.specs.Bool.{OnTrue}
use Rattle.std.specs.List.{Contains}
use Rattle.std.specs.List.Sorted.{IsPermutation}
use Rattle.std.specs.Ordering.{nat_cmp, is_lt}
use Rattle.std.specs.declared.cmp.Reverse.{Reverse}
use Rattle.std.proofs.lemmas.List.Elements.{All-contains, All-from_recursion}
use Rattle.std.proofs.lemmas.List.Sorted.{Contains-permutation}
use Rattle.bc_shapes.specs.Shape.{At}
use Rattle.bc_shapes.proofs.Joins.{on_at}
use Rattle.bc_flow.specs.Verified.{Cell, Unseen, Pending, Done, Table, put, done_at, table_at, IsPending, here, later, IsLeast}
use Rattle.bc_flow.specs.Queue.{by_position, Has, Queued}
use Rattle.bc_flow.proofs.Tables.{pending_get}
use Rattle.bc_flow.proofs.Fronts.{Adds, put_adds, done_before}

contains_cases : {A : Type 0} → (x y : A) (ys : List A) → Contains (x ∷ ys) y → (x ≡ y) ⊎ Contains ys y
contains_cases x y ys (zero, lt, e) = inl e
contains_cases x y ys (suc k, lt, e) = inr (k, omega (arith, lt), e)

contains_first : {A : Type 0} → (x : A) (ys : List A) → Contains (x ∷ ys) x
contains_first x ys = (zero, omega arith, refl)

contains_later : {A : Type 0} → (x y : A) (ys : List A) → Contains ys y → Contains (x ∷ ys) y
contains_later x y ys (k, lt, e) = (suc k, omega (arith, lt), e)

has_cases : (x : Reverse ℕ) (xs ys : List (Reverse ℕ)) (p : ℕ) → IsPermutation xs (x ∷ ys) → Has xs p → (x.0 ≡ p) ⊎ Has ys p
has_cases x xs ys p m h = elim (contains_cases x h.item ys (Contains-permutation xs (x ∷ ys) h.item m h.there)) [
  | inl e ↦ inl (ap (λ z. z.0) e ∙ h.is)
  | inr w ↦ inr (record { item = h.item; there = w; is = h.is })
]

-- what was pushed is there, and so is what was there
has_pushed : (x : Reverse ℕ) (xs ys : List (Reverse ℕ)) → IsPermutation (x ∷ xs) ys → Has ys x.0
has_pushed x xs ys m = record { item = x; there = Contains-permutation (x ∷ xs) ys x m (contains_first x xs); is = refl }

has_still : (x : Reverse ℕ) (xs ys : List (Reverse ℕ)) (p : ℕ) → IsPermutation (x ∷ xs) ys → Has xs p → Has ys p
has_still x xs ys p m h = record { item = h.item; there = Contains-permutation (x ∷ xs) ys h.item m (contains_later x h.item xs h.there); is = h.is }

-- an item that isn't pending is passed over
pub queued_skip : (t : Table) (x : Reverse ℕ) (xs ys : List (Reverse ℕ)) → IsHeap by_position ys → IsPermutation xs (x ∷ ys) → ((y : At) → IsPending t x.0 y → ⊥) → Queued t xs → Queued t ys
queued_skip t x xs ys o m f q = record {
  ordered = o;
  each = λ p y w. elim (has_cases x xs ys p m (q.each p y w)) [
    | inl e ↦ absurd (f y (subst (λ z. IsPending t z y) (sym e) w))
    | inr h ↦ h
  ];
}

at_most : (n m : ℕ) → is_lt (nat_cmp m n) ≡ false → n ≤ m
at_most n m e = grind (arith, e)

-- the top is the least
pub top_least : (t : Table) (x : Reverse ℕ) (xs : List (Reverse ℕ)) (y : At) → IsUpperBound by_position x xs → Queued t xs → IsPending t x.0 y → IsLeast t x.0 y
top_least t x xs y u q w = record {
  pending = w;
  least = λ p z v. let h = q.each p z v in
      let b = All-contains (λ i. is_lt (by_position x i) ≡ false) xs h.item (All-from_recursion (λ i. is_lt (by_position x i) ≡ false) xs u) h.there in
      subst (λ n. x.0 ≤ n) h.is (at_most x.0 h.item.0 b);
}

no_cell : (c : Cell) → None ≡ Some c → ⊥
no_cell c e = cc

not_pending : (x y : At) → Some (Done x) ≡ Some (Pending y) → ⊥
not_pending x y e = cc

not_unseen : (y : At) → Some Unseen ≡ Some (Pending y) → ⊥
not_unseen y e = cc

not_done : (t : Table) (p : ℕ) (x : At) (y : At) → IsPending (done_at t p x) p y → ⊥
not_done [] p x y w = no_cell (Pending y) (pending_get [] p y w)
not_done (c ∷ t) zero x y w = not_pending x y (pending_get (Done x ∷ t) zero y w)
not_done (c ∷ t) (suc p) x y (later w) = not_done t p x y w

-- once it is visited the others are queued
pub queued_done : (t : Table) (p : ℕ) (x : At) (i : Reverse ℕ) (xs ys : List (Reverse ℕ)) → i.0 ≡ p → IsHeap by_position ys → IsPermutation xs (i ∷ ys) → Queued t xs → Queued (done_at t p x) ys
queued_done t p x i xs ys e o m q = queued_skip (done_at t p x) i xs ys o m (λ y w. not_done t p x y (subst (λ z. IsPending (done_at t p x) z y) e w)) (record { ordered = q.ordered; each = λ n y w. q.each n y (done_before t p x n y w) })

-- what arrives somewhere makes no other position pending
put_with : (t u : Table) (n : ℕ) (x : At) (xs ys : List (Reverse ℕ)) → Some u ≡ put t n x → IsHeap by_position ys → ((p : ℕ) → Has xs p → Has ys p) → ((y : At) → IsPending u n y → Has ys n) → Queued t xs → Queued u ys
put_with t u n x xs ys e o f g q = record {
  ordered = o;
  each = λ p y w. elim (on_at (put t n x) (Adds t n) u (sym e) (put_adds t n x) p y w) [
    | inl h ↦ subst (λ z. Has ys z) (sym h) (g y (subst (λ z. IsPending u z y) h w))
    | inr v ↦ f p (q.each p y v)
  ];
}

pub put_queued : (t u : Table) (n : ℕ) (x : At) (i : Reverse ℕ) (xs ys : List (Reverse ℕ)) → Some u ≡ put t n x → i.0 ≡ n → IsHeap by_position ys → IsPermutation (i ∷ xs) ys → Queued t xs → Queued u ys
put_queued t u n x i xs ys e h o m q = put_with t u n x xs ys e o (λ p w. has_still i xs ys p m w) (λ y w. subst (Has ys) h (has_pushed i xs ys m)) q

pub put_was : (t u : Table) (n : ℕ) (x : At) (xs : List (Reverse ℕ)) → Some u ≡ put t n x → ((y : At) × IsPending t n y) → Queued t xs → Queued u xs
put_was t u n x xs e w q = put_with t u n x xs xs e q.ordered (λ p h. h) (λ y v. q.each n w.0 w.1) q

pub put_never : (t u : Table) (n : ℕ) (x : At) (xs : List (Reverse ℕ)) → Some u ≡ put t n x → ((y : At) → IsPending u n y → ⊥) → Queued t xs → Queued u xs
put_never t u n x xs e f q = put_with t u n x xs xs e q.ordered (λ p h. h) (λ y v. absurd (f y v)) q

pub start_queued : (i : Reverse ℕ) (n : ℕ) (xs ys : List (Reverse ℕ)) → i.0 ≡ 0 → IsHeap by_position ys → IsPermutation (i ∷ xs) ys → Queued (table_at n) ys
start_queued i n xs ys h o m = record { ordered = o; each = λ p y w. subst (Has ys) (h ∙ first n p y w) (has_pushed i xs ys m) }
  where
    unseen : (n p : ℕ) (y : At) → IsPending (replicate n Unseen) p y → ⊥
    unseen zero p y w = no_cell (Pending y) (pending_get [] p y w)
    unseen (suc n) zero y w = not_unseen y (pending_get (Unseen ∷ replicate n Unseen) zero y w)
    unseen (suc n) (suc p) y (later w) = unseen n p y w

    first : (n p : ℕ) (y : At) → IsPending (table_at n) p y → 0 ≡ p
    first zero p y w = absurd (no_cell (Pending y) (pending_get [] p y w))
    first (suc n) p y here = refl
    first (suc n) p y (later {p = r} w) = absurd (unseen n r y w)

pub on_true : (b : Bool) (P : Type 0) → b ≡ true → OnTrue b P → P
on_true b P e h = subst (λ z. OnTrue z P) e h
