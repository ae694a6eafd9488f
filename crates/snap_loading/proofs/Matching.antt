-- The objects of one heap matched with those of another in their order, and the other cells with the other cells in theirs.
use Rattle.std.proofs.Common.{◌≡◌, ℕ, zero, suc, ◌+◌, ◌-◌, ◌<◌, ◌≤◌, Bool, true, false, List, [], ◌∷◌, length, take, Option, Some, None, slice_get, refl, sym, ap, ◌∙◌, arith}
use Rattle.std.specs.Prelude.{is_some, filter}
use Rattle.std.specs.List.{filter_map}
use Rattle.std.specs.Option.{option_map}
use Rattle.std.proofs.lemmas.Bool.{true≢false}
use Rattle.mpy_base.specs.World.{Object, object}
use Rattle.snap_laws.specs.Renamed.{Renaming}

-- a choice
-- ========

abbrev choose : Bool → ℕ → ℕ → ℕ
choose true x y = x
choose false x y = y

module _ {V N : Type 0} where
  -- is there an object at the cell
  abbrev pub has : List (Option (Object V N)) → ℕ → Bool
  has xs n = is_some (object xs n)

  -- how many objects begin in front of a cell, and how many there are
  abbrev pub before : List (Option (Object V N)) → ℕ → ℕ
  before [] n = 0
  before (Some x ∷ xs) zero = 0
  before (Some x ∷ xs) (suc n) = suc (before xs n)
  before (None ∷ xs) zero = 0
  before (None ∷ xs) (suc n) = before xs n

  abbrev pub count : List (Option (Object V N)) → ℕ
  count [] = 0
  count (Some x ∷ xs) = suc (count xs)
  count (None ∷ xs) = count xs

  -- the cell of the object of a place, and the cell of no object that has so many such in front of it. The cells go on without end
  abbrev pub object_cell : List (Option (Object V N)) → ℕ → ℕ
  object_cell [] k = k
  object_cell (Some x ∷ xs) zero = 0
  object_cell (Some x ∷ xs) (suc k) = suc (object_cell xs k)
  object_cell (None ∷ xs) k = suc (object_cell xs k)

  abbrev pub blank_cell : List (Option (Object V N)) → ℕ → ℕ
  blank_cell [] k = k
  blank_cell (Some x ∷ xs) k = suc (blank_cell xs k)
  blank_cell (None ∷ xs) zero = 0
  blank_cell (None ∷ xs) (suc k) = suc (blank_cell xs k)

  -- one heap
  -- ========

  before_low : (xs : List (Option (Object V N))) (n : ℕ) → before xs n ≤ n
  before_low [] n = omega arith
  before_low (Some x ∷ xs) zero = omega arith
  before_low (None ∷ xs) zero = omega arith
  before_low (Some x ∷ xs) (suc n) = let a = before_low xs n in omega (arith, a)
  before_low (None ∷ xs) (suc n) = let a = before_low xs n in omega (arith, a)

  pub object_has : (xs : List (Option (Object V N))) (k : ℕ) → k < count xs → has xs (object_cell xs k) ≡ true
  object_has [] k lt = absurd (omega (arith, lt))
  object_has (Some x ∷ xs) zero lt = refl
  object_has (Some x ∷ xs) (suc k) lt = object_has xs k (omega (arith, lt))
  object_has (None ∷ xs) k lt = object_has xs k (omega (arith, lt))

  pub object_before : (xs : List (Option (Object V N))) (k : ℕ) → k < count xs → before xs (object_cell xs k) ≡ k
  object_before [] k lt = absurd (omega (arith, lt))
  object_before (Some x ∷ xs) zero lt = refl
  object_before (Some x ∷ xs) (suc k) lt = let a = object_before xs k (omega (arith, lt)) in omega (arith, a)
  object_before (None ∷ xs) k lt = object_before xs k (omega (arith, lt))

  pub blank_has : (xs : List (Option (Object V N))) (k : ℕ) → has xs (blank_cell xs k) ≡ false
  blank_has [] k = refl
  blank_has (Some x ∷ xs) k = blank_has xs k
  blank_has (None ∷ xs) zero = refl
  blank_has (None ∷ xs) (suc k) = blank_has xs k

  blank_before : (xs : List (Option (Object V N))) (k : ℕ) → blank_cell xs k ≡ k + before xs (blank_cell xs k)
  blank_before [] k = omega arith
  blank_before (Some x ∷ xs) k = let a = blank_before xs k in omega (arith, a)
  blank_before (None ∷ xs) zero = refl
  blank_before (None ∷ xs) (suc k) = let a = blank_before xs k in omega (arith, a)

  pub object_back : (xs : List (Option (Object V N))) (n : ℕ) → has xs n ≡ true → object_cell xs (before xs n) ≡ n
  object_back [] n e = absurd (true≢false (sym e))
  object_back (Some x ∷ xs) zero e = refl
  object_back (None ∷ xs) zero e = absurd (true≢false (sym e))
  object_back (Some x ∷ xs) (suc n) e = ap suc (object_back xs n e)
  object_back (None ∷ xs) (suc n) e = ap suc (object_back xs n e)

  pub before_count : (xs : List (Option (Object V N))) (n : ℕ) → has xs n ≡ true → before xs n < count xs
  before_count [] n e = absurd (true≢false (sym e))
  before_count (Some x ∷ xs) zero e = omega arith
  before_count (None ∷ xs) zero e = absurd (true≢false (sym e))
  before_count (Some x ∷ xs) (suc n) e = let a = before_count xs n e in omega (arith, a)
  before_count (None ∷ xs) (suc n) e = before_count xs n e

  blank_back : (xs : List (Option (Object V N))) (n k : ℕ) → has xs n ≡ false → n ≡ k + before xs n → blank_cell xs k ≡ n
  blank_back [] n k e same = omega (arith, same)
  blank_back (Some x ∷ xs) zero k e same = absurd (true≢false e)
  blank_back (None ∷ xs) zero zero e same = refl
  blank_back (None ∷ xs) zero (suc k) e same = absurd (omega (arith, same))
  blank_back (Some x ∷ xs) (suc n) k e same = ap suc (blank_back xs n k e (omega (arith, same)))
  blank_back (None ∷ xs) (suc n) zero e same = absurd (let a = before_low xs n in omega (arith, same, a))
  blank_back (None ∷ xs) (suc n) (suc k) e same = ap suc (blank_back xs n k e (omega (arith, same)))

  past_has : (xs : List (Option (Object V N))) (n : ℕ) → length xs ≤ n → has xs n ≡ false
  past_has [] n le = refl
  past_has (x ∷ xs) zero le = absurd (omega (arith, le))
  past_has (x ∷ xs) (suc n) le = past_has xs n (omega (arith, le))

  past_before : (xs : List (Option (Object V N))) (n : ℕ) → length xs ≤ n → before xs n ≡ count xs
  past_before [] n le = refl
  past_before (x ∷ xs) zero le = absurd (omega (arith, le))
  past_before (Some x ∷ xs) (suc n) le = ap suc (past_before xs n (omega (arith, le)))
  past_before (None ∷ xs) (suc n) le = past_before xs n (omega (arith, le))

  -- the place of a cell is what stands in front of it
  pub before_is : (xs : List (Option (Object V N))) (n : ℕ) → length (filter is_some (take n xs)) ≡ before xs n
  before_is [] zero = refl
  before_is [] (suc n) = refl
  before_is (Some x ∷ xs) zero = refl
  before_is (None ∷ xs) zero = refl
  before_is (Some x ∷ xs) (suc n) = ap suc (before_is xs n)
  before_is (None ∷ xs) (suc n) = before_is xs n

  -- the objects of a heap by their places
  pub part_at : {B : Type 0} (f : Object V N → B) (xs : List (Option (Object V N))) (n : ℕ) (o : Object V N) → object xs n ≡ Some o
      → slice_get (filter_map (option_map f) xs) (before xs n) ≡ Some (f o)
  part_at f [] n o e = absurd cc
  part_at f (Some x ∷ xs) zero o e = ap (option_map f) e
  part_at f (None ∷ xs) zero o e = absurd cc
  part_at f (Some x ∷ xs) (suc n) o e = part_at f xs n o e
  part_at f (None ∷ xs) (suc n) o e = part_at f xs n o e

  pub parts_count : {B : Type 0} (f : Object V N → B) (xs : List (Option (Object V N))) → length (filter_map (option_map f) xs) ≡ count xs
  parts_count f [] = refl
  parts_count f (Some x ∷ xs) = ap suc (parts_count f xs)
  parts_count f (None ∷ xs) = parts_count f xs

-- two heaps
-- =========

module _ {V N : Type 0} where
  -- the cell in the second heap of what is at a cell of the first
  abbrev pub matched : (xs ys : List (Option (Object V N))) → ℕ → ℕ
  matched xs ys n = choose (has xs n) (object_cell ys (before xs n)) (blank_cell ys (n - before xs n))

  pub matched_object : (xs ys : List (Option (Object V N))) (n : ℕ) → has xs n ≡ true → matched xs ys n ≡ object_cell ys (before xs n)
  matched_object xs ys n e = ap (λ b. choose b (object_cell ys (before xs n)) (blank_cell ys (n - before xs n))) e

  pub matched_blank : (xs ys : List (Option (Object V N))) (n : ℕ) → has xs n ≡ false → matched xs ys n ≡ blank_cell ys (n - before xs n)
  matched_blank xs ys n e = ap (λ b. choose b (object_cell ys (before xs n)) (blank_cell ys (n - before xs n))) e

  pub matched_back : (xs ys : List (Option (Object V N))) → count xs ≡ count ys → (n : ℕ) → matched ys xs (matched xs ys n) ≡ n
  matched_back xs ys same n = by (has xs n) refl
    where
      by : (b : Bool) → has xs n ≡ b → matched ys xs (matched xs ys n) ≡ n
      by true e =
          let k = before xs n in
          let low = before_count xs n e in
          let lt : k < count ys = omega (arith, low, same) in
          ap (λ z. matched ys xs z) (matched_object xs ys n e)
          ∙ (matched_object ys xs (object_cell ys k) (object_has ys k lt) ∙ (ap (λ z. object_cell xs z) (object_before ys k lt) ∙ object_back xs n e))
      by false e =
          let k : ℕ = n - before xs n in
          let low = before_low xs n in
          let cell = blank_before ys k in
          let back : blank_cell ys k - before ys (blank_cell ys k) ≡ k = omega (arith, cell) in
          ap (λ z. matched ys xs z) (matched_blank xs ys n e)
          ∙ (matched_blank ys xs (blank_cell ys k) (blank_has ys k) ∙ (ap (λ z. blank_cell xs z) back ∙ blank_back xs n k e (omega (arith, low))))

  first_before : (xs : List (Option (Object V N))) → before xs 0 ≡ 0
  first_before [] = refl
  first_before (Some x ∷ xs) = refl
  first_before (None ∷ xs) = refl

  pub matched_first : (xs ys : List (Option (Object V N))) → has xs 0 ≡ true → has ys 0 ≡ true → matched xs ys 0 ≡ 0
  matched_first xs ys e f =
      matched_object xs ys 0 e ∙ (ap (λ k. object_cell ys k) (first_before xs ∙ sym (first_before ys)) ∙ object_back ys 0 f)

  pub matched_past : (xs ys : List (Option (Object V N))) → count xs ≡ count ys → length xs ≡ length ys → (n : ℕ) → length xs ≤ n → matched xs ys n ≡ n
  matched_past xs ys same long n le =
      let a = past_before xs n le in
      let b = past_before ys n (omega (arith, long, le)) in
      let low = before_low xs n in
      matched_blank xs ys n (past_has xs n le) ∙ blank_back ys n (n - before xs n) (past_has ys n (omega (arith, long, le))) (omega (arith, a, b, same, low))

  -- the numbers of the second heap's objects
  abbrev pub matching : (xs ys : List (Option (Object V N))) → count xs ≡ count ys → length xs ≡ length ys → has xs 0 ≡ true → has ys 0 ≡ true → Renaming
  matching xs ys same long first second = record {
    to = matched xs ys;
    from = matched ys xs;
    limit = length xs;
    back = matched_back xs ys same;
    forth = matched_back ys xs (sym same);
    zero = matched_first xs ys first second;
    fixed = matched_past xs ys same long;
  }
