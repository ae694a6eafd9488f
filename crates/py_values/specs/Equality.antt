-- Equality of values, with its count of visits: one for each pair of values that is compared.
use Rattle.std.specs.Prelude.{ℕ, zero, suc, ◌+◌, List, [], ◌∷◌, length, Bool, true, false, Option, Some, None, nat_eq, bytes_eq, if◌then◌else◌}
use Rattle.std.specs.Ordering.{int_eq}
use Rattle.mpy_base.specs.declared.limits.TheConstants.{MAX_WALK_DEPTH}
use Rattle.mpy_base.specs.Val.{Val, Nil, Built, At}
use Rattle.py_values.specs.Shown.{PlainHeap, Shown, Number, Text, Tuple, Items, Pairs, Range, shown, is_same_range}
use Rattle.py_values.specs.Names.{builtin_name}
use Rattle.py_values.specs.Keys.{value_of_key}

-- what a walk over values answers, None where it would go too deep, and its visits
pub record Walk (A : Type 0) : Type 0 where
  pub answer : Option A
  pub visits : ℕ

-- an answer without a visit
abbrev pub answers : {A : Type 0} → A → Walk A
answers a = record { answer = Some a; visits = 0 }

-- no answer, since the walk would go too deep
abbrev pub goes_too_deep : {A : Type 0} → Walk A
goes_too_deep = record { answer = None; visits = 0 }

-- a visit, and then the walk
abbrev pub visit : {A : Type 0} → Walk A → Walk A
visit walk = record { answer = walk.answer; visits = suc walk.visits }

-- the walk, behind these visits
abbrev pub after : {A : Type 0} → ℕ → Walk A → Walk A
after visits walk = record { answer = walk.answer; visits = visits + walk.visits }

-- the second walk, where the first answered true
abbrev pub when : Option Bool → ℕ → Walk Bool → Walk Bool
when (Some true) visits others = after visits others
when answer visits others = record { answer = answer; visits = visits }

-- the second walk where the first answers true, and else its answer
abbrev pub if_so : Walk Bool → Walk Bool → Walk Bool
if_so first others = when first.answer first.visits others

-- are these one thing? None is, a built-in is by its name, and an object by its number
abbrev pub is_same : Val → Val → Bool
is_same Nil Nil = true
is_same (Built a) (Built b) = bytes_eq (builtin_name a) (builtin_name b)
is_same (At m) (At n) = nat_eq m n
is_same _ _ = false

module _ (heap : PlainHeap) (equal : Val → Val → Walk Bool) where
  -- pair by pair, up to the first that differs
  abbrev pub all_equal : List Val → List Val → Walk Bool
  all_equal (x ∷ xs) (y ∷ ys) = if_so (equal x y) (all_equal xs ys)
  all_equal _ _ = answers true

  -- lists of different length differ at once
  abbrev pub equal_items : List Val → List Val → Walk Bool
  equal_items xs ys = if nat_eq (length xs) (length ys) then all_equal xs ys else answers false

  -- the rest is compared where the two values are there and equal
  abbrev pub equal_found : Val → Option Val → Walk Bool → Walk Bool
  equal_found x (Some y) others = if_so (equal x y) others
  equal_found x None others = answers false

  -- the values of the first dict's keys, in its order, are those that the second has
  abbrev pub all_found : List (Val × Val) → List (Val × Val) → Walk Bool
  all_found [] others = answers true
  all_found (pair ∷ pairs) others = equal_found (pair.1) (value_of_key heap others (pair.0)) (all_found pairs others)

  -- two dicts are compared: as many pairs, and each key's values
  abbrev pub equal_pairs : List (Val × Val) → List (Val × Val) → Walk Bool
  equal_pairs ps qs = if nat_eq (length ps) (length qs) then all_found ps qs else answers false

  -- numbers by value, texts by bytes, tuples and lists item by item, dicts by their keys, ranges by their numbers, and
  -- everything else by identity
  abbrev pub equal_shown : Val → Val → Shown → Shown → Walk Bool
  equal_shown a b (Number x) (Number y) = answers (int_eq x y)
  equal_shown a b (Text s) (Text t) = answers (bytes_eq s t)
  equal_shown a b (Tuple xs) (Tuple ys) = equal_items xs ys
  equal_shown a b (Items xs) (Items ys) = equal_items xs ys
  equal_shown a b (Pairs ps) (Pairs qs) = equal_pairs ps qs
  equal_shown a b (Range start stop step) (Range start' stop' step') = answers (is_same_range start stop step start' stop' step')
  equal_shown a b _ _ = answers (is_same a b)

-- a comparison that may go that number of levels deep
abbrev pub equal_within : PlainHeap → ℕ → Val → Val → Walk Bool
equal_within heap zero a b = goes_too_deep
equal_within heap (suc depth) a b = visit (equal_shown heap (equal_within heap depth) a b (shown heap a) (shown heap b))

-- are two values equal?
unfoldable pub equal : PlainHeap → Val → Val → Walk Bool
equal heap a b = equal_within heap MAX_WALK_DEPTH a b
