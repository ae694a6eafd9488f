-- The operators by their numbers give plain values of plain ones.
use Rattle.std.proofs.Common.{◌≡◌, ℕ, List, [], ◌∷◌, ◌++◌, map, Option, Some, None, Result, Ok, Err, refl, subst}
use Rattle.std.specs.Prelude.{slice_get, option_and_then}
use Rattle.std.specs.List.{AllByRecursion as Each}
use Rattle.std.specs.Option.{option_map}
use Rattle.std.specs.declared.cmp.Ordering.{Ordering}
use Rattle.bc_progress.specs.bc_machine.Library.{Library}
use Rattle.bc_progress.specs.mpy_base.declared.kind.Kind.{Kind}
use Rattle.bc_progress.specs.mpy_base.Val.{Val}
use Rattle.bc_progress.specs.py_values.Shown.{PlainHeap, Shown, Number, Text, Tuple, Items, Pairs, Range, shown}
use Rattle.bc_progress.specs.py_values.Equality.{equal}
use Rattle.bc_progress.specs.py_primitives.Order.{Sign, Below, Above, NotAbove, NotBelow, Unordered, order}
use Rattle.bc_progress.specs.py_primitives.Outcome.{Outcome}
use Rattle.bc_progress.specs.py_primitives.Operators as operators
use Rattle.bc_progress.specs.py_primitives.Operators.{Operator, binary, in_place, UnaryOperator, unary_answer, unary_shown, unary, unary_not, op_eq, op_ne, gives_order, op_order, op_is, contains_equal, contains_shown, op_contains, exception_kind, named_kind, members, all_of, match_kinds, op_match}
use Rattle.bc_progress.specs.bc_machine.Operations.{TwoValued, comparisons, arithmetic, two_valued, operator_at, one_valued, unary_at}
use Rattle.snap_kept.specs.Values.{IsPlain, AreFine}
use Rattle.snap_kept.proofs.Lists.{each_append, each_get, each_map}
use Rattle.snap_kept.proofs.Making.{walked}
use Rattle.snap_kept.proofs.Using.{V, same, number_in, key_in, binary_in, in_place_in}

module _ (library : Library) where
  -- an operator gives plain values of plain ones
  abbrev pub OneIn : (PlainHeap → Val → Outcome Val) → Type 0
  OneIn op = (h : PlainHeap) (f : AreFine library h) (v : Val) → IsPlain library h v → V library h f (op h v)

  abbrev pub TwoIn : Option TwoValued → Type 0
  TwoIn (Some op) = (h : PlainHeap) (f : AreFine library h) (a b : Val) → IsPlain library h a → IsPlain library h b → V library h f (op h a b)
  TwoIn None = Unit {0}

  unary_by : (op : UnaryOperator) (h : PlainHeap) (f : AreFine library h) (v : Val) (s : Shown) → V library h f (unary_shown h op v s)
  unary_by op h f v (Number z) = number_in library h f (unary_answer op z)
  unary_by op h f v _ = same library h f

  unary_in : (op : UnaryOperator) → OneIn (λ heap. unary heap op)
  unary_in op h f v p = unary_by op h f v (shown h v)

  pub one_in : (n : ℕ) (op : PlainHeap → Val → Outcome Val) → unary_at n ≡ Some op → OneIn op
  one_in n op e = each_get OneIn one_valued n op (unary_in operators.Plus, (unary_in operators.Minus, (unary_in operators.Invert, ((λ h f v p. same library h f), tt)))) e

  order_by : (sign : Sign) (h : PlainHeap) (f : AreFine library h) (r : Result Ordering Unordered) → V library h f (gives_order h sign r)
  order_by sign h f (Ok o) = same library h f
  order_by sign h f (Err e) = same library h f

  order_in : (sign : Sign) → TwoIn (Some (λ heap. op_order heap sign))
  order_in sign h f a b p q = walked library (IsPlain library) h (order h a b) (gives_order h sign) f (λ r e. order_by sign h f r)

  equal_in : TwoIn (Some op_eq)
  equal_in h f a b p q = walked library (IsPlain library) h (equal h a b) _ f (λ r e. same library h f)

  unequal_in : TwoIn (Some op_ne)
  unequal_in h f a b p q = walked library (IsPlain library) h (equal h a b) _ f (λ r e. same library h f)

  contains_by : (h : PlainHeap) (f : AreFine library h) (v c : Val) (s t : Shown) → V library h f (contains_shown h v c s t)
  contains_by h f v c s (Tuple items) = walked library (IsPlain library) h (contains_equal h v items) _ f (λ r e. same library h f)
  contains_by h f v c s (Items items) = walked library (IsPlain library) h (contains_equal h v items) _ f (λ r e. same library h f)
  contains_by h f v c s (Pairs pairs) = key_in library h f v _ (λ some. same library h f)
  contains_by h f v c (Number z) (Range start stop step) = same library h f
  contains_by h f v c s (Range start stop step) = same library h f
  contains_by h f v c (Text part) (Text bytes) = same library h f
  contains_by h f v c s _ = same library h f

  contains_in : TwoIn (Some op_contains)
  contains_in h f v c p q = contains_by h f v c (shown h v) (shown h c)

  match_by : (h : PlainHeap) (f : AreFine library h) (o : Option Kind) (ks : Option (List Kind)) → V library h f (match_kinds h o ks)
  match_by h f (Some kind) (Some kinds) = same library h f
  match_by h f _ _ = same library h f

  match_in : TwoIn (Some op_match)
  match_in h f e kinds p q = match_by h f (exception_kind h e) (all_of named_kind (members kinds (shown h kinds)))

  comparisons_in : Each TwoIn comparisons
  comparisons_in = (order_in Below, (order_in Above, (equal_in, (order_in NotAbove, (order_in NotBelow, (unequal_in, (contains_in, ((λ h f a b p q. same library h f), (match_in, tt)))))))))

  all_any : (os : List (Option Operator)) → Each (λ o. Unit {0}) os
  all_any [] = tt
  all_any (o ∷ os) = (tt, all_any os)

  in_place_two : (o : Option Operator) → TwoIn (option_map (λ op heap. in_place heap op) o)
  in_place_two (Some op) = λ h f a b p q. in_place_in library h f op a b p q
  in_place_two None = tt

  binary_two : (o : Option Operator) → TwoIn (option_map (λ op heap. binary heap op) o)
  binary_two (Some op) = λ h f a b p q. binary_in library h f op a b p q
  binary_two None = tt

  two_all : Each TwoIn two_valued
  two_all =
      each_append TwoIn comparisons (map (option_map (λ op heap. in_place heap op)) arithmetic ++ map (option_map (λ op heap. binary heap op)) arithmetic) comparisons_in
      (each_append TwoIn (map (option_map (λ op heap. in_place heap op)) arithmetic) (map (option_map (λ op heap. binary heap op)) arithmetic)
      (each_map (λ o. Unit {0}) TwoIn (option_map (λ op heap. in_place heap op)) (λ o u. in_place_two o) arithmetic (all_any arithmetic))
      (each_map (λ o. Unit {0}) TwoIn (option_map (λ op heap. binary heap op)) (λ o u. binary_two o) arithmetic (all_any arithmetic)))

  two_by : (o : Option (Option TwoValued)) (op : TwoValued) → ((x : Option TwoValued) → o ≡ Some x → TwoIn x) → option_and_then (λ op. op) o ≡ Some op → TwoIn (Some op)
  two_by (Some x) op on e = subst TwoIn e (on x refl)
  two_by None op on e = absurd cc

  pub two_in : (n : ℕ) (op : TwoValued) → operator_at n ≡ Some op → TwoIn (Some op)
  two_in n op e = two_by (slice_get two_valued n) op (λ x q. each_get TwoIn two_valued n x two_all q) e
