-- Operators of two operands do the same.
use Rattle.std.proofs.Common.{◌≡◌, ℕ, zero, suc, List, ◌++◌, map, Result, Ok, Err, refl, sym, ap, subst, ◌∙◌}
use Rattle.std.specs.Prelude.{ℤ}
use Rattle.std.specs.List.{repeat}
use Rattle.std.proofs.lemmas.List.{map-append}
use Rattle.bc_machine.specs.mpy_base.Val.{Val, Int}
use Rattle.bc_machine.specs.py_values.declared.small_int.NumFault.{NumFault}
use Rattle.bc_machine.specs.py_values.Shown.{PlainHeap, Shown, Number, Text, Tuple, Items, shown, at_least_zero}
use Rattle.bc_machine.specs.py_values.Names.{type_name}
use Rattle.bc_machine.specs.py_primitives.Faults.{Arithmetic, Unsupported}
use Rattle.bc_machine.specs.py_primitives.Outcome.{Outcome, making_text, making_tuple, making_list}
use Rattle.bc_machine.specs.py_primitives.Operators.{Operator, Add, Multiply, number_answer, gives_number, operator_method, unsupported, binary_shown, binary}
use Rattle.snap_laws.specs.Renamed.{Renaming, value, shown_as, IsRenamed}
use Rattle.snap_laws.specs.Outcomes.{IsOutcome}
use Rattle.snap_laws.proofs.Seen.{seen}
use Rattle.snap_laws.proofs.Combining.{given, raised, type_as, text_made, tuple_as, list_as}

map_repeat : {X Y : Type 0} (f : X → Y) (n : ℕ) (xs : List X) → repeat n (map f xs) ≡ map f (repeat n xs)
map_repeat f zero xs = refl
map_repeat f (suc n) xs = ap (λ ys. map f xs ++ ys) (map_repeat f n xs) ∙ sym (map-append f xs (repeat n xs))

module _ (r : Renaming) (h k : PlainHeap) (is : IsRenamed r h k) where
  abbrev Same : Outcome Val → Outcome Val → Type 0
  Same o p = IsOutcome r (value r) o p

  pub number_given : (z : Result ℤ NumFault) → Same (gives_number h z) (gives_number k z)
  number_given (Ok z) = given r (value r) h k is (Int z) (Int z) refl
  number_given (Err fault) = raised r (value r) h k is (Arithmetic fault) (Arithmetic fault) refl

  pub unsupported_as : {A : Type 0} (f : A → A) (method : List ℕ) (a b : Val)
      → IsOutcome r f (unsupported h method a b) (unsupported k method (value r a) (value r b))
  unsupported_as f method a b =
      raised r f h k is (Unsupported method (type_name h a) (type_name h b))
      (Unsupported method (type_name k (value r a)) (type_name k (value r b)))
      (ap (λ z. Unsupported method z (type_name k (value r b))) (type_as r h k is a) ∙ ap
      (Unsupported method (type_name h a)) (type_as r h k is b))

  text_as : (bytes : List ℕ) → Same (making_text h bytes) (making_text k bytes)
  text_as bytes = text_made r h k is bytes

  joined_tuple : (xs ys : List Val) → Same (making_tuple h (xs ++ ys))
      (making_tuple k (map (value r) xs ++ map (value r) ys))
  joined_tuple xs ys =
      tuple_as r h k is (xs ++ ys) (map (value r) xs ++ map (value r) ys) (sym (map-append (value r) xs ys))

  joined_list : (xs ys : List Val) → Same (making_list h (xs ++ ys))
      (making_list k (map (value r) xs ++ map (value r) ys))
  joined_list xs ys =
      list_as r h k is (xs ++ ys) (map (value r) xs ++ map (value r) ys) (sym (map-append (value r) xs ys))

  repeated_tuple : (n : ℕ) (xs : List Val)
      → Same (making_tuple h (repeat n xs)) (making_tuple k (repeat n (map (value r) xs)))
  repeated_tuple n xs = tuple_as r h k is (repeat n xs) (repeat n (map (value r) xs)) (map_repeat (value r) n xs)

  repeated_list : (n : ℕ) (xs : List Val)
      → Same (making_list h (repeat n xs)) (making_list k (repeat n (map (value r) xs)))
  repeated_list n xs = list_as r h k is (repeat n xs) (repeat n (map (value r) xs)) (map_repeat (value r) n xs)

  binary_shown_as : (op : Operator) (a b : Val) (s t : Shown)
      → Same (binary_shown h op a b s t) (binary_shown k op (value r a) (value r b) (shown_as r s) (shown_as r t))
  binary_shown_as op a b (Number x) (Number y) = number_given (number_answer op x y)
  binary_shown_as Add a b (Text s) (Text t) = text_as (s ++ t)
  binary_shown_as Add a b (Tuple xs) (Tuple ys) = joined_tuple xs ys
  binary_shown_as Add a b (Items xs) (Items ys) = joined_list xs ys
  binary_shown_as Multiply a b (Text s) (Number n) = text_as (repeat (at_least_zero n) s)
  binary_shown_as Multiply a b (Number n) (Text s) = text_as (repeat (at_least_zero n) s)
  binary_shown_as Multiply a b (Tuple xs) (Number n) = repeated_tuple (at_least_zero n) xs
  binary_shown_as Multiply a b (Number n) (Tuple xs) = repeated_tuple (at_least_zero n) xs
  binary_shown_as Multiply a b (Items xs) (Number n) = repeated_list (at_least_zero n) xs
  binary_shown_as Multiply a b (Number n) (Items xs) = repeated_list (at_least_zero n) xs
  binary_shown_as op a b _ _ = unsupported_as (value r) (operator_method op) a b

  pub binary_as : (op : Operator) (a b : Val) → Same (binary h op a b) (binary k op (value r a) (value r b))
  binary_as op a b =
      subst (λ s. Same (binary h op a b) (binary_shown k op (value r a) (value r b) s (shown k (value r b))))
      (sym (seen r h k is a))
      (subst (λ t. Same (binary h op a b) (binary_shown k op (value r a) (value r b) (shown_as r (shown h a)) t))
      (sym (seen r h k is b))
      (binary_shown_as op a b (shown h a) (shown h b)))
