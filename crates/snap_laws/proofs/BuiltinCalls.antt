-- Calls of built-ins are the same.
use Rattle.std.proofs.Common.{◌||◌, ◌≡◌, ℕ, Bool, true, false, cond, List, [], ◌∷◌, length, map, Option, Some, None, Result, Ok, Err, refl, sym, ap, subst, ◌∙◌}
use Rattle.std.specs.Prelude.{nat_eq, ℤ, pos, negsuc, nat_lt, unsigned_abs, bytes_eq}
use Rattle.std.specs.List.{list_any}
use Rattle.std.specs.Option.{option_map}
use Rattle.std.specs.Ordering.{int_eq}
use Rattle.std.specs.declared.cmp.Ordering.{Ordering}
use Rattle.std.proofs.lemmas.List.{length-map}
use Rattle.bc_machine.specs.mpy_base.declared.builtin.Builtin.{Builtin}
use Rattle.bc_machine.specs.mpy_base.declared.builtin.Builtin.TheVariants as builtins
use Rattle.bc_machine.specs.mpy_base.declared.kind.Kind.{Kind}
use Rattle.bc_machine.specs.mpy_base.World.{DictObject, RangeObject, ExceptionObject}
use Rattle.bc_machine.specs.mpy_base.Val.{Val, Nil, Truth, Int, Str, Fixed, Empty, Built, At}
use Rattle.bc_machine.specs.py_values.Small.{checked}
use Rattle.bc_machine.specs.py_values.Shown.{PlainHeap, Shown, Nothing, Number, Text, Tuple, Items, Pairs, Range, Other, shown, truth}
use Rattle.bc_machine.specs.py_values.Names.{builtin_name, type_name}
use Rattle.bc_machine.specs.py_values.Equality.{visit}
use Rattle.bc_machine.specs.py_primitives.Walks.{walk_map}
use Rattle.bc_machine.specs.py_primitives.Texts.{str_of, repr_of}
use Rattle.bc_machine.specs.py_primitives.Order.{Sign, Below, Above, has_sign, Unordered, order, better, best_from}
use Rattle.bc_machine.specs.py_primitives.Faults.{Fault, NoKey, WrongCount, TooFew, TooMany, PortFailed, NoLength, NotANumber, ZeroStep, NothingToCompare, NoNumeral, NoCharacter, NoCode, NotTypes, NoKeywords, fault_kind, fault_value, fault_text}
use Rattle.bc_machine.specs.py_primitives.Outcome.{Outcome, gives, raises, making, making_text, making_tuple, making_exception, list_of, tuple_of, fault_argument, making_fault}
use Rattle.bc_machine.specs.py_primitives.Iterables.{items_in, kept_items, length_of}
use Rattle.bc_machine.specs.py_primitives.Operators.{gives_number, sign_method, members, all_of}
use Rattle.bc_machine.specs.py_primitives.Calls.{Counts, Exactly, Between, AtLeast, counts_of, count_fault, unless_fault, of_number, with_number, call_len, call_abs, range_of, call_range, trimmed, signed_number, gives_numeral, int_of, ord_of, character, call_str, call_repr, gives_best, best_of, made_letter, call_best, list_from, call_list, tuple_from, tuple_shown, call_tuple, named_type, is_number, is_exception_of, is_instance, instance_of, call_isinstance, elsewhere, called, call}
use Rattle.snap_laws.specs.Renamed.{Renaming, value, pair, shown_as, IsRenamed}
use Rattle.snap_laws.specs.Outcomes.{IsOutcome, fault_as, order_as, best_as}
use Rattle.snap_laws.proofs.Seen.{seen, truth_as}
use Rattle.snap_laws.proofs.Combining.{given, raised, either, visited, followed, walked, walked_same, then_mapped, type_as, making_as, text_made, tuple_as, list_as, list_of_as, tuple_of_as}
use Rattle.snap_laws.proofs.Iterating.{items_in_as, length_as, iterating_as, kept_as}
use Rattle.snap_laws.proofs.Binary.{number_given, unsupported_as}
use Rattle.snap_laws.proofs.Comparing.{order_same, exception_kind_as, all_members_as}
use Rattle.snap_laws.proofs.Writing.{str_as, repr_as}

-- a fault that renamed values don't change
abbrev pub Plain : Renaming → Option Fault → Type 0
Plain r None = Unit {0}
Plain r (Some fault) = fault ≡ fault_as r fault

module _ (r : Renaming) where
  -- the faults of counts
  plain_if : (b : Bool) (x y : Option Fault) → Plain r x → Plain r y → Plain r (cond b x y)
  plain_if true x y p q = p
  plain_if false x y p q = q

  pub count_plain : (counts : Counts) (given : ℕ) → Plain r (count_fault counts given)
  count_plain (Exactly n) given = plain_if (nat_eq n given) None (Some (WrongCount n given)) tt refl
  count_plain (Between least most) given =
      plain_if (nat_lt given least) (Some (TooFew least given))
      (cond (nat_lt most given) (Some (TooMany most given)) None) refl
      (plain_if (nat_lt most given) (Some (TooMany most given)) None refl tt)
  count_plain (AtLeast least) given = plain_if (nat_lt given least) (Some (TooFew least given)) None refl tt

  named_type_as : (v : Val) → named_type (value r v) ≡ named_type v
  named_type_as Nil = refl
  named_type_as (Truth b) = refl
  named_type_as (Int z) = refl
  named_type_as (Str bytes) = refl
  named_type_as (Fixed items) = refl
  named_type_as Empty = refl
  named_type_as (Built b) = refl
  named_type_as (At n) = refl

  number_shown : (s : Shown) → is_number (shown_as r s) ≡ is_number s
  number_shown Nothing = refl
  number_shown (Number z) = refl
  number_shown (Text bytes) = refl
  number_shown (Tuple items) = refl
  number_shown (Items items) = refl
  number_shown (Pairs pairs) = refl
  number_shown (Range start stop step) = refl
  number_shown Other = refl

  -- the exceptions of faults
  kind_told : (fault : Fault) → fault_kind (fault_as r fault) ≡ fault_kind fault
  kind_told (NoKey key) = refl
  kind_told _ = refl

  text_told : (fault : Fault) → fault_text (fault_as r fault) ≡ fault_text fault
  text_told (NoKey key) = refl
  text_told _ = refl

  value_told : (fault : Fault) → fault_value (fault_as r fault) ≡ option_map (value r) (fault_value fault)
  value_told (NoKey key) = refl
  value_told PortFailed = refl
  value_told _ = refl

  pub exception_made : (h k : PlainHeap) → IsRenamed r h k → (kind : Kind) (xs ys : List Val) → ys ≡ map (value r) xs
      → IsOutcome r (value r) (making_exception h kind xs) (making_exception k kind ys)
  exception_made h k is kind xs ys e =
      followed r (value r) (value r) (making_tuple h xs) (making_tuple k ys)
      (λ args behind. making behind (ExceptionObject kind args [] 0 []))
      (λ args behind. making behind (ExceptionObject kind args [] 0 []))
      (tuple_as r h k is xs ys e) (λ args i j at. making_as r i j at (ExceptionObject kind args [] 0 []))

  fault_argued : (h k : PlainHeap) → IsRenamed r h k → (fault : Fault) (o : Option Val)
      → IsOutcome r (value r) (fault_argument h fault o)
      (fault_argument k (fault_as r fault) (option_map (value r) o))
  fault_argued h k is fault (Some v) = given r (value r) h k is v (value r v) refl
  fault_argued h k is fault None =
      subst (λ z. IsOutcome r (value r) (making_text h (fault_text fault)) (making_text k z)) (sym (text_told fault))
      (text_made r h k is (fault_text fault))

  pub fault_made : (h k : PlainHeap) → IsRenamed r h k → (fault : Fault)
      → IsOutcome r (value r) (making_fault h fault) (making_fault k (fault_as r fault))
  fault_made h k is fault =
      followed r (value r) (value r) (fault_argument h fault (fault_value fault))
      (fault_argument k (fault_as r fault) (fault_value (fault_as r fault)))
      (λ v behind. making_exception behind (fault_kind fault) (v ∷ []))
      (λ v behind. making_exception behind (fault_kind (fault_as r fault)) (v ∷ []))
      (subst (λ z. IsOutcome r (value r) (fault_argument h fault (fault_value fault))
      (fault_argument k (fault_as r fault) z)) (sym (value_told fault))
      (fault_argued h k is fault (fault_value fault)))
      (λ v i j at. subst (λ z. IsOutcome r (value r) (making_exception i (fault_kind fault) (v ∷ []))
      (making_exception j z (value r v ∷ []))) (sym (kind_told fault))
      (exception_made i j at (fault_kind fault) (v ∷ []) (value r v ∷ []) refl))

  module _ (h k : PlainHeap) (is : IsRenamed r h k) where
    abbrev Same : Outcome Val → Outcome Val → Type 0
    Same o p = IsOutcome r (value r) o p

    unless_same : {A : Type 0} (f : A → A) (o : Option Fault) → Plain r o → (x x' : Outcome A) → IsOutcome r f x x'
        → IsOutcome r f (unless_fault h o x) (unless_fault k o x')
    unless_same f None plain x x' on = on
    unless_same f (Some fault) plain x x' on = raised r f h k is fault fault plain

    pub counted : {A : Type 0} (f : A → A) (b : Builtin) (args : List Val) (x x' : Outcome A) → IsOutcome r f x x'
        → IsOutcome r f (unless_fault h (count_fault (counts_of b) (length args)) x)
        (unless_fault k (count_fault (counts_of b) (length (map (value r) args))) x')
    counted f b args x x' on =
        subst (λ n. IsOutcome r f (unless_fault h (count_fault (counts_of b) (length args)) x)
        (unless_fault k (count_fault (counts_of b) n) x')) (sym (length-map args (value r)))
        (unless_same f (count_fault (counts_of b) (length args)) (count_plain (counts_of b) (length args)) x x' on)

    -- arguments that are numbers
    of_number_as : {A : Type 0} (f : A → A) (v : Val) (s : Shown) (next next' : ℤ → Outcome A)
        → ((z : ℤ) → IsOutcome r f (next z) (next' z))
        → IsOutcome r f (of_number h v s next) (of_number k (value r v) (shown_as r s) next')
    of_number_as f v (Number z) next next' on = on z
    of_number_as f v _ next next' on =
        raised r f h k is (NotANumber (type_name h v)) (NotANumber (type_name k (value r v)))
        (ap NotANumber (type_as r h k is v))

    pub with_number_as : {A : Type 0} (f : A → A) (v : Val) (next next' : ℤ → Outcome A)
        → ((z : ℤ) → IsOutcome r f (next z) (next' z))
        → IsOutcome r f (with_number h v next) (with_number k (value r v) next')
    with_number_as f v next next' on =
        subst (λ s. IsOutcome r f (with_number h v next) (of_number k (value r v) s next')) (sym (seen r h k is v))
        (of_number_as f v (shown h v) next next' on)

    -- numbers and strs
    len_found : (v : Val) (o : Option (List Val))
        → Same (call_len h v o) (call_len k (value r v) (option_map (map (value r)) o))
    len_found v (Some items) =
        subst (λ n. Same (call_len h v (Some items)) (gives_number k (checked (pos n)))) (sym (length_as r h k is v))
        (number_given r h k is (checked (pos (length_of h v))))
    len_found v None =
        raised r (value r) h k is (NoLength (type_name h v)) (NoLength (type_name k (value r v)))
        (ap NoLength (type_as r h k is v))

    len_as : (v : Val) → Same (call_len h v (items_in h v)) (call_len k (value r v) (items_in k (value r v)))
    len_as v =
        subst (λ o. Same (call_len h v (items_in h v)) (call_len k (value r v) o)) (sym (items_in_as r h k is v))
        (len_found v (items_in h v))

    abs_as : (v : Val) → Same (call_abs h v) (call_abs k (value r v))
    abs_as v =
        with_number_as (value r) v (λ z. gives_number h (checked (pos (unsigned_abs z))))
        (λ z. gives_number k (checked (pos (unsigned_abs z))))
        (λ z. number_given r h k is (checked (pos (unsigned_abs z))))

    range_of_as : (start stop step : ℤ) → Same (range_of h start stop step) (range_of k start stop step)
    range_of_as start stop step =
        either r (value r) (int_eq step (pos 0)) (int_eq step (pos 0)) (raises ZeroStep h)
        (making h (RangeObject start stop step)) (raises ZeroStep k) (making k (RangeObject start stop step)) refl
        (raised r (value r) h k is ZeroStep ZeroStep refl) (making_as r h k is (RangeObject start stop step))

    range_as : (args : List Val) → Same (call_range h args) (call_range k (map (value r) args))
    range_as [] = given r (value r) h k is Nil Nil refl
    range_as (a ∷ []) =
        with_number_as (value r) a (λ stop. range_of h (pos 0) stop (pos 1)) (λ stop. range_of k (pos 0) stop (pos 1))
        (λ stop. range_of_as (pos 0) stop (pos 1))
    range_as (a ∷ b ∷ []) =
        with_number_as (value r) a (λ start. with_number h b (λ stop. range_of h start stop (pos 1)))
        (λ start. with_number k (value r b) (λ stop. range_of k start stop (pos 1)))
        (λ start. with_number_as (value r) b (λ stop. range_of h start stop (pos 1))
        (λ stop. range_of k start stop (pos 1)) (λ stop. range_of_as start stop (pos 1)))
    range_as (a ∷ b ∷ c ∷ _) =
        with_number_as (value r) a (λ start. with_number h b
        (λ stop. with_number h c (λ step. range_of h start stop step)))
        (λ start. with_number k (value r b) (λ stop. with_number k (value r c)
        (λ step. range_of k start stop step)))
        (λ start. with_number_as (value r) b (λ stop. with_number h c (λ step. range_of h start stop step))
        (λ stop. with_number k (value r c) (λ step. range_of k start stop step))
        (λ stop. with_number_as (value r) c (λ step. range_of h start stop step) (λ step. range_of k start stop step)
        (λ step. range_of_as start stop step)))

    numeral_as : (o : Option ℤ) → Same (gives_numeral h o) (gives_numeral k o)
    numeral_as (Some z) = number_given r h k is (checked z)
    numeral_as None = raised r (value r) h k is NoNumeral NoNumeral refl

    int_shown : (v : Val) (s : Shown) → Same (int_of h v s) (int_of k (value r v) (shown_as r s))
    int_shown v (Text bytes) = numeral_as (signed_number (trimmed bytes))
    int_shown v (Number z) = given r (value r) h k is (Int z) (Int z) refl
    int_shown v _ =
        raised r (value r) h k is (NotANumber (type_name h v)) (NotANumber (type_name k (value r v)))
        (ap NotANumber (type_as r h k is v))

    int_as : (v : Val) → Same (int_of h v (shown h v)) (int_of k (value r v) (shown k (value r v)))
    int_as v =
        subst (λ s. Same (int_of h v (shown h v)) (int_of k (value r v) s)) (sym (seen r h k is v))
        (int_shown v (shown h v))

    ord_shown : (s : Shown) → Same (ord_of h s) (ord_of k (shown_as r s))
    ord_shown (Text (byte ∷ [])) = given r (value r) h k is (Int (pos byte)) (Int (pos byte)) refl
    ord_shown _ = raised r (value r) h k is NoCharacter NoCharacter refl

    ord_as : (v : Val) → Same (ord_of h (shown h v)) (ord_of k (shown k (value r v)))
    ord_as v = subst (λ s. Same (ord_of h (shown h v)) (ord_of k s)) (sym (seen r h k is v)) (ord_shown (shown h v))

    character_as : (z : ℤ) → Same (character h z) (character k z)
    character_as (pos n) =
        either r (value r) (nat_lt n 128) (nat_lt n 128) (making_text h (n ∷ [])) (raises NoCode h)
        (making_text k (n ∷ [])) (raises NoCode k) refl (text_made r h k is (n ∷ []))
        (raised r (value r) h k is NoCode NoCode refl)
    character_as (negsuc n) = raised r (value r) h k is NoCode NoCode refl

    str_called : (v : Val) → Same (call_str h v) (call_str k (value r v))
    str_called v =
        walked_same r (value r) h k is (str_of h v) (str_of k (value r v)) (making_text h) (making_text k)
        (str_as r h k is v) (text_made r h k is)

    repr_called : (v : Val) → Same (call_repr h v) (call_repr k (value r v))
    repr_called v =
        walked_same r (value r) h k is (repr_of h v) (repr_of k (value r v)) (making_text h) (making_text k)
        (repr_as r h k is v) (text_made r h k is)

    -- the least and the greatest
    better_as : (sign : Sign) (v best : Val) (o : Result Ordering Unordered)
        → better k sign (value r v) (value r best) (order_as r o) ≡ best_as r (better h sign v best o)
    better_as sign v best (Ok o) = chosen (has_sign sign o)
      where
        chosen : (b : Bool) → Ok (cond b (value r v) (value r best)) ≡ best_as r (Ok (cond b v best))
        chosen true = refl
        chosen false = refl
    better_as sign v best (Err e) = refl

    best_same : (sign : Sign) (best : Result Val Unordered) (vs : List Val)
        → best_from k sign (best_as r best) (map (value r) vs) ≡ walk_map (best_as r) (best_from h sign best vs)
    best_same sign best [] = refl
    best_same sign (Ok best) (v ∷ vs) =
        ap visit (then_mapped (order_as r) (best_as r) (order h v best) (order k (value r v) (value r best))
        (λ found. best_from h sign (better h sign v best found) vs)
        (λ found. best_from k sign (better k sign (value r v) (value r best) found) (map (value r) vs))
        (order_same r h k is v best) (λ found. ap (λ b. best_from k sign b (map (value r) vs))
        (better_as sign v best found) ∙ best_same sign (better h sign v best found) vs))
    best_same sign (Err e) (v ∷ vs) = refl

    best_given : (sign : Sign) (next next' : Val → Outcome Val) → ((v : Val) → Same (next v) (next' (value r v)))
        → (b : Result Val Unordered) → Same (gives_best h sign next b) (gives_best k sign next' (best_as r b))
    best_given sign next next' on (Ok best) = on best
    best_given sign next next' on (Err e) = unsupported_as r h k is (value r) (sign_method sign) e.left e.right

    best_of_as : (sign : Sign) (next next' : Val → Outcome Val) → ((v : Val) → Same (next v) (next' (value r v)))
        → (vs : List Val) → Same (best_of h sign next vs) (best_of k sign next' (map (value r) vs))
    best_of_as sign next next' on [] = raised r (value r) h k is NothingToCompare NothingToCompare refl
    best_of_as sign next next' on (v ∷ vs) =
        walked r (best_as r) (value r) h k is (visit (best_from h sign (Ok v) vs))
        (visit (best_from k sign (Ok (value r v)) (map (value r) vs))) (gives_best h sign next)
        (gives_best k sign next')
        (ap visit (best_same sign (Ok v) vs)) (best_given sign next next' on)

    letter_made : (s : Shown) (v : Val) → Same (made_letter h s v) (made_letter k (shown_as r s) (value r v))
    letter_made (Text bytes) (Str letter) = text_made r h k is letter
    letter_made _ v = given r (value r) h k is v (value r v) refl

    letter_seen : (v best : Val) → Same (made_letter h (shown h v) best)
        (made_letter k (shown k (value r v)) (value r best))
    letter_seen v best =
        subst (λ s. Same (made_letter h (shown h v) best) (made_letter k s (value r best))) (sym (seen r h k is v))
        (letter_made (shown h v) best)

    best_called : (sign : Sign) (vs : List Val) → Same (call_best h sign vs) (call_best k sign (map (value r) vs))
    best_called sign [] =
        best_of_as sign (λ best. gives best h) (λ best. gives best k)
        (λ best. given r (value r) h k is best (value r best) refl) []
    best_called sign (v ∷ []) =
        iterating_as r h k is (value r) v (best_of h sign (made_letter h (shown h v)))
        (best_of k sign (made_letter k (shown k (value r v))))
        (best_of_as sign (made_letter h (shown h v)) (made_letter k (shown k (value r v))) (letter_seen v))
    best_called sign (v ∷ w ∷ vs) =
        best_of_as sign (λ best. gives best h) (λ best. gives best k)
        (λ best. given r (value r) h k is best (value r best) refl) (v ∷ w ∷ vs)

    -- lists, tuples and types
    list_from_as : (v : Val) (items : List Val)
        → Same (list_from h v items) (list_from k (value r v) (map (value r) items))
    list_from_as v items =
        visited r (value r) (length items) (length (map (value r) items)) (length-map items (value r))
        (list_of h (length items) (λ behind. kept_items behind items (shown h v)))
        (list_of k (length (map (value r) items)) (λ behind. kept_items behind (map (value r) items)
        (shown k (value r v))))
        (list_of_as r h k is (length items) (length (map (value r) items)) (length-map items (value r))
        (λ behind. kept_items behind items (shown h v))
        (λ behind. kept_items behind (map (value r) items) (shown k (value r v)))
        (λ i j at. kept_as r h k is i j at items v))

    list_called : (args : List Val) → Same (call_list h args) (call_list k (map (value r) args))
    list_called [] = list_as r h k is [] [] refl
    list_called (v ∷ _) = iterating_as r h k is (value r) v (list_from h v) (list_from k (value r v)) (list_from_as v)

    tuple_from_as : (v : Val) (items : List Val)
        → Same (tuple_from h v items) (tuple_from k (value r v) (map (value r) items))
    tuple_from_as v items =
        visited r (value r) (length items) (length (map (value r) items)) (length-map items (value r))
        (tuple_of h (length items) (λ behind. kept_items behind items (shown h v)))
        (tuple_of k (length (map (value r) items))
        (λ behind. kept_items behind (map (value r) items) (shown k (value r v))))
        (tuple_of_as r h k is (length items) (length (map (value r) items)) (length-map items (value r))
        (λ behind. kept_items behind items (shown h v))
        (λ behind. kept_items behind (map (value r) items) (shown k (value r v)))
        (λ i j at. kept_as r h k is i j at items v))

    tuple_shown_as : (v : Val) (s : Shown) → Same (tuple_shown h v s) (tuple_shown k (value r v) (shown_as r s))
    tuple_shown_as v (Tuple items) = given r (value r) h k is v (value r v) refl
    tuple_shown_as v _ =
        iterating_as r h k is (value r) v (tuple_from h v) (tuple_from k (value r v)) (tuple_from_as v)

    tuple_called : (args : List Val) → Same (call_tuple h args) (call_tuple k (map (value r) args))
    tuple_called [] = given r (value r) h k is Empty Empty refl
    tuple_called (v ∷ _) =
        subst (λ s. Same (call_tuple h (v ∷ [])) (tuple_shown k (value r v) s)) (sym (seen r h k is v))
        (tuple_shown_as v (shown h v))

    type_is : (v : Val) (b : Builtin)
        → bytes_eq (type_name k (value r v)) (builtin_name b) ≡ bytes_eq (type_name h v) (builtin_name b)
    type_is v b = ap (λ z. bytes_eq z (builtin_name b)) (type_as r h k is v)

    instance_as : (v : Val) (b : Builtin) → is_instance k (value r v) b ≡ is_instance h v b
    instance_as v (builtins.Kind kind) = ap (λ z. is_exception_of z kind) (exception_kind_as r h k is v)
    instance_as v builtins.Int = ap is_number (seen r h k is v) ∙ number_shown (shown h v)
    instance_as v b = type_is v b

    any_instance : (v : Val) (types : List Builtin)
        → list_any (is_instance k (value r v)) types ≡ list_any (is_instance h v) types
    any_instance v [] = refl
    any_instance v (b ∷ types) =
        ap (λ z. z || list_any (is_instance k (value r v)) types) (instance_as v b)
        ∙ ap (λ z. is_instance h v b || z) (any_instance v types)

    instance_told : (v : Val) (o : Option (List Builtin)) → Same (instance_of h v o) (instance_of k (value r v) o)
    instance_told v (Some types) =
        given r (value r) h k is (Truth (list_any (is_instance h v) types))
        (Truth (list_any (is_instance k (value r v)) types)) (ap Truth (any_instance v types))
    instance_told v None = raised r (value r) h k is NotTypes NotTypes refl

    isinstance_as : (v types : Val) → Same (call_isinstance h v types) (call_isinstance k (value r v) (value r types))
    isinstance_as v types =
        subst (λ z. Same (call_isinstance h v types) (instance_of k (value r v) z))
        (sym (all_members_as r h k is named_type named_type_as types))
        (instance_told v (all_of named_type (members types (shown h types))))

    -- all of them
    nothing_as : Same (elsewhere h) (elsewhere k)
    nothing_as = given r (value r) h k is Nil Nil refl

    called_as : (b : Builtin) (args : List Val) → Same (called h b args) (called k b (map (value r) args))
    called_as builtins.Len (v ∷ _) = len_as v
    called_as builtins.Abs (v ∷ _) = abs_as v
    called_as builtins.Bool (v ∷ _) =
        given r (value r) h k is (Truth (truth h v)) (Truth (truth k (value r v))) (ap Truth (truth_as r h k is v))
    called_as builtins.Range args = range_as args
    called_as builtins.Min args = best_called Below args
    called_as builtins.Max args = best_called Above args
    called_as builtins.Str (v ∷ _) = str_called v
    called_as builtins.Repr (v ∷ _) = repr_called v
    called_as builtins.Int (v ∷ _) = int_as v
    called_as builtins.Ord (v ∷ _) = ord_as v
    called_as builtins.Chr (v ∷ _) = with_number_as (value r) v (character h) (character k) character_as
    called_as builtins.List args = list_called args
    called_as builtins.Tuple args = tuple_called args
    called_as builtins.Dict _ = making_as r h k is (DictObject [] 4)
    called_as builtins.IsInstance (v ∷ types ∷ _) = isinstance_as v types
    called_as (builtins.Kind kind) args = exception_made h k is kind args (map (value r) args) refl
    called_as builtins.Len [] = nothing_as
    called_as builtins.Abs [] = nothing_as
    called_as builtins.Bool [] = nothing_as
    called_as builtins.Str [] = nothing_as
    called_as builtins.Repr [] = nothing_as
    called_as builtins.Int [] = nothing_as
    called_as builtins.Ord [] = nothing_as
    called_as builtins.Chr [] = nothing_as
    called_as builtins.IsInstance [] = nothing_as
    called_as builtins.IsInstance (v ∷ []) = nothing_as
    called_as _ args = nothing_as

    pub call_as : (b : Builtin) (args : List Val) (keys : List (Val × Val))
        → Same (call h b args keys) (call k b (map (value r) args) (map (pair r) keys))
    call_as b args [] =
        counted (value r) b args (called h b args) (called k b (map (value r) args)) (called_as b args)
    call_as b args (_ ∷ _) = raised r (value r) h k is NoKeywords NoKeywords refl
