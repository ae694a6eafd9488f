-- Indexes, attributes and unpacking are the same.
use Rattle.std.proofs.Common.{take, drop, ◌≡◌, ℕ, suc, Bool, true, false, cond, List, [], ◌∷◌, ◌++◌, length, map, Option, Some, None, refl, sym, ap, subst, ◌∙◌}
use Rattle.std.specs.Prelude.{nat_lt, is_some, slice_set, bytes_eq, codes}
use Rattle.std.specs.List.{remove}
use Rattle.std.specs.Option.{option_map}
use Rattle.std.proofs.lemmas.List.{length-map, map-append, map-set, take-map, drop-map}
use Rattle.bc_machine.specs.mpy_base.declared.builtin.Builtin.{Builtin}
use Rattle.bc_machine.specs.mpy_base.declared.builtin.Builtin.TheVariants as builtins
use Rattle.bc_machine.specs.mpy_base.World.{Object, ListObject, TupleObject, DictObject, TextObject, FunctionObject, ExceptionObject, MethodObject, RangeObject, ModuleObject, object, pairs_at, with_list, with_dict}
use Rattle.bc_machine.specs.mpy_base.Weights.{does_fit, dict_growth, with_pairs}
use Rattle.bc_machine.specs.mpy_base.Val.{Val, Nil, Str, Built, At}
use Rattle.bc_machine.specs.py_values.Shown.{PlainHeap, Shown, Number, Text, Tuple, Items, Pairs, Range, shown}
use Rattle.bc_machine.specs.py_values.Keys.{key_of, has_key, value_of_key, with_key, without_key}
use Rattle.bc_machine.specs.py_values.Names.{type_name}
use Rattle.bc_machine.specs.py_primitives.Builtins.{named, list_methods, dict_methods, str_methods, port_calls}
use Rattle.bc_machine.specs.py_primitives.Faults.{Fault, UnsupportedOne, NotAnIndex, OutOfRange, NoKey, NotSubscriptable, NotAssignable, NotDeletable, NoAttribute, UnpacksMore, UnpacksFewer}
use Rattle.bc_machine.specs.py_primitives.Outcome.{Outcome, gives, raises, is_full}
use Rattle.bc_machine.specs.py_primitives.Iterables.{kept_items, length_of, item_of, place_at}
use Rattle.bc_machine.specs.py_primitives.Operators.{with_key_of}
use Rattle.bc_machine.specs.py_primitives.Uses.{at_found, at_shown, at_place, at_key, of_key, shown_at, get_item, put_pair, set_shown, set_item, delete_shown, delete_item, Attribute, Found, Method, Absent, found_value, found_method, object_attribute, attribute, no_attribute, gives_attribute, get_attr, set_in, set_attr, unpack_items, unpack}
use Rattle.snap_laws.specs.Renamed.{Renaming, value, pair, object_as, shown_as, IsRenamed}
use Rattle.snap_laws.specs.Outcomes.{IsOutcome, attribute_as}
use Rattle.snap_laws.proofs.Seen.{seen, key_as, has_key_as, value_of_key_as}
use Rattle.snap_laws.proofs.Combining.{given, raised, either, fitting, type_as, making_as, pairs_of_object, put_list, put_dict, dict_growth_as, grown_dict}
use Rattle.snap_laws.proofs.Iterating.{length_as, iterating_as, item_of_as, kept_as}

pub map_remove : {X Y : Type 0} (f : X → Y) (xs : List X) (at : ℕ) → remove (map f xs) at ≡ map f (remove xs at)
map_remove f xs at =
    ap (λ z. z ++ drop (suc at) (map f xs)) (take-map f at xs)
    ∙ ap (λ z. map f (take at xs) ++ z) (drop-map f (suc at) xs)
    ∙ sym (map-append f (take at xs) (drop (suc at) xs))

module _ (r : Renaming) where
  -- attributes
  found_value_as : (o : Option Val) → found_value (option_map (value r) o) ≡ attribute_as r (found_value o)
  found_value_as (Some v) = refl
  found_value_as None = refl

  found_built : (o : Option Builtin)
      → found_value (option_map Built o) ≡ attribute_as r (found_value (option_map Built o))
  found_built (Some b) = refl
  found_built None = refl

  found_method_as : (o : Option Builtin) → found_method o ≡ attribute_as r (found_method o)
  found_method_as (Some b) = refl
  found_method_as None = refl

  args_found : (b : Bool) (v : Val) → cond b (Found (value r v)) Absent ≡ attribute_as r (cond b (Found v) Absent)
  args_found true v = refl
  args_found false v = refl

  module _ (h k : PlainHeap) (is : IsRenamed r h k) where
    abbrev Same : Outcome Val → Outcome Val → Type 0
    Same o p = IsOutcome r (value r) o p

    -- places
    found_as : {A : Type 0} (f : A → A) (v : Val) (o o' : Option ℕ) (next next' : ℕ → Outcome A) → o' ≡ o
        → ((at : ℕ) → IsOutcome r f (next at) (next' at))
        → IsOutcome r f (at_found h v o next) (at_found k (value r v) o' next')
    found_as f v o o' next next' e on =
        subst (λ z. IsOutcome r f (at_found h v o next) (at_found k (value r v) z next')) (sym e) (chosen o)
      where
        chosen : (o : Option ℕ) → IsOutcome r f (at_found h v o next) (at_found k (value r v) o next')
        chosen (Some at) = on at
        chosen None =
            raised r f h k is (OutOfRange (type_name h v)) (OutOfRange (type_name k (value r v)))
            (ap OutOfRange (type_as r h k is v))

    index_told : (v index : Val) → NotAnIndex (type_name k (value r v)) (type_name k (value r index)) ≡ NotAnIndex
        (type_name h v) (type_name h index)
    index_told v index =
        ap (λ z. NotAnIndex z (type_name k (value r index))) (type_as r h k is v) ∙ ap (NotAnIndex (type_name h v))
        (type_as r h k is index)

    shown_place : {A : Type 0} (f : A → A) (v index : Val) (s : Shown) (next next' : ℕ → Outcome A)
        → ((at : ℕ) → IsOutcome r f (next at) (next' at))
        → IsOutcome r f (at_shown h v index s next) (at_shown k (value r v) (value r index) (shown_as r s) next')
    shown_place f v index (Number z) next next' on =
        found_as f v (place_at (length_of h v) z) (place_at (length_of k (value r v)) z) next next'
        (ap (λ n. place_at n z) (length_as r h k is v)) on
    shown_place f v index _ next next' on =
        raised r f h k is (NotAnIndex (type_name h v) (type_name h index))
        (NotAnIndex (type_name k (value r v)) (type_name k (value r index))) (index_told v index)

    pub place_as : {A : Type 0} (f : A → A) (v index : Val) (next next' : ℕ → Outcome A)
        → ((at : ℕ) → IsOutcome r f (next at) (next' at))
        → IsOutcome r f (at_place h v index next) (at_place k (value r v) (value r index) next')
    place_as f v index next next' on =
        subst (λ s. IsOutcome r f (at_place h v index next) (at_shown k (value r v) (value r index) s next'))
        (sym (seen r h k is index)) (shown_place f v index (shown h index) next next' on)

    -- keys
    pub keyed : {A : Type 0} (f : A → A) (key : Val) (next next' : Outcome A) → IsOutcome r f next next'
        → IsOutcome r f (with_key_of h key next) (with_key_of k (value r key) next')
    keyed f key next next' on =
        let fault : Fault = UnsupportedOne (codes "__hash__") (type_name h key) in
        let fault' : Fault = UnsupportedOne (codes "__hash__") (type_name k (value r key)) in
        either r f (is_some (key_of h key)) (is_some (key_of k (value r key))) next (raises fault h) next'
        (raises fault' k) (ap is_some (key_as r h k is key)) on
        (raised r f h k is fault fault' (ap (UnsupportedOne (codes "__hash__")) (type_as r h k is key)))

    found_key : {A : Type 0} (f : A → A) (key : Val) (o : Option Val) (next next' : Val → Outcome A)
        → ((v : Val) → IsOutcome r f (next v) (next' (value r v)))
        → IsOutcome r f (at_key h key o next) (at_key k (value r key) (option_map (value r) o) next')
    found_key f key (Some v) next next' on = on v
    found_key f key None next next' on = raised r f h k is (NoKey key) (NoKey (value r key)) refl

    of_key_as : {A : Type 0} (f : A → A) (pairs : List (Val × Val)) (key : Val) (next next' : Val → Outcome A)
        → ((v : Val) → IsOutcome r f (next v) (next' (value r v)))
        → IsOutcome r f (of_key h pairs key next) (of_key k (map (pair r) pairs) (value r key) next')
    of_key_as f pairs key next next' on =
        keyed f key (at_key h key (value_of_key h pairs key) next)
        (at_key k (value r key) (value_of_key k (map (pair r) pairs) (value r key)) next')
        (subst (λ z. IsOutcome r f (at_key h key (value_of_key h pairs key) next) (at_key k (value r key) z next'))
        (sym (value_of_key_as r h k is pairs key)) (found_key f key (value_of_key h pairs key) next next' on))

    with_key_as : (pairs : List (Val × Val)) (key v : Val)
        → with_key k (map (pair r) pairs) (value r key) (value r v) ≡ map (pair r) (with_key h pairs key v)
    with_key_as [] key v = refl
    with_key_as (p ∷ pairs) key v =
        ap (λ b. cond b ((value r p.0, value r v) ∷ map (pair r) pairs)
        (pair r p ∷ with_key k (map (pair r) pairs) (value r key) (value r v))) (has_key_as r h k is key p)
        ∙ ap (λ z. cond (has_key h key p) ((value r p.0, value r v) ∷ map (pair r) pairs) (pair r p ∷ z))
        (with_key_as pairs key v)
        ∙ chosen (has_key h key p) ((p.0, v) ∷ pairs) (p ∷ with_key h pairs key v)
      where
        chosen : (b : Bool) (x y : List (Val × Val))
            → cond b (map (pair r) x) (map (pair r) y) ≡ map (pair r) (cond b x y)
        chosen true x y = refl
        chosen false x y = refl

    pub without_key_as : (pairs : List (Val × Val)) (key : Val)
        → without_key k (map (pair r) pairs) (value r key) ≡ map (pair r) (without_key h pairs key)
    without_key_as [] key = refl
    without_key_as (p ∷ pairs) key =
        ap (λ b. cond b (map (pair r) pairs) (pair r p ∷ without_key k (map (pair r) pairs) (value r key)))
        (has_key_as r h k is key p)
        ∙ ap (λ z. cond (has_key h key p) (map (pair r) pairs) (pair r p ∷ z)) (without_key_as pairs key)
        ∙ chosen (has_key h key p) pairs (p ∷ without_key h pairs key)
      where
        chosen : (b : Bool) (x y : List (Val × Val))
            → cond b (map (pair r) x) (map (pair r) y) ≡ map (pair r) (cond b x y)
        chosen true x y = refl
        chosen false x y = refl

    -- items
    item_shown : (v index : Val) (s : Shown)
        → Same (shown_at h v index s) (shown_at k (value r v) (value r index) (shown_as r s))
    item_shown v index (Pairs pairs) =
        of_key_as (value r) pairs index (λ found. gives found h) (λ found. gives found k)
        (λ found. given r (value r) h k is found (value r found) refl)
    item_shown v index (Text bytes) =
        place_as (value r) v index (item_of h v) (item_of k (value r v)) (item_of_as r h k is v)
    item_shown v index (Tuple items) =
        place_as (value r) v index (item_of h v) (item_of k (value r v)) (item_of_as r h k is v)
    item_shown v index (Items items) =
        place_as (value r) v index (item_of h v) (item_of k (value r v)) (item_of_as r h k is v)
    item_shown v index (Range start stop step) =
        place_as (value r) v index (item_of h v) (item_of k (value r v)) (item_of_as r h k is v)
    item_shown v index _ =
        raised r (value r) h k is (NotSubscriptable (type_name h v)) (NotSubscriptable (type_name k (value r v)))
        (ap NotSubscriptable (type_as r h k is v))

    pub get_item_as : (v index : Val) → Same (get_item h v index) (get_item k (value r v) (value r index))
    get_item_as v index =
        subst (λ s. Same (get_item h v index) (shown_at k (value r v) (value r index) s)) (sym (seen r h k is v))
        (item_shown v index (shown h v))

    put_pairs : (n m : ℕ) → m ≡ r.to n → (ps qs : List (Val × Val)) → qs ≡ map (pair r) ps
        → Same (cond (does_fit h (dict_growth h n (length ps)) 0) (gives Nil (with_pairs h n ps))
        (is_full h (dict_growth h n (length ps)) 0)) (cond (does_fit k (dict_growth k m (length qs)) 0)
        (gives Nil (with_pairs k m qs)) (is_full k (dict_growth k m (length qs)) 0))
    put_pairs n m e ps qs f =
        fitting r (value r) h k is (dict_growth h n (length ps)) 0 (dict_growth k m (length qs)) 0
        (dict_growth_as r h k is n m e (length ps) (length qs) (ap length f ∙ length-map ps (pair r))) refl
        (gives Nil (with_pairs h n ps)) (gives Nil (with_pairs k m qs))
        (given r (value r) (with_pairs h n ps) (with_pairs k m qs) (grown_dict r h k is n m e ps qs f) Nil Nil refl)

    pub put_pair_as : (n m : ℕ) → m ≡ r.to n → (key v : Val)
        → Same (put_pair h n key v) (put_pair k m (value r key) (value r v))
    put_pair_as n m e key v =
        put_pairs n m e (with_key h (pairs_at h n) key v) (with_key k (pairs_at k m) (value r key) (value r v))
        (ap (λ z. with_key k z (value r key) (value r v)) (pairs_of_object r h k is n m e) ∙ with_key_as
        (pairs_at h n) key v)

    set_as_shown : (o index v : Val) (s : Shown)
        → Same (set_shown h o index v s) (set_shown k (value r o) (value r index) (value r v) (shown_as r s))
    set_as_shown (At n) index v (Pairs pairs) =
        keyed (value r) index (put_pair h n index v) (put_pair k (r.to n) (value r index) (value r v))
        (put_pair_as n (r.to n) refl index v)
    set_as_shown (At n) index v (Items items) =
        place_as (value r) (At n) index (λ at. gives Nil (with_list h n (slice_set items at v)))
        (λ at. gives Nil (with_list k (r.to n) (slice_set (map (value r) items) at (value r v))))
        (λ at. given r (value r) (with_list h n (slice_set items at v))
        (with_list k (r.to n) (slice_set (map (value r) items) at (value r v)))
        (put_list r h k is n (r.to n) refl (slice_set items at v) (slice_set (map (value r) items) at (value r v))
        (sym (map-set (value r) items at v))) Nil Nil refl)
    set_as_shown o index v _ =
        raised r (value r) h k is (NotAssignable (type_name h o)) (NotAssignable (type_name k (value r o)))
        (ap NotAssignable (type_as r h k is o))

    pub set_item_as : (o index v : Val)
        → Same (set_item h o index v) (set_item k (value r o) (value r index) (value r v))
    set_item_as o index v =
        subst (λ s. Same (set_item h o index v) (set_shown k (value r o) (value r index) (value r v) s))
        (sym (seen r h k is o)) (set_as_shown o index v (shown h o))

    delete_as_shown : (o index : Val) (s : Shown)
        → Same (delete_shown h o index s) (delete_shown k (value r o) (value r index) (shown_as r s))
    delete_as_shown (At n) index (Pairs pairs) =
        of_key_as (value r) pairs index (λ found. gives Nil (with_dict h n (without_key h pairs index)))
        (λ found. gives Nil (with_dict k (r.to n) (without_key k (map (pair r) pairs) (value r index))))
        (λ found. given r (value r) (with_dict h n (without_key h pairs index))
        (with_dict k (r.to n) (without_key k (map (pair r) pairs) (value r index)))
        (put_dict r h k is n (r.to n) refl (without_key h pairs index)
        (without_key k (map (pair r) pairs) (value r index)) (without_key_as pairs index)) Nil Nil refl)
    delete_as_shown (At n) index (Items items) =
        place_as (value r) (At n) index (λ at. gives Nil (with_list h n (remove items at)))
        (λ at. gives Nil (with_list k (r.to n) (remove (map (value r) items) at)))
        (λ at. given r (value r) (with_list h n (remove items at))
        (with_list k (r.to n) (remove (map (value r) items) at))
        (put_list r h k is n (r.to n) refl (remove items at) (remove (map (value r) items) at)
        (map_remove (value r) items at)) Nil Nil refl)
    delete_as_shown o index _ =
        raised r (value r) h k is (NotDeletable (type_name h o)) (NotDeletable (type_name k (value r o)))
        (ap NotDeletable (type_as r h k is o))

    pub delete_item_as : (o index : Val) → Same (delete_item h o index) (delete_item k (value r o) (value r index))
    delete_item_as o index =
        subst (λ s. Same (delete_item h o index) (delete_shown k (value r o) (value r index) s))
        (sym (seen r h k is o)) (delete_as_shown o index (shown h o))

    -- attributes
    object_attribute_as : (name : List ℕ) (o : Option (Object Val (List ℕ)))
        → object_attribute k name (option_map (object_as r) o) ≡ attribute_as r (object_attribute h name o)
    object_attribute_as name (Some (ListObject items room)) = found_method_as (named list_methods name)
    object_attribute_as name (Some (DictObject pairs room)) = found_method_as (named dict_methods name)
    object_attribute_as name (Some (TextObject bytes)) = found_method_as (named str_methods name)
    object_attribute_as name (Some (ExceptionObject kind args file line own_name)) = args_found
        (bytes_eq name (codes "args")) args
    object_attribute_as name (Some (ModuleObject own_name (Some names))) =
        ap (λ z. found_value (value_of_key k z (Str name))) (pairs_of_object r h k is names (r.to names) refl)
        ∙ ap found_value (value_of_key_as r h k is (pairs_at h names) (Str name)) ∙ found_value_as
        (value_of_key h (pairs_at h names) (Str name))
    object_attribute_as name (Some (ModuleObject own_name None)) = refl
    object_attribute_as name (Some (TupleObject items)) = refl
    object_attribute_as name (Some (FunctionObject own_name module_name code names defaults)) = refl
    object_attribute_as name (Some (MethodObject v method)) = refl
    object_attribute_as name (Some (RangeObject start stop step)) = refl
    object_attribute_as name None = refl

    pub attribute_same : (v : Val) (name : List ℕ)
        → attribute k (value r v) name ≡ attribute_as r (attribute h v name)
    attribute_same (Str bytes) name = found_method_as (named str_methods name)
    attribute_same (Built builtins.Port) name = found_built (named port_calls name)
    attribute_same (At n) name =
        ap (object_attribute k name) (is.objects n) ∙ object_attribute_as name (object h.objects n)
    attribute_same _ name = refl

    pub no_attribute_as : {A : Type 0} (f : A → A) (v : Val) (name : List ℕ)
        → IsOutcome r f (no_attribute h v name) (no_attribute k (value r v) name)
    no_attribute_as f v name =
        raised r f h k is (NoAttribute (type_name h v) name) (NoAttribute (type_name k (value r v)) name)
        (ap (λ z. NoAttribute z name) (type_as r h k is v))

    gives_as : (v : Val) (name : List ℕ) (a : Attribute)
        → Same (gives_attribute h v name a) (gives_attribute k (value r v) name (attribute_as r a))
    gives_as v name (Found found) = given r (value r) h k is found (value r found) refl
    gives_as v name (Method method) = making_as r h k is (MethodObject v method)
    gives_as v name Absent = no_attribute_as (value r) v name

    pub get_attr_as : (v : Val) (name : List ℕ) → Same (get_attr h v name) (get_attr k (value r v) name)
    get_attr_as v name =
        subst (λ a. Same (get_attr h v name) (gives_attribute k (value r v) name a)) (sym (attribute_same v name))
        (gives_as v name (attribute h v name))

    set_in_as : (o : Val) (name : List ℕ) (v : Val) (x : Option (Object Val (List ℕ)))
        → Same (set_in h o name v x) (set_in k (value r o) name (value r v) (option_map (object_as r) x))
    set_in_as o name v (Some (ModuleObject own_name (Some names))) = put_pair_as names (r.to names) refl (Str name) v
    set_in_as o name v (Some (ModuleObject own_name None)) = no_attribute_as (value r) o name
    set_in_as o name v _ = no_attribute_as (value r) o name

    pub set_attr_as : (o : Val) (name : List ℕ) (v : Val)
        → Same (set_attr h o name v) (set_attr k (value r o) name (value r v))
    set_attr_as (At n) name v =
        subst (λ x. Same (set_attr h (At n) name v) (set_in k (At (r.to n)) name (value r v) x)) (sym (is.objects n))
        (set_in_as (At n) name v (object h.objects n))
    set_attr_as o name v = no_attribute_as (value r) o name

    -- unpacking
    unpacked : (want : ℕ) (v : Val) (items : List Val) (n : ℕ) → n ≡ length items
        → IsOutcome r (map (value r)) (unpack_items h want v items)
        (cond (nat_lt n want) (raises (UnpacksMore n) k)
        (cond (nat_lt want n) (raises (UnpacksFewer want) k)
        (kept_items k (map (value r) items) (shown k (value r v)))))
    unpacked want v items n e =
        either r (map (value r)) (nat_lt (length items) want) (nat_lt n want) (raises (UnpacksMore (length items)) h)
        (cond (nat_lt want (length items)) (raises (UnpacksFewer want) h) (kept_items h items (shown h v)))
        (raises (UnpacksMore n) k) (cond (nat_lt want n) (raises (UnpacksFewer want) k)
        (kept_items k (map (value r) items) (shown k (value r v)))) (ap (λ z. nat_lt z want) e)
        (raised r (map (value r)) h k is (UnpacksMore (length items)) (UnpacksMore n) (ap UnpacksMore e))
        (either r (map (value r)) (nat_lt want (length items)) (nat_lt want n) (raises (UnpacksFewer want) h)
        (kept_items h items (shown h v)) (raises (UnpacksFewer want) k)
        (kept_items k (map (value r) items) (shown k (value r v))) (ap (nat_lt want) e)
        (raised r (map (value r)) h k is (UnpacksFewer want) (UnpacksFewer want) refl)
        (kept_as r h k is h k is items v))

    pub unpack_as : (want : ℕ) (v : Val) → IsOutcome r (map (value r)) (unpack h want v) (unpack k want (value r v))
    unpack_as want v =
        iterating_as r h k is (map (value r)) v (unpack_items h want v) (unpack_items k want (value r v))
        (λ items. unpacked want v items (length (map (value r) items)) (length-map items (value r)))
