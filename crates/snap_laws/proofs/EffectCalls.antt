-- Calls and modules are the same.
use Rattle.std.proofs.Common.{◌≡◌, ℕ, zero, suc, ◌-◌, ◌++◌, List, [], ◌∷◌, length, map, replicate, cond, Bool, true, false, Option, Some, None, Result, Ok, Err, refl, sym, ap, subst, ◌∙◌}
use Rattle.std.specs.Prelude.{nat_eq, nat_lt, not, bytes_eq, position, filter, slice_get, option_and_then, codes}
use Rattle.std.specs.Option.{option_map}
use Rattle.std.proofs.lemmas.List.{length-map, map-append, map-set}
use Rattle.bc_machine.specs.mpy_base.declared.builtin.Builtin.{Builtin}
use Rattle.bc_machine.specs.mpy_base.declared.builtin.Builtin.TheVariants as builtins
use Rattle.bc_machine.specs.mpy_base.World.{Object, ListObject, TupleObject, DictObject, TextObject, FunctionObject, ExceptionObject, MethodObject, RangeObject, ModuleObject, object, names_of, with_names}
use Rattle.bc_machine.specs.mpy_base.Val.{Val, Nil, Truth, Int, Str, Fixed, Empty, Built, At, PlainWorld}
use Rattle.bc_machine.specs.py_values.Shown.{PlainHeap, Shown, Nothing, Number, Text, Tuple, Items, Pairs, Range, Other, shown}
use Rattle.bc_machine.specs.py_values.Names.{type_name}
use Rattle.bc_machine.specs.py_primitives.Calls as calls
use Rattle.bc_machine.specs.py_primitives.Methods as methods
use Rattle.bc_machine.specs.py_primitives.Output.{PortOutcome, printed, call_port}
use Rattle.bc_machine.specs.py_primitives.Faults.{Fault, NotCallable, WrongCount}
use Rattle.bc_machine.specs.py_primitives.Outcome.{Stop, Outcome, gives, followed_by, making}
use Rattle.bc_machine.specs.py_primitives.Uses.{put_pair}
use Rattle.bc_machine.specs.py_effects.Effect.{Effect, on_heap, does, faults, number_of}
use Rattle.bc_machine.specs.py_effects.Names.{Locals, store_global}
use Rattle.bc_machine.specs.py_effects.Calling.{Keys, written, prints, on_ports, call_builtin, call_method, Acts, callee_object, callee_of, first_slots, filled, into_slot, one_key, with_keys, default_items, or_default, with_defaults, last_slots, empty_slots, complete, all_filled, bound, bind}
use Rattle.bc_machine.specs.py_effects.Modules.{make_function, has_items, Made, registered, on_made, making_module, make_module, registered_as, forget_module, module_or_port, module_named, last_part, outer_name, stored_in, stored_under, store_module}
use Rattle.snap_laws.specs.Renamed.{Renaming, IsRenamed, value, pair, object_as, shown_as}
use Rattle.snap_laws.specs.Outcomes.{IsOutcome, IsPortOutcome, fault_as, answer_as}
use Rattle.snap_laws.specs.Worlds.{IsWorld, IsEffect, IsCallee, module_as, locals_as, made_as, bound_as}
use Rattle.snap_laws.proofs.Seen.{seen}
use Rattle.snap_laws.proofs.Combining as combining
use Rattle.snap_laws.proofs.Combining.{type_as, making_as, followed}
use Rattle.snap_laws.proofs.Using.{put_pair_as}
use Rattle.snap_laws.proofs.BuiltinCalls.{call_as}
use Rattle.snap_laws.proofs.MethodCalls.{method_as}
use Rattle.snap_laws.proofs.Printing.{printed_as, port_as}
use Rattle.snap_laws.proofs.Acting.{on_heap_as, does_as, faults_as, number_as, names_put, local_as, store_global_as}

module _ (r : Renaming) where
  -- binding
  default_shown : (s : Shown) → default_items (shown_as r s) ≡ map (value r) (default_items s)
  default_shown Nothing = refl
  default_shown (Number z) = refl
  default_shown (Text bytes) = refl
  default_shown (Tuple items) = refl
  default_shown (Items items) = refl
  default_shown (Pairs pairs) = refl
  default_shown (Range start stop step) = refl
  default_shown Other = refl

  pub nones_as : (n : ℕ) → replicate n None ≡ locals_as r (replicate n None)
  nones_as zero = refl
  nones_as (suc n) = ap (λ z. None ∷ z) (nones_as n)

  somes_as : (args : List Val) → map Some (map (value r) args) ≡ locals_as r (map Some args)
  somes_as [] = refl
  somes_as (v ∷ args) = ap (λ z. Some (value r v) ∷ z) (somes_as args)

  pub set_as : (size : ℕ) (args : List Val)
      → first_slots size (map (value r) args) ≡ locals_as r (first_slots size args)
  set_as size args =
      ap (λ n. map Some (map (value r) args) ++ replicate (size - n) None) (length-map args (value r))
      ∙ ap (λ z. z ++ replicate (size - length args) None) (somes_as args)
      ∙ ap (λ z. locals_as r (map Some args) ++ z) (nones_as (size - length args))
      ∙ sym (map-append (option_map (value r)) (map Some args) (replicate (size - length args) None))

  filled_as : (slots : Locals) (slot : ℕ) (name : List ℕ) (v : Val) (o : Option Val)
      → filled (locals_as r slots) slot name (value r v) (option_map (value r) o) ≡ bound_as r
      (filled slots slot name v o)
  filled_as slots slot name v None = ap Ok (sym (map-set (option_map (value r)) slots slot (Some v)))
  filled_as slots slot name v (Some old) = refl

  into_as : (slots : Locals) (name : List ℕ) (v : Val) (o : Option ℕ)
      → into_slot (locals_as r slots) name (value r v) o ≡ bound_as r (into_slot slots name v o)
  into_as slots name v (Some slot) =
      ap (filled (locals_as r slots) slot name (value r v)) (local_as r slots slot) ∙ filled_as slots slot name v
      (option_and_then (λ old. old) (slice_get slots slot))
  into_as slots name v None = refl

  key_as : (params : List (List ℕ)) (slots : Locals) (v : Val) (s : Shown)
      → one_key params (locals_as r slots) (value r v) (shown_as r s) ≡ bound_as r (one_key params slots v s)
  key_as params slots v (Text name) = into_as slots name v (position (bytes_eq name) params)
  key_as params slots v Nothing = refl
  key_as params slots v (Number z) = refl
  key_as params slots v (Tuple items) = refl
  key_as params slots v (Items items) = refl
  key_as params slots v (Pairs pairs) = refl
  key_as params slots v (Range start stop step) = refl
  key_as params slots v Other = refl

  or_as : (o : Option Val) (v : Val)
      → or_default (option_map (value r) o) (value r v) ≡ option_map (value r) (or_default o v)
  or_as (Some w) v = refl
  or_as None v = refl

  defaults_as : (slots : Locals) (vs : List Val)
      → with_defaults (locals_as r slots) (map (value r) vs) ≡ locals_as r (with_defaults slots vs)
  defaults_as [] vs = refl
  defaults_as (slot ∷ slots) [] = refl
  defaults_as (slot ∷ slots) (v ∷ vs) =
      ap (λ z. z ∷ with_defaults (locals_as r slots) (map (value r) vs)) (or_as slot v) ∙ ap
      (λ z. option_map (value r) (or_default slot v) ∷ z) (defaults_as slots vs)

  last_as : (before : ℕ) (slots : Locals) (vs : List Val)
      → last_slots before (locals_as r slots) (map (value r) vs) ≡ locals_as r (last_slots before slots vs)
  last_as zero slots vs = defaults_as slots vs
  last_as (suc before) [] vs = refl
  last_as (suc before) (slot ∷ slots) vs = ap (λ z. option_map (value r) slot ∷ z) (last_as before slots vs)

  empty_as : (slots : Locals) → empty_slots (locals_as r slots) ≡ empty_slots slots
  empty_as [] = refl
  empty_as (None ∷ slots) = ap suc (empty_as slots)
  empty_as (Some v ∷ slots) = empty_as slots

  complete_as : (slots : Locals) (n : ℕ) → complete (locals_as r slots) n ≡ bound_as r (complete slots n)
  complete_as slots zero = refl
  complete_as slots (suc n) = refl

  done_as : (slots : Locals) → complete (locals_as r slots) (empty_slots (locals_as r slots)) ≡ bound_as r
      (complete slots (empty_slots slots))
  done_as slots = ap (complete (locals_as r slots)) (empty_as slots) ∙ complete_as slots (empty_slots slots)

  -- faults of binding tell no value
  all_as : (before : ℕ) (vs : List Val) (x : Result Locals Fault)
      → all_filled before (map (value r) vs) (bound_as r x) ≡ bound_as r (all_filled before vs x)
  all_as before vs (Ok slots) =
      ap (λ z. complete z (empty_slots z)) (last_as before slots vs) ∙ done_as (last_slots before slots vs)
  all_as before vs (Err fault) = refl

  module _ (h k : PlainHeap) (is : IsRenamed r h k) where
    keys_as : (params : List (List ℕ)) (x : Result Locals Fault) (keys : Keys)
        → with_keys k params (bound_as r x) (map (pair r) keys) ≡ bound_as r (with_keys h params x keys)
    keys_as params (Ok slots) [] = refl
    keys_as params (Ok slots) (key ∷ keys) =
        ap (λ z. with_keys k params z (map (pair r) keys))
        (ap (one_key params (locals_as r slots) (value r key.1)) (seen r h k is key.0) ∙ key_as params slots key.1
        (shown h key.0))
        ∙ keys_as params (one_key params slots key.1 (shown h key.0)) keys
    keys_as params (Err fault) [] = refl
    keys_as params (Err fault) (key ∷ keys) = refl

    default_seen : (v : Val) → default_items (shown k (value r v)) ≡ map (value r) (default_items (shown h v))
    default_seen v = ap default_items (seen r h k is v) ∙ default_shown (shown h v)

    choice : (b : Bool) (x y : Result Locals Fault) → cond b (bound_as r x) (bound_as r y) ≡ bound_as r (cond b x y)
    choice true x y = refl
    choice false x y = refl

    pub bound_same : (params : List (List ℕ)) (given : ℕ) (defaults : Val) (args : List Val) (keys : Keys)
        → bound k params given (value r defaults) (map (value r) args) (map (pair r) keys) ≡ bound_as r
        (bound h params given defaults args keys)
    bound_same params given defaults args keys =
        let rest : ℕ = length params - given in
        let start : Locals = first_slots (length params) args in
        ap (λ n. cond (nat_lt (length params) n) (Err (WrongCount (length params) n))
        (all_filled rest (default_items (shown k (value r defaults)))
        (with_keys k params (Ok (first_slots (length params) (map (value r) args))) (map (pair r) keys))))
        (length-map args (value r))
        ∙ ap (λ z. cond (nat_lt (length params) (length args)) (Err (WrongCount (length params) (length args))) z)
        (ap (λ z. all_filled rest (default_items (shown k (value r defaults)))
        (with_keys k params (Ok z) (map (pair r) keys))) (set_as (length params) args)
        ∙ ap (all_filled rest (default_items (shown k (value r defaults)))) (keys_as params (Ok start) keys)
        ∙ ap (λ z. all_filled rest z (bound_as r (with_keys h params (Ok start) keys))) (default_seen defaults)
        ∙ all_as rest (default_items (shown h defaults)) (with_keys h params (Ok start) keys))
        ∙ choice (nat_lt (length params) (length args)) (Err (WrongCount (length params) (length args)))
        (all_filled rest (default_items (shown h defaults)) (with_keys h params (Ok start) keys))

  -- modules
  pub registered_same : (modules : List (List ℕ × ℕ)) (name : List ℕ)
      → registered_as (map (module_as r) modules) name ≡ option_map r.to (registered_as modules name)
  registered_same [] name = refl
  registered_same (m ∷ modules) name =
      ap (λ z. cond (bytes_eq m.0 name) (Some (r.to m.1)) z) (registered_same modules name) ∙ chosen
      (bytes_eq m.0 name) (Some m.1) (registered_as modules name)
    where
      chosen : (b : Bool) (x y : Option ℕ)
          → cond b (option_map r.to x) (option_map r.to y) ≡ option_map r.to (cond b x y)
      chosen true x y = refl
      chosen false x y = refl

  kept_modules : (modules : List (List ℕ × ℕ)) (name : List ℕ)
      → filter (λ (m : List ℕ × ℕ). not (bytes_eq m.0 name)) (map (module_as r) modules) ≡ map (module_as r)
      (filter (λ (m : List ℕ × ℕ). not (bytes_eq m.0 name)) modules)
  kept_modules [] name = refl
  kept_modules (m ∷ modules) name =
      ap (λ z. cond (not (bytes_eq m.0 name)) (module_as r m ∷ z) z) (kept_modules modules name) ∙ chosen
      (not (bytes_eq m.0 name)) (m ∷ filter (λ (m : List ℕ × ℕ). not (bytes_eq m.0 name)) modules)
      (filter (λ (m : List ℕ × ℕ). not (bytes_eq m.0 name)) modules)
    where
      chosen : (b : Bool) (x y : List (List ℕ × ℕ))
          → cond b (map (module_as r) x) (map (module_as r) y) ≡ map (module_as r) (cond b x y)
      chosen true x y = refl
      chosen false x y = refl

  or_port : (o : Option ℕ) → module_or_port (option_map r.to o) ≡ value r (module_or_port o)
  or_port (Some n) = refl
  or_port None = refl

  names_same : (o : Option (Object Val (List ℕ)))
      → names_of (option_map (object_as r) o) ≡ option_map r.to (names_of o)
  names_same (Some (ModuleObject own names)) = refl
  names_same (Some (ExceptionObject kind args file line name)) = refl
  names_same (Some (ListObject items room)) = refl
  names_same (Some (TupleObject items)) = refl
  names_same (Some (TextObject bytes)) = refl
  names_same (Some (DictObject pairs room)) = refl
  names_same (Some (FunctionObject own module_name code names defaults)) = refl
  names_same (Some (MethodObject v method)) = refl
  names_same (Some (RangeObject start stop step)) = refl
  names_same None = refl

  pub has_items_as : (count : ℕ) (s : Shown) → has_items count (shown_as r s) ≡ has_items count s
  has_items_as count Nothing = refl
  has_items_as count (Number z) = refl
  has_items_as count (Text bytes) = refl
  has_items_as count (Tuple items) = ap (λ n. nat_eq n count) (length-map items (value r))
  has_items_as count (Items items) = refl
  has_items_as count (Pairs pairs) = refl
  has_items_as count (Range start stop step) = refl
  has_items_as count Other = refl

  module _ (w u : PlainWorld) (is : IsWorld r w u) where
    -- built-ins and methods
    written_as : (o p : Outcome (List ℕ)) → IsOutcome r (λ bytes. bytes) o p → (a : Result (List ℕ) Stop)
        → IsEffect r (value r) (written w o a) (written u p (answer_as r (λ bytes. bytes) a))
    written_as o p same (Ok text) =
        record {
          answer = refl;
          world = record {
            heap = same.heap;
            modules = is.modules;
            ports = is.ports;
            output = ap
                (λ z. z ++ text) is.output;
          };
          visits = same.visits;
        }
    written_as o p same (Err stop) =
        record {
          answer = refl;
          world = record {
            heap = same.heap;
            modules = is.modules;
            ports = is.ports;
            output =
                is.output;
          };
          visits = same.visits;
        }

    prints_as : (o p : Outcome (List ℕ)) → IsOutcome r (λ bytes. bytes) o p
        → IsEffect r (value r) (prints w o) (prints u p)
    prints_as o p same =
        subst (λ z. IsEffect r (value r) (prints w o) (written u p z)) (sym same.answer)
        (written_as o p same o.answer)

    on_ports_as : (o p : PortOutcome) → IsPortOutcome r o p → IsEffect r (value r) (on_ports w o) (on_ports u p)
    on_ports_as o p same =
        record {
          answer = same.answer;
          world = record {
            heap = is.heap;
            modules = is.modules;
            ports = same.ports;
            output = is.output;
          };
          visits = refl;
        }

    port_called : (b : Builtin) (args : List Val) (keys : Keys)
        → IsEffect r (value r) (on_ports w (call_port w.heap w.ports b args keys))
        (on_ports u (call_port u.heap u.ports b (map (value r) args) (map (pair r) keys)))
    port_called b args keys =
        subst (λ z. IsEffect r (value r) (on_ports w (call_port w.heap w.ports b args keys))
        (on_ports u (call_port u.heap z b (map (value r) args) (map (pair r) keys)))) (sym is.ports)
        (on_ports_as (call_port w.heap w.ports b args keys)
        (call_port u.heap w.ports b (map (value r) args) (map (pair r) keys))
        (port_as r w.heap u.heap is.heap w.ports b args keys))

    plain_called : (b : Builtin) (args : List Val) (keys : Keys)
        → IsEffect r (value r) (on_heap w (calls.call w.heap b args keys))
        (on_heap u (calls.call u.heap b (map (value r) args) (map (pair r) keys)))
    plain_called b args keys =
        on_heap_as r (value r) w u is (calls.call w.heap b args keys)
        (calls.call u.heap b (map (value r) args) (map (pair r) keys)) (call_as r w.heap u.heap is.heap b args keys)

    pub builtin_called : (b : Builtin) (args : List Val) (keys : Keys)
        → IsEffect r (value r) (call_builtin w b args keys)
        (call_builtin u b (map (value r) args) (map (pair r) keys))
    builtin_called builtins.Print args keys =
        prints_as (printed w.heap args keys) (printed u.heap (map (value r) args) (map (pair r) keys))
        (printed_as r w.heap u.heap is.heap args keys)
    builtin_called builtins.PortPut args keys = port_called builtins.PortPut args keys
    builtin_called builtins.PortGet args keys = port_called builtins.PortGet args keys
    builtin_called builtins.PortCount args keys = port_called builtins.PortCount args keys
    builtin_called builtins.Port args keys =
        faults_as r (value r) w u is (NotCallable (type_name w.heap (Built builtins.Port)))
        (NotCallable (type_name u.heap (Built builtins.Port)))
        (ap NotCallable (type_as r w.heap u.heap is.heap (Built builtins.Port)))
    builtin_called b args keys = plain_called b args keys

    pub method_called : (method : Builtin) (object : Val) (args : List Val) (keys : Keys)
        → IsEffect r (value r) (call_method w method object args keys)
        (call_method u method (value r object) (map (value r) args) (map (pair r) keys))
    method_called method object args keys =
        on_heap_as r (value r) w u is (methods.call_method w.heap method object args keys)
        (methods.call_method u.heap method (value r object) (map (value r) args) (map (pair r) keys))
        (method_as r w.heap u.heap is.heap method object args keys)

    no_callee : (v : Val) → IsCallee r (Acts (λ args keys. faults (NotCallable (type_name w.heap v)) w))
        (Acts (λ args keys. faults (NotCallable (type_name u.heap (value r v))) u))
    no_callee v args keys =
        faults_as r (value r) w u is (NotCallable (type_name w.heap v)) (NotCallable (type_name u.heap (value r v)))
        (ap NotCallable (type_as r w.heap u.heap is.heap v))

    object_called : (v : Val) (o : Option (Object Val (List ℕ)))
        → IsCallee r (callee_object w v o) (callee_object u (value r v) (option_map (object_as r) o))
    object_called v (Some (FunctionObject name module_name code names defaults)) = refl
    object_called v (Some (MethodObject object method)) = method_called method object
    object_called v (Some (ListObject items room)) = no_callee v
    object_called v (Some (TupleObject items)) = no_callee v
    object_called v (Some (TextObject bytes)) = no_callee v
    object_called v (Some (DictObject pairs room)) = no_callee v
    object_called v (Some (ExceptionObject kind args file line name)) = no_callee v
    object_called v (Some (RangeObject start stop step)) = no_callee v
    object_called v (Some (ModuleObject name names)) = no_callee v
    object_called v None = no_callee v

    pub callee_as : (v : Val) → IsCallee r (callee_of w v) (callee_of u (value r v))
    callee_as (At n) =
        subst (λ o. IsCallee r (callee_of w (At n)) (callee_object u (At (r.to n)) o)) (sym (is.heap.objects n))
        (object_called (At n) (object w.heap.objects n))
    callee_as (Built b) = builtin_called b
    callee_as Nil = no_callee Nil
    callee_as (Truth b) = no_callee (Truth b)
    callee_as (Int z) = no_callee (Int z)
    callee_as (Str bytes) = no_callee (Str bytes)
    callee_as (Fixed items) = no_callee (Fixed items)
    callee_as Empty = no_callee Empty

    bind_told : (x : Result Locals Fault)
        → IsEffect r (locals_as r) (elim x [ Ok slots ↦ does slots w | Err fault ↦ faults fault w ])
        (elim (bound_as r x) [ Ok slots ↦ does slots u | Err fault ↦ faults fault u ])
    bind_told (Ok slots) = does_as r (locals_as r) w u is slots (locals_as r slots) refl
    bind_told (Err fault) = faults_as r (locals_as r) w u is fault (fault_as r fault) refl

    pub bind_as : (params : List (List ℕ)) (given : ℕ) (defaults : Val) (args : List Val) (keys : Keys)
        → IsEffect r (locals_as r) (bind w params given defaults args keys)
        (bind u params given (value r defaults) (map (value r) args) (map (pair r) keys))
    bind_as params given defaults args keys =
        subst (λ z. IsEffect r (locals_as r) (bind w params given defaults args keys)
        (elim z as (λ _. Effect Locals) [ Ok slots ↦ does slots u | Err fault ↦ faults fault u ]))
        (sym (bound_same w.heap u.heap is.heap params given defaults args keys))
        (bind_told (bound w.heap params given defaults args keys))

    -- functions and modules
    pub function_made : (name module_name : List ℕ) (code n m : ℕ) → m ≡ r.to n → (defaults : Val)
        → IsEffect r (value r) (make_function w name module_name code n defaults)
        (make_function u name module_name code m (value r defaults))
    function_made name module_name code n m e defaults =
        on_heap_as r (value r) w u is (making w.heap (FunctionObject name module_name code n defaults))
        (making u.heap (FunctionObject name module_name code m (value r defaults)))
        (subst (λ z. IsOutcome r (value r) (making w.heap (FunctionObject name module_name code n defaults))
        (making u.heap (FunctionObject name module_name code z (value r defaults)))) (sym e)
        (making_as r w.heap u.heap is.heap (FunctionObject name module_name code n defaults)))

    stored_outcome : (name : List ℕ) → IsOutcome r (made_as r)
        (followed_by (making w.heap (ModuleObject name None))
        (λ m behind. followed_by (making behind (DictObject [] 4))
        (λ names last. followed_by (put_pair (with_names last (number_of m) (number_of names)) (number_of names)
        (Str (codes "__name__")) (Str name)) (λ stored end. gives
        (record { number = number_of m; names = number_of names }) end))))
        (followed_by (making u.heap (ModuleObject name None))
        (λ m behind. followed_by (making behind (DictObject [] 4))
        (λ names last. followed_by (put_pair (with_names last (number_of m) (number_of names)) (number_of names)
        (Str (codes "__name__")) (Str name)) (λ stored end. gives
        (record { number = number_of m; names = number_of names }) end))))
    stored_outcome name =
        followed r (value r) (made_as r) (making w.heap (ModuleObject name None))
        (making u.heap (ModuleObject name None))
        (λ m behind. followed_by (making behind (DictObject [] 4))
        (λ names last. followed_by (put_pair (with_names last (number_of m) (number_of names)) (number_of names)
        (Str (codes "__name__")) (Str name)) (λ stored end. gives
        (record { number = number_of m; names = number_of names }) end)))
        (λ m behind. followed_by (making behind (DictObject [] 4))
        (λ names last. followed_by (put_pair (with_names last (number_of m) (number_of names)) (number_of names)
        (Str (codes "__name__")) (Str name)) (λ stored end. gives
        (record { number = number_of m; names = number_of names }) end)))
        (making_as r w.heap u.heap is.heap (ModuleObject name None))
        (λ m i j at. followed r (value r) (made_as r) (making i (DictObject [] 4)) (making j (DictObject [] 4))
        (λ names last. followed_by (put_pair (with_names last (number_of m) (number_of names)) (number_of names)
        (Str (codes "__name__")) (Str name)) (λ stored end. gives
        (record { number = number_of m; names = number_of names }) end))
        (λ names last. followed_by (put_pair (with_names last (number_of (value r m)) (number_of names))
        (number_of names) (Str (codes "__name__")) (Str name))
        (λ stored end. gives (record { number = number_of (value r m); names = number_of names }) end))
        (making_as r i j at (DictObject [] 4))
        (λ names a b was. followed r (value r) (made_as r)
        (put_pair (with_names a (number_of m) (number_of names)) (number_of names) (Str (codes "__name__"))
        (Str name)) (put_pair (with_names b (number_of (value r m)) (number_of (value r names)))
        (number_of (value r names)) (Str (codes "__name__")) (Str name))
        (λ stored end. gives (record { number = number_of m; names = number_of names }) end)
        (λ stored end. gives (record { number = number_of (value r m); names = number_of (value r names) }) end)
        (put_pair_as r (with_names a (number_of m) (number_of names))
        (with_names b (number_of (value r m)) (number_of (value r names)))
        (names_put r a b was (number_of m) (number_of (value r m)) (number_as r m) (number_of names)
        (number_of (value r names)) (number_as r names)) (number_of names) (number_of (value r names))
        (number_as r names) (Str (codes "__name__")) (Str name))
        (λ stored c d on. combining.given r (made_as r) c d on
        (record { number = number_of m; names = number_of names })
        (record { number = number_of (value r m); names = number_of (value r names) })
        (ap (λ z. record { number = z; names = number_of (value r names) }) (number_as r m) ∙ ap
        (λ z. record { number = r.to (number_of m); names = z }) (number_as r names)))))

    pub module_made : (name : List ℕ) → IsEffect r (made_as r) (making_module w name) (making_module u name)
    module_made name =
        let o : Outcome Made =
        followed_by (making w.heap (ModuleObject name None))
        (λ m behind. followed_by (making behind (DictObject [] 4))
        (λ names last. followed_by (put_pair (with_names last (number_of m) (number_of names)) (number_of names)
        (Str (codes "__name__")) (Str name)) (λ stored end. gives
        (record { number = number_of m; names = number_of names }) end))) in
        let p : Outcome Made =
        followed_by (making u.heap (ModuleObject name None))
        (λ m behind. followed_by (making behind (DictObject [] 4))
        (λ names last. followed_by (put_pair (with_names last (number_of m) (number_of names)) (number_of names)
        (Str (codes "__name__")) (Str name)) (λ stored end. gives
        (record { number = number_of m; names = number_of names }) end))) in
        on_heap_as r (made_as r) w u is o p (stored_outcome name)

    pub module_named_as : (name : List ℕ) → module_named u name ≡ value r (module_named w name)
    module_named_as name =
        ap (λ z. module_or_port (registered_as z name)) is.modules ∙ ap module_or_port
        (registered_same w.modules name) ∙ or_port (registered_as w.modules name)

    pub forgotten : (name : List ℕ) → IsWorld r (forget_module w name) (forget_module u name)
    forgotten name =
        record {
          heap = is.heap;
          modules = ap (filter (λ (m : List ℕ × ℕ). not (bytes_eq m.0 name))) is.modules
              ∙ kept_modules w.modules name;
          ports = is.ports;
          output = is.output;
        }

    in_names : (name : List ℕ) (n m : ℕ) → m ≡ r.to n → (o : Option ℕ)
        → IsEffect r (value r) (stored_in w name n o) (stored_in u name m (option_map r.to o))
    in_names name n m e (Some names) =
        subst (λ z. IsEffect r (value r) (store_global w names (last_part name) (At n))
        (store_global u (r.to names) (last_part name) (At z))) (sym e)
        (store_global_as r w u is names (r.to names) refl (last_part name) (At n))
    in_names name n m e None = does_as r (value r) w u is Nil Nil refl

    in_module : (name : List ℕ) (n m : ℕ) → m ≡ r.to n → (o : Option ℕ) → IsEffect r (value r)
        (elim o as (λ _. Effect Val) [
          | Some x ↦ stored_in w name n (names_of (object w.heap.objects x))
          | None ↦ does
              Nil w
        ])
        (elim (option_map r.to o) as (λ _. Effect Val)
        [ Some x ↦ stored_in u name m (names_of (object u.heap.objects x)) | None ↦ does Nil u ])
    in_module name n m e (Some x) =
        subst (λ z. IsEffect r (value r) (stored_in w name n (names_of (object w.heap.objects x)))
        (stored_in u name m z)) (sym (ap names_of (is.heap.objects x) ∙ names_same (object w.heap.objects x)))
        (in_names name n m e (names_of (object w.heap.objects x)))
    in_module name n m e None = does_as r (value r) w u is Nil Nil refl

    under : (name : List ℕ) (n m : ℕ) → m ≡ r.to n → (o : Option (List ℕ))
        → IsEffect r (value r) (stored_under w name n o) (stored_under u name m o)
    under name n m e (Some outer) =
        subst (λ z. IsEffect r (value r) (stored_under w name n (Some outer))
        (elim z as (λ _. Effect Val) [
          | Some x ↦ stored_in u name m (names_of (object u.heap.objects x))
          | None ↦ does Nil u
        ])) (sym (ap (λ z. registered_as z outer) is.modules ∙ registered_same w.modules outer))
        (in_module name n m e (registered_as w.modules outer))
    under name n m e None = does_as r (value r) w u is Nil Nil refl

    pub module_stored : (name : List ℕ) (n m : ℕ) → m ≡ r.to n
        → IsEffect r (value r) (store_module w name n) (store_module u name m)
    module_stored name n m e = under name n m e (outer_name name)

  -- a module that was made is registered
  registered_world : (w u : PlainWorld) → IsWorld r w u → (name : List ℕ) (made : Made)
      → IsWorld r (registered w name made) (registered u name (made_as r made))
  registered_world w u is name made =
      record {
        heap = is.heap;
        modules = ap (λ z. z ++ (name, r.to made.number) ∷ []) is.modules ∙ sym
            (map-append (module_as r) w.modules ((name, made.number) ∷ []));
        ports = is.ports;
        output = is.output;
      }

  on_made_told : (name : List ℕ) (e d : Effect Made) → IsEffect r (made_as r) e d → (a : Result Made Stop)
      → e.answer ≡ a → IsEffect r (made_as r) (elim a as (λ _. Effect Made)
      [ Ok made ↦ record { answer = Ok made; world = registered e.world name made; visits = 0 } | Err stop ↦ e ])
      (elim (answer_as r (made_as r) a) as (λ _. Effect Made)
      [ Ok made ↦ record { answer = Ok made; world = registered d.world name made; visits = 0 } | Err stop ↦ d ])
  on_made_told name e d same (Ok made) is =
      record { answer = refl; world = registered_world e.world d.world same.world name made; visits = refl }
  on_made_told name e d same (Err stop) is = same

  on_made_as : (name : List ℕ) (e d : Effect Made) → IsEffect r (made_as r) e d
      → IsEffect r (made_as r) (on_made e.world name e) (on_made d.world name d)
  on_made_as name e d same =
      subst (λ z. IsEffect r (made_as r) (on_made e.world name e)
      (elim z as (λ _. Effect Made) [
        | Ok made ↦ record
            { answer = Ok made; world = registered d.world name made; visits = 0 }
        | Err stop ↦ d
      ])) (sym same.answer)
      (on_made_told name e d same e.answer refl)

  pub make_module_as : (w u : PlainWorld) → IsWorld r w u → (name : List ℕ)
      → IsEffect r (made_as r) (make_module w name) (make_module u name)
  make_module_as w u is name = on_made_as name (making_module w name) (making_module u name) (module_made w u is name)
