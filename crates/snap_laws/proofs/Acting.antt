-- Effects are the same: names, raises, and the reports of exceptions.
use Rattle.std.proofs.Common.{◌≡◌, ℕ, ◌++◌, List, [], ◌∷◌, map, Option, Some, None, Result, Ok, Err, refl, sym, ap, subst, ◌∙◌}
use Rattle.std.specs.Prelude.{slice_get, slice_set, option_and_then, codes}
use Rattle.std.specs.Fmt.{decimal}
use Rattle.std.specs.Option.{option_map}
use Rattle.std.proofs.lemmas.Option.{slice_get-map}
use Rattle.bc_machine.specs.mpy_base.declared.builtin.Builtin.{Builtin}
use Rattle.bc_machine.specs.mpy_base.declared.kind.Kind.{Kind}
use Rattle.bc_machine.specs.mpy_base.Kind.{kind_name}
use Rattle.bc_machine.specs.mpy_base.World.{Object, ListObject, TupleObject, DictObject, TextObject, FunctionObject, ExceptionObject, MethodObject, RangeObject, ModuleObject, object, pairs_at, with_dict, placed, with_place, named, with_names}
use Rattle.bc_machine.specs.mpy_base.Val.{Val, Nil, Truth, Int, Str, Fixed, Empty, Built, At, PlainWorld}
use Rattle.bc_machine.specs.py_values.Shown.{PlainHeap, Shown, Nothing, Number, Text, Tuple, Items, Pairs, Range, Other, shown}
use Rattle.bc_machine.specs.py_values.Names.{type_name}
use Rattle.bc_machine.specs.py_values.Keys.{value_of_key, without_key}
use Rattle.bc_machine.specs.py_primitives.Texts.{items_of_tuple}
use Rattle.bc_machine.specs.py_primitives.Builtins.{global_named}
use Rattle.bc_machine.specs.py_primitives.Faults.{Fault, NotAnException, NotAssignable, NoSuchName, Unassigned, NotImported, NothingToRaise}
use Rattle.bc_machine.specs.py_primitives.Operators.{exception_kind, named_kind}
use Rattle.bc_machine.specs.py_primitives.Outcome.{Stop, Raises, Full, Outcome, making, making_fault}
use Rattle.bc_machine.specs.py_primitives.Uses.{Attribute, Found, Method, Absent, attribute, put_pair, set_item, no_attribute}
use Rattle.bc_machine.specs.py_effects.Effect.{Effect, on_heap, does, faults, Place, Fails, Thrown, Filled, failed, number_of, placed_at, raised_new, raise_made, fault_at, given_answer, given}
use Rattle.bc_machine.specs.py_effects.Names.{named_in, built_in, found_global, load_global, store_global, deleted_global, delete_global, Locals, local_at, assigned, load_local, Bound, Free, looked_up, load_method, imported_from, import_from, stored_shown, store_pair, raise_by, raise_value, raise_again}
use Rattle.bc_machine.specs.py_effects.Ends.{End, Open, Ended, Raised, Memory, shown_text, sole_text, arguments_text, report_of, end_report}
use Rattle.snap_laws.specs.Renamed.{Renaming, IsRenamed, value, object_as, shown_as}
use Rattle.snap_laws.specs.Outcomes.{IsOutcome, fault_as, answer_as, attribute_as}
use Rattle.snap_laws.specs.Worlds.{IsWorld, IsEffect, IsGiven, IsFailure, locals_as, looked_as, end_as}
use Rattle.snap_laws.proofs.Seen.{seen, value_of_key_as}
use Rattle.snap_laws.proofs.Changes.{set_option}
use Rattle.snap_laws.proofs.Combining as combining
use Rattle.snap_laws.proofs.Combining.{type_as, making_as, pairs_of_object, put_dict}
use Rattle.snap_laws.proofs.Using.{put_pair_as, set_item_as, attribute_same, no_attribute_as, without_key_as}
use Rattle.snap_laws.proofs.Comparing.{named_kind_as, exception_kind_as}
use Rattle.snap_laws.proofs.Writing.{arguments_as}
use Rattle.snap_laws.proofs.BuiltinCalls.{fault_made}

module _ (r : Renaming) where
  -- effects that are put together alike
  pub on_heap_as : {A : Type 0} (f : A → A) (w u : PlainWorld) → IsWorld r w u → (o p : Outcome A) → IsOutcome r f o p
      → IsEffect r f (on_heap w o) (on_heap u p)
  on_heap_as f w u is o p same =
      record {
        answer = same.answer;
        world = record {
          heap = same.heap;
          modules = is.modules;
          ports = is.ports;
          output = is.output;
        };
        visits = same.visits;
      }

  pub does_as : {A : Type 0} (f : A → A) (w u : PlainWorld) → IsWorld r w u → (a b : A) → b ≡ f a
      → IsEffect r f (does a w) (does b u)
  does_as f w u is a b e = record { answer = ap Ok e; world = is; visits = refl }

  pub faults_as : {A : Type 0} (f : A → A) (w u : PlainWorld) → IsWorld r w u → (x y : Fault) → y ≡ fault_as r x
      → IsEffect r f (faults x w) (faults y u)
  faults_as f w u is x y e = record { answer = ap (λ z. Err (Raises z)) e; world = is; visits = refl }

  pub with_heap : (w u : PlainWorld) → IsWorld r w u → (h k : PlainHeap) → IsRenamed r h k
      → IsWorld r (record w { heap = h }) (record u { heap = k })
  with_heap w u is h k at = record { heap = at; modules = is.modules; ports = is.ports; output = is.output }

  -- numbers of objects
  pub number_as : (v : Val) → number_of (value r v) ≡ r.to (number_of v)
  number_as (At n) = refl
  number_as Nil = sym r.zero
  number_as (Truth b) = sym r.zero
  number_as (Int z) = sym r.zero
  number_as (Str bytes) = sym r.zero
  number_as (Fixed items) = sym r.zero
  number_as Empty = sym r.zero
  number_as (Built b) = sym r.zero

  placed_as : (o : Option (Object Val (List ℕ))) (file : List ℕ) (line : ℕ) (name : List ℕ)
      → placed (option_map (object_as r) o) file line name ≡ option_map (object_as r) (placed o file line name)
  placed_as (Some (ExceptionObject kind args file' line' name')) file line name = refl
  placed_as (Some (ListObject items room)) file line name = refl
  placed_as (Some (TupleObject items)) file line name = refl
  placed_as (Some (TextObject bytes)) file line name = refl
  placed_as (Some (DictObject pairs room)) file line name = refl
  placed_as (Some (FunctionObject own module_name code names defaults)) file line name = refl
  placed_as (Some (MethodObject v method)) file line name = refl
  placed_as (Some (RangeObject start stop step)) file line name = refl
  placed_as (Some (ModuleObject own names)) file line name = refl
  placed_as None file line name = refl

  named_as : (o : Option (Object Val (List ℕ))) (names : ℕ)
      → named (option_map (object_as r) o) (r.to names) ≡ option_map (object_as r) (named o names)
  named_as (Some (ModuleObject own old)) names = refl
  named_as (Some (ExceptionObject kind args file line name)) names = refl
  named_as (Some (ListObject items room)) names = refl
  named_as (Some (TupleObject items)) names = refl
  named_as (Some (TextObject bytes)) names = refl
  named_as (Some (DictObject pairs room)) names = refl
  named_as (Some (FunctionObject own module_name code old defaults)) names = refl
  named_as (Some (MethodObject v method)) names = refl
  named_as (Some (RangeObject start stop step)) names = refl
  named_as None names = refl

  pub place_put : (h k : PlainHeap) → IsRenamed r h k → (n m : ℕ) → m ≡ r.to n
      → (file : List ℕ) (line : ℕ) (name : List ℕ)
      → IsRenamed r (with_place h n file line name) (with_place k m file line name)
  place_put h k is n m e file line name =
      subst (λ z. IsRenamed r (with_place h n file line name) (with_place k z file line name)) (sym e)
      (subst (λ z. IsRenamed r (with_place h n file line name)
      (record k { objects = slice_set k.objects (r.to n) z }))
      (sym (ap (λ z. placed z file line name) (is.objects n) ∙ placed_as (object h.objects n) file line name))
      (set_option r h k is n (placed (object h.objects n) file line name)))

  pub names_put : (h k : PlainHeap) → IsRenamed r h k → (n m : ℕ) → m ≡ r.to n → (names names' : ℕ)
      → names' ≡ r.to names → IsRenamed r (with_names h n names) (with_names k m names')
  names_put h k is n m e names names' f =
      subst (λ z. IsRenamed r (with_names h n names) (with_names k z names')) (sym e)
      (subst (λ z. IsRenamed r (with_names h n names) (record k { objects = slice_set k.objects (r.to n) z }))
      (sym (ap (named (object k.objects (r.to n))) f ∙ ap (λ z. named z (r.to names)) (is.objects n) ∙ named_as
      (object h.objects n) names))
      (set_option r h k is n (named (object h.objects n) names)))

  -- raises
  pub placed_world : (place : Place) (w u : PlainWorld) → IsWorld r w u → (x y : ℕ) → y ≡ r.to x
      → IsWorld r (placed_at place x w) (placed_at place y u)
  placed_world place w u is x y e =
      with_heap w u is (with_place w.heap x place.file place.line place.name)
      (with_place u.heap y place.file place.line place.name)
      (place_put w.heap u.heap is.heap x y e place.file place.line place.name)

  new_raised : (place : Place) (w u : PlainWorld) → IsWorld r w u → (a : Result Val Stop)
      → IsFailure r (raised_new place w a) (raised_new place u (answer_as r (value r) a))
  new_raised place w u is (Ok v) =
      (number_as v, placed_world place w u is (number_of v) (number_of (value r v)) (number_as v))
  new_raised place w u is (Err (Full e)) = (refl, is)
  new_raised place w u is (Err (Raises fault)) = (sym r.zero, is)

  pub made_raised : (place : Place) (w u : PlainWorld) → IsWorld r w u → (o p : Outcome Val)
      → IsOutcome r (value r) o p → IsFailure r (raise_made place w o) (raise_made place u p)
  made_raised place w u is o p same =
      subst (λ z. IsFailure r (raise_made place w o) (raised_new place (record u { heap = p.heap }) z))
      (sym same.answer)
      (new_raised place (record w { heap = o.heap }) (record u { heap = p.heap })
      (with_heap w u is o.heap p.heap same.heap) o.answer)

  pub fault_raised : (place : Place) (w u : PlainWorld) → IsWorld r w u → (fault : Fault)
      → IsFailure r (fault_at place w fault) (fault_at place u (fault_as r fault))
  fault_raised place w u is fault =
      made_raised place w u is (making_fault w.heap fault) (making_fault u.heap (fault_as r fault))
      (fault_made r w.heap u.heap is.heap fault)

  raised_by : (place : Place) (w u : PlainWorld) → IsWorld r w u → (v : Val) (named exception : Option Kind)
      → IsFailure r (raise_by place w v named exception) (raise_by place u (value r v) named exception)
  raised_by place w u is v (Some kind) _ =
      made_raised place w u is (making w.heap (ExceptionObject kind Empty [] 0 []))
      (making u.heap (ExceptionObject kind Empty [] 0 []))
      (making_as r w.heap u.heap is.heap (ExceptionObject kind Empty [] 0 []))
  raised_by place w u is (At n) None (Some kind) = (refl, placed_world place w u is n (r.to n) refl)
  raised_by place w u is v None _ = fault_raised place w u is NotAnException

  pub value_raised : (place : Place) (w u : PlainWorld) → IsWorld r w u → (v : Val)
      → IsFailure r (raise_value place w v) (raise_value place u (value r v))
  value_raised place w u is v =
      subst (λ z. IsFailure r (raise_value place w v) (raise_by place u (value r v) z
      (exception_kind u.heap (value r v)))) (sym (named_kind_as r v))
      (subst (λ z. IsFailure r (raise_value place w v) (raise_by place u (value r v) (named_kind v) z))
      (sym (exception_kind_as r w.heap u.heap is.heap v))
      (raised_by place w u is v (named_kind v) (exception_kind w.heap v)))

  pub raised_again : (place : Place) (w u : PlainWorld) → IsWorld r w u → (handled : List ℕ)
      → IsFailure r (raise_again place w handled) (raise_again place u (map r.to handled))
  raised_again place w u is [] = fault_raised place w u is NothingToRaise
  raised_again place w u is (x ∷ handled) = (refl, is)

  -- what effects give at their places
  failed_as : {A : Type 0} (f : A → A) (x y : Fails) → IsFailure r x y → IsGiven r f (failed x) (failed y)
  failed_as f (Thrown x w) (Thrown y u) p = p
  failed_as f (Filled e w) (Filled d u) p = p
  failed_as f (Thrown x w) (Filled d u) p = absurd p
  failed_as f (Filled e w) (Thrown y u) p = absurd p

  answered : {A : Type 0} (f : A → A) (place : Place) (w u : PlainWorld) → IsWorld r w u → (a : Result A Stop)
      → IsGiven r f (given_answer place w a) (given_answer place u (answer_as r f a))
  answered f place w u is (Ok a) = (refl, is)
  answered f place w u is (Err (Full e)) = (refl, is)
  answered f place w u is (Err (Raises fault)) =
      failed_as f (fault_at place w fault) (fault_at place u (fault_as r fault)) (fault_raised place w u is fault)

  pub given_as : {A : Type 0} (f : A → A) (place : Place) (e d : Effect A) → IsEffect r f e d
      → IsGiven r f (given place e) (given place d)
  given_as f place e d same =
      subst (λ z. IsGiven r f (given place e) (given_answer place d.world z)) (sym same.answer)
      (answered f place e.world d.world same.world e.answer)

  -- locals
  local_opened : (o : Option (Option Val))
      → option_and_then (λ v. v) (option_map (option_map (value r)) o) ≡ option_map (value r)
      (option_and_then (λ v. v) o)
  local_opened (Some v) = refl
  local_opened None = refl

  pub local_as : (locals : Locals) (slot : ℕ)
      → local_at (locals_as r locals) slot ≡ option_map (value r) (local_at locals slot)
  local_as locals slot =
      ap (option_and_then (λ v. v)) (slice_get-map (option_map (value r)) locals slot) ∙ local_opened
      (slice_get locals slot)

  module _ (w u : PlainWorld) (is : IsWorld r w u) where
    assigned_as : (o : Option Val) → IsEffect r (value r) (assigned w o) (assigned u (option_map (value r) o))
    assigned_as (Some v) = does_as (value r) w u is v (value r v) refl
    assigned_as None = faults_as (value r) w u is Unassigned Unassigned refl

    pub load_local_as : (locals : Locals) (slot : ℕ)
        → IsEffect r (value r) (load_local w locals slot) (load_local u (locals_as r locals) slot)
    load_local_as locals slot =
        subst (λ z. IsEffect r (value r) (load_local w locals slot) (assigned u z)) (sym (local_as locals slot))
        (assigned_as (local_at locals slot))

    -- names of a module
    module _ (n m : ℕ) (e : m ≡ r.to n) where
      named_in_as : (name : List ℕ) → named_in u m name ≡ option_map (value r) (named_in w n name)
      named_in_as name =
          ap (λ z. value_of_key u.heap z (Str name)) (pairs_of_object r w.heap u.heap is.heap n m e) ∙ value_of_key_as
          r w.heap u.heap is.heap (pairs_at w.heap n) (Str name)

      built_in_as : (name : List ℕ) (o : Option Builtin)
          → IsEffect r (value r) (built_in w name o) (built_in u name o)
      built_in_as name (Some b) = does_as (value r) w u is (Built b) (Built b) refl
      built_in_as name None = faults_as (value r) w u is (NoSuchName name) (NoSuchName name) refl

      found_as : (name : List ℕ) (o : Option Val)
          → IsEffect r (value r) (found_global w name o) (found_global u name (option_map (value r) o))
      found_as name (Some v) = does_as (value r) w u is v (value r v) refl
      found_as name None = built_in_as name (global_named name)

      pub load_global_as : (name : List ℕ) → IsEffect r (value r) (load_global w n name) (load_global u m name)
      load_global_as name =
          subst (λ z. IsEffect r (value r) (load_global w n name) (found_global u name z)) (sym (named_in_as name))
          (found_as name (named_in w n name))

      pub store_global_as : (name : List ℕ) (v : Val)
          → IsEffect r (value r) (store_global w n name v) (store_global u m name (value r v))
      store_global_as name v =
          on_heap_as (value r) w u is (put_pair w.heap n (Str name) v) (put_pair u.heap m (Str name) (value r v))
          (put_pair_as r w.heap u.heap is.heap n m e (Str name) v)

      without_name : (name : List ℕ)
          → IsRenamed r (with_dict w.heap n (without_key w.heap (pairs_at w.heap n) (Str name)))
          (with_dict u.heap m (without_key u.heap (pairs_at u.heap m) (Str name)))
      without_name name =
          put_dict r w.heap u.heap is.heap n m e (without_key w.heap (pairs_at w.heap n) (Str name))
          (without_key u.heap (pairs_at u.heap m) (Str name))
          (ap (λ z. without_key u.heap z (Str name)) (pairs_of_object r w.heap u.heap is.heap n m e) ∙ without_key_as
          r w.heap u.heap is.heap (pairs_at w.heap n) (Str name))

      deleted_as : (name : List ℕ) (o : Option Val)
          → IsEffect r (value r) (deleted_global w n name o) (deleted_global u m name (option_map (value r) o))
      deleted_as name (Some v) =
          let h : PlainHeap = with_dict w.heap n (without_key w.heap (pairs_at w.heap n) (Str name)) in
          let k : PlainHeap = with_dict u.heap m (without_key u.heap (pairs_at u.heap m) (Str name)) in
          does_as (value r) (record w { heap = h }) (record u { heap = k }) (with_heap w u is h k (without_name name))
          Nil Nil refl
      deleted_as name None = faults_as (value r) w u is (NoSuchName name) (NoSuchName name) refl

      pub delete_global_as : (name : List ℕ) → IsEffect r (value r) (delete_global w n name) (delete_global u m name)
      delete_global_as name =
          subst (λ z. IsEffect r (value r) (delete_global w n name) (deleted_global u m name z))
          (sym (named_in_as name)) (deleted_as name (named_in w n name))

    -- attributes
    looked_up_as : (object : Val) (name : List ℕ) (a : Attribute)
        → IsEffect r (looked_as r) (looked_up w object name a) (looked_up u (value r object) name (attribute_as r a))
    looked_up_as object name (Found v) = does_as (looked_as r) w u is (Free v) (Free (value r v)) refl
    looked_up_as object name (Method method) =
        does_as (looked_as r) w u is (Bound method object) (Bound method (value r object)) refl
    looked_up_as object name Absent =
        on_heap_as (looked_as r) w u is (no_attribute w.heap object name) (no_attribute u.heap (value r object) name)
        (no_attribute_as r w.heap u.heap is.heap (looked_as r) object name)

    pub load_method_as : (object : Val) (name : List ℕ)
        → IsEffect r (looked_as r) (load_method w object name) (load_method u (value r object) name)
    load_method_as object name =
        subst (λ a. IsEffect r (looked_as r) (load_method w object name) (looked_up u (value r object) name a))
        (sym (attribute_same r w.heap u.heap is.heap object name))
        (looked_up_as object name (attribute w.heap object name))

    imported_as : (object : Val) (name : List ℕ) (a : Attribute)
        → IsOutcome r (value r) (imported_from w.heap object name a)
        (imported_from u.heap (value r object) name (attribute_as r a))
    imported_as object name (Found v) = combining.given r (value r) w.heap u.heap is.heap v (value r v) refl
    imported_as object name (Method method) = making_as r w.heap u.heap is.heap (MethodObject object method)
    imported_as object name Absent =
        combining.raised r (value r) w.heap u.heap is.heap (NotImported name) (NotImported name) refl

    pub import_from_as : (object : Val) (name : List ℕ)
        → IsEffect r (value r) (import_from w object name) (import_from u (value r object) name)
    import_from_as object name =
        on_heap_as (value r) w u is (imported_from w.heap object name (attribute w.heap object name))
        (imported_from u.heap (value r object) name (attribute u.heap (value r object) name))
        (subst (λ a. IsOutcome r (value r) (imported_from w.heap object name (attribute w.heap object name))
        (imported_from u.heap (value r object) name a)) (sym (attribute_same r w.heap u.heap is.heap object name))
        (imported_as object name (attribute w.heap object name)))

    -- pairs of a dict
    stored_as : (d key v : Val) (s : Shown)
        → IsEffect r (value r) (stored_shown w d key v s)
        (stored_shown u (value r d) (value r key) (value r v) (shown_as r s))
    stored_as d key v (Pairs pairs) =
        on_heap_as (value r) w u is (set_item w.heap d key v) (set_item u.heap (value r d) (value r key) (value r v))
        (set_item_as r w.heap u.heap is.heap d key v)
    stored_as d key v _ =
        faults_as (value r) w u is (NotAssignable (type_name w.heap d)) (NotAssignable (type_name u.heap (value r d)))
        (ap NotAssignable (type_as r w.heap u.heap is.heap d))

    pub store_pair_as : (d key v : Val)
        → IsEffect r (value r) (store_pair w d key v) (store_pair u (value r d) (value r key) (value r v))
    store_pair_as d key v =
        subst (λ s. IsEffect r (value r) (store_pair w d key v)
        (stored_shown u (value r d) (value r key) (value r v) s)) (sym (seen r w.heap u.heap is.heap d))
        (stored_as d key v (shown w.heap d))

  -- reports
  module _ (h k : PlainHeap) (is : IsRenamed r h k) where
    text_shown : (s : Shown) → shown_text (shown_as r s) ≡ shown_text s
    text_shown Nothing = refl
    text_shown (Number z) = refl
    text_shown (Text bytes) = refl
    text_shown (Tuple items) = refl
    text_shown (Items items) = refl
    text_shown (Pairs pairs) = refl
    text_shown (Range start stop step) = refl
    text_shown Other = refl

    text_seen : (v : Val) → shown_text (shown k (value r v)) ≡ shown_text (shown h v)
    text_seen v = ap shown_text (seen r h k is v) ∙ text_shown (shown h v)

    sole_as : (v : Val) → sole_text k (value r v) ≡ sole_text h v
    sole_as (Truth b) = refl
    sole_as v = text_seen v

    arguments_told : (vs : List Val) → arguments_text k (map (value r) vs) ≡ arguments_text h vs
    arguments_told [] = refl
    arguments_told (v ∷ []) = sole_as v
    arguments_told (v ∷ w ∷ vs) = refl

    arguments_seen : (args : Val) → arguments_text k (items_of_tuple (shown k (value r args))) ≡ arguments_text h
        (items_of_tuple (shown h args))
    arguments_seen args =
        ap (arguments_text k) (arguments_as r h k is args) ∙ arguments_told (items_of_tuple (shown h args))

    reported : (o : Option (Object Val (List ℕ))) → report_of k (option_map (object_as r) o) ≡ report_of h o
    reported (Some (ExceptionObject kind args file line name)) =
        ap (λ z. codes "Traceback (most recent call last):\n  File \"" ++ file ++ codes "\", line " ++ decimal
        line ++ codes ", in " ++ name ++ codes "\n" ++ kind_name kind ++ codes ": " ++ z ++ codes "\n")
        (arguments_seen args)
    reported (Some (ListObject items room)) = refl
    reported (Some (TupleObject items)) = refl
    reported (Some (TextObject bytes)) = refl
    reported (Some (DictObject pairs room)) = refl
    reported (Some (FunctionObject own module_name code names defaults)) = refl
    reported (Some (MethodObject v method)) = refl
    reported (Some (RangeObject start stop step)) = refl
    reported (Some (ModuleObject own names)) = refl
    reported None = refl

    pub report_as : (end : End) → end_report k (end_as r end) ≡ end_report h end
    report_as (Raised x) = ap (report_of k) (is.objects x) ∙ reported (object h.objects x)
    report_as Open = refl
    report_as Ended = refl
    report_as (Memory e) = refl
