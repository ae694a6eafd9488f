-- What effects do in a world in which something was printed before.
use Rattle.std.proofs.Common.{◌≡◌, ℕ, List, [], ◌∷◌, Option, Some, None, Result, Ok, Err, refl, ap, ◌∙◌, append_assoc}
use Rattle.mpy_tree.specs.mpy_base.declared.builtin.Builtin.{Builtin}
use Rattle.mpy_tree.specs.mpy_base.declared.builtin.Builtin.TheVariants as builtins
use Rattle.mpy_tree.specs.mpy_base.declared.kind.Kind.{Kind}
use Rattle.mpy_tree.specs.mpy_base.World.{ExceptionObject, names_of, object}
use Rattle.mpy_tree.specs.mpy_base.Val.{Val, Nil, Empty, At, PlainWorld}
use Rattle.py_effects.specs.py_values.Shown.{Shown, Pairs, shown}
use Rattle.py_effects.specs.py_primitives.Builtins.{global_named}
use Rattle.py_effects.specs.py_primitives.Faults.{Fault, NotAnException, NothingToRaise}
use Rattle.py_effects.specs.py_primitives.Operators.{exception_kind, named_kind}
use Rattle.py_effects.specs.py_primitives.Output.{printed}
use Rattle.py_effects.specs.py_primitives.Outcome.{Stop, Raises, Full, Outcome, making, making_fault}
use Rattle.py_effects.specs.py_primitives.Uses.{Attribute, Found, Method, Absent, attribute}
use Rattle.py_effects.specs.Effect.{Effect, does, faults, Place, Given, Gives, Throws, Fills, Fails, Thrown, Filled, failed, raised_new, raise_made, fault_at, given_answer, given}
use Rattle.py_effects.specs.Names.{Locals, named_in, built_in, found_global, load_global, deleted_global, delete_global, local_at, assigned, load_local, looked_up, load_method, stored_shown, store_pair, raise_by, raise_value, raise_again}
use Rattle.py_effects.specs.Calling.{Keys, written, call_builtin, bound, bind}
use Rattle.py_effects.specs.Modules.{Made, registered, making_module, make_module, registered_as, outer_name, stored_in, stored_under, store_module}
use Rattle.bc_machine.specs.Behind.{behind}

module _ (front : List ℕ) where
  abbrev pub b : PlainWorld → PlainWorld
  b w = behind front w

  abbrev pub effect_b : {A : Type 0} → Effect A → Effect A
  effect_b e = record { answer = e.answer; world = b e.world; visits = e.visits }

  abbrev pub given_b : {A : Type 0} → Given A → Given A
  given_b (Gives a w) = Gives a (b w)
  given_b (Throws x w) = Throws x (b w)
  given_b (Fills e w) = Fills e (b w)

  abbrev pub fails_b : Fails → Fails
  fails_b (Thrown x w) = Thrown x (b w)
  fails_b (Filled e w) = Filled e (b w)

  -- raising
  raised_behind : (place : Place) (w : PlainWorld) (r : Result Val Stop) → raised_new place (b w) r ≡ fails_b (raised_new place w r)
  raised_behind place w (Ok v) = refl
  raised_behind place w (Err (Full e)) = refl
  raised_behind place w (Err (Raises f)) = refl

  made_behind : (place : Place) (w : PlainWorld) (o : Outcome Val) → raise_made place (b w) o ≡ fails_b (raise_made place w o)
  made_behind place w o = raised_behind place (record w { heap = o.heap }) o.answer

  pub fault_behind : (place : Place) (w : PlainWorld) (f : Fault) → fault_at place (b w) f ≡ fails_b (fault_at place w f)
  fault_behind place w f = made_behind place w (making_fault w.heap f)

  by_kinds : (place : Place) (w : PlainWorld) (v : Val) (x y : Option Kind) → raise_by place (b w) v x y ≡ fails_b (raise_by place w v x y)
  by_kinds place w v (Some k) y = made_behind place w (making w.heap (ExceptionObject k Empty [] 0 []))
  by_kinds place w (At n) None (Some k) = refl
  by_kinds place w v None y = fault_behind place w NotAnException

  pub value_behind : (place : Place) (w : PlainWorld) (v : Val) → raise_value place (b w) v ≡ fails_b (raise_value place w v)
  value_behind place w v = by_kinds place w v (named_kind v) (exception_kind w.heap v)

  pub again_behind : (place : Place) (w : PlainWorld) (handled : List ℕ) → raise_again place (b w) handled ≡ fails_b (raise_again place w handled)
  again_behind place w [] = fault_behind place w NothingToRaise
  again_behind place w (x ∷ handled) = refl

  -- what effects give
  failed_behind : {A : Type 0} (f : Fails) → failed {A = A} (fails_b f) ≡ given_b (failed {A = A} f)
  failed_behind (Thrown x w) = refl
  failed_behind (Filled e w) = refl

  answer_behind : {A : Type 0} (place : Place) (w : PlainWorld) (r : Result A Stop) → given_answer place (b w) r ≡ given_b (given_answer place w r)
  answer_behind place w (Ok a) = refl
  answer_behind place w (Err (Full e)) = refl
  answer_behind {A = A} place w (Err (Raises f)) = ap (λ (x : Fails). failed {A = A} x) (fault_behind place w f) ∙ failed_behind {A = A} (fault_at place w f)

  pub given_behind : {A : Type 0} (place : Place) (e : Effect A) → given place (effect_b e) ≡ given_b (given place e)
  given_behind place e = answer_behind place e.world e.answer

  -- names
  built_behind : (w : PlainWorld) (name : List ℕ) (o : Option Builtin) → built_in (b w) name o ≡ effect_b (built_in w name o)
  built_behind w name (Some x) = refl
  built_behind w name None = refl

  found_behind : (w : PlainWorld) (name : List ℕ) (o : Option Val) → found_global (b w) name o ≡ effect_b (found_global w name o)
  found_behind w name (Some v) = refl
  found_behind w name None = built_behind w name (global_named name)

  pub global_behind : (w : PlainWorld) (names : ℕ) (name : List ℕ) → load_global (b w) names name ≡ effect_b (load_global w names name)
  global_behind w names name = found_behind w name (named_in w names name)

  deleted_behind : (w : PlainWorld) (names : ℕ) (name : List ℕ) (o : Option Val) → deleted_global (b w) names name o ≡ effect_b (deleted_global w names name o)
  deleted_behind w names name (Some v) = refl
  deleted_behind w names name None = refl

  pub delete_behind : (w : PlainWorld) (names : ℕ) (name : List ℕ) → delete_global (b w) names name ≡ effect_b (delete_global w names name)
  delete_behind w names name = deleted_behind w names name (named_in w names name)

  assigned_behind : (w : PlainWorld) (o : Option Val) → assigned (b w) o ≡ effect_b (assigned w o)
  assigned_behind w (Some v) = refl
  assigned_behind w None = refl

  pub local_behind : (w : PlainWorld) (locals : Locals) (slot : ℕ) → load_local (b w) locals slot ≡ effect_b (load_local w locals slot)
  local_behind w locals slot = assigned_behind w (local_at locals slot)

  looked_behind : (w : PlainWorld) (object : Val) (name : List ℕ) (a : Attribute) → looked_up (b w) object name a ≡ effect_b (looked_up w object name a)
  looked_behind w object name (Found v) = refl
  looked_behind w object name (Method m) = refl
  looked_behind w object name Absent = refl

  pub method_behind : (w : PlainWorld) (object : Val) (name : List ℕ) → load_method (b w) object name ≡ effect_b (load_method w object name)
  method_behind w object name = looked_behind w object name (attribute w.heap object name)

  stored_behind : (w : PlainWorld) (d key v : Val) (s : Shown) → stored_shown (b w) d key v s ≡ effect_b (stored_shown w d key v s)
  stored_behind w d key v (Pairs pairs) = refl
  stored_behind w d key v _ = refl

  pub pair_behind : (w : PlainWorld) (d key v : Val) → store_pair (b w) d key v ≡ effect_b (store_pair w d key v)
  pair_behind w d key v = stored_behind w d key v (shown w.heap d)

  -- calls
  written_behind : (w : PlainWorld) (o : Outcome (List ℕ)) (r : Result (List ℕ) Stop) → written (b w) o r ≡ effect_b (written w o r)
  written_behind w o (Ok text) =
      ap (λ (out : List ℕ). record { answer = Ok Nil; world = record w { heap = o.heap; output = out }; visits = o.visits }) (append_assoc front w.output text)
  written_behind w o (Err stop) = refl

  pub builtin_behind : (w : PlainWorld) (x : Builtin) (args : List Val) (keys : Keys) → call_builtin (b w) x args keys ≡ effect_b (call_builtin w x args keys)
  builtin_behind w builtins.Print args keys = written_behind w (printed w.heap args keys) (printed w.heap args keys).answer
  builtin_behind w builtins.PortPut args keys = refl
  builtin_behind w builtins.PortGet args keys = refl
  builtin_behind w builtins.PortCount args keys = refl
  builtin_behind w builtins.Port args keys = refl
  builtin_behind w x args keys = refl

  bound_behind : (w : PlainWorld) (r : Result Locals Fault) → (elim r [ Ok slots ↦ does slots (b w) | Err fault ↦ faults fault (b w) ]) ≡ effect_b (elim r [ Ok slots ↦ does slots w | Err fault ↦ faults fault w ])
  bound_behind w (Ok slots) = refl
  bound_behind w (Err fault) = refl

  pub bind_behind : (w : PlainWorld) (params : List (List ℕ)) (given : ℕ) (d : Val) (args : List Val) (keys : Keys) → bind (b w) params given d args keys ≡ effect_b (bind w params given d args keys)
  bind_behind w params given d args keys = bound_behind w (bound w.heap params given d args keys)

  -- modules
  on_made_behind : (w : PlainWorld) (name : List ℕ) (e : Effect Made) (r : Result Made Stop)
      → (elim r [ Ok made ↦ record { answer = Ok made; world = registered (b e.world) name made; visits = 0 } | Err stop ↦ effect_b e ])
      ≡ effect_b (elim r [ Ok made ↦ record { answer = Ok made; world = registered e.world name made; visits = 0 } | Err stop ↦ e ])
  on_made_behind w name e (Ok made) = refl
  on_made_behind w name e (Err stop) = refl

  pub module_behind : (w : PlainWorld) (name : List ℕ) → make_module (b w) name ≡ effect_b (make_module w name)
  module_behind w name = on_made_behind w name (making_module w name) (making_module w name).answer

  in_behind : (w : PlainWorld) (name : List ℕ) (m : ℕ) (o : Option ℕ) → stored_in (b w) name m o ≡ effect_b (stored_in w name m o)
  in_behind w name m (Some names) = refl
  in_behind w name m None = refl

  under_by : (w : PlainWorld) (name : List ℕ) (m : ℕ) (o : Option ℕ)
      → (elim o [ Some n ↦ stored_in (b w) name m (names_of (object w.heap.objects n)) | None ↦ does Nil (b w) ])
      ≡ effect_b (elim o [ Some n ↦ stored_in w name m (names_of (object w.heap.objects n)) | None ↦ does Nil w ])
  under_by w name m (Some n) = in_behind w name m (names_of (object w.heap.objects n))
  under_by w name m None = refl

  under_behind : (w : PlainWorld) (name : List ℕ) (m : ℕ) (o : Option (List ℕ)) → stored_under (b w) name m o ≡ effect_b (stored_under w name m o)
  under_behind w name m (Some outer) = under_by w name m (registered_as w.modules outer)
  under_behind w name m None = refl

  pub store_behind : (w : PlainWorld) (name : List ℕ) (m : ℕ) → store_module (b w) name m ≡ effect_b (store_module w name m)
  store_behind w name m = under_behind w name m (outer_name name)
