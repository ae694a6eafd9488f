-- Effects give plain values of plain ones, and leave a sound world.
use Rattle.std.proofs.Common.{◌≡◌, ℕ, zero, suc, List, [], ◌∷◌, map, false, Option, Some, None, Result, Ok, Err, refl}
use Rattle.std.specs.List.{AllByRecursion as Each}
use Rattle.bc_progress.specs.mpy_base.declared.builtin.Builtin.{Builtin}
use Rattle.bc_progress.specs.mpy_base.declared.builtin.Builtin.TheVariants as builtins
use Rattle.bc_progress.specs.mpy_base.declared.kind.Kind.{Kind}
use Rattle.bc_progress.specs.mpy_base.World.{ExceptionObject, object, pairs_at}
use Rattle.bc_progress.specs.mpy_base.Val.{Val, Str, Empty, At, PlainWorld}
use Rattle.bc_progress.specs.py_values.Shown.{PlainHeap, Shown, Pairs, shown}
use Rattle.bc_progress.specs.py_values.Names.{builtin_name}
use Rattle.bc_progress.specs.py_primitives.Builtins.{global_named, globals, all_kinds}
use Rattle.bc_progress.specs.py_primitives.Faults.{Fault, NotAnException, NothingToRaise}
use Rattle.bc_progress.specs.py_primitives.Outcome.{Stop, Raises, Full, Outcome, making, making_fault}
use Rattle.bc_progress.specs.py_primitives.Output.{Ends, printed_with}
use Rattle.bc_progress.specs.py_primitives.Walks.{walk_all}
use Rattle.bc_progress.specs.py_primitives.Texts.{str_of}
use Rattle.bc_progress.specs.py_primitives.Operators.{named_kind, exception_kind}
use Rattle.bc_progress.specs.py_primitives.Uses.{Attribute, Found, Method, Absent, attribute, put_pair, set_item}
use Rattle.bc_progress.specs.py_effects.Effect.{Effect, on_heap, Place, Given, Gives, Throws, Fills, Fails, Thrown, Filled, failed, number_of, raised_new, fault_at, given_answer, given}
use Rattle.bc_progress.specs.py_effects.Names.{named_in, built_in, found_global, load_global, store_global, deleted_global, delete_global, Locals, local_at, assigned, load_local, Looked, Bound, Free, looked_up, load_method, imported_from, import_from, stored_shown, store_pair, raise_by, raise_value, raise_again}
use Rattle.bc_progress.specs.py_effects.Calling.{written}
use Rattle.bc_progress.specs.bc_machine.Library.{Library}
use Rattle.bc_progress.specs.Known.{HasMethod}
use Rattle.snap_kept.specs.Texts.{is_method, IsName}
use Rattle.snap_kept.specs.Values.{title_of, IsNamespace, IsPlain}
use Rattle.snap_kept.specs.Effects.{IsLocal, AreLocals, IsSound}
use Rattle.snap_kept.proofs.Onward.{Onward, title_on, onward_same, onward_on}
use Rattle.snap_kept.proofs.Changes.{Comes, comes_same, place_comes, namespace_dict}
use Rattle.snap_kept.proofs.Lists.{each_all, each_map}
use Rattle.snap_kept.proofs.Making.{FaultIn, AnswerIn, IsIn, IsRaised, exception_made, fault_in, walked}
use Rattle.snap_kept.proofs.Using.{named_one, value_plain, dict_at, dict_comes, set_in_item, attribute_in, AttributeIn, bound_in, name_in}

-- the built-ins that have names of their own are no methods
global_plain : (name : List ℕ) (b : Builtin) → global_named name ≡ Some b → is_method b ≡ false
global_plain name b e =
    named_one (map (λ b. (builtin_name b, b)) globals) name b
    (each_map (λ x. is_method x ≡ false) (λ (e : List ℕ × Builtin). is_method (e.1) ≡ false) (λ b. (builtin_name b, b)) (λ x q. q) globals
    (refl, (refl, (refl, (refl, (refl, (refl, (refl, (refl, (refl, (refl, (refl, (refl, (refl, (refl, (refl, (refl, each_map (λ k. Unit {0}) (λ x. is_method x ≡ false) builtins.Kind (λ k u. refl) all_kinds (each_all (λ k. Unit {0}) (λ k. tt) all_kinds)))))))))))))))))) e

module _ (library : Library) where
  -- a sound world goes on to one
  pub record WorldComes (w u : PlainWorld) : Type 0 where
    pub onward : Onward w.heap u.heap
    pub sound : IsSound library u

  pub world_same : (w : PlainWorld) → IsSound library w → WorldComes w w
  world_same w s = record { onward = onward_same w.heap; sound = s }

  pub world_on : (a b c : PlainWorld) → WorldComes a b → WorldComes b c → WorldComes a c
  world_on a b c p q = record { onward = onward_on a.heap b.heap c.heap p.onward q.onward; sound = q.sound }

  titles_on : (h k : PlainHeap) → Onward h k → (modules : List (List ℕ × ℕ)) → Each (λ m. title_of (object h.objects (m.1)) ≡ Some (m.0)) modules
      → Each (λ m. title_of (object k.objects (m.1)) ≡ Some (m.0)) modules
  titles_on h k on [] p = tt
  titles_on h k on (m ∷ modules) p = (title_on h k on (m.1) (m.0) (p.0), titles_on h k on modules (p.1))

  -- where the heap alone goes on
  pub heap_comes : (w : PlainWorld) (k : PlainHeap) → IsSound library w → Comes library w.heap k → WorldComes w (record w { heap = k })
  heap_comes w k s c = record { onward = c.onward; sound = record { heap = c.fine; titles = titles_on w.heap k c.onward w.modules s.titles } }

  abbrev pub AnswerW : {A : Type 0} → (PlainHeap → A → Type 0) → PlainWorld → PlainWorld → Result A Stop → Type 0
  AnswerW In w u (Ok a) = WorldComes w u × In u.heap a
  AnswerW In w u (Err (Raises fault)) = WorldComes w u × FaultIn library u.heap fault
  AnswerW In w u (Err (Full room)) = Unit {0}

  abbrev pub EffectIn : {A : Type 0} → (PlainHeap → A → Type 0) → PlainWorld → Effect A → Type 0
  EffectIn In w e = AnswerW In w e.world e.answer

  heap_by : {A : Type 0} (In : PlainHeap → A → Type 0) (w : PlainWorld) (k : PlainHeap) (r : Result A Stop) → IsSound library w → AnswerIn library In w.heap k r → AnswerW In w (record w { heap = k }) r
  heap_by In w k (Ok a) s p = (heap_comes w k s (p.0), p.1)
  heap_by In w k (Err (Raises fault)) s p = (heap_comes w k s (p.0), p.1)
  heap_by In w k (Err (Full room)) s p = tt

  -- a primitive that concerns the heap alone
  pub heap_in : {A : Type 0} (In : PlainHeap → A → Type 0) (w : PlainWorld) (o : Outcome A) → IsSound library w → IsIn library In w.heap o → EffectIn In w (on_heap w o)
  heap_in In w o s p = heap_by In w o.heap o.answer s p

  -- raising
  -- =======

  -- the place has names
  pub record IsPlace (place : Place) : Type 0 where
    pub file : IsName library place.file
    pub name : IsName library place.name

  abbrev pub FailsIn : PlainWorld → Fails → Type 0
  FailsIn w (Thrown x u) = WorldComes w u
  FailsIn w (Filled e u) = Unit {0}

  abbrev pub GivenIn : {A : Type 0} → (PlainHeap → A → Type 0) → PlainWorld → Given A → Type 0
  GivenIn In w (Gives a u) = WorldComes w u × In u.heap a
  GivenIn In w (Throws x u) = WorldComes w u
  GivenIn In w (Fills e u) = Unit {0}

  module _ (place : Place) (at : IsPlace place) where
    raised_by : (In : PlainHeap → Val → Type 0) (w u : PlainWorld) (r : Result Val Stop) → AnswerW In w u r → FailsIn w (raised_new place u r)
    raised_by In w u (Ok v) p = world_on w u _ (p.0) (heap_comes u _ (p.0).sound (place_comes library u.heap (number_of v) place.file place.line place.name (p.0).sound.heap at.file at.name))
    raised_by In w u (Err (Full e)) p = tt
    raised_by In w u (Err (Raises fault)) p = p.0

    pub fault_fails : (w : PlainWorld) (fault : Fault) → IsSound library w → FaultIn library w.heap fault → FailsIn w (fault_at place w fault)
    fault_fails w fault s p =
        let o = making_fault w.heap fault in
        raised_by (IsRaised library) w (record w { heap = o.heap }) o.answer (heap_by (IsRaised library) w o.heap o.answer s (fault_in library w.heap fault s.heap p))

    raise_by_in : (w : PlainWorld) (v : Val) (a b : Option Kind) → IsSound library w → FailsIn w (raise_by place w v a b)
    raise_by_in w v (Some kind) b s =
        let o = making w.heap (ExceptionObject kind Empty [] 0 []) in
        raised_by (IsRaised library) w (record w { heap = o.heap }) o.answer (heap_by (IsRaised library) w o.heap o.answer s (exception_made library w.heap kind Empty s.heap (tt, refl)))
    raise_by_in w (At n) None (Some kind) s = heap_comes w _ s (place_comes library w.heap n place.file place.line place.name s.heap at.file at.name)
    raise_by_in w v None b s = fault_fails w NotAnException s tt

    pub value_fails : (w : PlainWorld) (v : Val) → IsSound library w → FailsIn w (raise_value place w v)
    value_fails w v s = raise_by_in w v (named_kind v) (exception_kind w.heap v) s

    pub again_fails : (w : PlainWorld) (handled : List ℕ) → IsSound library w → FailsIn w (raise_again place w handled)
    again_fails w [] s = fault_fails w NothingToRaise s tt
    again_fails w (x ∷ handled) s = world_same w s

    failed_in : {A : Type 0} (In : PlainHeap → A → Type 0) (w u : PlainWorld) (f : Fails) → WorldComes w u → FailsIn u f → GivenIn In w (failed f)
    failed_in In w u (Thrown x v) c p = world_on w u v c p
    failed_in In w u (Filled e v) c p = tt

    answer_given : {A : Type 0} (In : PlainHeap → A → Type 0) (w u : PlainWorld) (r : Result A Stop) → AnswerW In w u r → GivenIn In w (given_answer place u r)
    answer_given In w u (Ok a) p = p
    answer_given In w u (Err (Full e)) p = tt
    answer_given In w u (Err (Raises fault)) p = failed_in In w u (fault_at place u fault) (p.0) (fault_fails u fault (p.0).sound (p.1))

    -- what an effect gives at a place
    pub given_in : {A : Type 0} (In : PlainHeap → A → Type 0) (w : PlainWorld) (e : Effect A) → EffectIn In w e → GivenIn In w (given place e)
    given_in In w e p = answer_given In w e.world e.answer p

  -- what a method call begins with
  abbrev pub LookedIn : PlainHeap → Looked → Type 0
  LookedIn h (Bound method object) = IsPlain library h object × HasMethod h.objects object method
  LookedIn h (Free v) = IsPlain library h v

  -- names
  -- =====

  module _ (w : PlainWorld) (s : IsSound library w) where
    abbrev pub E : Effect Val → Type 0
    E e = EffectIn (IsPlain library) w e

    pub nothing : WorldComes w w × Unit {0}
    nothing = (world_same w s, tt)

    built_in_in : (name : List ℕ) (o : Option Builtin) → global_named name ≡ o → E (built_in w name o)
    built_in_in name (Some b) e = (world_same w s, global_plain name b e)
    built_in_in name None e = nothing

    found_in : (name : List ℕ) (o : Option Val) → ((v : Val) → o ≡ Some v → IsPlain library w.heap v) → E (found_global w name o)
    found_in name (Some v) on = (world_same w s, on v refl)
    found_in name None on = built_in_in name (global_named name) refl

    pub load_in : (names : ℕ) (name : List ℕ) → IsNamespace w.heap names → E (load_global w names name)
    load_in names name space = found_in name (named_in w names name) (λ v e. value_plain library w.heap (pairs_at w.heap names) (Str name) v (dict_at library w.heap names s.heap (namespace_dict library w.heap names s.heap space)).plain e)

    pub store_in : (names : ℕ) (name : List ℕ) (v : Val) → IsNamespace w.heap names → IsName library name → IsPlain library w.heap v → E (store_global w names name v)
    store_in names name v space is p = heap_in (IsPlain library) w (put_pair w.heap names (Str name) v) s (name_in library w.heap s.heap names name v space is p)

    deleted_in : (names : ℕ) (name : List ℕ) (o : Option Val) → IsNamespace w.heap names → E (deleted_global w names name o)
    deleted_in names name (Some v) space = (heap_comes w _ s (dict_comes library w.heap s.heap names (Str name) (namespace_dict library w.heap names s.heap space)), tt)
    deleted_in names name None space = nothing

    pub delete_in : (names : ℕ) (name : List ℕ) → IsNamespace w.heap names → E (delete_global w names name)
    delete_in names name space = deleted_in names name (named_in w names name) space

    assigned_in : (o : Option Val) → IsLocal library w.heap o → E (assigned w o)
    assigned_in (Some v) p = (world_same w s, p)
    assigned_in None p = nothing

    local_is : (locals : Locals) (slot : ℕ) → AreLocals library w.heap locals → IsLocal library w.heap (local_at locals slot)
    local_is [] slot p = tt
    local_is (o ∷ locals) zero p = p.0
    local_is (o ∷ locals) (suc slot) p = local_is locals slot (p.1)

    pub local_in : (locals : Locals) (slot : ℕ) → AreLocals library w.heap locals → E (load_local w locals slot)
    local_in locals slot p = assigned_in (local_at locals slot) (local_is locals slot p)

    -- attributes
    -- ==========

    pub looked_in : (v : Val) (name : List ℕ) (a : Attribute) → IsPlain library w.heap v → AttributeIn library w.heap s.heap v a → EffectIn LookedIn w (looked_up w v name a)
    looked_in v name (Found u) p q = (world_same w s, q)
    looked_in v name (Method m) p q = (world_same w s, (p, q))
    looked_in v name Absent p q = nothing

    pub load_method_in : (v : Val) (name : List ℕ) → IsPlain library w.heap v → EffectIn LookedIn w (load_method w v name)
    load_method_in v name p = looked_in v name (attribute w.heap v name) p (attribute_in library w.heap s.heap v name (attribute w.heap v name) refl)

    imported_in : (v : Val) (name : List ℕ) (a : Attribute) → IsPlain library w.heap v → AttributeIn library w.heap s.heap v a → IsIn library (IsPlain library) w.heap (imported_from w.heap v name a)
    imported_in v name (Found u) p q = (comes_same library w.heap s.heap, q)
    imported_in v name (Method m) p q = bound_in library w.heap s.heap v m p q
    imported_in v name Absent p q = (comes_same library w.heap s.heap, tt)

    pub import_in : (v : Val) (name : List ℕ) → IsPlain library w.heap v → E (import_from w v name)
    import_in v name p = heap_in (IsPlain library) w (imported_from w.heap v name (attribute w.heap v name)) s (imported_in v name (attribute w.heap v name) p (attribute_in library w.heap s.heap v name (attribute w.heap v name) refl))

    stored_in_in : (d key v : Val) (t : Shown) → IsPlain library w.heap d → IsPlain library w.heap key → IsPlain library w.heap v → E (stored_shown w d key v t)
    stored_in_in d key v (Pairs pairs) p q r = heap_in (IsPlain library) w (set_item w.heap d key v) s (set_in_item library w.heap s.heap d key v p q r)
    stored_in_in d key v _ p q r = nothing

    pub pair_in : (d key v : Val) → IsPlain library w.heap d → IsPlain library w.heap key → IsPlain library w.heap v → E (store_pair w d key v)
    pair_in d key v p q r = stored_in_in d key v (shown w.heap d) p q r

    -- calls
    -- =====

    pub printed_by : (args : List Val) (r : Result Ends Fault) → ((fault : Fault) → r ≡ Err fault → FaultIn library w.heap fault) → IsIn library (λ k text. Unit {0}) w.heap (printed_with w.heap args r)
    printed_by args (Ok ends) p = walked library (λ k text. Unit {0}) w.heap (walk_all (str_of w.heap) args) _ s.heap (λ texts e. (comes_same library w.heap s.heap, tt))
    printed_by args (Err fault) p = (comes_same library w.heap s.heap, p fault refl)

    pub written_in : (o : Outcome (List ℕ)) (r : Result (List ℕ) Stop) → AnswerIn library (λ k text. Unit {0}) w.heap o.heap r → E (written w o r)
    written_in o (Ok text) p = (record { onward = (p.0).onward; sound = record { heap = (p.0).fine; titles = titles_on w.heap o.heap (p.0).onward w.modules s.titles } }, tt)
    written_in o (Err (Raises fault)) p = (heap_comes w o.heap s (p.0), p.1)
    written_in o (Err (Full e)) p = tt
