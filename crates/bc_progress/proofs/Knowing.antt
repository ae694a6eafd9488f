-- What a step learns of exceptions and methods: what is thrown is an exception, and what a look-up finds is a method.
use Rattle.std.proofs.Common.{◌≡◌, ℕ, zero, suc, ◌-◌, List, [], ◌∷◌, map, replicate, Bool, true, false, Option, Some, None, Result, Ok, Err, refl, sym, ap, ◌∙◌, subst, arith, if◌then◌else◌}
use Rattle.std.specs.Prelude.{IfSome}
use Rattle.std.specs.List.{cons_option}
use Rattle.std.proofs.lemmas.List.{get_or-append_right}
use Rattle.std.proofs.lemmas.List.Elements.{All-nil, All-cons, All-head, All-tail}
use Rattle.bc_machine.specs.mpy_base.declared.builtin.Builtin.{Builtin}
use Rattle.bc_machine.specs.mpy_base.declared.builtin.Builtin.TheVariants as builtins
use Rattle.bc_machine.specs.mpy_base.declared.kind.Kind.{Kind}
use Rattle.bc_machine.specs.mpy_base.World.{Object, ListObject, TupleObject, TextObject, DictObject, FunctionObject, ExceptionObject, MethodObject, RangeObject, ModuleObject, AnException, Objects, object, kind_of, IsA, with_place}
use Rattle.bc_machine.specs.mpy_base.Weights.{used, does_fit, cells_of, bytes_of, more_cells, with_made}
use Rattle.bc_machine.specs.mpy_base.Val.{Val, Nil, Truth, Int, Str, Fixed, Empty, Built, At, PlainWorld}
use Rattle.bc_machine.proofs.mpy_base_lemmas.Worlds.{later_place}
use Rattle.bc_machine.specs.py_values.Shown.{PlainHeap}
use Rattle.bc_machine.specs.py_primitives.Builtins.{named, list_methods, dict_methods, str_methods}
use Rattle.bc_machine.specs.py_primitives.Faults.{Fault, NotAnException, NothingToRaise, fault_kind, fault_value}
use Rattle.bc_machine.specs.py_primitives.Operators.{named_kind, raised_kind, exception_kind}
use Rattle.bc_machine.specs.py_primitives.Outcome.{Stop, Raises, Full, Outcome, gives, is_full, go_on_with, making, making_text, making_tuple, making_exception, fault_argument, making_fault}
use Rattle.bc_machine.specs.py_primitives.Uses.{Attribute, Found, Method, Absent, found_method, found_value, object_attribute, attribute}
use Rattle.bc_machine.specs.py_effects.Effect.{Effect, Place, Given, Gives, Throws, Fills, Fails, Thrown, Filled, failed, raised_new, fault_at, given_answer, given}
use Rattle.bc_machine.specs.py_effects.Names.{raise_by, raise_value, raise_again}
use Rattle.bc_machine.specs.Library.{Library}
use Rattle.bc_machine.specs.State.{Role, Main, Called, Imported, Entry, Frame, State, remark, abandoned, throw_in, throw_out, throw}
use Rattle.bc_machine.specs.Operations.{kept_of}
use Rattle.bc_progress.specs.Slots.{Facts, anything, KeepIn}
use Rattle.bc_progress.specs.Plans.{Plans}
use Rattle.bc_progress.specs.Fits.{FitsIn}
use Rattle.bc_progress.specs.Known.{IsAmong, KindHas, HasMethod, facts_of, objects_of}

-- the facts hold of the exceptions and methods that there are
pub record Covers (facts : Facts) (objects : Objects Val (List ℕ)) : Type 0 where
  pub exception : (x : ℕ) → IsA objects AnException x → facts.exception x
  pub method : (object : Val) (method : Builtin) → HasMethod objects object method → facts.method object method

-- a state fits, where the facts hold of what there is in its heap
abbrev pub FitsBehind : Facts → Plans → Library → State → Type 0
FitsBehind facts plans library s = Covers facts (objects_of s) → FitsIn facts plans library s

-- the objects behind have what they have
pub own_covered : (objects : Objects Val (List ℕ)) → Covers (facts_of objects) objects
own_covered objects = record { exception = λ x is. is; method = λ object method is. is }

pub all_covered : (objects : Objects Val (List ℕ)) → Covers anything objects
all_covered objects = record { exception = λ x is. tt; method = λ object method is. tt }

-- what is made
-- ============

pub made_there : (heap : PlainHeap) (o : Object Val (List ℕ)) → object (with_made heap o).objects (used heap) ≡ Some o
made_there heap o = get_or-append_right heap.objects (Some o ∷ replicate (more_cells o) None) (used heap) (used heap) None refl (omega arith) ∙ first (used heap - used heap) (omega arith)
  where
    first : (i : ℕ) → i ≡ 0 → object (Some o ∷ replicate (more_cells o) None) i ≡ Some o
    first zero e = refl
    first (suc i) e = absurd cc

-- no making raises
abbrev NeverRaises : Result Val Stop → Type 0
NeverRaises (Ok v) = Unit {0}
NeverRaises (Err (Full e)) = Unit {0}
NeverRaises (Err (Raises fault)) = ⊥

made_never : (heap : PlainHeap) (o : Object Val (List ℕ)) (b : Bool) → NeverRaises (if b then gives (At (used heap)) (with_made heap o) else is_full heap (cells_of o) (bytes_of o)).answer
made_never heap o true = tt
made_never heap o false = tt

text_never : (heap : PlainHeap) (text : List ℕ) → NeverRaises (making_text heap text).answer
text_never heap [] = tt
text_never heap (byte ∷ bytes) = let o : Object Val (List ℕ) = TextObject (byte ∷ bytes) in made_never heap o (does_fit heap (cells_of o) (bytes_of o))

tuple_never : (heap : PlainHeap) (items : List Val) → NeverRaises (making_tuple heap items).answer
tuple_never heap [] = tt
tuple_never heap (item ∷ items) = let o : Object Val (List ℕ) = TupleObject (item ∷ items) in made_never heap o (does_fit heap (cells_of o) (bytes_of o))

argument_never : (heap : PlainHeap) (fault : Fault) (o : Option Val) → NeverRaises (fault_argument heap fault o).answer
argument_never heap fault (Some v) = tt
argument_never heap fault None = text_never heap _

-- an exception, if it fits
abbrev IsNew : Result Val Stop → PlainHeap → Type 0
IsNew (Ok v) heap = (x : ℕ) × (v ≡ At x) × IsA heap.objects AnException x
IsNew (Err (Full e)) heap = Unit {0}
IsNew (Err (Raises fault)) heap = ⊥

new_made : (heap : PlainHeap) (kind : Kind) (args : Val) (file : List ℕ) (line : ℕ) (name : List ℕ) → let m = making heap (ExceptionObject kind args file line name) in IsNew m.answer m.heap
new_made heap kind args file line name =
    let o : Object Val (List ℕ) = ExceptionObject kind args file line name in
    by o (does_fit heap (cells_of o) (bytes_of o)) refl
  where
    by : (o : Object Val (List ℕ)) (b : Bool) → kind_of (Some o) ≡ Some AnException
        → let m : Outcome Val = if b then gives (At (used heap)) (with_made heap o) else is_full heap (cells_of o) (bytes_of o) in IsNew m.answer m.heap
    by o true e = (used heap, refl, ap kind_of (made_there heap o) ∙ e)
    by o false e = tt

new_behind : {A : Type 0} (r : Result A Stop) (heap : PlainHeap) (n : ℕ) (next : A → PlainHeap → Outcome Val) → ((fault : Fault) → r ≡ Err (Raises fault) → ⊥) → ((a : A) → IsNew (next a heap).answer (next a heap).heap)
    → let m = go_on_with r heap n next in IsNew m.answer m.heap
new_behind (Ok a) heap n next never k = k a
new_behind (Err (Full e)) heap n next never k = tt
new_behind (Err (Raises fault)) heap n next never k = never fault refl

none_raised : (r : Result Val Stop) → NeverRaises r → (fault : Fault) → r ≡ Err (Raises fault) → ⊥
none_raised r n fault e = subst NeverRaises e n

exception_new : (heap : PlainHeap) (kind : Kind) (items : List Val) → let m = making_exception heap kind items in IsNew m.answer m.heap
exception_new heap kind items =
    let first = making_tuple heap items in
    new_behind first.answer first.heap first.visits (λ args behind. making behind (ExceptionObject kind args [] 0 [])) (none_raised first.answer (tuple_never heap items)) (λ args. new_made first.heap kind args [] 0 [])

fault_new : (heap : PlainHeap) (fault : Fault) → let m = making_fault heap fault in IsNew m.answer m.heap
fault_new heap fault =
    let first = fault_argument heap fault (fault_value fault) in
    new_behind first.answer first.heap first.visits (λ v behind. making_exception behind (fault_kind fault) (v ∷ [])) (none_raised first.answer (argument_never heap fault (fault_value fault)))
    (λ v. exception_new first.heap (fault_kind fault) (v ∷ []))

-- what is thrown
-- ==============

module _ (facts : Facts) where
  -- it is known, where the facts hold of what there is
  abbrev pub ThrowsKnown : Fails → Type 0
  ThrowsKnown (Thrown x w) = Covers facts w.heap.objects → facts.exception x
  ThrowsKnown (Filled e w) = Unit {0}

  abbrev pub GivesKnown : {A : Type 0} → Given A → Type 0
  GivesKnown (Gives a w) = Unit {0}
  GivesKnown (Throws x w) = Covers facts w.heap.objects → facts.exception x
  GivesKnown (Fills e w) = Unit {0}

  placed_known : (place : Place) (w : PlainWorld) (x : ℕ) → IsA w.heap.objects AnException x → Covers facts (with_place w.heap x place.file place.line place.name).objects → facts.exception x
  placed_known place w x is covers = covers.exception x ((later_place w.heap x place.file place.line place.name).keeps AnException x is)

  new_known : (place : Place) (w : PlainWorld) (r : Result Val Stop) → IsNew r w.heap → ThrowsKnown (raised_new place w r)
  new_known place w (Ok v) is = subst (λ z. ThrowsKnown (raised_new place w (Ok z))) (sym is.1) (placed_known place w is.0 is.2)
  new_known place w (Err (Full e)) is = tt
  new_known place w (Err (Raises fault)) is = absurd is

  pub fault_known : (place : Place) (w : PlainWorld) (fault : Fault) → ThrowsKnown (fault_at place w fault)
  fault_known place w fault = let m = making_fault w.heap fault in new_known place (record w { heap = m.heap }) m.answer (fault_new w.heap fault)

  failed_known : (A : Type 0) (f : Fails) → ThrowsKnown f → GivesKnown {A = A} (failed f)
  failed_known A (Thrown x w) k = k
  failed_known A (Filled e w) k = tt

  answer_known : {A : Type 0} (place : Place) (w : PlainWorld) (r : Result A Stop) → GivesKnown (given_answer place w r)
  answer_known place w (Ok a) = tt
  answer_known place w (Err (Full e)) = tt
  answer_known {A = A} place w (Err (Raises fault)) = failed_known A (fault_at place w fault) (fault_known place w fault)

  pub given_known : {A : Type 0} (place : Place) (effect : Effect A) → GivesKnown (given place effect)
  given_known place effect = answer_known place effect.world effect.answer

  -- a raise of a value
  kind_raised : (o : Option (Object Val (List ℕ))) (kind : Kind) → raised_kind o ≡ Some kind → kind_of o ≡ Some AnException
  kind_raised None kind e = absurd cc
  kind_raised (Some (ExceptionObject k args file line name)) kind e = refl
  kind_raised (Some (ListObject items room)) kind e = absurd cc
  kind_raised (Some (TupleObject items)) kind e = absurd cc
  kind_raised (Some (TextObject bytes)) kind e = absurd cc
  kind_raised (Some (DictObject pairs room)) kind e = absurd cc
  kind_raised (Some (FunctionObject name module_name code names defaults)) kind e = absurd cc
  kind_raised (Some (MethodObject v method)) kind e = absurd cc
  kind_raised (Some (RangeObject start stop step)) kind e = absurd cc
  kind_raised (Some (ModuleObject name names)) kind e = absurd cc

  raise_known : (place : Place) (w : PlainWorld) (v : Val) (class own : Option Kind) → exception_kind w.heap v ≡ own → ThrowsKnown (raise_by place w v class own)
  raise_known place w v (Some kind) own e =
      let m = making w.heap (ExceptionObject kind Empty [] 0 []) in new_known place (record w { heap = m.heap }) m.answer (new_made w.heap kind Empty [] 0 [])
  raise_known place w (At n) None (Some kind) e = placed_known place w n (kind_raised (object w.heap.objects n) kind e)
  raise_known place w (At n) None None e = fault_known place w NotAnException
  raise_known place w Nil None own e = fault_known place w NotAnException
  raise_known place w (Truth b) None own e = fault_known place w NotAnException
  raise_known place w (Int z) None own e = fault_known place w NotAnException
  raise_known place w (Str bytes) None own e = fault_known place w NotAnException
  raise_known place w (Fixed items) None own e = fault_known place w NotAnException
  raise_known place w Empty None own e = fault_known place w NotAnException
  raise_known place w (Built b) None own e = fault_known place w NotAnException

  pub value_known : (place : Place) (w : PlainWorld) (v : Val) → ThrowsKnown (raise_value place w v)
  value_known place w v = raise_known place w v (named_kind v) (exception_kind w.heap v) refl

  -- what entries keep
  abbrev pub K : Entry → Type 0
  K e = IfSome e.kept facts.exception

  pub kept_remarked : (q : ℕ) (es : List Entry) → KeepIn facts es → KeepIn facts (map (remark q) es)
  kept_remarked q [] k = All-nil K
  kept_remarked q (e ∷ es) k = All-cons K (remark q e) (map (remark q) es) (All-head K e es k) (kept_remarked q es (All-tail K e es k))

  again_first : (place : Place) (w : PlainWorld) (kept : Option ℕ) (others : List ℕ) → IfSome kept facts.exception → ThrowsKnown (raise_again place w others) → ThrowsKnown (raise_again place w (cons_option kept others))
  again_first place w None others k rest = rest
  again_first place w (Some x) others k rest = λ covers. k

  pub again_known : (place : Place) (w : PlainWorld) (es : List Entry) → KeepIn facts es → ThrowsKnown (raise_again place w (kept_of es))
  again_known place w [] k = fault_known place w NothingToRaise
  again_known place w (e ∷ es) k = again_first place w e.kept (kept_of es) (All-head K e es k) (again_known place w es (All-tail K e es k))

-- throws leave the heap as it is
-- ==============================

either_heap : (objects : Objects Val (List ℕ)) (b : Bool) (x y : State) → objects_of x ≡ objects → objects_of y ≡ objects → objects_of (if b then x else y) ≡ objects
either_heap objects true x y p q = p
either_heap objects false x y p q = q

abandoned_heap : (role : Role) (w : PlainWorld) → (abandoned role w).heap.objects ≡ w.heap.objects
abandoned_heap Main w = refl
abandoned_heap Called w = refl
abandoned_heap (Imported name m) w = refl

throw_in_heap : (x : ℕ) (entries : List Entry) (frame : Frame) (frames : List Frame) (w : PlainWorld) (out : State) → objects_of out ≡ w.heap.objects → objects_of (throw_in x entries frame frames w out) ≡ w.heap.objects
throw_in_heap x [] frame frames w out o = o
throw_in_heap x (e ∷ entries) frame frames w out o = either_heap w.heap.objects e.active _ _ (throw_in_heap x entries frame frames w out o) refl

throw_out_heap : (x : ℕ) (frames : List Frame) (w : PlainWorld) → objects_of (throw_out x frames w) ≡ w.heap.objects
throw_out_heap x [] w = refl
throw_out_heap x (frame ∷ frames) w =
    throw_in_heap x frame.entries frame frames w (throw_out x frames (abandoned frame.role w)) (throw_out_heap x frames (abandoned frame.role w) ∙ abandoned_heap frame.role w)

pub throw_heap : (x : ℕ) (frame : Frame) (frames : List Frame) (w : PlainWorld) → objects_of (throw x frame frames w) ≡ w.heap.objects
throw_heap x frame frames w =
    throw_in_heap x frame.entries frame frames w (throw_out x frames (abandoned frame.role w)) (throw_out_heap x frames (abandoned frame.role w) ∙ abandoned_heap frame.role w)

-- methods that are found
-- ======================

found_is : (methods : List (List ℕ × Builtin)) (name : List ℕ) (o : Option Builtin) (method : Builtin) → named methods name ≡ o → found_method o ≡ Method method → IsAmong methods method
found_is methods name None method is e = absurd cc
found_is methods name (Some found) method is e = (name, is ∙ ap Some (same found method e))
  where
    same : (a b : Builtin) → (let x : Attribute = Method a in let y : Attribute = Method b in x ≡ y) → a ≡ b
    same a b e = cc

no_method : (o : Option Val) (method : Builtin) → found_value o ≡ Method method → ⊥
no_method None method e = cc
no_method (Some v) method e = cc

no_either : (b : Bool) (v : Val) (method : Builtin) → (if b then Found v else Absent) ≡ Method method → ⊥
no_either true v method e = cc
no_either false v method e = cc

object_found : (heap : PlainHeap) (name : List ℕ) (o : Option (Object Val (List ℕ))) (method : Builtin) → object_attribute heap name o ≡ Method method → KindHas (kind_of o) method
object_found heap name None method e = cc
object_found heap name (Some (ListObject items room)) method e = found_is list_methods name (named list_methods name) method refl e
object_found heap name (Some (DictObject pairs room)) method e = found_is dict_methods name (named dict_methods name) method refl e
object_found heap name (Some (TextObject bytes)) method e = found_is str_methods name (named str_methods name) method refl e
object_found heap name (Some (ExceptionObject kind args file line own)) method e = no_either _ args method e
object_found heap name (Some (ModuleObject own (Some names))) method e = no_method _ method e
object_found heap name (Some (ModuleObject own None)) method e = cc
object_found heap name (Some (TupleObject items)) method e = cc
object_found heap name (Some (FunctionObject own module_name code names defaults)) method e = cc
object_found heap name (Some (MethodObject v m)) method e = cc
object_found heap name (Some (RangeObject start stop step)) method e = cc

built_found : (heap : PlainHeap) (b : Builtin) (name : List ℕ) (method : Builtin) → attribute heap (Built b) name ≡ Method method → ⊥
built_found heap builtins.Port name method e = no_method _ method e
built_found heap _ name method e = cc

pub method_found : (heap : PlainHeap) (v : Val) (name : List ℕ) (method : Builtin) → attribute heap v name ≡ Method method → HasMethod heap.objects v method
method_found heap (Str bytes) name method e = found_is str_methods name (named str_methods name) method refl e
method_found heap (At n) name method e = object_found heap name (object heap.objects n) method e
method_found heap (Built b) name method e = built_found heap b name method e
method_found heap Nil name method e = cc
method_found heap (Truth b) name method e = cc
method_found heap (Int z) name method e = cc
method_found heap (Fixed items) name method e = cc
method_found heap Empty name method e = cc
