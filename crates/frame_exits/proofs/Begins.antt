-- Modules that imports begin.
use Rattle.std.proofs.Common.{◌≡◌, ℕ, zero, suc, ◌-◌, ◌<◌, List, [], ◌∷◌, ◌++◌, length, map, take, replicate, Bool, true, false, cond, Option, Some, None, Result, Ok, Err, All, slice_get, refl, sym, ap, ◌∙◌, subst, arith}
use Rattle.std.specs.Prelude.{nat_lt, codes, IfSome}
use Rattle.std.proofs.lemmas.Bool.{le-ltb, lt-ltb}
use Rattle.std.proofs.lemmas.List.Elements.{All-nil, All-cons, All-weaker}
use Rattle.mpy_base.specs.declared.limits.TheConstants.{MAX_CALLS}
use Rattle.mpy_base.specs.World.{Heap, Object, ModuleObject, DictObject, Objects, Later, with_names, pairs_at}
use Rattle.mpy_base.specs.Weights.{used, does_fit, cells_of, bytes_of, with_made, dict_growth, with_pairs}
use Rattle.mpy_base.specs.Val.{Val, Nil, Str, At, PlainWorld}
use Rattle.frame_moves.specs.bc_ops.declared.instr.Op.TheVariants as ops
use Rattle.frame_moves.specs.arena_heap.declared.value.Value.{Value}
use Rattle.frame_moves.specs.arena_heap.declared.value.StrNo.{StrNo}
use Rattle.frame_moves.specs.arena_heap.declared.value.ConstNo.{ConstNo}
use Rattle.frame_moves.specs.arena_heap.declared.value.DictNo.{DictNo}
use Rattle.frame_moves.specs.bc_labels.Positions.{CodeList, Listed}
use Rattle.frame_moves.specs.py_values.Shown.{PlainHeap}
use Rattle.frame_moves.specs.py_values.Keys.{with_key}
use Rattle.frame_moves.specs.py_primitives.Faults.{Fault}
use Rattle.frame_moves.specs.py_primitives.Outcome as primitives
use Rattle.frame_moves.specs.py_primitives.Outcome.{Outcome, Raises, gives, is_full, making, followed_by, go_on_with}
use Rattle.frame_moves.specs.py_primitives.Uses.{put_pair}
use Rattle.frame_moves.specs.py_effects.Effect.{Effect, Place, Fails, Thrown, Filled, failed, given_answer, fault_at, number_of}
use Rattle.frame_moves.specs.py_effects.Modules as plain
use Rattle.frame_moves.specs.py_effects.Modules.{make_module, making_module, on_made}
use Rattle.bc_library.specs.Shelf.{Shelf}
use Rattle.frame_moves.specs.bc_machine.Library as machine
use Rattle.frame_moves.specs.bc_machine.Library.{Name, Names, Library, Code, Entry, Holds, entry_in, code_at, code_in, module_in}
use Rattle.frame_moves.specs.bc_machine.State as states
use Rattle.frame_moves.specs.bc_machine.State.{State, Running, Imported, fail, on_given}
use Rattle.frame_moves.specs.bc_machine.Parts.{new_frame}
use Rattle.frame_moves.specs.bc_machine.Step as step
use Rattle.frame_moves.specs.prim_walks.Plain.{plain_name, plain_heap}
use Rattle.frame_moves.specs.prim_raising.Places.{stopped_at}
use Rattle.frame_moves.specs.prim_faults.Faults.{IsKnown}
use Rattle.frame_moves.specs.prim_faults.declared.stop.Stop.{Stop}
use Rattle.frame_moves.specs.prim_faults.declared.stop.Stop.TheVariants as stops
use Rattle.frame_moves.specs.prim_faults.Outcomes.{IsKnownAnswer}
use Rattle.frame_moves.specs.vm_frames.declared.slot.Role.{Role}
use Rattle.frame_moves.specs.vm_frames.declared.slot.Role.TheVariants as roles
use Rattle.frame_moves.specs.vm_frames.Calls.{Call}
use Rattle.prim_modules.specs.declared.makings.Made.{Made}
use Rattle.prim_modules.specs.Registry.{Registry}
use Rattle.prim_modules.specs.Effects.{IsMaking, AreMade, world_with, made_answer}
use Rattle.frame_moves.specs.vm_frames.Views.{View, role_of, locals_of, starts_of, frame_of}
use Rattle.frame_moves.specs.vm_frames.Placed.{IsPlaced}
use Rattle.frame_moves.specs.Shown.{Tables, view_of, step_of}
use Rattle.frame_moves.specs.Outcomes.{world_of, outcome_of}
use Rattle.frame_exits.specs.declared.names.ModuleName.{ModuleName}
use Rattle.frame_exits.specs.Names.{AreTablesOf}
use Rattle.frame_exits.specs.Ends.{with_modules}
use Rattle.frame_exits.specs.Known.{IsKnownCall, IsKnownSlot, KeepsException}
use Rattle.frame_exits.proofs.Keeping.{call_later}
use Rattle.frame_exits.specs.declared.importing.Import.TheVariants as imports
use Rattle.frame_exits.specs.Importing.{AreOperands, IsImport, StandsFor}
use Rattle.frame_exits.specs.Beginning.{IsOutermost, begun}
use Rattle.frame_exits.proofs.Machine.{begins, depth_is}

-- a making raises nothing
-- =======================

abbrev Never : {A : Type 0} → Outcome A → Type 0
Never o = (fault : Fault) → o.answer ≡ Err (Raises fault) → ⊥

never_either : {A : Type 0} (b : Bool) (x y : Outcome A) → Never x → Never y → Never (cond b x y)
never_either true x y n m = n
never_either false x y n m = m

never_gives : {A : Type 0} (a : A) (heap : PlainHeap) → Never (gives a heap)
never_gives a heap fault e = cc

never_full : {A : Type 0} (heap : PlainHeap) (cells bytes : ℕ) → Never (is_full {A = A} heap cells bytes)
never_full heap cells bytes fault e = cc

never_on : {A B : Type 0} (answer : Result A primitives.Stop) (heap : PlainHeap) (visits : ℕ) (next : A → PlainHeap → Outcome B)
    → ((fault : Fault) → answer ≡ Err (Raises fault) → ⊥) → ((a : A) (h : PlainHeap) → Never (next a h)) → Never (go_on_with answer heap visits next)
never_on (Ok a) heap visits next first n fault e = n a heap fault e
never_on {A = A} (Err stop) heap visits next first n fault e =
    let same : stop ≡ Raises fault = cc in first fault (ap (λ (s : primitives.Stop). let r : Result A primitives.Stop = Err s in r) same)

never_making : (heap : PlainHeap) (o : Object Val (List ℕ)) → Never (making heap o)
never_making heap o =
    never_either (does_fit heap (cells_of o) (bytes_of o)) (gives (At (used heap)) (with_made heap o)) (is_full heap (cells_of o) (bytes_of o))
    (never_gives (At (used heap)) (with_made heap o)) (never_full heap (cells_of o) (bytes_of o))

never_put : (heap : PlainHeap) (d : ℕ) (key v : Val) → Never (put_pair heap d key v)
never_put heap d key v =
    let pairs : List (Val × Val) = with_key heap (pairs_at heap d) key v in
    never_either (does_fit heap (dict_growth heap d (length pairs)) 0) (gives Nil (with_pairs heap d pairs)) (is_full heap (dict_growth heap d (length pairs)) 0)
    (never_gives Nil (with_pairs heap d pairs)) (never_full heap (dict_growth heap d (length pairs)) 0)

never_titled : (name : List ℕ) (m names : Val) (last : PlainHeap)
    → Never (followed_by (put_pair (with_names last (number_of m) (number_of names)) (number_of names) (Str (codes "__name__")) (Str name)) (λ stored end.
    gives (let made : plain.Made = record { number = number_of m; names = number_of names } in made) end))
never_titled name m names last =
    let put = put_pair (with_names last (number_of m) (number_of names)) (number_of names) (Str (codes "__name__")) (Str name) in
    never_on put.answer put.heap put.visits (λ stored end. gives (let made : plain.Made = record { number = number_of m; names = number_of names } in made) end)
    (never_put (with_names last (number_of m) (number_of names)) (number_of names) (Str (codes "__name__")) (Str name)) (λ a h. never_gives _ h)

making_never : (w : PlainWorld) (name : List ℕ) (fault : Fault) → (making_module w name).answer ≡ Err (Raises fault) → ⊥
making_never w name =
    let one = making w.heap (ModuleObject name None) in
    never_on one.answer one.heap one.visits _ (never_making w.heap (ModuleObject name None)) (λ m behind.
    let two = making behind (DictObject [] 4) in
    never_on two.answer two.heap two.visits _ (never_making behind (DictObject [] 4)) (λ names last. never_titled name m names last))

registered_never : (w : PlainWorld) (name : List ℕ) (effect : Effect plain.Made) (answer : Result plain.Made primitives.Stop) (fault : Fault) → effect.answer ≡ answer
    → (effect.answer ≡ Err (Raises fault) → ⊥) → (let after : Effect plain.Made = elim answer [ Ok made ↦ record { answer = Ok made; world = plain.registered effect.world name made; visits = 0 } | Err stop ↦ effect ] in after.answer) ≡ Err (Raises fault) → ⊥
registered_never w name effect (Ok made) fault is never e = cc
registered_never w name effect (Err stop) fault is never e = never e

make_never : (w : PlainWorld) (name : List ℕ) (fault : Fault) → (make_module w name).answer ≡ Err (Raises fault) → ⊥
make_never w name fault e = registered_never w name (making_module w name) (making_module w name).answer fault refl (making_never w name fault) e

module _ (texts : StrNo → Option (List ℕ)) (tuples : ConstNo → Option (List Value)) (old new : Heap Value ℕ) (before after : Registry) (name : List ℕ) where
  -- what a making tells
  pub stop_known : (stop : Stop) → IsMaking texts tuples old new before after (Err stop) (λ w. make_module w name) → IsKnownAnswer texts tuples new.objects (Err stop)
  stop_known (stops.Full room) is = tt
  stop_known (stops.Raises fault) is =
      let w : PlainWorld = record { heap = plain_heap texts tuples old; modules = []; ports = []; output = [] } in
      absurd (make_never (world_with texts tuples w old before) name _ (sym (is.answer w)))

-- what comes behind an answer
-- ===========================

abbrev ends : {A : Type 0} → Place → states.Frame → List states.Frame → PlainWorld → (A → PlainWorld → State) → Result A primitives.Stop → State
ends place frame frames w next (Ok a) = next a w
ends place frame frames w next (Err stop) = fail (stopped_at place w stop) frame frames

failing : {A : Type 0} (frame : states.Frame) (frames : List states.Frame) (next : A → PlainWorld → State) (f : Fails) → on_given (failed f) frame frames next ≡ fail f frame frames
failing frame frames next (Thrown x w) = refl
failing frame frames next (Filled room w) = refl

answered : {A : Type 0} (place : Place) (frame : states.Frame) (frames : List states.Frame) (w : PlainWorld) (next : A → PlainWorld → State) (answer : Result A primitives.Stop)
    → on_given (given_answer place w answer) frame frames next ≡ ends place frame frames w next answer
answered place frame frames w next (Ok a) = refl
answered place frame frames w next (Err (primitives.Full room)) = refl
answered place frame frames w next (Err (Raises fault)) = failing frame frames next (fault_at place w fault)

module _ (library : Library) (place : Place) (paid : ℕ) (frame : states.Frame) (frames : List states.Frame) (w : PlainWorld) {A : Type 0} (effect : Effect A) (next : A → PlainWorld → State) where
  free : effect.visits ≡ 0 → step.does library place paid frame frames w effect next ≡ ends place frame frames effect.world next effect.answer
  free none =
      ap (λ (b : Bool). step.paying library place paid frame frames w b effect next) (le-ltb paid effect.visits (omega (arith, none)))
      ∙ answered place frame frames effect.world next effect.answer

-- a module begins
-- ===============

abbrev pub BeginsLaw : Type 0
BeginsLaw =
    (view : View) (module_number number : ℕ) (code : Code) (vs : List (Option Value)) (names : DictNo) (role : Role) (bytes : List ℕ) (l : CodeList)
    → Listed bytes l → view.starts module_number number ≡ l.offsets
    → new_frame (view.module_name module_number) number code (locals_of view vs) names.cell (role_of view (view.module_name module_number) role)
    ≡ frame_of view (record { module_number = module_number; code = number; at = 0; names = names; role = role; locals = vs ++ replicate (code.locals - length vs) None; slots = []; entries = [] })

abbrev pub begun_calls : (number locals : ℕ) → Result Made Stop → List Call → List Call
begun_calls number locals (Ok made) cs = begun number locals made ∷ cs
begun_calls number locals (Err stop) cs = cs

-- that a module was made
abbrev pub done_of : Result Made Stop → Result (Unit {0}) Stop
done_of (Ok made) = Ok tt
done_of (Err stop) = Err stop

module _ (law : BeginsLaw) (t : Tables) (shelf : Shelf) (library : Library) (w : PlainWorld) (old new : Heap Value ℕ) (before after : Registry) (number locals title : ℕ) (result : Result Made Stop)
    (making_is : IsMaking t.texts t.tuples old new before after result (λ w. make_module w (plain_name t.texts t.tuples title))) (titled : t.module_name number ≡ plain_name t.texts t.tuples title)
    (outermost : IsOutermost t library number locals) (stands : StandsFor t shelf library) (name : Name) (from level : Value) where
  abbrev W : PlainWorld
  W = world_of t (with_modules t w before) old

  abbrev W1 : PlainWorld
  W1 = world_of t (with_modules t w after) new

  abbrev P : Name
  P = plain_name t.texts t.tuples title

  module _ (place : Place) (paid : ℕ) (c : Call) (cs : List Call) where
    abbrev F : states.Frame
    F = frame_of (view_of t) c

    abbrev Fs : List states.Frame
    Fs = map (frame_of (view_of t)) cs

    abbrev Next : plain.Made → PlainWorld → State
    Next = step.begun library place paid F Fs W P (Some outermost.code)

    begun_so : (made : Made) → new_frame P 0 outermost.code [] made.names.cell (Imported P made.number.cell) ≡ frame_of (view_of t) (begun number locals made)
    begun_so made =
        let all : outermost.code.locals - 0 ≡ outermost.code.locals = omega arith in
        let none : Option Value = None in
        let vs : List (Option Value) = [] in
        ap (λ (n : Name). new_frame n 0 outermost.code [] made.names.cell (Imported n made.number.cell)) (sym titled)
        ∙ (law (view_of t) number 0 outermost.code vs made.names (roles.Import made.number) outermost.bytes outermost.list outermost.listed outermost.starts_are
        ∙ ap (λ (k : ℕ). frame_of (view_of t) (begun number k made)) (all ∙ sym outermost.locals_are))

    comes_to : (r : Result Made Stop) → ends place F Fs W1 Next (made_answer t.texts t.tuples new r)
        ≡ outcome_of t place (with_modules t w after) new (c ∷ cs) (begun_calls number locals r (c ∷ cs)) (done_of r)
    comes_to (Ok made) = ap (λ (f : states.Frame). Running 0 f (F ∷ Fs) W1) (begun_so made)
    comes_to (Err stop) = refl

    module _ (m : machine.Module) (len : ℕ) (entry : entry_in library (take len name) ≡ Some (Holds m)) (prefix : t.module_name number ≡ take len name) where
      same_code : slice_get m.codes 0 ≡ Some outermost.code
      same_code =
          let there : entry_in library (t.module_name number) ≡ Some (Holds m) = ap (λ (n : Name). entry_in library n) prefix ∙ entry in
          sym (ap (λ (e : Option Entry). code_in (module_in e) 0) there) ∙ outermost.there

      begins_now : step.begin library place paid F Fs W (take len name) (Some (Holds m)) true ≡ outcome_of t place (with_modules t w after) new (c ∷ cs) (begun_calls number locals result (c ∷ cs)) (done_of result)
      begins_now =
          ap (λ (n : Name). step.begin library place paid F Fs W n (Some (Holds m)) true) (sym prefix ∙ titled)
          ∙ (ap (λ (code : Option Code). step.does library place paid F Fs W (make_module W P) (step.begun library place paid F Fs W P code)) same_code
          ∙ (free library place paid F Fs W (make_module W P) Next (making_is.visits w)
          ∙ (ap (λ (z : PlainWorld). ends place F Fs z Next (make_module W P).answer) (sym (making_is.world w))
          ∙ (ap (λ (z : Result plain.Made primitives.Stop). ends place F Fs W1 Next z) (sym (making_is.answer w)) ∙ comes_to result))))

  pub begins_steps : (calls : List Call) → AreOperands from level calls → nat_lt (length calls) MAX_CALLS ≡ true → IsImport t.texts t.tuples shelf W true name from level (imports.Begin number) → (place : Place) (paid : ℕ)
      → step_of t library place paid calls W (Names ops.ImportName name) ≡ outcome_of t place (with_modules t w after) new calls (begun_calls number locals result calls) (done_of result)
  begins_steps [] has shallow is place paid = absurd has
  begins_steps (c ∷ cs) has shallow (len, absent, is) place paid =
      let m = stands.modules (take len name) number is.0 in
      begins t library place paid c (map (frame_of (view_of t)) cs) W name from level len shelf true (Some (Holds m.0)) has absent (depth_is t c cs ∙ shallow) m.1
      ∙ begins_now place paid c cs m.0 len m.1 m.2

-- the new call
-- ============

pub begun_placed : (t : Tables) (library : Library) (number locals : ℕ) (made : Made) (calls : List Call)
    → ((view : View) (c : Call) (bytes : List ℕ) (l : CodeList) → Listed bytes l → 0 < length bytes → starts_of view c ≡ l.offsets → c.at ≡ 0 → c.entries ≡ [] → IsPlaced view c)
    → IsOutermost t library number locals → All (IsPlaced (view_of t)) calls → All (IsPlaced (view_of t)) (begun number locals made ∷ calls)
begun_placed t library number locals made calls law is placed =
    All-cons (IsPlaced (view_of t)) (begun number locals made) calls (law (view_of t) (begun number locals made) is.bytes is.list is.listed is.some is.starts_are refl refl) placed

module _ (texts : StrNo → Option (List ℕ)) (tuples : ConstNo → Option (List Value)) (modules : ℕ) (old new : Objects Value ℕ) (later : Later old new) where
  empty_known : (n : ℕ) → All (λ v. IfSome v (IsKnown texts tuples new)) (replicate n None)
  empty_known zero = All-nil (λ v. IfSome v (IsKnown texts tuples new))
  empty_known (suc n) = All-cons (λ v. IfSome v (IsKnown texts tuples new)) None (replicate n None) tt (empty_known n)

  pub calls_later : (calls : List Call) → All (IsKnownCall texts tuples modules old) calls → All (IsKnownCall texts tuples modules new) calls
  calls_later calls known = All-weaker (IsKnownCall texts tuples modules old) (IsKnownCall texts tuples modules new) (λ c k. call_later texts tuples modules old new later c k) calls known

  pub begun_known : (number locals : ℕ) (made : Made) (calls : List Call) → number < modules → AreMade new made → All (IsKnownCall texts tuples modules old) calls
      → All (IsKnownCall texts tuples modules new) (begun number locals made ∷ calls)
  begun_known number locals made calls counted are known =
      All-cons (IsKnownCall texts tuples modules new) (begun number locals made) calls
      (record {
        of_module = counted;
        names = are.names;
        role = are.number;
        locals = empty_known locals;
        slots = All-nil (IsKnownSlot texts tuples new);
        entries = All-nil (KeepsException new);
      })
      (calls_later calls known)

pub shallow_is : (depth : ℕ) → depth < MAX_CALLS → nat_lt depth MAX_CALLS ≡ true
shallow_is depth less = lt-ltb depth MAX_CALLS less

pub begins_list : (texts : StrNo → Option (List ℕ)) (tuples : ConstNo → Option (List Value)) (names : List ModuleName) → BeginsLaw → (t : Tables) → AreTablesOf texts tuples names t → (shelf : Shelf) (library : Library) (w : PlainWorld)
    (old new : Heap Value ℕ) (before after : Registry) (number locals : ℕ) (m : ModuleName) → slice_get names number ≡ Some m → (result : Result Made Stop)
    → IsMaking texts tuples old new before after result (λ w. make_module w (plain_name texts tuples m.name)) → IsOutermost t library number locals → StandsFor t shelf library → (name : Name) (from level : Value)
    (calls : List Call) → AreOperands from level calls → nat_lt (length calls) MAX_CALLS ≡ true → IsImport t.texts t.tuples shelf (world_of t (with_modules t w before) old) true name from level (imports.Begin number) → (place : Place) (paid : ℕ)
    → step_of t library place paid calls (world_of t (with_modules t w before) old) (Names ops.ImportName name)
    ≡ outcome_of t place (with_modules t w after) new calls (begun_calls number locals result calls) (done_of result)
begins_list texts tuples names law t are shelf library w old new before after number locals m m_is result making_is outermost stands name from level calls has shallow is place paid =
    let M : (StrNo → Option (List ℕ)) → (ConstNo → Option (List Value)) → Type 0 = λ x y. IsMaking x y old new before after result (λ w. make_module w (plain_name x y m.name)) in
    let one : M t.texts tuples = subst (λ (x : StrNo → Option (List ℕ)). M x tuples) (sym are.texts_are) making_is in
    let two : M t.texts t.tuples = subst (λ (y : ConstNo → Option (List Value)). M t.texts y) (sym are.tuples_are) one in
    let titled : t.module_name number ≡ plain_name t.texts t.tuples m.name =
    are.names_are number m m_is ∙ (ap (λ (x : StrNo → Option (List ℕ)). plain_name x tuples m.name) (sym are.texts_are) ∙ ap (λ (y : ConstNo → Option (List Value)). plain_name t.texts y m.name) (sym are.tuples_are)) in
    begins_steps law t shelf library w old new before after number locals m.name result two titled outermost stands name from level calls has shallow is place paid
