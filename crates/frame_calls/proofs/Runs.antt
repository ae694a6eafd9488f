-- The machine's calls of functions, from how their arguments are bound.
use Rattle.std.proofs.Common.{◌≡◌, ℕ, suc, ◌-◌, ◌<◌, List, [], ◌∷◌, ◌++◌, length, map, drop, replicate, Bool, true, false, Option, None, Result, Ok, Err, refl, sym, ap, ◌∙◌, subst, arith}
use Rattle.std.specs.Prelude.{nat_lt, All, IfSome, IsOk}
use Rattle.std.proofs.lemmas.Bool.{false≢true}
use Rattle.std.proofs.lemmas.List.{length-map}
use Rattle.mpy_base.specs.declared.limits.TheConstants.{MAX_CALLS}
use Rattle.mpy_base.specs.World.{Heap}
use Rattle.mpy_base.specs.Val.{Val, PlainWorld}
use Rattle.frame_moves.specs.arena_heap.declared.value.Value.{Value}
use Rattle.frame_moves.specs.arena_heap.declared.value.StrNo.{StrNo}
use Rattle.frame_moves.specs.arena_heap.declared.value.StrNo.TheVariants as strs
use Rattle.frame_moves.specs.arena_heap.declared.value.ConstNo.{ConstNo}
use Rattle.frame_moves.specs.py_primitives.Faults.{TooDeep}
use Rattle.frame_moves.specs.py_primitives.Outcome as primitives
use Rattle.frame_moves.specs.py_effects.Effect.{Effect, Place, fault_at}
use Rattle.frame_moves.specs.py_effects.Names.{Locals}
use Rattle.frame_moves.specs.py_effects.Calling.{Keys, bind}
use Rattle.frame_calls.specs.declared.binding.FunctionCode.{FunctionCode}
use Rattle.frame_moves.specs.bc_machine.Library.{Item, Library, Code}
use Rattle.frame_moves.specs.bc_machine.State as states
use Rattle.frame_moves.specs.bc_machine.State.{State, Running, Called, fail}
use Rattle.frame_moves.specs.bc_machine.Parts.{new_frame, has_depth}
use Rattle.frame_moves.specs.bc_machine.Step as step
use Rattle.frame_moves.specs.bc_machine.Step.{item_step}
use Rattle.frame_moves.specs.prim_walks.Plain.{plain_name, plain_pair}
use Rattle.frame_moves.specs.prim_faults.declared.fault.Fault.{Fault}
use Rattle.frame_moves.specs.prim_faults.declared.fault.Fault.TheVariants as faults
use Rattle.frame_moves.specs.prim_faults.declared.stop.Stop.{Stop}
use Rattle.frame_moves.specs.prim_faults.declared.stop.Stop.TheVariants as stops
use Rattle.frame_moves.specs.prim_faults.Faults.{IsKnown}
use Rattle.prim_calls.specs.declared.callees.Callee.TheVariants as callees
use Rattle.prim_calls.specs.declared.callees.Function.{Function}
use Rattle.prim_calls.specs.Callees.{plain_function}
use Rattle.prim_calls.specs.Binding.{name_text, bound_answer, plain_slots, plain_bound, IsBound}
use Rattle.frame_moves.specs.vm_frames.declared.slot.Role.TheVariants as roles
use Rattle.frame_moves.specs.vm_frames.Calls.{Call, Calls, OfRunning, change_first}
use Rattle.frame_moves.specs.arena_heap.declared.value.DictNo.{DictNo}
use Rattle.frame_moves.specs.bc_labels.Positions.{CodeList, Listed}
use Rattle.frame_moves.specs.vm_frames.declared.slot.Role.{Role}
use Rattle.frame_moves.specs.vm_frames.Views.{View, role_of, locals_of, slots_of, starts_of, frame_of}
use Rattle.frame_moves.specs.vm_frames.Placed.{IsPlaced}
use Rattle.frame_moves.specs.Shown.{Tables, view_of, value_of}
use Rattle.frame_moves.specs.Outcomes.{world_of, outcome_of}
use Rattle.frame_calls.specs.Coming.{Comes, ComesTo}
use Rattle.frame_calls.specs.Entering.{IsCodeOf, begun, IsEntered, Enters}
use Rattle.frame_calls.specs.Invoking.{Invokes}
use Rattle.frame_calls.specs.Putting.{IsKnownStop}
use Rattle.frame_calls.proofs.Changes.{dropped}
use Rattle.frame_calls.proofs.Coming.{ends, comes}

mapped_twice : {A B C : Type 0} (f : B → C) (g : A → B) (xs : List A) → map f (map g xs) ≡ map (λ x. f (g x)) xs
mapped_twice f g [] = refl
mapped_twice f g (x ∷ xs) = ap (λ z. f (g x) ∷ z) (mapped_twice f g xs)

-- the frame of a call that begins
abbrev pub Begins : Type 0
Begins =
    (view : View) (module_number number : ℕ) (code : Code) (vs : List (Option Value)) (names : DictNo) (role : Role) (bytes : List ℕ) (l : CodeList)
    → Listed bytes l → view.starts module_number number ≡ l.offsets
    → new_frame (view.module_name module_number) number code (locals_of view vs) names.cell (role_of view (view.module_name module_number) role)
    ≡ frame_of view (record { module_number = module_number; code = number; at = 0; names = names; role = role; locals = vs ++ replicate (code.locals - length vs) None; slots = []; entries = [] })

-- a call that begins is placed
abbrev pub BeginsPlaced : Type 0
BeginsPlaced = (view : View) (c : Call) (bytes : List ℕ) (l : CodeList) → Listed bytes l → 0 < length bytes → starts_of view c ≡ l.offsets → c.at ≡ 0 → c.entries ≡ [] → IsPlaced view c

module _ (begins : Begins) (t : Tables) (library : Library) (item : Item) (size : ℕ) (heap : Heap Value ℕ) (args : List Value) (keys : List (Value × Value)) (f : Function) (number : ℕ) (code : FunctionCode) (is : IsCodeOf t library f number code) (values : List (Option Value)) where
  abbrev pub A : List Val
  A = map (value_of t) args

  abbrev pub K : Keys
  K = map (plain_pair t.texts t.tuples) keys

  abbrev pub names : List (List ℕ)
  names = map (name_text t.texts) (map (λ n. strs.Pool n) code.params.now)

  -- the binding of the arguments
  abbrev pub Bind : PlainWorld → Effect Locals
  Bind w = bind w names code.given (value_of t f.defaults) A K

  names_are : names ≡ is.found.params
  names_are = mapped_twice (name_text t.texts) (λ n. strs.Pool n) code.params.now ∙ is.params

  module _ (w : PlainWorld) (c : Call) (cs : List Call) (invokes : Invokes t item size heap (c ∷ cs) args keys (callees.Runs f)) where
    abbrev W : PlainWorld
    W = world_of t w heap

    abbrev F : states.Frame
    F = frame_of (view_of t) c

    abbrev Fs : List states.Frame
    Fs = map (frame_of (view_of t)) cs

    abbrev below : List states.Slot
    below = slots_of (view_of t) (starts_of (view_of t) c) (drop size c.slots)

    -- the instruction binds, and then judges the depth
    binds : (deep : Bool) → nat_lt (suc (length cs)) MAX_CALLS ≡ deep → (place : Place) (paid : ℕ)
        → item_step library place paid F Fs W item ≡ step.does library place paid F Fs W (Bind W) (λ slots. step.entered library place paid F Fs W below (plain_function t.texts t.tuples f) is.found slots deep)
    binds deep e place paid =
        let pf = plain_function t.texts t.tuples f in
        let D : Effect Locals → Bool → State = λ effect b. step.does library place paid F Fs W effect (λ slots. step.entered library place paid F Fs W below pf is.found slots b) in
        let depth : has_depth Fs ≡ deep = ap (λ (n : ℕ). nat_lt (suc n) MAX_CALLS) (length-map cs (frame_of (view_of t))) ∙ e in
        invokes.calls_it library place paid w
        ∙ (ap (λ (z : Option Code). step.run_code library place paid F Fs W below pf z A K) is.there
        ∙ (ap (λ (ps : List (List ℕ)). D (bind W ps is.found.given pf.defaults A K) (has_depth Fs)) (sym names_are)
        ∙ (ap (λ (n : ℕ). D (bind W names n pf.defaults A K) (has_depth Fs)) (sym is.given)
        ∙ ap (D (Bind W)) depth)))

    abbrev Outcome : List Call → Result (Unit {0}) Stop → Place → State
    Outcome new result place = outcome_of t place w heap (c ∷ cs) new result

    -- what comes behind the binding
    abbrev Behind : Bool → Place → Locals → PlainWorld → State
    Behind true place slots w1 = Running 0 (new_frame (plain_name t.texts t.tuples f.module_name) f.code is.found slots f.names.cell Called) (record F { slots = below } ∷ Fs) w1
    Behind false place slots w1 = fail (fault_at place w1 TooDeep) F Fs

    behind : (deep : Bool) → nat_lt (suc (length cs)) MAX_CALLS ≡ deep → (place : Place) (paid : ℕ) → item_step library place paid F Fs W item ≡ step.does library place paid F Fs W (Bind W) (Behind deep place)
    behind true e place paid = binds true e place paid
    behind false e place paid = binds false e place paid

    answers : (bound : Result (Unit {0}) Fault) → IsBound t.texts t.tuples heap values bound Bind → (deep : Bool) (place : Place)
        → ends place F Fs (Bind W).world (Behind deep place) (Bind W).answer ≡ ends place F Fs W (Behind deep place) (bound_answer (plain_bound t.texts t.tuples heap values bound))
    answers bound h deep place =
        ap (λ (z : PlainWorld). ends place F Fs z (Behind deep place) (Bind W).answer) (h.world w)
        ∙ ap (λ (z : Result Locals primitives.Stop). ends place F Fs W (Behind deep place) z) (sym (h.answer w))

    -- a fault of the binding
    pub fault_comes : (fault : Fault) → IsBound t.texts t.tuples heap values (Err fault) Bind → Comes t library item 0 W (c ∷ cs) (Outcome (c ∷ cs) (Err (stops.Raises fault)))
    fault_comes fault h =
        let deep = nat_lt (suc (length cs)) MAX_CALLS in
        comes t library item 0 W c cs (Outcome (c ∷ cs) (Err (stops.Raises fault))) (Bind W) (Behind deep) (behind deep refl) (h.visits w) (λ place. answers (Err fault) h deep place)

    -- no depth
    pub deep_comes : nat_lt (suc (length cs)) MAX_CALLS ≡ false → IsBound t.texts t.tuples heap values (Ok tt) Bind → Comes t library item 0 W (c ∷ cs) (Outcome (c ∷ cs) (Err (stops.Raises faults.TooDeep)))
    deep_comes e h =
        comes t library item 0 W c cs (Outcome (c ∷ cs) (Err (stops.Raises faults.TooDeep))) (Bind W) (Behind false) (behind false e) (h.visits w) (λ place. answers (Ok tt) h false place)

    begins_so : new_frame (plain_name t.texts t.tuples f.module_name) f.code is.found (plain_slots t.texts t.tuples values) f.names.cell Called ≡ frame_of (view_of t) (begun f number code.locals values)
    begins_so =
        ap (λ (name : List ℕ). new_frame name f.code is.found (plain_slots t.texts t.tuples values) f.names.cell Called) (sym is.module_is)
        ∙ (begins (view_of t) number f.code is.found values f.names roles.Call is.bytes is.list is.listed is.starts_are
        ∙ ap (λ (n : ℕ). frame_of (view_of t) (begun f number n values)) (sym is.locals))

    -- a new call begins
    pub call_comes : nat_lt (suc (length cs)) MAX_CALLS ≡ true → IsBound t.texts t.tuples heap values (Ok tt) Bind
        → Comes t library item 0 W (c ∷ cs) (Outcome (begun f number code.locals values ∷ dropped size c ∷ cs) (Ok tt))
    call_comes e h =
        comes t library item 0 W c cs (Outcome (begun f number code.locals values ∷ dropped size c ∷ cs) (Ok tt)) (Bind W) (Behind true) (behind true e) (h.visits w)
        (λ place. answers (Ok tt) h true place ∙ ap (λ (z : states.Frame). Running 0 z (record F { slots = below } ∷ Fs) W) begins_so)

  -- a fault of the binding leaves the calls
  pub fault_run : (calls : List Call) → 0 < length calls → Invokes t item size heap calls args keys (callees.Runs f) → (fault : Fault) → IsBound t.texts t.tuples heap values (Err fault) Bind
      → ComesTo t library item 0 heap heap calls calls (Err (stops.Raises fault))
  fault_run [] some invokes fault h = absurd (omega (arith, some))
  fault_run (c ∷ cs) some invokes fault h = λ w. fault_comes w c cs invokes fault h

  entered_list : (calls : List Call) → 0 < length calls → Invokes t item size heap calls args keys (callees.Runs f) → IsBound t.texts t.tuples heap values (Ok tt) Bind
      → nat_lt (length calls) MAX_CALLS ≡ true → ComesTo t library item 0 heap heap calls (begun f number code.locals values ∷ change_first (dropped size) calls) (Ok tt)
  entered_list [] some invokes h e = absurd (omega (arith, some))
  entered_list (c ∷ cs) some invokes h e = λ w. call_comes w c cs invokes e h

  refused_list : (calls : List Call) → 0 < length calls → Invokes t item size heap calls args keys (callees.Runs f) → IsBound t.texts t.tuples heap values (Ok tt) Bind
      → nat_lt (length calls) MAX_CALLS ≡ false → ComesTo t library item 0 heap heap calls calls (Err (stops.Raises faults.TooDeep))
  refused_list [] some invokes h e = absurd (omega (arith, some))
  refused_list (c ∷ cs) some invokes h e = λ w. deep_comes w c cs invokes e h

  -- the arguments are bound, and a new call begins or doesn't
  pub entered_run : (old new : Calls) (result : Result (Unit {0}) Stop) (deep : Bool) → nat_lt (length old.calls) MAX_CALLS ≡ deep → 0 < length old.calls → Invokes t item size heap old.calls args keys (callees.Runs f)
      → IsBound t.texts t.tuples heap values (Ok tt) Bind → IsEntered deep size (begun f number code.locals values) old new result → ComesTo t library item 0 heap heap old.calls new.calls result
  entered_run old new result true e some invokes h k =
      let goal : List Call → Result (Unit {0}) Stop → Type 0 = λ cs r. ComesTo t library item 0 heap heap old.calls cs r in
      let calls : begun f number code.locals values ∷ change_first (dropped size) old.calls ≡ new.calls = sym (ap (λ (z : Calls). z.calls) k.1) in
      subst (λ (r : Result (Unit {0}) Stop). goal new.calls r) (sym k.0) (subst (λ (cs : List Call). goal cs (Ok tt)) calls (entered_list old.calls some invokes h e))
  entered_run old new result false e some invokes h k =
      let goal : List Call → Result (Unit {0}) Stop → Type 0 = λ cs r. ComesTo t library item 0 heap heap old.calls cs r in
      let calls : old.calls ≡ new.calls = sym (ap (λ (z : Calls). z.calls) k.1) in
      subst (λ (r : Result (Unit {0}) Stop). goal new.calls r) (sym k.0) (subst (λ (cs : List Call). goal cs (Err (stops.Raises faults.TooDeep))) calls (refused_list old.calls some invokes h e))

-- the new call
-- ============

module _ (texts : StrNo → Option (List ℕ)) (tuples : ConstNo → Option (List Value)) (heap : Heap Value ℕ) (f : Function) (number locals size : ℕ) (values : List (Option Value)) (old new : Calls) (result : Result (Unit {0}) Stop) where
  pub has_entered : (deep : Bool) → IsEntered deep size (begun f number locals values) old new result → All (λ v. IfSome v (IsKnown texts tuples heap.objects)) values → Enters texts tuples heap.objects f number locals size old new result
  has_entered true k known = subst (Enters texts tuples heap.objects f number locals size old new) (sym k.0) (values, known, k.1)
  has_entered false k known = subst (Enters texts tuples heap.objects f number locals size old new) (sym k.0) k.1

  pub entered_stop : (deep : Bool) → IsEntered deep size (begun f number locals values) old new result → IsKnownStop texts tuples heap.objects result
  entered_stop true k = subst (IsKnownStop texts tuples heap.objects) (sym k.0) tt
  entered_stop false k = subst (IsKnownStop texts tuples heap.objects) (sym k.0) tt

pub new_placed : BeginsPlaced → (t : Tables) (library : Library) (f : Function) (number size : ℕ) (code : FunctionCode) (values : List (Option Value)) (old new : Calls) (result : Result (Unit {0}) Stop) (deep : Bool) → IsCodeOf t library f number code
    → IsEntered deep size (begun f number code.locals values) old new result → IsOk result → OfRunning (IsPlaced (view_of t)) new.calls
new_placed begins t library f number size code values old new result true is k ok =
    subst (λ (z : Calls). OfRunning (IsPlaced (view_of t)) z.calls) (sym k.1) (begins (view_of t) (begun f number code.locals values) is.bytes is.list is.listed is.some is.starts_are refl refl)
new_placed begins t library f number size code values old new result false is k ok = absurd (false≢true (subst (λ (r : Result (Unit {0}) Stop). IsOk r) k.0 ok))
