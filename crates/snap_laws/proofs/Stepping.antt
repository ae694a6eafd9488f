-- A step of the machine is the same.
use Rattle.std.proofs.Common.{◌≡◌, ℕ, zero, suc, ◌-◌, ◌*◌, List, [], ◌∷◌, ◌++◌, length, map, take, drop, replicate, cond, Bool, true, false, ◌||◌, Option, Some, None, refl, sym, ap, subst, ◌∙◌}
use Rattle.std.specs.Prelude.{◌/◌, ◌%◌, nat_lt, nat_le, is_some, reverse, slice_get, option_and_then}
use Rattle.std.specs.Option.{option_map}
use Rattle.std.specs.List.{cons_option}
use Rattle.std.proofs.lemmas.List.{length-map, map-append, take-map, drop-map, map-set, reverse-append}
use Rattle.bc_machine.specs.bc_ops.declared.instr.Op.{Op}
use Rattle.bc_machine.specs.bc_ops.declared.instr.Op.TheVariants as ops
use Rattle.bc_machine.specs.bc_ops.declared.instr.Instr.{Instr}
use Rattle.bc_machine.specs.bc_ops.declared.instr.Instr.TheVariants as instrs
use Rattle.bc_machine.specs.mpy_base.declared.limits.TheConstants.{MAX_CALLS}
use Rattle.bc_machine.specs.mpy_base.World.{DictObject}
use Rattle.bc_machine.specs.mpy_base.Weights.{room_for}
use Rattle.bc_machine.specs.mpy_base.Val.{Val, Nil, Truth, Int, Str, Fixed, Empty, Built, At, PlainWorld}
use Rattle.bc_machine.specs.py_values.Shown.{PlainHeap, Shown, Nothing, Number, Text, Tuple, Items, Pairs, Range, Other, shown, truth}
use Rattle.bc_machine.specs.py_primitives.Faults.{Fault, TooDeep, NoModule, IncompatibleFile, RelativeImport, BadDefaults}
use Rattle.bc_machine.specs.py_primitives.Outcome.{Outcome, making, making_tuple, making_list}
use Rattle.bc_machine.specs.py_primitives.Iterables.{use_iter, item_of, length_of}
use Rattle.bc_machine.specs.py_primitives.Uses.{get_item, set_item, delete_item, get_attr, set_attr, unpack}
use Rattle.bc_machine.specs.py_primitives.Operators as operators
use Rattle.bc_machine.specs.py_primitives.Operators.{Operator, binary, in_place, unary, unary_not, op_eq, op_ne, op_order, op_contains, op_is, op_match}
use Rattle.bc_machine.specs.py_primitives.Order.{Below, Above, NotAbove, NotBelow}
use Rattle.bc_machine.specs.py_effects.Effect.{Effect, on_heap, Place, Fails, fault_at}
use Rattle.bc_machine.specs.py_effects.Names.{Locals, Looked, Bound, Free, load_global, store_global, delete_global, load_local, with_local, without_local, load_method, import_from, store_pair, raise_value, raise_again}
use Rattle.bc_machine.specs.py_effects.Calling.{Keys, Function, Callee, Runs, Acts, callee_of, call_method, bind}
use Rattle.bc_machine.specs.py_effects.Modules.{Made, make_function, has_items, make_module, module_named, registered_as, is_port, prefixes}
use Rattle.bc_machine.specs.Library.{Name, Item, Plain, Names, Loads, Jumps, Unwinds, Line, Code, Module, Entry, Holds, Refused, Library, entry_in, module_in, code_at}
use Rattle.bc_machine.specs.State as states
use Rattle.bc_machine.specs.State.{Slot, Value, Null, Object, Iter, KeptReturn, KeptJump, Role, Main, Called, Imported, Frame, State, Running, Halted, Stuck, go, fail, leave, unwind, resume}
use Rattle.bc_machine.specs.Parts.{has_depth, new_frame, iter_on, looked_on, is_zero, first_absent}
use Rattle.bc_machine.specs.Operations.{TwoValued, comparisons, arithmetic, two_valued, operator_at, unary_at, value_in, values, paired, Operands, operands, kept_of}
use Rattle.bc_machine.specs.Step.{next, jump_to, fails, paying, does, gives, puts, on, entered, run_code, run_callee, call_function, call_looked, made_function, make, given_by, make_with, begun, begin, wanted, import_absent, import, name_step, with_locals, child, number_step, end_finally, pop_except, plain_step, next_item, set_up, jump_step, one_step, two_step, instr_step, item_step, run_line, line_at, run_frame, step}
use Rattle.bc_machine.specs.Machine.{steps, run_of}
use Rattle.bc_machine.specs.py_effects.Ends.{report}
use Rattle.snap_laws.specs.Renamed.{Renaming, value, pair, shown_as, IsRenamed}
use Rattle.snap_laws.specs.Outcomes.{IsOutcome, fault_as}
use Rattle.snap_laws.specs.Worlds.{IsWorld, IsEffect, IsFailure, IsCallee, locals_as, looked_as, function_as, made_as, end_as}
use Rattle.snap_laws.specs.States.{slot_as, role_as, frame_as, IsState, runs, halts, sticks, Stays, KeepsConstants}
use Rattle.snap_laws.proofs.Seen.{seen, truth_as}
use Rattle.snap_laws.proofs.Combining.{making_as, tuple_as, list_as}
use Rattle.snap_laws.proofs.Iterating.{length_as, iter_as, item_of_as}
use Rattle.snap_laws.proofs.Using.{get_item_as, set_item_as, delete_item_as, get_attr_as, set_attr_as, unpack_as}
use Rattle.snap_laws.proofs.Binary.{binary_as}
use Rattle.snap_laws.proofs.Comparing.{in_place_as, unary_as, not_as, eq_as, ne_as, op_order_as, is_as, op_contains_as, match_as, is_some_as}
use Rattle.snap_laws.proofs.Acting.{on_heap_as, fault_raised, value_raised, raised_again, report_as, load_local_as, load_global_as, store_global_as, delete_global_as, load_method_as, import_from_as, store_pair_as}
use Rattle.snap_laws.proofs.EffectCalls.{callee_as, method_called, bind_as, function_made, make_module_as, module_named_as, registered_same, has_items_as, nones_as}
use Rattle.snap_laws.proofs.Moving.{slots_as, entries_as, frames_as, either, go_as, fail_as, effect_on, leave_as, unwind_as, resume_as}

map_reverse : {X Y : Type 0} (f : X → Y) (xs : List X) → reverse (map f xs) ≡ map f (reverse xs)
map_reverse f [] = refl
map_reverse f (x ∷ xs) =
    reverse-append (f x ∷ []) (map f xs) ∙ ap (λ z. z ++ f x ∷ []) (map_reverse f xs) ∙ sym
    (map-append f (reverse xs) (x ∷ [])) ∙ ap (map f) (sym (reverse-append (x ∷ []) xs))

module _ (r : Renaming) where
  -- operands
  value_in_as : (slot : Slot) → value_in (slot_as r slot) ≡ value r (value_in slot)
  value_in_as (Value v) = refl
  value_in_as Null = refl
  value_in_as (Object o) = refl
  value_in_as (Iter over at part) = refl
  value_in_as (KeptReturn v) = refl
  value_in_as (KeptJump target count it) = refl

  all_values : (slots : List Slot) → map value_in (slots_as r slots) ≡ map (value r) (map value_in slots)
  all_values [] = refl
  all_values (slot ∷ slots) =
      ap (λ z. z ∷ map value_in (slots_as r slots)) (value_in_as slot) ∙ ap (λ z. value r (value_in slot) ∷ z)
      (all_values slots)

  values_as : (n : ℕ) (slots : List Slot) → values n (slots_as r slots) ≡ map (value r) (values n slots)
  values_as n slots =
      ap (λ z. reverse (map value_in z)) (take-map (slot_as r) n slots) ∙ ap reverse (all_values (take n slots))
      ∙ map_reverse (value r) (map value_in (take n slots))

  paired_as : (vs : List Val) → paired (map (value r) vs) ≡ map (pair r) (paired vs)
  paired_as [] = refl
  paired_as (name ∷ []) = refl
  paired_as (name ∷ v ∷ vs) = ap (λ z. (value r name, value r v) ∷ z) (paired_as vs)

  drop_as : (n : ℕ) (slots : List Slot) → drop n (slots_as r slots) ≡ slots_as r (drop n slots)
  drop_as n slots = drop-map (slot_as r) n slots

  operands_as : (n : ℕ) (slots : List Slot)
      → operands n (slots_as r slots) ≡ record {
        args = map (value r) (operands n slots).args;
        keys = map (pair r)
            (operands n slots).keys;
        below = slots_as r (operands n slots).below;
      }
  operands_as n slots =
      let k : ℕ = 2 * (n / 256) in
      let p : ℕ = n % 256 in
      ap (λ z. record { args = values p z; keys = paired (values k (slots_as r slots)); below = drop p z })
      (drop_as k slots)
      ∙ ap (λ z. record {
        args = z;
        keys = paired (values k (slots_as r slots));
        below = drop p
            (slots_as r (drop k slots));
      }) (values_as p (drop k slots))
      ∙ ap (λ z. record {
        args = map (value r) (values p (drop k slots));
        keys = paired z;
        below = drop p
            (slots_as r (drop k slots));
      }) (values_as k slots)
      ∙ ap (λ z. record {
        args = map (value r) (values p (drop k slots));
        keys = z;
        below = drop p
            (slots_as r (drop k slots));
      }) (paired_as (values k slots))
      ∙ ap (λ z. record {
        args = map (value r) (values p (drop k slots));
        keys = map (pair r)
            (paired (values k slots));
        below = z;
      }) (drop_as p (drop k slots))

  kept_as : (entries : List states.Entry) → kept_of (entries_as r entries) ≡ map r.to (kept_of entries)
  kept_as [] = refl
  kept_as (e ∷ entries) =
      ap (cons_option (option_map r.to e.kept)) (kept_as entries) ∙ kept_one e.kept (kept_of entries)
    where
      kept_one : (o : Option ℕ) (xs : List ℕ)
          → cons_option (option_map r.to o) (map r.to xs) ≡ map r.to (cons_option o xs)
      kept_one None xs = refl
      kept_one (Some x) xs = refl

  wrapped : (vs : List Val) → map Value (map (value r) vs) ≡ slots_as r (map Value vs)
  wrapped [] = refl
  wrapped (v ∷ vs) = ap (λ z. Value (value r v) ∷ z) (wrapped vs)

  -- new frames
  abbrev framed : Name → ℕ → ℕ → Role → Locals → Frame
  framed name number names role locals =
      record {
        module_name = name;
        code = number;
        position = 0;
        locals = locals;
        slots = [];
        entries = [];
        names =
            names;
        role = role;
      }

  locals_filled : (size : ℕ) (slots : Locals)
      → locals_as r slots ++ replicate (size - length (locals_as r slots)) None ≡ locals_as r
      (slots ++ replicate (size - length slots) None)
  locals_filled size slots =
      ap (λ n. locals_as r slots ++ replicate (size - n) None) (length-map slots (option_map (value r))) ∙ ap
      (λ z. locals_as r slots ++ z) (nones_as r (size - length slots))
      ∙ sym (map-append (option_map (value r)) slots (replicate (size - length slots) None))

  pub new_frame_as : (name : Name) (number : ℕ) (code : Code) (slots : Locals) (names : ℕ) (role : Role)
      → new_frame name number code (locals_as r slots) (r.to names) (role_as r role) ≡ frame_as r
      (new_frame name number code slots names role)
  new_frame_as name number code slots names role =
      ap (framed name number (r.to names) (role_as r role)) (locals_filled code.locals slots)

  depth_as : (frames : List Frame) → has_depth (frames_as r frames) ≡ has_depth frames
  depth_as frames = ap (λ n. nat_lt (suc n) MAX_CALLS) (length-map frames (frame_as r))

  zero_as : (s : Shown) → is_zero (shown_as r s) ≡ is_zero s
  zero_as Nothing = refl
  zero_as (Number z) = refl
  zero_as (Text bytes) = refl
  zero_as (Tuple items) = refl
  zero_as (Items items) = refl
  zero_as (Pairs pairs) = refl
  zero_as (Range start stop step) = refl
  zero_as Other = refl

  looked_slots : (looked : Looked) (st : List Slot)
      → looked_on (looked_as r looked) (slots_as r st) ≡ slots_as r (looked_on looked st)
  looked_slots (Bound method object) st = refl
  looked_slots (Free v) st = refl

  -- operators by their numbers
  abbrev Lawful : (PlainHeap → Val → Val → Outcome Val) → Type 0
  Lawful op =
      (h k : PlainHeap) → IsRenamed r h k → (a b : Val) → IsOutcome r (value r) (op h a b)
      (op k (value r a) (value r b))

  abbrev IfLawful : Option TwoValued → Type 0
  IfLawful None = Unit {0}
  IfLawful (Some op) = Lawful op

  abbrev AllLawful : List (Option TwoValued) → Type 0
  AllLawful [] = Unit {0}
  AllLawful (o ∷ os) = IfLawful o × AllLawful os

  all_both : (os ps : List (Option TwoValued)) → AllLawful os → AllLawful ps → AllLawful (os ++ ps)
  all_both [] ps p q = q
  all_both (o ∷ os) ps p q = (p.0, all_both os ps p.1 q)

  all_in_place : (os : List (Option Operator)) → AllLawful (map (option_map (λ op heap. in_place heap op)) os)
  all_in_place [] = tt
  all_in_place (None ∷ os) = (tt, all_in_place os)
  all_in_place (Some op ∷ os) = ((λ h k is a b. in_place_as r h k is op a b), all_in_place os)

  all_binary : (os : List (Option Operator)) → AllLawful (map (option_map (λ op heap. binary heap op)) os)
  all_binary [] = tt
  all_binary (None ∷ os) = (tt, all_binary os)
  all_binary (Some op ∷ os) = ((λ h k is a b. binary_as r h k is op a b), all_binary os)

  also : {A B : Type 0} → A → B → A × B
  also a b = (a, b)

  all_compared : AllLawful comparisons
  all_compared =
      also (λ h k is a b. op_order_as r h k is Below a b)
      (also (λ h k is a b. op_order_as r h k is Above a b)
      (also (λ h k is a b. eq_as r h k is a b)
      (also (λ h k is a b. op_order_as r h k is NotAbove a b)
      (also (λ h k is a b. op_order_as r h k is NotBelow a b)
      (also (λ h k is a b. ne_as r h k is a b)
      (also (λ h k is a b. op_contains_as r h k is a b)
      (also (λ h k is a b. is_as r h k is a b)
      (also (λ h k is a b. match_as r h k is a b) tt))))))))

  lawful_at : (os : List (Option TwoValued)) → AllLawful os → (n : ℕ)
      → IfLawful (option_and_then (λ op. op) (slice_get os n))
  lawful_at [] p n = tt
  lawful_at (None ∷ os) p zero = tt
  lawful_at (Some op ∷ os) p zero = p.0
  lawful_at (o ∷ os) p (suc n) = lawful_at os p.1 n

  operator_lawful : (n : ℕ) → IfLawful (operator_at n)
  operator_lawful n =
      lawful_at two_valued
      (all_both comparisons (map (option_map (λ op heap. in_place heap op)) arithmetic ++ map
      (option_map (λ op heap. binary heap op)) arithmetic) all_compared
      (all_both (map (option_map (λ op heap. in_place heap op)) arithmetic)
      (map (option_map (λ op heap. binary heap op)) arithmetic) (all_in_place arithmetic)
      (all_binary arithmetic))) n

  abbrev IfOneLawful : Option (PlainHeap → Val → Outcome Val) → Type 0
  IfOneLawful None = Unit {0}
  IfOneLawful (Some op) =
      (h k : PlainHeap) → IsRenamed r h k → (v : Val) → IsOutcome r (value r) (op h v) (op k (value r v))

  one_lawful : (n : ℕ) → IfOneLawful (unary_at n)
  one_lawful zero = λ h k is v. unary_as r h k is operators.Plus v
  one_lawful (suc zero) = λ h k is v. unary_as r h k is operators.Minus v
  one_lawful (suc (suc zero)) = λ h k is v. unary_as r h k is operators.Invert v
  one_lawful (suc (suc (suc zero))) = λ h k is v. not_as r h k is v
  one_lawful (suc (suc (suc (suc n)))) = tt

  -- imports
  registered_here : (w u : PlainWorld) → IsWorld r w u → (name : Name)
      → is_some (registered_as u.modules name) ≡ is_some (registered_as w.modules name)
  registered_here w u is name =
      ap (λ z. is_some (registered_as z name)) is.modules ∙ ap is_some (registered_same r w.modules name) ∙ is_some_as
      r.to (registered_as w.modules name)

  absent_as : (w u : PlainWorld) → IsWorld r w u → (names : List Name) → first_absent u names ≡ first_absent w names
  absent_as w u is [] = refl
  absent_as w u is (name ∷ names) =
      ap (λ b. cond (b || is_port name) (first_absent u names) (Some name)) (registered_here w u is name)
      ∙ ap (λ z. cond (is_some (registered_as w.modules name) || is_port name) z (Some name)) (absent_as w u is names)

  -- the cases of a step
  module _ (library : Library) (place : Place) (paid : ℕ) (frame : Frame) (frames : List Frame) (w u : PlainWorld)
      (is : IsWorld r w u) where
    abbrev F : Frame
    F = frame_as r frame

    abbrev Fs : List Frame
    Fs = frames_as r frames

    wanted_as : (v : Val) (names : List Name)
        → wanted library place paid F Fs u (value r v) names ≡ wanted library place paid frame frames w v names
    wanted_as Nil names = refl
    wanted_as (Truth b) names = refl
    wanted_as (Int z) names = refl
    wanted_as (Str bytes) names = refl
    wanted_as (Fixed items) names = refl
    wanted_as Empty names = refl
    wanted_as (Built b) names = refl
    wanted_as (At n) names = refl

    next_as : (slots slots' : List Slot) → slots' ≡ slots_as r slots → (w1 u1 : PlainWorld) → IsWorld r w1 u1
        → IsState r (next library place paid frame frames w slots w1) (next library place paid F Fs u slots' u1)
    next_as slots slots' e w1 u1 is1 =
        go_as r (suc frame.position) slots slots' e frame.entries (entries_as r frame.entries) refl frame frames w1 u1
        is1

    jump_as : (p : ℕ) (slots : List Slot)
        → IsState r (jump_to library place paid frame frames w p slots)
        (jump_to library place paid F Fs u p (slots_as r slots))
    jump_as p slots =
        go_as r p slots (slots_as r slots) refl frame.entries (entries_as r frame.entries) refl frame frames w u is

    m_fails : (x y : Fails) → IsFailure r x y
        → IsState r (fails library place paid frame frames w x) (fails library place paid F Fs u y)
    m_fails x y p = fail_as r x y p frame frames

    m_fault : (fault : Fault) (w1 u1 : PlainWorld) → IsWorld r w1 u1
        → IsState r (fails library place paid frame frames w (fault_at place w1 fault))
        (fails library place paid F Fs u (fault_at place u1 (fault_as r fault)))
    m_fault fault w1 u1 is1 =
        m_fails (fault_at place w1 fault) (fault_at place u1 (fault_as r fault))
        (fault_raised r place w1 u1 is1 fault)

    m_paying : {A : Type 0} (f : A → A) (t : Bool) (e d : Effect A) → IsEffect r f e d
        → (go_on go_on' : A → PlainWorld → State)
        → ((a : A) (w1 u1 : PlainWorld) → IsWorld r w1 u1 → IsState r (go_on a w1) (go_on' (f a) u1))
        → IsState r (paying library place paid frame frames w t e go_on) (paying library place paid F Fs u t d go_on')
    m_paying f true e d same go_on go_on' behind = runs is
    m_paying f false e d same go_on go_on' behind = effect_on r f place e d same frame frames go_on go_on' behind

    m_does : {A : Type 0} (f : A → A) (e d : Effect A) → IsEffect r f e d → (go_on go_on' : A → PlainWorld → State)
        → ((a : A) (w1 u1 : PlainWorld) → IsWorld r w1 u1 → IsState r (go_on a w1) (go_on' (f a) u1))
        → IsState r (does library place paid frame frames w e go_on) (does library place paid F Fs u d go_on')
    m_does f e d same go_on go_on' behind =
        subst (λ n. IsState r (does library place paid frame frames w e go_on)
        (paying library place paid F Fs u (nat_lt paid n) d go_on')) (sym same.visits)
        (m_paying f (nat_lt paid e.visits) e d same go_on go_on' behind)

    m_gives : (slots slots' : List Slot) → slots' ≡ slots_as r slots → (e d : Effect Val) → IsEffect r (value r) e d
        → IsState r (gives library place paid frame frames w slots e) (gives library place paid F Fs u slots' d)
    m_gives slots slots' q e d same =
        m_does (value r) e d same (λ v. next library place paid frame frames w (Value v ∷ slots))
        (λ v. next library place paid F Fs u (Value v ∷ slots'))
        (λ v w1 u1 is1. next_as (Value v ∷ slots) (Value (value r v) ∷ slots') (ap (λ z. Value (value r v) ∷ z) q) w1
        u1 is1)

    m_puts : (slots : List Slot) (e d : Effect Val) → IsEffect r (value r) e d
        → IsState r (puts library place paid frame frames w slots e)
        (puts library place paid F Fs u (slots_as r slots) d)
    m_puts slots e d same =
        m_does (value r) e d same (λ v. next library place paid frame frames w slots)
        (λ v. next library place paid F Fs u (slots_as r slots))
        (λ v w1 u1 is1. next_as slots (slots_as r slots) refl w1 u1 is1)

    m_on : (o p : Outcome Val) → IsOutcome r (value r) o p
        → IsEffect r (value r) (on library place paid frame frames w o) (on library place paid F Fs u p)
    m_on o p same = on_heap_as r (value r) w u is o p same

    -- calls
    entered_as : (below below' : List Slot) → below' ≡ slots_as r below
        → (f : Function) (code : Code) (slots : Locals) (b : Bool) (w1 u1 : PlainWorld) → IsWorld r w1 u1
        → IsState r (entered library place paid frame frames w below f code slots b w1)
        (entered library place paid F Fs u below' (function_as r f) code (locals_as r slots) b u1)
    entered_as below below' q f code slots true w1 u1 is1 =
        subst (λ z. IsState r (entered library place paid frame frames w below f code slots true w1)
        (Running 0 (new_frame f.module_name f.code code (locals_as r slots) (r.to f.names) Called)
        (record F { slots = z } ∷ Fs) u1)) (sym q)
        (subst (λ z. IsState r (entered library place paid frame frames w below f code slots true w1)
        (Running 0 z (record F { slots = slots_as r below } ∷ Fs) u1))
        (sym (new_frame_as f.module_name f.code code slots f.names Called)) (runs is1))
    entered_as below below' q f code slots false w1 u1 is1 = m_fault TooDeep w1 u1 is1

    depth_entered : (below below' : List Slot) → below' ≡ slots_as r below
        → (f : Function) (code : Code) (slots : Locals) (w1 u1 : PlainWorld) → IsWorld r w1 u1
        → IsState r (entered library place paid frame frames w below f code slots (has_depth frames) w1)
        (entered library place paid F Fs u below' (function_as r f) code (locals_as r slots) (has_depth Fs) u1)
    depth_entered below below' q f code slots w1 u1 is1 =
        subst (λ b. IsState r (entered library place paid frame frames w below f code slots (has_depth frames) w1)
        (entered library place paid F Fs u below' (function_as r f) code (locals_as r slots) b u1))
        (sym (depth_as frames))
        (entered_as below below' q f code slots (has_depth frames) w1 u1 is1)

    run_code_as : (below below' : List Slot) → below' ≡ slots_as r below
        → (f : Function) (o : Option Code) (args : List Val) (keys : Keys)
        → IsState r (run_code library place paid frame frames w below f o args keys)
        (run_code library place paid F Fs u below' (function_as r f) o (map (value r) args) (map (pair r) keys))
    run_code_as below below' q f None args keys =
        next_as (Value Nil ∷ below) (Value Nil ∷ below') (ap (λ z. Value Nil ∷ z) q) w u is
    run_code_as below below' q f (Some code) args keys =
        m_does (locals_as r) (bind w code.params code.given f.defaults args keys)
        (bind u code.params code.given (value r f.defaults) (map (value r) args) (map (pair r) keys))
        (bind_as r w u is code.params code.given f.defaults args keys)
        (λ slots. entered library place paid frame frames w below f code slots (has_depth frames))
        (λ slots. entered library place paid F Fs u below' (function_as r f) code slots (has_depth Fs))
        (λ slots w1 u1 is1. depth_entered below below' q f code slots w1 u1 is1)

    run_callee_as : (below below' : List Slot) → below' ≡ slots_as r below → (c d : Callee) → IsCallee r c d
        → (args : List Val) (keys : Keys)
        → IsState r (run_callee library place paid frame frames w below c args keys)
        (run_callee library place paid F Fs u below' d (map (value r) args) (map (pair r) keys))
    run_callee_as below below' q (Acts act) (Acts other) p args keys =
        m_gives below below' q (act args keys) (other (map (value r) args) (map (pair r) keys)) (p args keys)
    run_callee_as below below' q (Runs f) (Runs g) p args keys =
        subst (λ z. IsState r (run_callee library place paid frame frames w below (Runs f) args keys)
        (run_callee library place paid F Fs u below' (Runs z) (map (value r) args) (map (pair r) keys))) (sym p)
        (run_code_as below below' q f (code_at library f.module_name f.code) args keys)
    run_callee_as below below' q (Acts act) (Runs g) p args keys = absurd p
    run_callee_as below below' q (Runs f) (Acts other) p args keys = absurd p

    abbrev renamed_operands : Operands → Operands
    renamed_operands o =
        record { args = map (value r) o.args; keys = map (pair r) o.keys; below = slots_as r o.below }

    call_function_as : (o : Operands) (st : List Slot)
        → IsState r (call_function library place paid frame frames w o st)
        (call_function library place paid F Fs u (renamed_operands o) (slots_as r st))
    call_function_as o (Value callee ∷ below) =
        run_callee_as below (slots_as r below) refl (callee_of w callee) (callee_of u (value r callee))
        (callee_as r w u is callee) o.args o.keys
    call_function_as o _ = sticks is

    call_looked_as : (o : Operands) (st : List Slot)
        → IsState r (call_looked library place paid frame frames w o st)
        (call_looked library place paid F Fs u (renamed_operands o) (slots_as r st))
    call_looked_as o (Object (Some object) ∷ Value (Built method) ∷ below) =
        m_gives below (slots_as r below) refl (call_method w method object o.args o.keys)
        (call_method u method (value r object) (map (value r) o.args) (map (pair r) o.keys))
        (method_called r w u is method object o.args o.keys)
    call_looked_as o (Object None ∷ Value callee ∷ below) =
        run_callee_as below (slots_as r below) refl (callee_of w callee) (callee_of u (value r callee))
        (callee_as r w u is callee) o.args o.keys
    call_looked_as o _ = sticks is

    made_as_function : (number : ℕ) (slots : List Slot) (d : Val) (o : Option Code)
        → IsState r (made_function library place paid frame frames w number slots d o)
        (made_function library place paid F Fs u number (slots_as r slots) (value r d) o)
    made_as_function number slots d (Some code) =
        m_gives slots (slots_as r slots) refl (make_function w code.name frame.module_name number frame.names d)
        (make_function u code.name frame.module_name number (r.to frame.names) (value r d))
        (function_made r w u is code.name frame.module_name number frame.names (r.to frame.names) refl d)
    made_as_function number slots d None = sticks is

    make_as : (slots : List Slot) (d : Val) (o : Option ℕ)
        → IsState r (make library place paid frame frames w slots d o)
        (make library place paid F Fs u (slots_as r slots) (value r d) o)
    make_as slots d (Some number) = made_as_function number slots d (code_at library frame.module_name number)
    make_as slots d None = sticks is

    make_with_as : (slots : List Slot) (d : Val) (o : Option ℕ)
        → IsState r (make_with library place paid frame frames w slots d o)
        (make_with library place paid F Fs u (slots_as r slots) (value r d) o)
    make_with_as slots d (Some number) =
        let code : Option Code = code_at library frame.module_name number in
        let count : ℕ = given_by library place paid frame frames w code in
        either r (has_items count (shown w.heap d)) (has_items count (shown u.heap (value r d)))
        (made_function library place paid frame frames w number slots d code)
        (fails library place paid frame frames w (fault_at place w BadDefaults))
        (made_function library place paid F Fs u number (slots_as r slots) (value r d) code)
        (fails library place paid F Fs u (fault_at place u BadDefaults))
        (ap (has_items count) (seen r w.heap u.heap is.heap d) ∙ has_items_as r count (shown w.heap d))
        (made_as_function number slots d code) (m_fault BadDefaults w u is)
    make_with_as slots d None = sticks is

    -- imports
    begun_as : (name : Name) (o : Option Code) (made : Made) (w1 u1 : PlainWorld) → IsWorld r w1 u1
        → IsState r (begun library place paid frame frames w name o made w1)
        (begun library place paid F Fs u name o (made_as r made) u1)
    begun_as name (Some code) made w1 u1 is1 =
        subst (λ z. IsState r (begun library place paid frame frames w name (Some code) made w1)
        (Running 0 z (F ∷ Fs) u1)) (sym (new_frame_as name 0 code [] made.names (Imported name made.number)))
        (runs is1)
    begun_as name None made w1 u1 is1 = sticks is1

    begin_as : (name : Name) (o : Option Entry) (deep : Bool)
        → IsState r (begin library place paid frame frames w name o deep)
        (begin library place paid F Fs u name o deep)
    begin_as name None deep = m_fault (NoModule name) w u is
    begin_as name (Some Refused) deep = m_fault IncompatibleFile w u is
    begin_as name (Some (Holds m)) true =
        m_does (made_as r) (make_module w name) (make_module u name) (make_module_as r w u is name)
        (begun library place paid frame frames w name (slice_get m.codes 0))
        (begun library place paid F Fs u name (slice_get m.codes 0))
        (λ made w1 u1 is1. begun_as name (slice_get m.codes 0) made w1 u1 is1)
    begin_as name (Some (Holds m)) false = m_fault TooDeep w u is

    import_absent_as : (names : Val) (all : List Name) (slots : List Slot) (o : Option Name)
        → IsState r (import_absent library place paid frame frames w names all slots o)
        (import_absent library place paid F Fs u (value r names) all (slots_as r slots) o)
    import_absent_as names all slots (Some name) =
        subst (λ b. IsState r (begin library place paid frame frames w name (entry_in library name)
        (has_depth frames)) (begin library place paid F Fs u name (entry_in library name) b))
        (sym (depth_as frames)) (begin_as name (entry_in library name) (has_depth frames))
    import_absent_as names all slots None =
        next_as (Value (module_named w (wanted library place paid frame frames w names all)) ∷ slots)
        (Value (module_named u (wanted library place paid F Fs u (value r names) all)) ∷ slots_as r slots)
        (ap (λ z. Value (module_named u z) ∷ slots_as r slots) (wanted_as names all) ∙ ap
        (λ z. Value z ∷ slots_as r slots) (module_named_as r w u is
        (wanted library place paid frame frames w names all))) w u is

    import_tried : (name : Name) (names level : Val) (slots : List Slot)
        → IsState r (import library place paid frame frames w name (Value names ∷ Value level ∷ slots))
        (import library place paid F Fs u name (Value (value r names) ∷ Value (value r level) ∷ slots_as r slots))
    import_tried name names level slots =
        either r (is_zero (shown w.heap level)) (is_zero (shown u.heap (value r level)))
        (import_absent library place paid frame frames w names (prefixes name) slots (first_absent w (prefixes name)))
        (fails library place paid frame frames w (fault_at place w RelativeImport))
        (import_absent library place paid F Fs u (value r names) (prefixes name) (slots_as r slots)
        (first_absent u (prefixes name))) (fails library place paid F Fs u (fault_at place u RelativeImport))
        (ap is_zero (seen r w.heap u.heap is.heap level) ∙ zero_as (shown w.heap level))
        (subst (λ o. IsState r (import_absent library place paid frame frames w names (prefixes name) slots
        (first_absent w (prefixes name))) (import_absent library place paid F Fs u (value r names) (prefixes name)
        (slots_as r slots) o)) (sym (absent_as w u is (prefixes name)))
        (import_absent_as names (prefixes name) slots (first_absent w (prefixes name))))
        (m_fault RelativeImport w u is)

    import_as : (name : Name) (st : List Slot)
        → IsState r (import library place paid frame frames w name st)
        (import library place paid F Fs u name (slots_as r st))
    import_as name (Value names ∷ Value level ∷ slots) = import_tried name names level slots
    import_as name _ = sticks is

    -- instructions
    name_as : (op : Op) (name : Name) (st : List Slot)
        → IsState r (name_step library place paid frame frames w op name st)
        (name_step library place paid F Fs u op name (slots_as r st))
    name_as ops.LoadConstString name st =
        next_as (Value (Str name) ∷ st) (Value (Str name) ∷ slots_as r st) refl w u is
    name_as ops.LoadName name st =
        m_gives st (slots_as r st) refl (load_global w frame.names name) (load_global u (r.to frame.names) name)
        (load_global_as r w u is frame.names (r.to frame.names) refl name)
    name_as ops.LoadGlobal name st =
        m_gives st (slots_as r st) refl (load_global w frame.names name) (load_global u (r.to frame.names) name)
        (load_global_as r w u is frame.names (r.to frame.names) refl name)
    name_as ops.StoreName name (Value v ∷ st) =
        m_puts st (store_global w frame.names name v) (store_global u (r.to frame.names) name (value r v))
        (store_global_as r w u is frame.names (r.to frame.names) refl name v)
    name_as ops.StoreGlobal name (Value v ∷ st) =
        m_puts st (store_global w frame.names name v) (store_global u (r.to frame.names) name (value r v))
        (store_global_as r w u is frame.names (r.to frame.names) refl name v)
    name_as ops.DeleteName name st =
        m_puts st (delete_global w frame.names name) (delete_global u (r.to frame.names) name)
        (delete_global_as r w u is frame.names (r.to frame.names) refl name)
    name_as ops.DeleteGlobal name st =
        m_puts st (delete_global w frame.names name) (delete_global u (r.to frame.names) name)
        (delete_global_as r w u is frame.names (r.to frame.names) refl name)
    name_as ops.LoadAttr name (Value o ∷ st) =
        m_gives st (slots_as r st) refl (on library place paid frame frames w (get_attr w.heap o name))
        (on library place paid F Fs u (get_attr u.heap (value r o) name))
        (m_on (get_attr w.heap o name) (get_attr u.heap (value r o) name)
        (get_attr_as r w.heap u.heap is.heap o name))
    name_as ops.LoadMethod name (Value o ∷ st) =
        m_does (looked_as r) (load_method w o name) (load_method u (value r o) name) (load_method_as r w u is o name)
        (λ looked. next library place paid frame frames w (looked_on looked st))
        (λ looked. next library place paid F Fs u (looked_on looked (slots_as r st)))
        (λ looked w1 u1 is1. next_as (looked_on looked st) (looked_on (looked_as r looked) (slots_as r st))
        (looked_slots looked st) w1 u1 is1)
    name_as ops.StoreAttr name (Value o ∷ Value v ∷ st) =
        m_puts st (on library place paid frame frames w (set_attr w.heap o name v))
        (on library place paid F Fs u (set_attr u.heap (value r o) name (value r v)))
        (m_on (set_attr w.heap o name v) (set_attr u.heap (value r o) name (value r v))
        (set_attr_as r w.heap u.heap is.heap o name v))
    name_as ops.ImportName name st = import_as name st
    name_as ops.ImportFrom name (Value m ∷ st) =
        m_gives (Value m ∷ st) (Value (value r m) ∷ slots_as r st) refl (import_from w m name)
        (import_from u (value r m) name) (import_from_as r w u is m name)
    name_as _ name st = sticks is

    with_locals_as : (locals locals' : Locals) → locals' ≡ locals_as r locals → (st : List Slot) (w1 u1 : PlainWorld)
        → IsWorld r w1 u1 → IsState r (with_locals library place paid frame frames w locals st w1)
        (with_locals library place paid F Fs u locals' (slots_as r st) u1)
    with_locals_as locals locals' q st w1 u1 is1 =
        subst (λ z. IsState r (with_locals library place paid frame frames w locals st w1)
        (go (suc frame.position) (slots_as r st) (entries_as r frame.entries) (record F { locals = z }) Fs u1))
        (sym q)
        (go_as r (suc frame.position) st (slots_as r st) refl frame.entries (entries_as r frame.entries) refl
        (record frame { locals = locals }) frames w1 u1 is1)

    operands_called : (n : ℕ) (st : List Slot) (act act' : Operands → State)
        → ((o : Operands) → IsState r (act o) (act' (renamed_operands o)))
        → IsState r (act (operands n st)) (act' (operands n (slots_as r st)))
    operands_called n st act act' same =
        subst (λ o. IsState r (act (operands n st)) (act' o)) (sym (operands_as n st)) (same (operands n st))

    number_as : (op : Op) (n : ℕ) (st : List Slot)
        → IsState r (number_step library place paid frame frames w op n st)
        (number_step library place paid F Fs u op n (slots_as r st))
    number_as ops.LoadFast n st =
        m_gives st (slots_as r st) refl (load_local w frame.locals n) (load_local u (locals_as r frame.locals) n)
        (load_local_as r w u is frame.locals n)
    number_as ops.LoadFastN n st =
        m_gives st (slots_as r st) refl (load_local w frame.locals n) (load_local u (locals_as r frame.locals) n)
        (load_local_as r w u is frame.locals n)
    number_as ops.StoreFast n (Value v ∷ st) =
        with_locals_as (with_local frame.locals n v) (with_local (locals_as r frame.locals) n (value r v))
        (sym (map-set (option_map (value r)) frame.locals n (Some v))) st w u is
    number_as ops.StoreFastN n (Value v ∷ st) =
        with_locals_as (with_local frame.locals n v) (with_local (locals_as r frame.locals) n (value r v))
        (sym (map-set (option_map (value r)) frame.locals n (Some v))) st w u is
    number_as ops.DeleteFast n st =
        m_does (value r) (load_local w frame.locals n) (load_local u (locals_as r frame.locals) n)
        (load_local_as r w u is frame.locals n)
        (λ v. with_locals library place paid frame frames w (without_local frame.locals n) st)
        (λ v. with_locals library place paid F Fs u (without_local (locals_as r frame.locals) n) (slots_as r st))
        (λ v w1 u1 is1. with_locals_as (without_local frame.locals n) (without_local (locals_as r frame.locals) n)
        (sym (map-set (option_map (value r)) frame.locals n None)) st w1 u1 is1)
    number_as ops.BuildTuple n st =
        m_gives (drop n st) (drop n (slots_as r st)) (drop_as n st)
        (on library place paid frame frames w (making_tuple w.heap (values n st)))
        (on library place paid F Fs u (making_tuple u.heap (values n (slots_as r st))))
        (m_on (making_tuple w.heap (values n st)) (making_tuple u.heap (values n (slots_as r st)))
        (tuple_as r w.heap u.heap is.heap (values n st) (values n (slots_as r st)) (values_as n st)))
    number_as ops.BuildList n st =
        m_gives (drop n st) (drop n (slots_as r st)) (drop_as n st)
        (on library place paid frame frames w (making_list w.heap (values n st)))
        (on library place paid F Fs u (making_list u.heap (values n (slots_as r st))))
        (m_on (making_list w.heap (values n st)) (making_list u.heap (values n (slots_as r st)))
        (list_as r w.heap u.heap is.heap (values n st) (values n (slots_as r st)) (values_as n st)))
    number_as ops.BuildMap n st =
        m_gives st (slots_as r st) refl (on library place paid frame frames w
        (making w.heap (DictObject [] (room_for n))))
        (on library place paid F Fs u (making u.heap (DictObject [] (room_for n))))
        (m_on (making w.heap (DictObject [] (room_for n))) (making u.heap (DictObject [] (room_for n)))
        (making_as r w.heap u.heap is.heap (DictObject [] (room_for n))))
    number_as ops.UnpackSequence n (Value v ∷ st) =
        m_does (map (value r)) (on_heap w (unpack w.heap n v)) (on_heap u (unpack u.heap n (value r v)))
        (on_heap_as r (map (value r)) w u is (unpack w.heap n v) (unpack u.heap n (value r v))
        (unpack_as r w.heap u.heap is.heap n v))
        (λ vs. next library place paid frame frames w (map Value vs ++ st))
        (λ vs. next library place paid F Fs u (map Value vs ++ slots_as r st))
        (λ vs w1 u1 is1. next_as (map Value vs ++ st) (map Value (map (value r) vs) ++ slots_as r st)
        (ap (λ z. z ++ slots_as r st) (wrapped vs) ∙ sym (map-append (slot_as r) (map Value vs) st)) w1 u1 is1)
    number_as ops.MakeFunction n st = make_as st Nil (child library place paid frame frames w n)
    number_as ops.MakeFunctionDefargs n (Null ∷ Value d ∷ st) =
        make_with_as st d (child library place paid frame frames w n)
    number_as ops.CallFunction n st =
        operands_called n st (λ o. call_function library place paid frame frames w o o.below)
        (λ o. call_function library place paid F Fs u o o.below) (λ o. call_function_as o o.below)
    number_as ops.CallMethod n st =
        operands_called n st (λ o. call_looked library place paid frame frames w o o.below)
        (λ o. call_looked library place paid F Fs u o o.below) (λ o. call_looked_as o o.below)
    number_as _ n st = sticks is

    ended_as : (cause : Slot) (st : List Slot) (entries : List states.Entry)
        → IsState r (end_finally library place paid frame frames w cause st entries)
        (end_finally library place paid F Fs u (slot_as r cause) (slots_as r st) (entries_as r entries))
    ended_as cause st (e ∷ entries) = resume_as r cause st entries frame frames w u is
    ended_as cause st [] = sticks is

    pop_as : (p : ℕ) (st : List Slot) (entries : List states.Entry)
        → IsState r (pop_except library place paid frame frames w p st entries)
        (pop_except library place paid F Fs u p (slots_as r st) (entries_as r entries))
    pop_as p st (e ∷ entries) =
        go_as r p st (slots_as r st) refl entries (entries_as r entries) refl frame frames w u is
    pop_as p st [] = sticks is

    plain_as : (op : Op) (st : List Slot)
        → IsState r (plain_step library place paid frame frames w op st)
        (plain_step library place paid F Fs u op (slots_as r st))
    plain_as ops.LoadConstFalse st =
        next_as (Value (Truth false) ∷ st) (Value (Truth false) ∷ slots_as r st) refl w u is
    plain_as ops.LoadConstNone st = next_as (Value Nil ∷ st) (Value Nil ∷ slots_as r st) refl w u is
    plain_as ops.LoadConstTrue st = next_as (Value (Truth true) ∷ st) (Value (Truth true) ∷ slots_as r st) refl w u is
    plain_as ops.LoadNull st = next_as (Null ∷ st) (Null ∷ slots_as r st) refl w u is
    plain_as ops.LoadSubscr (Value i ∷ Value o ∷ st) =
        m_gives st (slots_as r st) refl (on library place paid frame frames w (get_item w.heap o i))
        (on library place paid F Fs u (get_item u.heap (value r o) (value r i)))
        (m_on (get_item w.heap o i) (get_item u.heap (value r o) (value r i))
        (get_item_as r w.heap u.heap is.heap o i))
    plain_as ops.StoreSubscr (Value i ∷ Value o ∷ Value v ∷ st) =
        m_puts st (on library place paid frame frames w (set_item w.heap o i v))
        (on library place paid F Fs u (set_item u.heap (value r o) (value r i) (value r v)))
        (m_on (set_item w.heap o i v) (set_item u.heap (value r o) (value r i) (value r v))
        (set_item_as r w.heap u.heap is.heap o i v))
    plain_as ops.StoreSubscr (Value i ∷ Value o ∷ Null ∷ st) =
        m_puts st (on library place paid frame frames w (delete_item w.heap o i))
        (on library place paid F Fs u (delete_item u.heap (value r o) (value r i)))
        (m_on (delete_item w.heap o i) (delete_item u.heap (value r o) (value r i))
        (delete_item_as r w.heap u.heap is.heap o i))
    plain_as ops.DupTop (a ∷ st) = next_as (a ∷ a ∷ st) (slots_as r (a ∷ a ∷ st)) refl w u is
    plain_as ops.DupTopTwo (a ∷ b ∷ st) = next_as (a ∷ b ∷ a ∷ b ∷ st) (slots_as r (a ∷ b ∷ a ∷ b ∷ st)) refl w u is
    plain_as ops.PopTop (a ∷ st) = next_as st (slots_as r st) refl w u is
    plain_as ops.RotTwo (a ∷ b ∷ st) = next_as (b ∷ a ∷ st) (slots_as r (b ∷ a ∷ st)) refl w u is
    plain_as ops.RotThree (a ∷ b ∷ c ∷ st) = next_as (b ∷ c ∷ a ∷ st) (slots_as r (b ∷ c ∷ a ∷ st)) refl w u is
    plain_as ops.GetIterStack (Value v ∷ st) =
        m_does (value r) (on_heap w (use_iter w.heap v)) (on_heap u (use_iter u.heap (value r v)))
        (on_heap_as r (value r) w u is (use_iter w.heap v) (use_iter u.heap (value r v))
        (iter_as r w.heap u.heap is.heap v))
        (λ over. next library place paid frame frames w (iter_on over 0 st))
        (λ over. next library place paid F Fs u (iter_on over 0 (slots_as r st)))
        (λ over w1 u1 is1. next_as (iter_on over 0 st) (iter_on (value r over) 0 (slots_as r st)) refl w1 u1 is1)
    plain_as ops.StoreMap (Value key ∷ Value v ∷ Value d ∷ st) =
        m_puts (Value d ∷ st) (store_pair w d key v) (store_pair u (value r d) (value r key) (value r v))
        (store_pair_as r w u is d key v)
    plain_as ops.ReturnValue (Value v ∷ st) = leave_as r v frame.entries (record frame { slots = st }) frames w u is
    plain_as ops.RaiseObj (Value v ∷ st) =
        m_fails (raise_value place w v) (raise_value place u (value r v)) (value_raised r place w u is v)
    plain_as ops.RaiseLast st =
        m_fails (raise_again place w (kept_of frame.entries))
        (raise_again place u (kept_of (entries_as r frame.entries)))
        (subst (λ z. IsFailure r (raise_again place w (kept_of frame.entries)) (raise_again place u z))
        (sym (kept_as frame.entries)) (raised_again r place w u is (kept_of frame.entries)))
    plain_as ops.EndFinally (cause ∷ st) = ended_as cause st frame.entries
    plain_as _ st = sticks is

    next_item_as : (b : Bool) (p : ℕ) (over : Val) (at : ℕ) (st : List Slot)
        → IsState r (next_item library place paid frame frames w b p over at st)
        (next_item library place paid F Fs u b p (value r over) at (slots_as r st))
    next_item_as true p over at st =
        m_does (value r) (on_heap w (item_of w.heap over at)) (on_heap u (item_of u.heap (value r over) at))
        (on_heap_as r (value r) w u is (item_of w.heap over at) (item_of u.heap (value r over) at)
        (item_of_as r w.heap u.heap is.heap over at))
        (λ v. next library place paid frame frames w (Value v ∷ iter_on over (suc at) st))
        (λ v. next library place paid F Fs u (Value v ∷ iter_on (value r over) (suc at) (slots_as r st)))
        (λ v w1 u1 is1. next_as (Value v ∷ iter_on over (suc at) st)
        (Value (value r v) ∷ iter_on (value r over) (suc at) (slots_as r st)) refl w1 u1 is1)
    next_item_as false p over at st = jump_as p st

    item_tried : (p : ℕ) (over : Val) (at : ℕ) (st : List Slot)
        → IsState r (next_item library place paid frame frames w (nat_lt at (length_of w.heap over)) p over at st)
        (next_item library place paid F Fs u (nat_lt at (length_of u.heap (value r over))) p (value r over) at
        (slots_as r st))
    item_tried p over at st =
        subst (λ n. IsState r (next_item library place paid frame frames w (nat_lt at (length_of w.heap over)) p over
        at st) (next_item library place paid F Fs u (nat_lt at n) p (value r over) at (slots_as r st)))
        (sym (length_as r w.heap u.heap is.heap over))
        (next_item_as (nat_lt at (length_of w.heap over)) p over at st)

    set_up_as : (p : ℕ) (last : Bool) (st : List Slot)
        → IsState r (set_up library place paid frame frames w p last st)
        (set_up library place paid F Fs u p last (slots_as r st))
    set_up_as p last st =
        let e : states.Entry =
        record { handler = p; is_finally = last; height = length st; active = false; kept = None } in
        let e' : states.Entry =
        record { handler = p; is_finally = last; height = length (slots_as r st); active = false; kept = None } in
        go_as r (suc frame.position) st (slots_as r st) refl (e ∷ frame.entries) (e' ∷ entries_as r frame.entries)
        (ap (λ n. record e { height = n } ∷ entries_as r frame.entries) (length-map st (slot_as r))) frame frames w u
        is

    by_truth : (v : Val) (x y x' y' : State) → IsState r x x' → IsState r y y'
        → IsState r (cond (truth w.heap v) x y) (cond (truth u.heap (value r v)) x' y')
    by_truth v x y x' y' p q =
        either r (truth w.heap v) (truth u.heap (value r v)) x y x' y' (truth_as r w.heap u.heap is.heap v) p q

    stay : (st : List Slot) → IsState r (next library place paid frame frames w st w)
        (next library place paid F Fs u (slots_as r st) u)
    stay st = next_as st (slots_as r st) refl w u is

    jumped : (op : Op) (p : ℕ) (st : List Slot)
        → IsState r (jump_step library place paid frame frames w op p st)
        (jump_step library place paid F Fs u op p (slots_as r st))
    jumped ops.Jump p st = jump_as p st
    jumped ops.PopJumpIfTrue p (Value v ∷ st) =
        by_truth v (jump_to library place paid frame frames w p st) (next library place paid frame frames w st w)
        (jump_to library place paid F Fs u p (slots_as r st)) (next library place paid F Fs u (slots_as r st) u)
        (jump_as p st) (stay st)
    jumped ops.PopJumpIfFalse p (Value v ∷ st) =
        by_truth v (next library place paid frame frames w st w) (jump_to library place paid frame frames w p st)
        (next library place paid F Fs u (slots_as r st) u) (jump_to library place paid F Fs u p (slots_as r st))
        (stay st) (jump_as p st)
    jumped ops.JumpIfTrueOrPop p (Value v ∷ st) =
        by_truth v (jump_to library place paid frame frames w p (Value v ∷ st))
        (next library place paid frame frames w st w)
        (jump_to library place paid F Fs u p (Value (value r v) ∷ slots_as r st))
        (next library place paid F Fs u (slots_as r st) u) (jump_as p (Value v ∷ st)) (stay st)
    jumped ops.JumpIfFalseOrPop p (Value v ∷ st) =
        by_truth v (next library place paid frame frames w st w)
        (jump_to library place paid frame frames w p (Value v ∷ st))
        (next library place paid F Fs u (slots_as r st) u)
        (jump_to library place paid F Fs u p (Value (value r v) ∷ slots_as r st)) (stay st)
        (jump_as p (Value v ∷ st))
    jumped ops.SetupExcept p st = set_up_as p false st
    jumped ops.SetupFinally p st = set_up_as p true st
    jumped ops.PopExceptJump p st = pop_as p st frame.entries
    jumped ops.ForIter p (Iter over at part ∷ a ∷ b ∷ c ∷ st) = item_tried p over at st
    jumped _ p st = sticks is

    one_as : (st : List Slot) (o : Option (PlainHeap → Val → Outcome Val)) → IfOneLawful o
        → IsState r (one_step library place paid frame frames w st o)
        (one_step library place paid F Fs u (slots_as r st) o)
    one_as (Value v ∷ st) (Some op) p =
        m_gives st (slots_as r st) refl (on library place paid frame frames w (op w.heap v))
        (on library place paid F Fs u (op u.heap (value r v)))
        (m_on (op w.heap v) (op u.heap (value r v)) (p w.heap u.heap is.heap v))
    one_as st o p = sticks is

    two_as : (st : List Slot) (o : Option TwoValued) → IfLawful o
        → IsState r (two_step library place paid frame frames w st o)
        (two_step library place paid F Fs u (slots_as r st) o)
    two_as (Value b ∷ Value a ∷ st) (Some op) p =
        m_gives st (slots_as r st) refl (on library place paid frame frames w (op w.heap a b))
        (on library place paid F Fs u (op u.heap (value r a) (value r b)))
        (m_on (op w.heap a b) (op u.heap (value r a) (value r b)) (p w.heap u.heap is.heap a b))
    two_as st o p = sticks is

    instr_as : (i : Instr) (st : List Slot)
        → IsState r (instr_step library place paid frame frames w i st)
        (instr_step library place paid F Fs u i (slots_as r st))
    instr_as (instrs.Plain op) st = plain_as op st
    instr_as (instrs.Num op n) st = number_as op n st
    instr_as (instrs.Int z) st = next_as (Value (Int z) ∷ st) (Value (Int z) ∷ slots_as r st) refl w u is
    instr_as (instrs.Unary n) st = one_as st (unary_at n) (one_lawful n)
    instr_as (instrs.Binary n) st = two_as st (operator_at n) (operator_lawful n)
    instr_as _ st = sticks is

    item_as : (item : Item) → Stays r item
        → IsState r (item_step library place paid frame frames w item) (item_step library place paid F Fs u item)
    item_as (Plain instr) stays = instr_as instr frame.slots
    item_as (Names op name) stays = name_as op name frame.slots
    item_as (Loads v) stays =
        next_as (Value v ∷ frame.slots) (Value v ∷ slots_as r frame.slots)
        (ap (λ z. Value z ∷ slots_as r frame.slots) (sym stays)) w u is
    item_as (Jumps op position) stays = jumped op position frame.slots
    item_as (Unwinds position byte) stays =
        unwind_as r position (nat_le 128 byte) (byte % 128) frame.entries frame.slots frame frames w u is

  -- whole steps
  line_as : (library : Library) (paid : ℕ) (frame : Frame) (frames : List Frame) (w u : PlainWorld) → IsWorld r w u
      → (m : Option Module) (code : Option Code) (o : Option Line) → ((l : Line) → o ≡ Some l → Stays r l.item)
      → IsState r (run_line library paid frame frames w m code o)
      (run_line library paid (frame_as r frame) (frames_as r frames) u m code o)
  line_as library paid frame frames w u is (Some m) (Some code) (Some l) stays =
      item_as library (record { file = m.file; line = l.line; name = code.name }) paid frame frames w u is l.item
      (stays l refl)
  line_as library paid frame frames w u is _ _ _ stays = sticks is

  frame_step : (library : Library) → KeepsConstants r library
      → (paid : ℕ) (frame : Frame) (frames : List Frame) (w u : PlainWorld) → IsWorld r w u
      → IsState r (run_frame library paid frame frames w)
      (run_frame library paid (frame_as r frame) (frames_as r frames) u)
  frame_step library keeps paid frame frames w u is =
      line_as library paid frame frames w u is (module_in (entry_in library frame.module_name))
      (code_at library frame.module_name frame.code)
      (line_at (code_at library frame.module_name frame.code) frame.position)
      (λ l e. keeps.stays frame.module_name frame.code frame.position l e)

  pub step_as : (library : Library) → KeepsConstants r library → (s t : State) → IsState r s t
      → IsState r (step library s) (step library t)
  step_as library keeps _ _ (runs {paid = paid} {frame = frame} {frames = frames} {w = w} {u = u} is) = frame_step
      library keeps paid frame frames w u is
  step_as library keeps _ _ (halts is) = halts is
  step_as library keeps _ _ (sticks is) = sticks is

  pub steps_as : (library : Library) → KeepsConstants r library → (n : ℕ) (s t : State) → IsState r s t
      → IsState r (steps library n s) (steps library n t)
  steps_as library keeps zero s t is = is
  steps_as library keeps (suc n) s t is =
      steps_as library keeps n (step library s) (step library t) (step_as library keeps s t is)

  -- what is told of a run
  pub world_as : (s t : State) → IsState r s t → IsWorld r (run_of s).world (run_of t).world
  world_as _ _ (runs is) = is
  world_as _ _ (halts is) = is
  world_as _ _ (sticks is) = is

  pub ends_as : (s t : State) → IsState r s t → (run_of t).end ≡ end_as r (run_of s).end
  ends_as _ _ (runs is) = refl
  ends_as _ _ (halts is) = refl
  ends_as _ _ (sticks is) = refl

  pub told_as : (s t : State) → IsState r s t → report (run_of t) ≡ report (run_of s)
  told_as _ _ (runs {w = w} {u = u} is) = refl
  told_as _ _ (halts {end = end} {w = w} {u = u} is) = report_as r w.heap u.heap is.heap end
  told_as _ _ (sticks {w = w} {u = u} is) = refl
