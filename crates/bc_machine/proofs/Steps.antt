-- The machine's moves and steps in a world in which something was printed before.
use Rattle.std.proofs.Common.{◌≡◌, ℕ, zero, suc, List, [], ◌∷◌, drop, Bool, true, false, ◌||◌, Option, Some, None, cond, refl, ap, ◌∙◌}
use Rattle.std.specs.Prelude.{nat_lt, nat_le, is_some, slice_get, ◌%◌, codes}
use Rattle.mpy_tree.specs.mpy_base.World.{Object as HeapObject, FunctionObject, MethodObject, DictObject, object}
use Rattle.mpy_tree.specs.mpy_base.Val.{Val, Nil, Built, At, PlainWorld}
use Rattle.mpy_tree.specs.mpy_base.Weights.{room_for}
use Rattle.mpy_tree.specs.bc_ops.declared.instr.Op.{Op}
use Rattle.mpy_tree.specs.bc_ops.declared.instr.Op.TheVariants as ops
use Rattle.mpy_tree.specs.bc_ops.declared.instr.Instr.{Instr}
use Rattle.mpy_tree.specs.bc_ops.declared.instr.Instr.TheVariants as instrs
use Rattle.py_effects.specs.py_values.Shown.{PlainHeap, shown, truth}
use Rattle.py_effects.specs.py_primitives.Faults.{TooDeep, NoModule, IncompatibleFile, RelativeImport, BadDefaults}
use Rattle.py_effects.specs.py_primitives.Outcome.{Outcome, making, making_tuple, making_list}
use Rattle.py_effects.specs.py_primitives.Iterables.{use_iter, item_of, length_of}
use Rattle.py_effects.specs.py_primitives.Uses.{get_item, set_item, delete_item, get_attr, set_attr, unpack}
use Rattle.py_effects.specs.Effect.{Effect, on_heap, Place, Given, Gives, Throws, Fills, Fails, Thrown, Filled, given, fault_at}
use Rattle.py_effects.specs.Names.{Locals, store_global, load_local, load_method, import_from, raise_value, raise_again}
use Rattle.py_effects.specs.Calling.{Keys, Function, callee_object, callee_of, call_method, bind}
use Rattle.py_effects.specs.Modules.{Made, make_function, has_items, make_module, store_module, registered_as, is_port, prefixes}
use Rattle.bc_machine.specs.Library.{Name, Item, Plain, Names, Loads, Jumps, Unwinds, Line, Code, Module, Entry, Holds, Refused, Library, entry_in, module_in, code_at}
use Rattle.bc_machine.specs.State as states
use Rattle.bc_machine.specs.State.{Slot, Value, Null, Object, Iter, KeptReturn, KeptJump, Role, Main, Called, Imported, Frame, State, Running, Halted, Stuck, go, cut, abandoned, throw_in, throw_out, throw, fail, on_given, give, is_run, leave, unwind, resume}
use Rattle.bc_machine.specs.Parts.{has_depth, is_zero, first_absent}
use Rattle.bc_machine.specs.Operations.{TwoValued, operator_at, unary_at, values, Operands, operands, kept_of}
use Rattle.bc_machine.specs.Step.{paying, does, gives, puts, entered, run_code, run_callee, call_function, call_looked, made_function, make, given_by, make_with, begun as import_begun, begin, import_absent, import, name_step, child, number_step, end_finally, pop_except, plain_step, next_item, jump_step, one_step, two_step, instr_step, item_step, run_line, line_at, step}
use Rattle.bc_machine.specs.Machine.{steps, begun, opened, start, run_of}
use Rattle.bc_machine.specs.Behind.{behind, state_behind, run_behind}
use Rattle.bc_machine.proofs.Effects as effects

module _ (front : List ℕ) where
  abbrev b : PlainWorld → PlainWorld
  b w = behind front w

  abbrev s : State → State
  s state = state_behind front state

  abbrev effect_b : {A : Type 0} → Effect A → Effect A
  effect_b e = effects.effect_b front e

  either : (t : Bool) (x y x1 y1 : State) → x ≡ s x1 → y ≡ s y1 → cond t x y ≡ s (cond t x1 y1)
  either true x y x1 y1 p q = p
  either false x y x1 y1 p q = q

  absent_same : (w : PlainWorld) (names : List Name) → first_absent (b w) names ≡ first_absent w names
  absent_same w [] = refl
  absent_same w (name ∷ names) = ap (λ (rest : Option Name). cond (is_some (registered_as w.modules name) || is_port name) rest (Some name)) (absent_same w names)

  -- moves
  throw_in_behind : (w : PlainWorld) (x : ℕ) (entries : List states.Entry) (frame : Frame) (frames : List Frame) (out out1 : State) → out ≡ s out1
      → throw_in x entries frame frames (b w) out ≡ s (throw_in x entries frame frames w out1)
  throw_in_behind w x [] frame frames out out1 e = e
  throw_in_behind w x (entry ∷ entries) frame frames out out1 e = either entry.active _ _ _ _ (throw_in_behind w x entries frame frames out out1 e) refl

  abandoned_behind : (role : Role) (w : PlainWorld) → abandoned role (b w) ≡ b (abandoned role w)
  abandoned_behind Main w = refl
  abandoned_behind Called w = refl
  abandoned_behind (Imported name m) w = refl

  throw_out_behind : (x : ℕ) (frames : List Frame) (w : PlainWorld) → throw_out x frames (b w) ≡ s (throw_out x frames w)
  throw_out_behind x [] w = refl
  throw_out_behind x (frame ∷ frames) w =
      throw_in_behind w x frame.entries frame frames _ _ (ap (throw_out x frames) (abandoned_behind frame.role w) ∙ throw_out_behind x frames (abandoned frame.role w))

  throw_behind : (x : ℕ) (frame : Frame) (frames : List Frame) (w : PlainWorld) → throw x frame frames (b w) ≡ s (throw x frame frames w)
  throw_behind x frame frames w =
      throw_in_behind w x frame.entries frame frames _ _ (ap (throw_out x frames) (abandoned_behind frame.role w) ∙ throw_out_behind x frames (abandoned frame.role w))

  failed_behind : (f : Fails) (frame : Frame) (frames : List Frame) → fail (effects.fails_b front f) frame frames ≡ s (fail f frame frames)
  failed_behind (Thrown x w) frame frames = throw_behind x frame frames w
  failed_behind (Filled e w) frame frames = refl

  fail_behind : (g f : Fails) (frame : Frame) (frames : List Frame) → g ≡ effects.fails_b front f → fail g frame frames ≡ s (fail f frame frames)
  fail_behind g f frame frames e = ap (λ (x : Fails). fail x frame frames) e ∙ failed_behind f frame frames

  on_given_behind : {A : Type 0} (x : Given A) (frame : Frame) (frames : List Frame) (next1 next : A → PlainWorld → State) → ((a : A) (w : PlainWorld) → next1 a (b w) ≡ s (next a w))
      → on_given (effects.given_b front x) frame frames next1 ≡ s (on_given x frame frames next)
  on_given_behind (Gives a w) frame frames next1 next h = h a w
  on_given_behind (Throws x w) frame frames next1 next h = throw_behind x frame frames w
  on_given_behind (Fills e w) frame frames next1 next h = refl

  effect_behind : {A : Type 0} (place : Place) (e1 e : Effect A) (frame : Frame) (frames : List Frame) (next1 next : A → PlainWorld → State) → e1 ≡ effect_b e
      → ((a : A) (w : PlainWorld) → next1 a (b w) ≡ s (next a w)) → on_given (given place e1) frame frames next1 ≡ s (on_given (given place e) frame frames next)
  effect_behind {A = A} place e1 e frame frames next1 next eq h =
      ap (λ (x : Effect A). on_given (given place x) frame frames next1) eq
      ∙ (ap (λ (x : Given A). on_given x frame frames next1) (effects.given_behind front place e) ∙ on_given_behind (given place e) frame frames next1 next h)

  give_behind : (v : Val) (role : Role) (frames : List Frame) (w : PlainWorld) → give v role frames (b w) ≡ s (give v role frames w)
  give_behind v Called (frame ∷ frames) w = refl
  give_behind v (Imported name m) (frame ∷ frames) w = effect_behind _ (store_module (b w) name m) (store_module w name m) frame frames _ _ (effects.store_behind front w name m) (λ stored w1. refl)
  give_behind v _ _ w = refl

  leave_behind : (v : Val) (entries : List states.Entry) (frame : Frame) (frames : List Frame) (w : PlainWorld) → leave v entries frame frames (b w) ≡ s (leave v entries frame frames w)
  leave_behind v [] frame frames w = give_behind v frame.role frames w
  leave_behind v (e ∷ entries) frame frames w = either (is_run e) _ _ _ _ refl (leave_behind v entries frame frames w)

  unwind_behind : (target : ℕ) (it : Bool) (count : ℕ) (entries : List states.Entry) (slots : List Slot) (frame : Frame) (frames : List Frame) (w : PlainWorld)
      → unwind target it count entries slots frame frames (b w) ≡ s (unwind target it count entries slots frame frames w)
  unwind_behind target it zero entries slots frame frames w = refl
  unwind_behind target it (suc count) [] slots frame frames w = refl
  unwind_behind target it (suc count) (e ∷ entries) slots frame frames w = either (is_run e) _ _ _ _ refl (unwind_behind target it count entries (cut e.height slots) frame frames w)

  resume_behind : (cause : Slot) (slots : List Slot) (entries : List states.Entry) (frame : Frame) (frames : List Frame) (w : PlainWorld)
      → resume cause slots entries frame frames (b w) ≡ s (resume cause slots entries frame frames w)
  resume_behind (Value Nil) slots entries frame frames w = refl
  resume_behind (Value (At x)) slots entries frame frames w = throw_behind x (record frame { slots = slots; entries = entries }) frames w
  resume_behind (KeptReturn v) slots entries frame frames w = leave_behind v entries (record frame { slots = slots }) frames w
  resume_behind (KeptJump target count it) slots entries frame frames w = unwind_behind target it count entries slots frame frames w
  resume_behind _ slots entries frame frames w = refl

  -- the cases of a step, with the words of the step itself
  module _ (library : Library) (place : Place) (paid : ℕ) (frame : Frame) (frames : List Frame) (w : PlainWorld) where
    m_fails : (g f : Fails) → g ≡ effects.fails_b front f → fail g frame frames ≡ s (fail f frame frames)
    m_fails g f e = fail_behind g f frame frames e

    m_paying : {A : Type 0} (t : Bool) (e1 e : Effect A) (next1 next : A → PlainWorld → State) → e1 ≡ effect_b e → ((a : A) (w1 : PlainWorld) → next1 a (b w1) ≡ s (next a w1))
        → paying library place paid frame frames (b w) t e1 next1 ≡ s (paying library place paid frame frames w t e next)
    m_paying true e1 e next1 next eq h = refl
    m_paying false e1 e next1 next eq h = effect_behind place e1 e frame frames next1 next eq h

    m_does : {A : Type 0} (e1 e : Effect A) (next1 next : A → PlainWorld → State) → e1 ≡ effect_b e → ((a : A) (w1 : PlainWorld) → next1 a (b w1) ≡ s (next a w1))
        → does library place paid frame frames (b w) e1 next1 ≡ s (does library place paid frame frames w e next)
    m_does {A = A} e1 e next1 next eq h =
        ap (λ (x : Effect A). does library place paid frame frames (b w) x next1) eq ∙ m_paying (nat_lt paid e.visits) (effect_b e) e next1 next refl h

    m_gives : (slots : List Slot) (e1 e : Effect Val) → e1 ≡ effect_b e → gives library place paid frame frames (b w) slots e1 ≡ s (gives library place paid frame frames w slots e)
    m_gives slots e1 e eq = m_does e1 e _ _ eq (λ v w1. refl)

    m_puts : (slots : List Slot) (e1 e : Effect Val) → e1 ≡ effect_b e → puts library place paid frame frames (b w) slots e1 ≡ s (puts library place paid frame frames w slots e)
    m_puts slots e1 e eq = m_does e1 e _ _ eq (λ v w1. refl)

    -- calls
    m_entered : (below : List Slot) (c : Function) (code : Code) (slots : Locals) (t : Bool) (w1 : PlainWorld)
        → entered library place paid frame frames (b w) below c code slots t (b w1) ≡ s (entered library place paid frame frames w below c code slots t w1)
    m_entered below c code slots true w1 = refl
    m_entered below c code slots false w1 = m_fails (fault_at place (b w1) TooDeep) (fault_at place w1 TooDeep) (effects.fault_behind front place w1 TooDeep)

    m_code : (below : List Slot) (c : Function) (o : Option Code) (args : List Val) (keys : Keys)
        → run_code library place paid frame frames (b w) below c o args keys ≡ s (run_code library place paid frame frames w below c o args keys)
    m_code below c None args keys = refl
    m_code below c (Some code) args keys =
        m_does (bind (b w) code.params code.given c.defaults args keys) (bind w code.params code.given c.defaults args keys) _ _
        (effects.bind_behind front w code.params code.given c.defaults args keys) (λ slots w1. m_entered below c code slots (has_depth frames) w1)

    m_object : (below : List Slot) (v : Val) (o : Option (HeapObject Val (List ℕ))) (args : List Val) (keys : Keys)
        → run_callee library place paid frame frames (b w) below (callee_object (b w) v o) args keys ≡ s (run_callee library place paid frame frames w below (callee_object w v o) args keys)
    m_object below v (Some (FunctionObject name module_name code names defaults)) args keys =
        m_code below (record { module_name = module_name; code = code; names = names; defaults = defaults }) (code_at library module_name code) args keys
    m_object below v (Some (MethodObject o method)) args keys = m_gives below _ (call_method w method o args keys) refl
    m_object below v _ args keys = m_gives below _ _ refl

    m_callee : (below : List Slot) (v : Val) (args : List Val) (keys : Keys)
        → run_callee library place paid frame frames (b w) below (callee_of (b w) v) args keys ≡ s (run_callee library place paid frame frames w below (callee_of w v) args keys)
    m_callee below (At n) args keys = m_object below (At n) (object w.heap.objects n) args keys
    m_callee below (Built x) args keys = m_gives below _ _ (effects.builtin_behind front w x args keys)
    m_callee below v args keys = m_gives below _ _ refl

    m_function : (o : Operands) (st : List Slot) → call_function library place paid frame frames (b w) o st ≡ s (call_function library place paid frame frames w o st)
    m_function o (Value v ∷ below) = m_callee below v o.args o.keys
    m_function o _ = refl

    m_looked : (o : Operands) (st : List Slot) → call_looked library place paid frame frames (b w) o st ≡ s (call_looked library place paid frame frames w o st)
    m_looked o (Object (Some object) ∷ Value (Built method) ∷ below) = m_gives below _ (call_method w method object o.args o.keys) refl
    m_looked o (Object None ∷ Value v ∷ below) = m_callee below v o.args o.keys
    m_looked o _ = refl

    m_made : (number : ℕ) (slots : List Slot) (d : Val) (o : Option Code)
        → made_function library place paid frame frames (b w) number slots d o ≡ s (made_function library place paid frame frames w number slots d o)
    m_made number slots d (Some code) = m_gives slots _ (make_function w code.name frame.module_name number frame.names d) refl
    m_made number slots d None = refl

    m_make : (slots : List Slot) (d : Val) (o : Option ℕ) → make library place paid frame frames (b w) slots d o ≡ s (make library place paid frame frames w slots d o)
    m_make slots d (Some number) = m_made number slots d (code_at library frame.module_name number)
    m_make slots d None = refl

    m_make_with : (slots : List Slot) (d : Val) (o : Option ℕ) → make_with library place paid frame frames (b w) slots d o ≡ s (make_with library place paid frame frames w slots d o)
    m_make_with slots d (Some number) =
        either (has_items (given_by library place paid frame frames w (code_at library frame.module_name number)) (shown w.heap d)) _ _ _ _
        (m_made number slots d (code_at library frame.module_name number)) (m_fails _ (fault_at place w BadDefaults) (effects.fault_behind front place w BadDefaults))
    m_make_with slots d None = refl

    -- imports
    m_begun : (name : Name) (o : Option Code) (made : Made) (w1 : PlainWorld)
        → import_begun library place paid frame frames (b w) name o made (b w1) ≡ s (import_begun library place paid frame frames w name o made w1)
    m_begun name (Some code) made w1 = refl
    m_begun name None made w1 = refl

    m_begin : (name : Name) (o : Option Entry) (deep : Bool) → begin library place paid frame frames (b w) name o deep ≡ s (begin library place paid frame frames w name o deep)
    m_begin name None deep = m_fails _ (fault_at place w (NoModule name)) (effects.fault_behind front place w (NoModule name))
    m_begin name (Some Refused) deep = m_fails _ (fault_at place w IncompatibleFile) (effects.fault_behind front place w IncompatibleFile)
    m_begin name (Some (Holds m)) true =
        m_does (make_module (b w) name) (make_module w name) _ _ (effects.module_behind front w name) (λ made w1. m_begun name (slice_get m.codes 0) made w1)
    m_begin name (Some (Holds m)) false = m_fails _ (fault_at place w TooDeep) (effects.fault_behind front place w TooDeep)

    m_absent_by : (names : Val) (ps : List Name) (slots : List Slot) (o : Option Name)
        → import_absent library place paid frame frames (b w) names ps slots o ≡ s (import_absent library place paid frame frames w names ps slots o)
    m_absent_by names ps slots (Some name) = m_begin name (entry_in library name) (has_depth frames)
    m_absent_by names ps slots None = refl

    m_absent : (names : Val) (ps : List Name) (slots : List Slot)
        → import_absent library place paid frame frames (b w) names ps slots (first_absent (b w) ps) ≡ s (import_absent library place paid frame frames w names ps slots (first_absent w ps))
    m_absent names ps slots =
        ap (import_absent library place paid frame frames (b w) names ps slots) (absent_same w ps) ∙ m_absent_by names ps slots (first_absent w ps)

    m_import : (name : Name) (st : List Slot) → import library place paid frame frames (b w) name st ≡ s (import library place paid frame frames w name st)
    m_import name (Value names ∷ Value level ∷ slots) =
        either (is_zero (shown w.heap level)) _ _ _ _ (m_absent names (prefixes name) slots) (m_fails _ (fault_at place w RelativeImport) (effects.fault_behind front place w RelativeImport))
    m_import name _ = refl

    -- instructions
    m_name : (op : Op) (name : Name) (st : List Slot) → name_step library place paid frame frames (b w) op name st ≡ s (name_step library place paid frame frames w op name st)
    m_name ops.LoadConstString name st = refl
    m_name ops.LoadName name st = m_gives st _ _ (effects.global_behind front w frame.names name)
    m_name ops.LoadGlobal name st = m_gives st _ _ (effects.global_behind front w frame.names name)
    m_name ops.StoreName name (Value v ∷ st) = m_puts st _ (store_global w frame.names name v) refl
    m_name ops.StoreGlobal name (Value v ∷ st) = m_puts st _ (store_global w frame.names name v) refl
    m_name ops.DeleteName name st = m_puts st _ _ (effects.delete_behind front w frame.names name)
    m_name ops.DeleteGlobal name st = m_puts st _ _ (effects.delete_behind front w frame.names name)
    m_name ops.LoadAttr name (Value o ∷ st) = m_gives st _ (on_heap w (get_attr w.heap o name)) refl
    m_name ops.LoadMethod name (Value o ∷ st) = m_does _ (load_method w o name) _ _ (effects.method_behind front w o name) (λ looked w1. refl)
    m_name ops.StoreAttr name (Value o ∷ Value v ∷ st) = m_puts st _ (on_heap w (set_attr w.heap o name v)) refl
    m_name ops.ImportName name st = m_import name st
    m_name ops.ImportFrom name (Value m ∷ st) = m_gives (Value m ∷ st) _ (import_from w m name) refl
    m_name _ name st = refl

    m_number : (op : Op) (n : ℕ) (st : List Slot) → number_step library place paid frame frames (b w) op n st ≡ s (number_step library place paid frame frames w op n st)
    m_number ops.LoadFast n st = m_gives st _ _ (effects.local_behind front w frame.locals n)
    m_number ops.LoadFastN n st = m_gives st _ _ (effects.local_behind front w frame.locals n)
    m_number ops.StoreFast n (Value v ∷ st) = refl
    m_number ops.StoreFastN n (Value v ∷ st) = refl
    m_number ops.DeleteFast n st = m_does _ (load_local w frame.locals n) _ _ (effects.local_behind front w frame.locals n) (λ v w1. refl)
    m_number ops.BuildTuple n st = m_gives (drop n st) _ (on_heap w (making_tuple w.heap (values n st))) refl
    m_number ops.BuildList n st = m_gives (drop n st) _ (on_heap w (making_list w.heap (values n st))) refl
    m_number ops.BuildMap n st = m_gives st _ (on_heap w (making w.heap (DictObject [] (room_for n)))) refl
    m_number ops.UnpackSequence n (Value v ∷ st) = m_does _ (on_heap w (unpack w.heap n v)) _ _ refl (λ vs w1. refl)
    m_number ops.MakeFunction n st = m_make st Nil (child library place paid frame frames w n)
    m_number ops.MakeFunctionDefargs n (Null ∷ Value d ∷ st) = m_make_with st d (child library place paid frame frames w n)
    m_number ops.CallFunction n st = m_function (operands n st) (operands n st).below
    m_number ops.CallMethod n st = m_looked (operands n st) (operands n st).below
    m_number _ n st = refl

    m_end : (cause : Slot) (st : List Slot) (entries : List states.Entry) → end_finally library place paid frame frames (b w) cause st entries ≡ s (end_finally library place paid frame frames w cause st entries)
    m_end cause st (e ∷ entries) = resume_behind cause st entries frame frames w
    m_end cause st [] = refl

    m_pop : (p : ℕ) (st : List Slot) (entries : List states.Entry) → pop_except library place paid frame frames (b w) p st entries ≡ s (pop_except library place paid frame frames w p st entries)
    m_pop p st (e ∷ entries) = refl
    m_pop p st [] = refl

    m_plain : (op : Op) (st : List Slot) → plain_step library place paid frame frames (b w) op st ≡ s (plain_step library place paid frame frames w op st)
    m_plain ops.LoadConstFalse st = refl
    m_plain ops.LoadConstNone st = refl
    m_plain ops.LoadConstTrue st = refl
    m_plain ops.LoadNull st = refl
    m_plain ops.LoadSubscr (Value i ∷ Value o ∷ st) = m_gives st _ (on_heap w (get_item w.heap o i)) refl
    m_plain ops.StoreSubscr (Value i ∷ Value o ∷ Value v ∷ st) = m_puts st _ (on_heap w (set_item w.heap o i v)) refl
    m_plain ops.StoreSubscr (Value i ∷ Value o ∷ Null ∷ st) = m_puts st _ (on_heap w (delete_item w.heap o i)) refl
    m_plain ops.DupTop (x ∷ st) = refl
    m_plain ops.DupTopTwo (x ∷ y ∷ st) = refl
    m_plain ops.PopTop (x ∷ st) = refl
    m_plain ops.RotTwo (x ∷ y ∷ st) = refl
    m_plain ops.RotThree (x ∷ y ∷ z ∷ st) = refl
    m_plain ops.GetIterStack (Value v ∷ st) = m_does _ (on_heap w (use_iter w.heap v)) _ _ refl (λ over w1. refl)
    m_plain ops.StoreMap (Value k ∷ Value v ∷ Value d ∷ st) = m_puts (Value d ∷ st) _ _ (effects.pair_behind front w d k v)
    m_plain ops.ReturnValue (Value v ∷ st) = leave_behind v frame.entries (record frame { slots = st }) frames w
    m_plain ops.RaiseObj (Value v ∷ st) = m_fails _ (raise_value place w v) (effects.value_behind front place w v)
    m_plain ops.RaiseLast st = m_fails _ (raise_again place w (kept_of frame.entries)) (effects.again_behind front place w (kept_of frame.entries))
    m_plain ops.EndFinally (cause ∷ st) = m_end cause st frame.entries
    m_plain _ st = refl

    m_next_item : (t : Bool) (p : ℕ) (over : Val) (at : ℕ) (st : List Slot) → next_item library place paid frame frames (b w) t p over at st ≡ s (next_item library place paid frame frames w t p over at st)
    m_next_item true p over at st = m_does _ (on_heap w (item_of w.heap over at)) _ _ refl (λ v w1. refl)
    m_next_item false p over at st = refl

    m_jump : (op : Op) (p : ℕ) (st : List Slot) → jump_step library place paid frame frames (b w) op p st ≡ s (jump_step library place paid frame frames w op p st)
    m_jump ops.Jump p st = refl
    m_jump ops.PopJumpIfTrue p (Value v ∷ st) = either (truth w.heap v) _ _ _ _ refl refl
    m_jump ops.PopJumpIfFalse p (Value v ∷ st) = either (truth w.heap v) _ _ _ _ refl refl
    m_jump ops.JumpIfTrueOrPop p (Value v ∷ st) = either (truth w.heap v) _ _ _ _ refl refl
    m_jump ops.JumpIfFalseOrPop p (Value v ∷ st) = either (truth w.heap v) _ _ _ _ refl refl
    m_jump ops.SetupExcept p st = refl
    m_jump ops.SetupFinally p st = refl
    m_jump ops.PopExceptJump p st = m_pop p st frame.entries
    m_jump ops.ForIter p (Iter over at part ∷ x ∷ y ∷ z ∷ st) = m_next_item (nat_lt at (length_of w.heap over)) p over at st
    m_jump _ p st = refl

    m_one : (st : List Slot) (o : Option (PlainHeap → Val → Outcome Val)) → one_step library place paid frame frames (b w) st o ≡ s (one_step library place paid frame frames w st o)
    m_one (Value v ∷ st) (Some op) = m_gives st _ (on_heap w (op w.heap v)) refl
    m_one st op = refl

    m_two : (st : List Slot) (o : Option TwoValued) → two_step library place paid frame frames (b w) st o ≡ s (two_step library place paid frame frames w st o)
    m_two (Value y ∷ Value x ∷ st) (Some op) = m_gives st _ (on_heap w (op w.heap x y)) refl
    m_two st op = refl

    m_instr : (i : Instr) (st : List Slot) → instr_step library place paid frame frames (b w) i st ≡ s (instr_step library place paid frame frames w i st)
    m_instr (instrs.Plain op) st = m_plain op st
    m_instr (instrs.Num op n) st = m_number op n st
    m_instr (instrs.Int z) st = refl
    m_instr (instrs.Unary n) st = m_one st (unary_at n)
    m_instr (instrs.Binary n) st = m_two st (operator_at n)
    m_instr _ st = refl

    m_item : (item : Item) → item_step library place paid frame frames (b w) item ≡ s (item_step library place paid frame frames w item)
    m_item (Plain instr) = m_instr instr frame.slots
    m_item (Names op name) = m_name op name frame.slots
    m_item (Loads v) = refl
    m_item (Jumps op p) = m_jump op p frame.slots
    m_item (Unwinds p byte) = unwind_behind p (nat_le 128 byte) (byte % 128) frame.entries frame.slots frame frames w

  m_line : (library : Library) (paid : ℕ) (frame : Frame) (frames : List Frame) (w : PlainWorld) (m : Option Module) (c : Option Code) (l : Option Line)
      → run_line library paid frame frames (b w) m c l ≡ s (run_line library paid frame frames w m c l)
  m_line library paid frame frames w (Some m) (Some code) (Some l) = m_item library _ paid frame frames w l.item
  m_line library paid frame frames w _ _ _ = refl

  step_behind : (library : Library) (state : State) → step library (s state) ≡ s (step library state)
  step_behind library (Running paid frame frames w) =
      m_line library paid frame frames w (module_in (entry_in library frame.module_name)) (code_at library frame.module_name frame.code) (line_at (code_at library frame.module_name frame.code) frame.position)
  step_behind library (Halted end w) = refl
  step_behind library (Stuck w) = refl

  pub steps_behind : (library : Library) (n : ℕ) (state : State) → steps library n (s state) ≡ s (steps library n state)
  steps_behind library zero state = refl
  steps_behind library (suc n) state = ap (steps library n) (step_behind library state) ∙ steps_behind library n (step library state)

  -- the start
  begun_behind : (name : Name) (o : Option Code) (made : Made) (w : PlainWorld) → begun name o made (b w) ≡ s (begun name o made w)
  begun_behind name (Some code) made w = refl
  begun_behind name None made w = refl

  opened_behind : (library : Library) (name : Name) (x : Given Made) → opened library name (effects.given_b front x) ≡ s (opened library name x)
  opened_behind library name (Gives made w) = begun_behind name (code_at library name 0) made w
  opened_behind library name (Throws x w) = refl
  opened_behind library name (Fills e w) = refl

  pub start_behind : (library : Library) (name : Name) (w : PlainWorld) → start library name (b w) ≡ s (start library name w)
  start_behind library name w =
      let place : Place = record { file = []; line = 0; name = [] } in
      ap (λ (e : Effect Made). opened library name (given place e)) (effects.module_behind front w (codes "__main__"))
      ∙ (ap (opened library name) (effects.given_behind front place (make_module w (codes "__main__"))) ∙ opened_behind library name (given place (make_module w (codes "__main__"))))

  pub run_is_behind : (state : State) → run_of (s state) ≡ run_behind front (run_of state)
  run_is_behind (Running paid frame frames w) = refl
  run_is_behind (Halted end w) = refl
  run_is_behind (Stuck w) = refl
