-- A step behind the visits of its instruction is paid for none: nothing is paid on what runs behind it.
use Rattle.std.proofs.Common.{◌≡◌, ℕ, zero, suc, ◌≤◌, List, [], ◌∷◌, drop, Bool, true, false, cond, Option, Some, None, refl, sym, subst, arith, slice_get}
use Rattle.std.specs.Prelude.{nat_lt, nat_le, ◌%◌}
use Rattle.std.proofs.lemmas.Bool.{le-ltb}
use Rattle.mpy_base.specs.World.{DictObject, FunctionObject}
use Rattle.mpy_base.specs.Weights.{room_for}
use Rattle.mpy_base.specs.Val.{Val, Nil, Str, At, PlainWorld}
use Rattle.state_steps.specs.vm_frames.bc_ops.declared.instr.Op.{Op}
use Rattle.state_steps.specs.vm_frames.bc_ops.declared.instr.Op.TheVariants as ops
use Rattle.state_steps.specs.vm_frames.bc_ops.declared.instr.Instr.{Instr}
use Rattle.state_steps.specs.vm_frames.bc_ops.declared.instr.Instr.TheVariants as instrs
use Rattle.state_steps.specs.vm_frames.py_effects.py_values.Shown.{PlainHeap, shown, truth}
use Rattle.state_steps.specs.vm_frames.py_effects.py_primitives.Faults.{TooDeep, NoModule, IncompatibleFile, RelativeImport, BadDefaults}
use Rattle.state_steps.specs.vm_frames.py_effects.py_primitives.Outcome.{Outcome, making, making_tuple, making_list}
use Rattle.state_steps.specs.vm_frames.py_effects.py_primitives.Iterables.{use_iter, item_of, length_of}
use Rattle.state_steps.specs.vm_frames.py_effects.py_primitives.Uses.{get_item, set_item, delete_item, get_attr, set_attr, unpack}
use Rattle.state_steps.specs.vm_frames.py_effects.Effect.{Effect, on_heap, Place, Given, Gives, Throws, Fills, Fails, Thrown, Filled, given, fault_at}
use Rattle.state_steps.specs.vm_frames.py_effects.Names.{Locals, load_global, store_global, delete_global, load_local, load_method, import_from, store_pair, raise_value, raise_again}
use Rattle.state_steps.specs.vm_frames.py_effects.Calling.{Keys, Function, Callee, Runs, Acts, bind}
use Rattle.state_steps.specs.vm_frames.py_effects.Modules.{Made, make_function, has_items, make_module, prefixes, store_module}
use Rattle.state_steps.specs.vm_frames.bc_machine.Library.{Name, Item, Plain, Names, Loads, Jumps, Unwinds, Code, Entry, Holds, Refused, Library, entry_in, code_at}
use Rattle.state_steps.specs.vm_frames.bc_machine.State as states
use Rattle.state_steps.specs.vm_frames.bc_machine.State.{Slot, Value, Null, Object, Iter, KeptReturn, KeptJump, Role, Main, Called, Imported, Frame, State, Running, Halted, Stuck, cut, abandoned, throw_in, throw_out, throw, fail, on_given, give, is_run, leave, unwind, resume}
use Rattle.state_steps.specs.vm_frames.bc_machine.Parts.{has_depth, is_zero, first_absent}
use Rattle.state_steps.specs.vm_frames.bc_machine.Operations.{TwoValued, operator_at, unary_at, values, kept_of}
use Rattle.state_steps.specs.vm_frames.bc_machine.Step.{paying, does, gives, puts, entered, run_code, run_callee, made_function, make, given_by, make_with, begun, begin, import_absent, import, name_step, child, number_step, end_finally, pop_except, plain_step, next_item, jump_step, one_step, two_step, instr_step, item_step}
use Rattle.vm_starting.specs.frame_calls.Invoking.{visits_of}
use Rattle.vm_machine.proofs.Free.{making_free, tuple_free, list_free, item_free, iter_free, unpack_free, get_free, put_free, set_free, delete_free, get_attr_free, set_attr_free, IsFreeOperator, unary_free, load_global_free, delete_global_free, load_local_free, load_method_free, import_from_free, store_pair_free, make_module_free, bind_free}

-- nothing is paid on what runs
abbrev pub IsBegun : State → Type 0
IsBegun (Running paid frame frames w) = paid ≡ 0
IsBegun (Halted end w) = Unit {0}
IsBegun (Stuck w) = Unit {0}

either : (b : Bool) (x y : State) → IsBegun x → IsBegun y → IsBegun (cond b x y)
either true x y p q = p
either false x y p q = q

-- raises, returns and jumps
-- =========================

throw_in_begun : (x : ℕ) (entries : List states.Entry) (frame : Frame) (frames : List Frame) (w : PlainWorld) (out : State) → IsBegun out → IsBegun (throw_in x entries frame frames w out)
throw_in_begun x [] frame frames w out o = o
throw_in_begun x (e ∷ entries) frame frames w out o = either e.active _ _ (throw_in_begun x entries frame frames w out o) refl

throw_out_begun : (x : ℕ) (frames : List Frame) (w : PlainWorld) → IsBegun (throw_out x frames w)
throw_out_begun x [] w = tt
throw_out_begun x (frame ∷ frames) w = throw_in_begun x frame.entries frame frames w _ (throw_out_begun x frames (abandoned frame.role w))

throw_begun : (x : ℕ) (frame : Frame) (frames : List Frame) (w : PlainWorld) → IsBegun (throw x frame frames w)
throw_begun x frame frames w = throw_in_begun x frame.entries frame frames w _ (throw_out_begun x frames (abandoned frame.role w))

fail_begun : (x : Fails) (frame : Frame) (frames : List Frame) → IsBegun (fail x frame frames)
fail_begun (Thrown x w) frame frames = throw_begun x frame frames w
fail_begun (Filled e w) frame frames = tt

given_begun : {A : Type 0} (x : Given A) (frame : Frame) (frames : List Frame) (next : A → PlainWorld → State) → ((a : A) (w : PlainWorld) → IsBegun (next a w)) → IsBegun (on_given x frame frames next)
given_begun (Gives a w) frame frames next h = h a w
given_begun (Throws x w) frame frames next h = throw_begun x frame frames w
given_begun (Fills e w) frame frames next h = tt

give_begun : (v : Val) (role : Role) (frames : List Frame) (w : PlainWorld) → IsBegun (give v role frames w)
give_begun v Called (frame ∷ frames) w = refl
give_begun v (Imported name m) (frame ∷ frames) w = given_begun (given _ (store_module w name m)) frame frames _ (λ stored w1. refl)
give_begun v _ _ w = tt

leave_begun : (v : Val) (entries : List states.Entry) (frame : Frame) (frames : List Frame) (w : PlainWorld) → IsBegun (leave v entries frame frames w)
leave_begun v [] frame frames w = give_begun v frame.role frames w
leave_begun v (e ∷ entries) frame frames w = either (is_run e) _ _ refl (leave_begun v entries frame frames w)

unwind_begun : (target : ℕ) (it : Bool) (count : ℕ) (entries : List states.Entry) (slots : List Slot) (frame : Frame) (frames : List Frame) (w : PlainWorld) → IsBegun (unwind target it count entries slots frame frames w)
unwind_begun target it zero entries slots frame frames w = refl
unwind_begun target it (suc count) [] slots frame frames w = tt
unwind_begun target it (suc count) (e ∷ entries) slots frame frames w = either (is_run e) _ _ refl (unwind_begun target it count entries (cut e.height slots) frame frames w)

resume_begun : (cause : Slot) (slots : List Slot) (entries : List states.Entry) (frame : Frame) (frames : List Frame) (w : PlainWorld) → IsBegun (resume cause slots entries frame frames w)
resume_begun (Value Nil) slots entries frame frames w = refl
resume_begun (Value (At x)) slots entries frame frames w = throw_begun x (record frame { slots = slots; entries = entries }) frames w
resume_begun (KeptReturn v) slots entries frame frames w = leave_begun v entries (record frame { slots = slots }) frames w
resume_begun (KeptJump target count it) slots entries frame frames w = unwind_begun target it count entries slots frame frames w
resume_begun _ slots entries frame frames w = tt

-- instructions
-- ============

-- the operation calls nothing
abbrev pub NoCall : Op → Type 0
NoCall ops.CallFunction = ⊥
NoCall ops.CallMethod = ⊥
NoCall _ = Unit {0}

-- the visits of an operator over the two topmost slots
abbrev pub visits_two : PlainWorld → List Slot → Option TwoValued → ℕ
visits_two w (Value u ∷ Value v ∷ st) (Some op) = (op w.heap v u).visits
visits_two w st op = 0

module _ (library : Library) (place : Place) (paid : ℕ) (frame : Frame) (frames : List Frame) (w : PlainWorld) where
  does_begun : {A : Type 0} (effect : Effect A) (next : A → PlainWorld → State) → effect.visits ≤ paid → ((a : A) (w1 : PlainWorld) → IsBegun (next a w1)) → IsBegun (does library place paid frame frames w effect next)
  does_begun effect next enough h =
      subst (λ (b : Bool). IsBegun (paying library place paid frame frames w b effect next)) (sym (le-ltb paid effect.visits enough)) (given_begun (given place effect) frame frames next h)

  free_begun : {A : Type 0} (effect : Effect A) (next : A → PlainWorld → State) → effect.visits ≡ 0 → ((a : A) (w1 : PlainWorld) → IsBegun (next a w1)) → IsBegun (does library place paid frame frames w effect next)
  free_begun effect next none h = does_begun effect next (omega (arith, none)) h

  pub gives_begun : (slots : List Slot) (effect : Effect Val) → effect.visits ≤ paid → IsBegun (gives library place paid frame frames w slots effect)
  gives_begun slots effect enough = does_begun effect _ enough (λ v w1. refl)

  gives_free : (slots : List Slot) (effect : Effect Val) → effect.visits ≡ 0 → IsBegun (gives library place paid frame frames w slots effect)
  gives_free slots effect none = free_begun effect _ none (λ v w1. refl)

  puts_free : (slots : List Slot) (effect : Effect Val) → effect.visits ≡ 0 → IsBegun (puts library place paid frame frames w slots effect)
  puts_free slots effect none = free_begun effect _ none (λ v w1. refl)

  -- calls
  entered_begun : (below : List Slot) (c : Function) (code : Code) (slots : Locals) (t : Bool) (w1 : PlainWorld) → IsBegun (entered library place paid frame frames w below c code slots t w1)
  entered_begun below c code slots true w1 = refl
  entered_begun below c code slots false w1 = fail_begun (fault_at place w1 TooDeep) frame frames

  code_begun : (below : List Slot) (c : Function) (o : Option Code) (args : List Val) (keys : Keys) → IsBegun (run_code library place paid frame frames w below c o args keys)
  code_begun below c None args keys = refl
  code_begun below c (Some code) args keys =
      free_begun (bind w code.params code.given c.defaults args keys) _ (bind_free w code.params code.given c.defaults args keys) (λ slots w1. entered_begun below c code slots (has_depth frames) w1)

  pub callee_begun : (below : List Slot) (c : Callee) (args : List Val) (keys : Keys) → visits_of c args keys ≤ paid → IsBegun (run_callee library place paid frame frames w below c args keys)
  callee_begun below (Acts act) args keys enough = gives_begun below (act args keys) enough
  callee_begun below (Runs c) args keys enough = code_begun below c (code_at library c.module_name c.code) args keys

  -- functions that are made
  made_begun : (number : ℕ) (slots : List Slot) (d : Val) (o : Option Code) → IsBegun (made_function library place paid frame frames w number slots d o)
  made_begun number slots d (Some code) = gives_free slots (make_function w code.name frame.module_name number frame.names d) (making_free w.heap (FunctionObject code.name frame.module_name number frame.names d))
  made_begun number slots d None = tt

  make_begun : (slots : List Slot) (d : Val) (o : Option ℕ) → IsBegun (make library place paid frame frames w slots d o)
  make_begun slots d (Some number) = made_begun number slots d (code_at library frame.module_name number)
  make_begun slots d None = tt

  make_with_begun : (slots : List Slot) (d : Val) (o : Option ℕ) → IsBegun (make_with library place paid frame frames w slots d o)
  make_with_begun slots d (Some number) =
      either (has_items (given_by library place paid frame frames w (code_at library frame.module_name number)) (shown w.heap d)) _ _
      (made_begun number slots d (code_at library frame.module_name number)) (fail_begun (fault_at place w BadDefaults) frame frames)
  make_with_begun slots d None = tt

  -- imports
  begun_begun : (name : Name) (o : Option Code) (made : Made) (w1 : PlainWorld) → IsBegun (begun library place paid frame frames w name o made w1)
  begun_begun name (Some code) made w1 = refl
  begun_begun name None made w1 = tt

  begin_begun : (name : Name) (o : Option Entry) (deep : Bool) → IsBegun (begin library place paid frame frames w name o deep)
  begin_begun name None deep = fail_begun (fault_at place w (NoModule name)) frame frames
  begin_begun name (Some Refused) deep = fail_begun (fault_at place w IncompatibleFile) frame frames
  begin_begun name (Some (Holds m)) true = free_begun (make_module w name) _ (make_module_free w name) (λ made w1. begun_begun name (slice_get m.codes 0) made w1)
  begin_begun name (Some (Holds m)) false = fail_begun (fault_at place w TooDeep) frame frames

  absent_begun : (names : Val) (ps : List Name) (slots : List Slot) (o : Option Name) → IsBegun (import_absent library place paid frame frames w names ps slots o)
  absent_begun names ps slots (Some name) = begin_begun name (entry_in library name) (has_depth frames)
  absent_begun names ps slots None = refl

  import_begun : (name : Name) (st : List Slot) → IsBegun (import library place paid frame frames w name st)
  import_begun name (Value names ∷ Value level ∷ slots) =
      either (is_zero (shown w.heap level)) _ _ (absent_begun names (prefixes name) slots (first_absent w (prefixes name))) (fail_begun (fault_at place w RelativeImport) frame frames)
  import_begun name _ = tt

  -- by their names
  name_begun : (op : Op) (name : Name) (st : List Slot) → IsBegun (name_step library place paid frame frames w op name st)
  name_begun ops.LoadConstString name st = refl
  name_begun ops.LoadName name st = gives_free st (load_global w frame.names name) (load_global_free w frame.names name)
  name_begun ops.LoadGlobal name st = gives_free st (load_global w frame.names name) (load_global_free w frame.names name)
  name_begun ops.StoreName name (Value v ∷ st) = puts_free st (store_global w frame.names name v) (put_free w.heap frame.names (Str name) v)
  name_begun ops.StoreGlobal name (Value v ∷ st) = puts_free st (store_global w frame.names name v) (put_free w.heap frame.names (Str name) v)
  name_begun ops.DeleteName name st = puts_free st (delete_global w frame.names name) (delete_global_free w frame.names name)
  name_begun ops.DeleteGlobal name st = puts_free st (delete_global w frame.names name) (delete_global_free w frame.names name)
  name_begun ops.LoadAttr name (Value o ∷ st) = gives_free st (on_heap w (get_attr w.heap o name)) (get_attr_free w.heap o name)
  name_begun ops.LoadMethod name (Value o ∷ st) = free_begun (load_method w o name) _ (load_method_free w o name) (λ looked w1. refl)
  name_begun ops.StoreAttr name (Value o ∷ Value v ∷ st) = puts_free st (on_heap w (set_attr w.heap o name v)) (set_attr_free w.heap o name v)
  name_begun ops.ImportName name st = import_begun name st
  name_begun ops.ImportFrom name (Value m ∷ st) = gives_free (Value m ∷ st) (import_from w m name) (import_from_free w m name)
  name_begun _ name st = tt

  number_begun : (op : Op) (n : ℕ) (st : List Slot) → NoCall op → IsBegun (number_step library place paid frame frames w op n st)
  number_begun ops.LoadFast n st calm = gives_free st (load_local w frame.locals n) (load_local_free w frame.locals n)
  number_begun ops.LoadFastN n st calm = gives_free st (load_local w frame.locals n) (load_local_free w frame.locals n)
  number_begun ops.StoreFast n (Value v ∷ st) calm = refl
  number_begun ops.StoreFastN n (Value v ∷ st) calm = refl
  number_begun ops.DeleteFast n st calm = free_begun (load_local w frame.locals n) _ (load_local_free w frame.locals n) (λ v w1. refl)
  number_begun ops.BuildTuple n st calm = gives_free (drop n st) (on_heap w (making_tuple w.heap (values n st))) (tuple_free w.heap (values n st))
  number_begun ops.BuildList n st calm = gives_free (drop n st) (on_heap w (making_list w.heap (values n st))) (list_free w.heap (values n st))
  number_begun ops.BuildMap n st calm = gives_free st (on_heap w (making w.heap (DictObject [] (room_for n)))) (making_free w.heap (DictObject [] (room_for n)))
  number_begun ops.UnpackSequence n (Value v ∷ st) calm = free_begun (on_heap w (unpack w.heap n v)) _ (unpack_free w.heap n v) (λ vs w1. refl)
  number_begun ops.MakeFunction n st calm = make_begun st Nil (child library place paid frame frames w n)
  number_begun ops.MakeFunctionDefargs n (Null ∷ Value d ∷ st) calm = make_with_begun st d (child library place paid frame frames w n)
  number_begun ops.CallFunction n st calm = absurd calm
  number_begun ops.CallMethod n st calm = absurd calm
  number_begun _ n st calm = tt

  end_begun : (cause : Slot) (st : List Slot) (entries : List states.Entry) → IsBegun (end_finally library place paid frame frames w cause st entries)
  end_begun cause st (e ∷ entries) = resume_begun cause st entries frame frames w
  end_begun cause st [] = tt

  pop_begun : (p : ℕ) (st : List Slot) (entries : List states.Entry) → IsBegun (pop_except library place paid frame frames w p st entries)
  pop_begun p st (e ∷ entries) = refl
  pop_begun p st [] = tt

  plain_begun : (op : Op) (st : List Slot) → IsBegun (plain_step library place paid frame frames w op st)
  plain_begun ops.LoadConstFalse st = refl
  plain_begun ops.LoadConstNone st = refl
  plain_begun ops.LoadConstTrue st = refl
  plain_begun ops.LoadNull st = refl
  plain_begun ops.LoadSubscr (Value i ∷ Value o ∷ st) = gives_free st (on_heap w (get_item w.heap o i)) (get_free w.heap o i)
  plain_begun ops.StoreSubscr (Value i ∷ Value o ∷ Value v ∷ st) = puts_free st (on_heap w (set_item w.heap o i v)) (set_free w.heap o i v)
  plain_begun ops.StoreSubscr (Value i ∷ Value o ∷ Null ∷ st) = puts_free st (on_heap w (delete_item w.heap o i)) (delete_free w.heap o i)
  plain_begun ops.DupTop (a ∷ st) = refl
  plain_begun ops.DupTopTwo (a ∷ c ∷ st) = refl
  plain_begun ops.PopTop (a ∷ st) = refl
  plain_begun ops.RotTwo (a ∷ c ∷ st) = refl
  plain_begun ops.RotThree (a ∷ c ∷ d ∷ st) = refl
  plain_begun ops.GetIterStack (Value v ∷ st) = free_begun (on_heap w (use_iter w.heap v)) _ (iter_free w.heap v) (λ over w1. refl)
  plain_begun ops.StoreMap (Value k ∷ Value v ∷ Value d ∷ st) = puts_free (Value d ∷ st) (store_pair w d k v) (store_pair_free w d k v)
  plain_begun ops.ReturnValue (Value v ∷ st) = leave_begun v frame.entries (record frame { slots = st }) frames w
  plain_begun ops.RaiseObj (Value v ∷ st) = fail_begun (raise_value place w v) frame frames
  plain_begun ops.RaiseLast st = fail_begun (raise_again place w (kept_of frame.entries)) frame frames
  plain_begun ops.EndFinally (cause ∷ st) = end_begun cause st frame.entries
  plain_begun _ st = tt

  next_begun : (t : Bool) (p : ℕ) (over : Val) (at : ℕ) (st : List Slot) → IsBegun (next_item library place paid frame frames w t p over at st)
  next_begun true p over at st = free_begun (on_heap w (item_of w.heap over at)) _ (item_free w.heap over at) (λ v w1. refl)
  next_begun false p over at st = refl

  jump_begun : (op : Op) (p : ℕ) (st : List Slot) → IsBegun (jump_step library place paid frame frames w op p st)
  jump_begun ops.Jump p st = refl
  jump_begun ops.PopJumpIfTrue p (Value v ∷ st) = either (truth w.heap v) _ _ refl refl
  jump_begun ops.PopJumpIfFalse p (Value v ∷ st) = either (truth w.heap v) _ _ refl refl
  jump_begun ops.JumpIfTrueOrPop p (Value v ∷ st) = either (truth w.heap v) _ _ refl refl
  jump_begun ops.JumpIfFalseOrPop p (Value v ∷ st) = either (truth w.heap v) _ _ refl refl
  jump_begun ops.SetupExcept p st = refl
  jump_begun ops.SetupFinally p st = refl
  jump_begun ops.PopExceptJump p st = pop_begun p st frame.entries
  jump_begun ops.ForIter p (Iter over at part ∷ a ∷ c ∷ d ∷ st) = next_begun (nat_lt at (length_of w.heap over)) p over at st
  jump_begun _ p st = tt

  one_begun : (st : List Slot) (o : Option (PlainHeap → Val → Outcome Val)) → IsFreeOperator o → IsBegun (one_step library place paid frame frames w st o)
  one_begun (Value v ∷ st) (Some op) free = gives_free st (on_heap w (op w.heap v)) (free w.heap v)
  one_begun st op free = tt

  two_begun : (st : List Slot) (o : Option TwoValued) → visits_two w st o ≤ paid → IsBegun (two_step library place paid frame frames w st o)
  two_begun (Value u ∷ Value v ∷ st) (Some op) enough = gives_begun st (on_heap w (op w.heap v u)) enough
  two_begun st op enough = tt

  -- the visits of an operator over two operands are paid, and it is no call
  abbrev pub IsPaidFor : Item → Type 0
  IsPaidFor (Plain (instrs.Binary n)) = visits_two w frame.slots (operator_at n) ≤ paid
  IsPaidFor (Plain (instrs.Num op n)) = NoCall op
  IsPaidFor item = Unit {0}

  instr_begun : (i : Instr) → IsPaidFor (Plain i) → IsBegun (instr_step library place paid frame frames w i frame.slots)
  instr_begun (instrs.Plain op) enough = plain_begun op frame.slots
  instr_begun (instrs.Num op n) enough = number_begun op n frame.slots enough
  instr_begun (instrs.Int z) enough = refl
  instr_begun (instrs.Unary n) enough = one_begun frame.slots (unary_at n) (unary_free n)
  instr_begun (instrs.Binary n) enough = two_begun frame.slots (operator_at n) enough
  instr_begun _ enough = tt

  pub item_begun : (item : Item) → IsPaidFor item → IsBegun (item_step library place paid frame frames w item)
  item_begun (Plain instr) enough = instr_begun instr enough
  item_begun (Names op name) enough = name_begun op name frame.slots
  item_begun (Loads v) enough = refl
  item_begun (Jumps op p) enough = jump_begun op p frame.slots
  item_begun (Unwinds p byte) enough = unwind_begun p (nat_le 128 byte) (byte % 128) frame.entries frame.slots frame frames w
