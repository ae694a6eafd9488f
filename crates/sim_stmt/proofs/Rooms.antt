-- Each frame has a slot for each local of its code, and no step takes one away.
use Rattle.std.proofs.Common.{◌≡◌, ℕ, zero, suc, ◌-◌, ◌≤◌, List, [], ◌∷◌, ◌++◌, length, drop, replicate, Bool, true, false, Option, Some, None, cond, refl, sym, ap, subst, arith}
use Rattle.std.proofs.lemmas.List.{length-append, length-replicate, length-set}
use Rattle.std.specs.Prelude.{nat_lt, nat_le, slice_get, slice_set, ◌%◌}
use Rattle.bc_scheme.specs.mpy_base.Val.{Val, Nil, Built, At, PlainWorld}
use Rattle.bc_scheme.specs.bc_ops.declared.instr.Op.{Op}
use Rattle.bc_scheme.specs.bc_ops.declared.instr.Op.TheVariants as ops
use Rattle.bc_scheme.specs.bc_ops.declared.instr.Instr.{Instr}
use Rattle.bc_scheme.specs.bc_ops.declared.instr.Instr.TheVariants as instrs
use Rattle.bc_scheme.specs.py_values.Shown.{PlainHeap, shown, truth}
use Rattle.bc_scheme.specs.py_primitives.Faults.{TooDeep, NoModule, IncompatibleFile, RelativeImport, BadDefaults}
use Rattle.bc_scheme.specs.py_primitives.Outcome.{Outcome}
use Rattle.bc_scheme.specs.py_primitives.Iterables.{use_iter, item_of, length_of}
use Rattle.bc_scheme.specs.py_primitives.Uses.{unpack}
use Rattle.bc_scheme.specs.py_effects.Effect.{Effect, on_heap, Place, Given, Gives, Throws, Fills, Fails, Thrown, Filled, given, fault_at}
use Rattle.bc_scheme.specs.py_effects.Names.{Locals, load_local, load_method, raise_value, raise_again}
use Rattle.bc_scheme.specs.py_effects.Calling.{Keys, Function, Callee, Runs, Acts, callee_of, bind}
use Rattle.bc_scheme.specs.py_effects.Modules.{Made, has_items, make_module, store_module, prefixes}
use Rattle.bc_scheme.specs.bc_machine.Library.{Name, Item, Plain, Names, Loads, Jumps, Unwinds, Line, Code, Module, Entry, Holds, Refused, Library, entry_in, module_in, code_in, code_at}
use Rattle.bc_scheme.specs.bc_machine.State as states
use Rattle.bc_scheme.specs.bc_machine.State.{Slot, Value, Null, Object, Iter, KeptReturn, KeptJump, Role, Called, Imported, Frame, State, Running, Halted, Stuck, cut, abandoned, throw_in, throw_out, throw, fail, on_given, give, is_run, leave, unwind, resume}
use Rattle.bc_scheme.specs.bc_machine.Parts.{has_depth, is_zero, first_absent}
use Rattle.bc_scheme.specs.bc_machine.Operations.{TwoValued, operator_at, unary_at, Operands, operands, kept_of}
use Rattle.bc_scheme.specs.bc_machine.Step.{paying, does, gives, puts, entered, run_code, run_callee, call_function, call_looked, made_function, make, given_by, make_with, begun, begin, import_absent, import, name_step, child, number_step, end_finally, pop_except, plain_step, next_item, jump_step, one_step, two_step, instr_step, item_step, run_line, line_at, step}
use Rattle.sim_stmt.specs.Rooms.{HasRoom, AllRoom, StateRoom}
use Rattle.bc_scheme.specs.bc_machine.Machine as machines
use Rattle.bc_scheme.specs.bc_machine.Machine.{steps}

module _ (library : Library) where
  pub record Roomy (s : State) : Type 0 where
    pub all : StateRoom library s

  set_room : (name : Name) (number : ℕ) (locals : Locals) (slot : ℕ) (o : Option Val) → HasRoom library name number locals → HasRoom library name number (slice_set locals slot o)
  set_room name number locals slot o h code e = subst (λ m. code.locals ≤ m) (sym (length-set locals slot o)) (h code e)

  same_code : (code code1 : Code) (o : Option Code) → o ≡ Some code → o ≡ Some code1 → code1 ≡ code
  same_code code code1 o e f = cc

  begun_room : (name : Name) (number : ℕ) (code : Code) (slots : Locals) → code_at library name number ≡ Some code → HasRoom library name number (slots ++ replicate (code.locals - length slots) None)
  begun_room name number code slots e code1 f =
      let same : code1.locals ≡ code.locals = ap (λ (c : Code). c.locals) (same_code code code1 (code_at library name number) e f) in
      let nothing : Option Val = None in
      omega (arith, same, length-append slots (replicate (code.locals - length slots) None), length-replicate (code.locals - length slots) nothing)

  -- ---- moves

  either : (b : Bool) (x y : State) → Roomy x → Roomy y → Roomy (cond b x y)
  either true x y p q = p
  either false x y p q = q

  throw_in_room : (x : ℕ) (entries : List states.Entry) (f : Frame) (frames : List Frame) (w : PlainWorld) (out : State) → AllRoom library (f ∷ frames) → Roomy out → Roomy (throw_in x entries f frames w out)
  throw_in_room x [] f frames w out r o = o
  throw_in_room x (e ∷ entries) f frames w out r o = either e.active _ _ (throw_in_room x entries f frames w out r o) (record { all = r })

  throw_out_room : (x : ℕ) (frames : List Frame) (w : PlainWorld) → AllRoom library frames → Roomy (throw_out x frames w)
  throw_out_room x [] w r = record { all = tt }
  throw_out_room x (f ∷ frames) w r = throw_in_room x f.entries f frames w _ r (throw_out_room x frames (abandoned f.role w) r.1)

  throw_room : (x : ℕ) (f : Frame) (frames : List Frame) (w : PlainWorld) → AllRoom library (f ∷ frames) → Roomy (throw x f frames w)
  throw_room x f frames w r = throw_in_room x f.entries f frames w _ r (throw_out_room x frames (abandoned f.role w) r.1)

  fail_room : (x : Fails) (f : Frame) (frames : List Frame) → AllRoom library (f ∷ frames) → Roomy (fail x f frames)
  fail_room (Thrown x w) f frames r = throw_room x f frames w r
  fail_room (Filled e w) f frames r = record { all = tt }

  given_room : {A : Type 0} (x : Given A) (f : Frame) (frames : List Frame) (nx : A → PlainWorld → State) → AllRoom library (f ∷ frames) → ((a : A) (w : PlainWorld) → Roomy (nx a w)) → Roomy (on_given x f frames nx)
  given_room (Gives a w) f frames nx r h = h a w
  given_room (Throws x w) f frames nx r h = throw_room x f frames w r
  given_room (Fills e w) f frames nx r h = record { all = tt }

  give_room : (v : Val) (role : Role) (frames : List Frame) (w : PlainWorld) → AllRoom library frames → Roomy (give v role frames w)
  give_room v Called (f ∷ frames) w r = record { all = r }
  give_room v (Imported name m) (f ∷ frames) w r = given_room (given _ (store_module w name m)) f frames _ r (λ stored w1. record { all = r })
  give_room v _ _ w r = record { all = tt }

  leave_room : (v : Val) (entries : List states.Entry) (f : Frame) (frames : List Frame) (w : PlainWorld) → AllRoom library (f ∷ frames) → Roomy (leave v entries f frames w)
  leave_room v [] f frames w r = give_room v f.role frames w r.1
  leave_room v (e ∷ entries) f frames w r = either (is_run e) _ _ (record { all = r }) (leave_room v entries f frames w r)

  unwind_room : (target : ℕ) (it : Bool) (count : ℕ) (entries : List states.Entry) (slots : List Slot) (f : Frame) (frames : List Frame) (w : PlainWorld) → AllRoom library (f ∷ frames) → Roomy (unwind target it count entries slots f frames w)
  unwind_room target it zero entries slots f frames w r = record { all = r }
  unwind_room target it (suc count) [] slots f frames w r = record { all = tt }
  unwind_room target it (suc count) (e ∷ entries) slots f frames w r = either (is_run e) _ _ (record { all = r }) (unwind_room target it count entries (cut e.height slots) f frames w r)

  resume_room : (cause : Slot) (slots : List Slot) (entries : List states.Entry) (f : Frame) (frames : List Frame) (w : PlainWorld) → AllRoom library (f ∷ frames) → Roomy (resume cause slots entries f frames w)
  resume_room (Value Nil) slots entries f frames w r = record { all = r }
  resume_room (Value (At x)) slots entries f frames w r = throw_room x (record f { slots = slots; entries = entries }) frames w r
  resume_room (KeptReturn v) slots entries f frames w r = leave_room v entries (record f { slots = slots }) frames w r
  resume_room (KeptJump target count it) slots entries f frames w r = unwind_room target it count entries slots f frames w r
  resume_room _ slots entries f frames w r = record { all = tt }

  -- ---- a step, with its own words

  module _ (place : Place) (paid : ℕ) (f : Frame) (frames : List Frame) (w : PlainWorld) (r : AllRoom library (f ∷ frames)) where
    r_pays : {A : Type 0} (b : Bool) (effect : Effect A) (behind : A → PlainWorld → State) → ((a : A) (w1 : PlainWorld) → Roomy (behind a w1)) → Roomy (paying library place paid f frames w b effect behind)
    r_pays true effect behind h = record { all = r }
    r_pays false effect behind h = given_room (given place effect) f frames behind r h

    r_does : {A : Type 0} (effect : Effect A) (behind : A → PlainWorld → State) → ((a : A) (w1 : PlainWorld) → Roomy (behind a w1)) → Roomy (does library place paid f frames w effect behind)
    r_does effect behind h = r_pays (nat_lt paid effect.visits) effect behind h

    r_gives : (slots : List Slot) (effect : Effect Val) → Roomy (gives library place paid f frames w slots effect)
    r_gives slots effect = r_does effect _ (λ v w1. record { all = r })

    r_puts : (slots : List Slot) (effect : Effect Val) → Roomy (puts library place paid f frames w slots effect)
    r_puts slots effect = r_does effect _ (λ v w1. record { all = r })

    r_fails : (x : Fails) → Roomy (fail x f frames)
    r_fails x = fail_room x f frames r

    r_entered : (below : List Slot) (c : Function) (code : Code) → code_at library c.module_name c.code ≡ Some code → (slots : Locals) (b : Bool) (w1 : PlainWorld) → Roomy (entered library place paid f frames w below c code slots b w1)
    r_entered below c code e slots true w1 = record { all = (begun_room c.module_name c.code code slots e, r) }
    r_entered below c code e slots false w1 = r_fails (fault_at place w1 TooDeep)

    r_code : (below : List Slot) (c : Function) (o : Option Code) → code_at library c.module_name c.code ≡ o → (args : List Val) (keys : Keys) → Roomy (run_code library place paid f frames w below c o args keys)
    r_code below c None e args keys = record { all = r }
    r_code below c (Some code) e args keys = let effect = bind w code.params code.given c.defaults args keys in r_does effect _ (λ slots w1. r_entered below c code e slots (has_depth frames) w1)

    r_callee : (below : List Slot) (c : Callee) (args : List Val) (keys : Keys) → Roomy (run_callee library place paid f frames w below c args keys)
    r_callee below (Acts act) args keys = r_gives below (act args keys)
    r_callee below (Runs c) args keys = r_code below c (code_at library c.module_name c.code) refl args keys

    r_function : (o : Operands) (st : List Slot) → Roomy (call_function library place paid f frames w o st)
    r_function o (Value v ∷ below) = r_callee below (callee_of w v) o.args o.keys
    r_function o _ = record { all = tt }

    r_looked : (o : Operands) (st : List Slot) → Roomy (call_looked library place paid f frames w o st)
    r_looked o (Object (Some object) ∷ Value (Built method) ∷ below) = r_gives below _
    r_looked o (Object None ∷ Value v ∷ below) = r_callee below (callee_of w v) o.args o.keys
    r_looked o _ = record { all = tt }

    r_made : (number : ℕ) (slots : List Slot) (d : Val) (o : Option Code) → Roomy (made_function library place paid f frames w number slots d o)
    r_made number slots d (Some code) = r_gives slots _
    r_made number slots d None = record { all = tt }

    r_make : (slots : List Slot) (d : Val) (o : Option ℕ) → Roomy (make library place paid f frames w slots d o)
    r_make slots d (Some number) = r_made number slots d (code_at library f.module_name number)
    r_make slots d None = record { all = tt }

    r_make_with : (slots : List Slot) (d : Val) (o : Option ℕ) → Roomy (make_with library place paid f frames w slots d o)
    r_make_with slots d (Some number) =
        either (has_items (given_by library place paid f frames w (code_at library f.module_name number)) (shown w.heap d)) _ _ (r_made number slots d (code_at library f.module_name number)) (r_fails (fault_at place w BadDefaults))
    r_make_with slots d None = record { all = tt }

    r_begun : (name : Name) (o : Option Code) → code_at library name 0 ≡ o → (made : Made) (w1 : PlainWorld) → Roomy (begun library place paid f frames w name o made w1)
    r_begun name (Some code) e made w1 = record { all = (begun_room name 0 code [] e, r) }
    r_begun name None e made w1 = record { all = tt }

    r_begin : (name : Name) (o : Option Entry) → entry_in library name ≡ o → (deep : Bool) → Roomy (begin library place paid f frames w name o deep)
    r_begin name None e deep = r_fails (fault_at place w (NoModule name))
    r_begin name (Some Refused) e deep = r_fails (fault_at place w IncompatibleFile)
    r_begin name (Some (Holds m)) e true = r_does (make_module w name) _ (λ made w1. r_begun name (slice_get m.codes 0) (ap (λ o. code_in (module_in o) 0) e) made w1)
    r_begin name (Some (Holds m)) e false = r_fails (fault_at place w TooDeep)

    r_absent : (names : Val) (ps : List Name) (slots : List Slot) (o : Option Name) → Roomy (import_absent library place paid f frames w names ps slots o)
    r_absent names ps slots (Some name) = r_begin name (entry_in library name) refl (has_depth frames)
    r_absent names ps slots None = record { all = r }

    r_import : (name : Name) (st : List Slot) → Roomy (import library place paid f frames w name st)
    r_import name (Value names ∷ Value level ∷ slots) =
        either (is_zero (shown w.heap level)) _ _ (r_absent names (prefixes name) slots (first_absent w (prefixes name))) (r_fails (fault_at place w RelativeImport))
    r_import name _ = record { all = tt }

    r_name : (op : Op) (name : Name) (st : List Slot) → Roomy (name_step library place paid f frames w op name st)
    r_name ops.LoadConstString name st = record { all = r }
    r_name ops.LoadName name st = r_gives st _
    r_name ops.LoadGlobal name st = r_gives st _
    r_name ops.StoreName name (Value v ∷ st) = r_puts st _
    r_name ops.StoreGlobal name (Value v ∷ st) = r_puts st _
    r_name ops.DeleteName name st = r_puts st _
    r_name ops.DeleteGlobal name st = r_puts st _
    r_name ops.LoadAttr name (Value o ∷ st) = r_gives st _
    r_name ops.LoadMethod name (Value o ∷ st) = r_does (load_method w o name) _ (λ looked w1. record { all = r })
    r_name ops.StoreAttr name (Value o ∷ Value v ∷ st) = r_puts st _
    r_name ops.ImportName name st = r_import name st
    r_name ops.ImportFrom name (Value m ∷ st) = r_gives (Value m ∷ st) _
    r_name _ name st = record { all = tt }

    r_set : (slot : ℕ) (o : Option Val) → AllRoom library (record f { locals = slice_set f.locals slot o } ∷ frames)
    r_set slot o = (set_room f.module_name f.code f.locals slot o r.0, r.1)

    r_number : (op : Op) (n : ℕ) (st : List Slot) → Roomy (number_step library place paid f frames w op n st)
    r_number ops.LoadFast n st = r_gives st _
    r_number ops.LoadFastN n st = r_gives st _
    r_number ops.StoreFast n (Value v ∷ st) = record { all = r_set n (Some v) }
    r_number ops.StoreFastN n (Value v ∷ st) = record { all = r_set n (Some v) }
    r_number ops.DeleteFast n st = r_does (load_local w f.locals n) _ (λ v w1. record { all = r_set n None })
    r_number ops.BuildTuple n st = r_gives (drop n st) _
    r_number ops.BuildList n st = r_gives (drop n st) _
    r_number ops.BuildMap n st = r_gives st _
    r_number ops.UnpackSequence n (Value v ∷ st) = r_does (on_heap w (unpack w.heap n v)) _ (λ vs w1. record { all = r })
    r_number ops.MakeFunction n st = r_make st Nil (child library place paid f frames w n)
    r_number ops.MakeFunctionDefargs n (Null ∷ Value d ∷ st) = r_make_with st d (child library place paid f frames w n)
    r_number ops.CallFunction n st = r_function (operands n st) (operands n st).below
    r_number ops.CallMethod n st = r_looked (operands n st) (operands n st).below
    r_number _ n st = record { all = tt }

    r_end : (cause : Slot) (st : List Slot) (entries : List states.Entry) → Roomy (end_finally library place paid f frames w cause st entries)
    r_end cause st (e ∷ entries) = resume_room cause st entries f frames w r
    r_end cause st [] = record { all = tt }

    r_pop : (p : ℕ) (st : List Slot) (entries : List states.Entry) → Roomy (pop_except library place paid f frames w p st entries)
    r_pop p st (e ∷ entries) = record { all = r }
    r_pop p st [] = record { all = tt }

    r_plain : (op : Op) (st : List Slot) → Roomy (plain_step library place paid f frames w op st)
    r_plain ops.LoadConstFalse st = record { all = r }
    r_plain ops.LoadConstNone st = record { all = r }
    r_plain ops.LoadConstTrue st = record { all = r }
    r_plain ops.LoadNull st = record { all = r }
    r_plain ops.LoadSubscr (Value i ∷ Value o ∷ st) = r_gives st _
    r_plain ops.StoreSubscr (Value i ∷ Value o ∷ Value v ∷ st) = r_puts st _
    r_plain ops.StoreSubscr (Value i ∷ Value o ∷ Null ∷ st) = r_puts st _
    r_plain ops.DupTop (a ∷ st) = record { all = r }
    r_plain ops.DupTopTwo (a ∷ b ∷ st) = record { all = r }
    r_plain ops.PopTop (a ∷ st) = record { all = r }
    r_plain ops.RotTwo (a ∷ b ∷ st) = record { all = r }
    r_plain ops.RotThree (a ∷ b ∷ c ∷ st) = record { all = r }
    r_plain ops.GetIterStack (Value v ∷ st) = r_does (on_heap w (use_iter w.heap v)) _ (λ over w1. record { all = r })
    r_plain ops.StoreMap (Value k ∷ Value v ∷ Value d ∷ st) = r_puts (Value d ∷ st) _
    r_plain ops.ReturnValue (Value v ∷ st) = leave_room v f.entries (record f { slots = st }) frames w r
    r_plain ops.RaiseObj (Value v ∷ st) = r_fails (raise_value place w v)
    r_plain ops.RaiseLast st = r_fails (raise_again place w (kept_of f.entries))
    r_plain ops.EndFinally (cause ∷ st) = r_end cause st f.entries
    r_plain _ st = record { all = tt }

    r_next_item : (b : Bool) (p : ℕ) (over : Val) (at : ℕ) (st : List Slot) → Roomy (next_item library place paid f frames w b p over at st)
    r_next_item true p over at st = r_does (on_heap w (item_of w.heap over at)) _ (λ v w1. record { all = r })
    r_next_item false p over at st = record { all = r }

    r_jump : (op : Op) (p : ℕ) (st : List Slot) → Roomy (jump_step library place paid f frames w op p st)
    r_jump ops.Jump p st = record { all = r }
    r_jump ops.PopJumpIfTrue p (Value v ∷ st) = either (truth w.heap v) _ _ (record { all = r }) (record { all = r })
    r_jump ops.PopJumpIfFalse p (Value v ∷ st) = either (truth w.heap v) _ _ (record { all = r }) (record { all = r })
    r_jump ops.JumpIfTrueOrPop p (Value v ∷ st) = either (truth w.heap v) _ _ (record { all = r }) (record { all = r })
    r_jump ops.JumpIfFalseOrPop p (Value v ∷ st) = either (truth w.heap v) _ _ (record { all = r }) (record { all = r })
    r_jump ops.SetupExcept p st = record { all = r }
    r_jump ops.SetupFinally p st = record { all = r }
    r_jump ops.PopExceptJump p st = r_pop p st f.entries
    r_jump ops.ForIter p (Iter over at part ∷ a ∷ b ∷ c ∷ st) = r_next_item (nat_lt at (length_of w.heap over)) p over at st
    r_jump _ p st = record { all = tt }

    r_one : (st : List Slot) (o : Option (PlainHeap → Val → Outcome Val)) → Roomy (one_step library place paid f frames w st o)
    r_one (Value v ∷ st) (Some op) = r_gives st _
    r_one st op = record { all = tt }

    r_two : (st : List Slot) (o : Option TwoValued) → Roomy (two_step library place paid f frames w st o)
    r_two (Value b ∷ Value a ∷ st) (Some op) = r_gives st _
    r_two st op = record { all = tt }

    r_instr : (i : Instr) (st : List Slot) → Roomy (instr_step library place paid f frames w i st)
    r_instr (instrs.Plain op) st = r_plain op st
    r_instr (instrs.Num op n) st = r_number op n st
    r_instr (instrs.Int z) st = record { all = r }
    r_instr (instrs.Unary n) st = r_one st (unary_at n)
    r_instr (instrs.Binary n) st = r_two st (operator_at n)
    r_instr _ st = record { all = tt }

    pub r_item : (item : Item) → Roomy (item_step library place paid f frames w item)
    r_item (Plain instr) = r_instr instr f.slots
    r_item (Names op name) = r_name op name f.slots
    r_item (Loads v) = record { all = r }
    r_item (Jumps op p) = r_jump op p f.slots
    r_item (Unwinds p byte) = unwind_room p (nat_le 128 byte) (byte % 128) f.entries f.slots f frames w r

  r_line : (paid : ℕ) (f : Frame) (frames : List Frame) (w : PlainWorld) → AllRoom library (f ∷ frames) → (m : Option Module) (c : Option Code) (l : Option Line) → Roomy (run_line library paid f frames w m c l)
  r_line paid f frames w r (Some m) (Some code) (Some l) = r_item _ paid f frames w r l.item
  r_line paid f frames w r _ _ _ = record { all = tt }

  pub step_room : (s : State) → StateRoom library s → StateRoom library (step library s)
  step_room (Running paid f frames w) r = Roomy.all (r_line paid f frames w r (module_in (entry_in library f.module_name)) (code_at library f.module_name f.code) (line_at (code_at library f.module_name f.code) f.position))
  step_room (Halted end w) r = tt
  step_room (Stuck w) r = tt

  pub steps_room : (n : ℕ) (s : State) → StateRoom library s → StateRoom library (steps library n s)
  steps_room zero s r = r
  steps_room (suc n) s r = steps_room n (step library s) (step_room s r)

  begun_main : (name : Name) (o : Option Code) → code_at library name 0 ≡ o → (made : Made) (w : PlainWorld) → StateRoom library (machines.begun name o made w)
  begun_main name (Some code) e made w = (begun_room name 0 code [] e, tt)
  begun_main name None e made w = tt

  opened_room : (name : Name) (g : Given Made) → StateRoom library (machines.opened library name g)
  opened_room name (Gives made w) = begun_main name (code_at library name 0) refl made w
  opened_room name (Throws x w) = tt
  opened_room name (Fills e w) = tt

  -- the first frame has its slots
  pub start_room : (name : Name) (w : PlainWorld) → StateRoom library (machines.start library name w)
  start_room name w = opened_room name (given _ (make_module w _))
