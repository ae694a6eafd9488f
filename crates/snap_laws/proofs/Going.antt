-- A step pays once more, or it begins an instruction; and the frames that wait do so as they should.
use Rattle.std.proofs.Common.{◌≡◌, ℕ, zero, suc, ◌<◌, List, [], ◌∷◌, drop, Bool, true, false, Option, Some, None, ◌⊎◌, inl, inr, cond, refl, sym, subst, arith}
use Rattle.std.specs.Prelude.{nat_lt, nat_le, slice_get, ◌%◌, codes}
use Rattle.std.specs.Option.{option_map}
use Rattle.std.proofs.lemmas.Bool.{cases_lt}
use Rattle.bc_machine.specs.mpy_base.Val.{Val, Nil, Built, PlainWorld}
use Rattle.bc_machine.specs.mpy_base.World.{DictObject}
use Rattle.bc_machine.specs.mpy_base.Weights.{room_for}
use Rattle.bc_machine.specs.bc_ops.declared.instr.Op.{Op}
use Rattle.bc_machine.specs.bc_ops.declared.instr.Op.TheVariants as ops
use Rattle.bc_machine.specs.bc_ops.declared.instr.Instr.{Instr}
use Rattle.bc_machine.specs.bc_ops.declared.instr.Instr.TheVariants as instrs
use Rattle.bc_machine.specs.py_values.Shown.{PlainHeap, shown, truth}
use Rattle.bc_machine.specs.py_primitives.Faults.{TooDeep, NoModule, IncompatibleFile, RelativeImport, BadDefaults}
use Rattle.bc_machine.specs.py_primitives.Outcome.{Outcome, making, making_tuple, making_list}
use Rattle.bc_machine.specs.py_primitives.Iterables.{use_iter, item_of, length_of}
use Rattle.bc_machine.specs.py_primitives.Uses.{get_item, set_item, delete_item, get_attr, set_attr, unpack}
use Rattle.bc_machine.specs.py_effects.Effect.{Effect, on_heap, Place, Given, Gives, Throws, Fills, Fails, given, fault_at}
use Rattle.bc_machine.specs.py_effects.Names.{Locals, load_global, store_global, delete_global, load_local, load_method, import_from, store_pair, raise_value, raise_again}
use Rattle.bc_machine.specs.py_effects.Calling.{Keys, Function, Callee, Runs, Acts, callee_of, call_method, bind}
use Rattle.bc_machine.specs.py_effects.Modules.{Made, make_function, has_items, make_module, prefixes}
use Rattle.bc_machine.specs.Library.{Name, Item, Plain, Names, Loads, Jumps, Unwinds, Line, Code, Module, Entry, Holds, Refused, Library, entry_in, module_in, code_at}
use Rattle.bc_machine.specs.State as states
use Rattle.bc_machine.specs.State.{Slot, Value, Null, Object, Iter, Role, Main, Called, Imported, Frame, State, Running, Halted, Stuck, fail}
use Rattle.bc_machine.specs.Parts.{has_depth, is_zero, first_absent}
use Rattle.bc_machine.specs.Operations.{TwoValued, operator_at, unary_at, values, Operands, operands, kept_of}
use Rattle.bc_machine.specs.Step.{paying, does, gives, puts, entered, run_code, run_callee, call_function, call_looked, made_function, make, given_by, make_with, begun, begin, import_absent, import, name_step, child, number_step, end_finally, pop_except, plain_step, next_item, jump_step, one_step, two_step, instr_step, item_step, run_line, line_at, step}
use Rattle.bc_machine.specs.Machine as machine
use Rattle.bc_machine.specs.Machine.{steps, opened, start}
use Rattle.snap_laws.specs.Kept.{item_at, IsCall, IsImport, WaitBelow, WaitsWell, IsPaid}
use Rattle.snap_laws.proofs.Beginning.{NonePaid, Begins, halts, stuck, fail_begins, given_begins, leave_begins, unwind_begins, resume_begins}

-- the cases of a step, with the words of the step itself
module _ (library : Library) (H : Type 0) (place : Place) (paid : ℕ) (frame : Frame) (frames : List Frame) (w : PlainWorld) (b : H → WaitBelow library frame.role frames) where
  -- once more is paid, or an instruction begins
  abbrev pub Goes : State → Type 0
  Goes s = (s ≡ Running (suc paid) frame frames w) ⊎ Begins library H s

  chosen : (t : Bool) (x y : State) → Goes x → Goes y → Goes (cond t x y)
  chosen true x y p q = p
  chosen false x y p q = q

  g_stuck : Goes (Stuck w)
  g_stuck = inr (stuck library H w)

  g_fails : (x : Fails) → Goes (fail x frame frames)
  g_fails x = inr (fail_begins library H x frame frames b)

  g_paying : {A : Type 0} (t : Bool) (effect : Effect A) (behind : A → PlainWorld → State) → ((a : A) (w1 : PlainWorld) → Begins library H (behind a w1)) → Goes (paying library place paid frame frames w t effect behind)
  g_paying true effect behind h = inl refl
  g_paying false effect behind h = inr (given_begins library H (given place effect) frame frames behind b h)

  g_does : {A : Type 0} (effect : Effect A) (behind : A → PlainWorld → State) → ((a : A) (w1 : PlainWorld) → Begins library H (behind a w1)) → Goes (does library place paid frame frames w effect behind)
  g_does effect behind h = g_paying (nat_lt paid effect.visits) effect behind h

  g_gives : (slots : List Slot) (effect : Effect Val) → Goes (gives library place paid frame frames w slots effect)
  g_gives slots effect = g_does effect _ (λ v w1. record { none = refl; waits = b })

  g_puts : (slots : List Slot) (effect : Effect Val) → Goes (puts library place paid frame frames w slots effect)
  g_puts slots effect = g_does effect _ (λ v w1. record { none = refl; waits = b })

  -- calls
  module _ (at : IsCall (item_at library frame)) where
    g_entered : (below : List Slot) (c : Function) (code : Code) (slots : Locals) (t : Bool) (w1 : PlainWorld) → Begins library H (entered library place paid frame frames w below c code slots t w1)
    g_entered below c code slots true w1 = record { none = refl; waits = λ h. (at, b h) }
    g_entered below c code slots false w1 = fail_begins library H (fault_at place w1 TooDeep) frame frames b

    g_code : (below : List Slot) (c : Function) (o : Option Code) (args : List Val) (keys : Keys) → Goes (run_code library place paid frame frames w below c o args keys)
    g_code below c None args keys = inr (record { none = refl; waits = b })
    g_code below c (Some code) args keys = g_does (bind w code.params code.given c.defaults args keys) _ (λ slots w1. g_entered below c code slots (has_depth frames) w1)

    g_callee : (below : List Slot) (c : Callee) (args : List Val) (keys : Keys) → Goes (run_callee library place paid frame frames w below c args keys)
    g_callee below (Acts act) args keys = g_gives below (act args keys)
    g_callee below (Runs c) args keys = g_code below c (code_at library c.module_name c.code) args keys

    g_function : (o : Operands) (st : List Slot) → Goes (call_function library place paid frame frames w o st)
    g_function o (Value v ∷ below) = g_callee below (callee_of w v) o.args o.keys
    g_function o _ = g_stuck

    g_looked : (o : Operands) (st : List Slot) → Goes (call_looked library place paid frame frames w o st)
    g_looked o (Object (Some object) ∷ Value (Built method) ∷ below) = g_gives below (call_method w method object o.args o.keys)
    g_looked o (Object None ∷ Value v ∷ below) = g_callee below (callee_of w v) o.args o.keys
    g_looked o _ = g_stuck

  -- functions that are made
  g_made : (number : ℕ) (slots : List Slot) (d : Val) (o : Option Code) → Goes (made_function library place paid frame frames w number slots d o)
  g_made number slots d (Some code) = g_gives slots (make_function w code.name frame.module_name number frame.names d)
  g_made number slots d None = g_stuck

  g_make : (slots : List Slot) (d : Val) (o : Option ℕ) → Goes (make library place paid frame frames w slots d o)
  g_make slots d (Some number) = g_made number slots d (code_at library frame.module_name number)
  g_make slots d None = g_stuck

  g_make_with : (slots : List Slot) (d : Val) (o : Option ℕ) → Goes (make_with library place paid frame frames w slots d o)
  g_make_with slots d (Some number) =
      chosen (has_items (given_by library place paid frame frames w (code_at library frame.module_name number)) (shown w.heap d)) _ _
      (g_made number slots d (code_at library frame.module_name number)) (g_fails (fault_at place w BadDefaults))
  g_make_with slots d None = g_stuck

  -- imports
  module _ (at : IsImport (item_at library frame)) where
    g_begun : (name : Name) (o : Option Code) (made : Made) (w1 : PlainWorld) → Begins library H (begun library place paid frame frames w name o made w1)
    g_begun name (Some code) made w1 = record { none = refl; waits = λ h. (at, b h) }
    g_begun name None made w1 = stuck library H w1

    g_begin : (name : Name) (o : Option Entry) (deep : Bool) → Goes (begin library place paid frame frames w name o deep)
    g_begin name None deep = g_fails (fault_at place w (NoModule name))
    g_begin name (Some Refused) deep = g_fails (fault_at place w IncompatibleFile)
    g_begin name (Some (Holds m)) true = g_does (make_module w name) _ (λ made w1. g_begun name (slice_get m.codes 0) made w1)
    g_begin name (Some (Holds m)) false = g_fails (fault_at place w TooDeep)

    g_absent : (names : Val) (ps : List Name) (slots : List Slot) (o : Option Name) → Goes (import_absent library place paid frame frames w names ps slots o)
    g_absent names ps slots (Some name) = g_begin name (entry_in library name) (has_depth frames)
    g_absent names ps slots None = inr (record { none = refl; waits = b })

    g_import : (name : Name) (st : List Slot) → Goes (import library place paid frame frames w name st)
    g_import name (Value names ∷ Value level ∷ slots) =
        chosen (is_zero (shown w.heap level)) _ _ (g_absent names (prefixes name) slots (first_absent w (prefixes name))) (g_fails (fault_at place w RelativeImport))
    g_import name _ = g_stuck

  -- instructions
  g_name : (op : Op) (name : Name) (st : List Slot) → item_at library frame ≡ Some (Names op name) → Goes (name_step library place paid frame frames w op name st)
  g_name ops.LoadConstString name st e = inr (record { none = refl; waits = b })
  g_name ops.LoadName name st e = g_gives st (load_global w frame.names name)
  g_name ops.LoadGlobal name st e = g_gives st (load_global w frame.names name)
  g_name ops.StoreName name (Value v ∷ st) e = g_puts st (store_global w frame.names name v)
  g_name ops.StoreGlobal name (Value v ∷ st) e = g_puts st (store_global w frame.names name v)
  g_name ops.DeleteName name st e = g_puts st (delete_global w frame.names name)
  g_name ops.DeleteGlobal name st e = g_puts st (delete_global w frame.names name)
  g_name ops.LoadAttr name (Value o ∷ st) e = g_gives st (on_heap w (get_attr w.heap o name))
  g_name ops.LoadMethod name (Value o ∷ st) e = g_does (load_method w o name) _ (λ looked w1. record { none = refl; waits = b })
  g_name ops.StoreAttr name (Value o ∷ Value v ∷ st) e = g_puts st (on_heap w (set_attr w.heap o name v))
  g_name ops.ImportName name st e = g_import (subst IsImport (sym e) IsImport.import) name st
  g_name ops.ImportFrom name (Value m ∷ st) e = g_gives (Value m ∷ st) (import_from w m name)
  g_name _ name st e = g_stuck

  g_number : (op : Op) (n : ℕ) (st : List Slot) → item_at library frame ≡ Some (Plain (instrs.Num op n)) → Goes (number_step library place paid frame frames w op n st)
  g_number ops.LoadFast n st e = g_gives st (load_local w frame.locals n)
  g_number ops.LoadFastN n st e = g_gives st (load_local w frame.locals n)
  g_number ops.StoreFast n (Value v ∷ st) e = inr (record { none = refl; waits = b })
  g_number ops.StoreFastN n (Value v ∷ st) e = inr (record { none = refl; waits = b })
  g_number ops.DeleteFast n st e = g_does (load_local w frame.locals n) _ (λ v w1. record { none = refl; waits = b })
  g_number ops.BuildTuple n st e = g_gives (drop n st) (on_heap w (making_tuple w.heap (values n st)))
  g_number ops.BuildList n st e = g_gives (drop n st) (on_heap w (making_list w.heap (values n st)))
  g_number ops.BuildMap n st e = g_gives st (on_heap w (making w.heap (DictObject [] (room_for n))))
  g_number ops.UnpackSequence n (Value v ∷ st) e = g_does (on_heap w (unpack w.heap n v)) _ (λ vs w1. record { none = refl; waits = b })
  g_number ops.MakeFunction n st e = g_make st Nil (child library place paid frame frames w n)
  g_number ops.MakeFunctionDefargs n (Null ∷ Value d ∷ st) e = g_make_with st d (child library place paid frame frames w n)
  g_number ops.CallFunction n st e = g_function (subst IsCall (sym e) IsCall.function) (operands n st) (operands n st).below
  g_number ops.CallMethod n st e = g_looked (subst IsCall (sym e) IsCall.method) (operands n st) (operands n st).below
  g_number _ n st e = g_stuck

  g_end : (cause : Slot) (st : List Slot) (entries : List states.Entry) → Goes (end_finally library place paid frame frames w cause st entries)
  g_end cause st (e ∷ entries) = inr (resume_begins library H cause st entries frame frames w b)
  g_end cause st [] = g_stuck

  g_pop : (p : ℕ) (st : List Slot) (entries : List states.Entry) → Goes (pop_except library place paid frame frames w p st entries)
  g_pop p st (e ∷ entries) = inr (record { none = refl; waits = b })
  g_pop p st [] = g_stuck

  g_plain : (op : Op) (st : List Slot) → Goes (plain_step library place paid frame frames w op st)
  g_plain ops.LoadConstFalse st = inr (record { none = refl; waits = b })
  g_plain ops.LoadConstNone st = inr (record { none = refl; waits = b })
  g_plain ops.LoadConstTrue st = inr (record { none = refl; waits = b })
  g_plain ops.LoadNull st = inr (record { none = refl; waits = b })
  g_plain ops.LoadSubscr (Value i ∷ Value o ∷ st) = g_gives st (on_heap w (get_item w.heap o i))
  g_plain ops.StoreSubscr (Value i ∷ Value o ∷ Value v ∷ st) = g_puts st (on_heap w (set_item w.heap o i v))
  g_plain ops.StoreSubscr (Value i ∷ Value o ∷ Null ∷ st) = g_puts st (on_heap w (delete_item w.heap o i))
  g_plain ops.DupTop (a ∷ st) = inr (record { none = refl; waits = b })
  g_plain ops.DupTopTwo (a ∷ c ∷ st) = inr (record { none = refl; waits = b })
  g_plain ops.PopTop (a ∷ st) = inr (record { none = refl; waits = b })
  g_plain ops.RotTwo (a ∷ c ∷ st) = inr (record { none = refl; waits = b })
  g_plain ops.RotThree (a ∷ c ∷ d ∷ st) = inr (record { none = refl; waits = b })
  g_plain ops.GetIterStack (Value v ∷ st) = g_does (on_heap w (use_iter w.heap v)) _ (λ over w1. record { none = refl; waits = b })
  g_plain ops.StoreMap (Value k ∷ Value v ∷ Value d ∷ st) = g_puts (Value d ∷ st) (store_pair w d k v)
  g_plain ops.ReturnValue (Value v ∷ st) = inr (leave_begins library H v frame.entries (record frame { slots = st }) frames w b)
  g_plain ops.RaiseObj (Value v ∷ st) = g_fails (raise_value place w v)
  g_plain ops.RaiseLast st = g_fails (raise_again place w (kept_of frame.entries))
  g_plain ops.EndFinally (cause ∷ st) = g_end cause st frame.entries
  g_plain _ st = g_stuck

  g_next_item : (t : Bool) (p : ℕ) (over : Val) (at : ℕ) (st : List Slot) → Goes (next_item library place paid frame frames w t p over at st)
  g_next_item true p over at st = g_does (on_heap w (item_of w.heap over at)) _ (λ v w1. record { none = refl; waits = b })
  g_next_item false p over at st = inr (record { none = refl; waits = b })

  -- a jump or not
  g_either : (t : Bool) (x y : State) → Begins library H x → Begins library H y → Goes (cond t x y)
  g_either true x y p q = inr p
  g_either false x y p q = inr q

  g_jump : (op : Op) (p : ℕ) (st : List Slot) → Goes (jump_step library place paid frame frames w op p st)
  g_jump ops.Jump p st = inr (record { none = refl; waits = b })
  g_jump ops.PopJumpIfTrue p (Value v ∷ st) = g_either (truth w.heap v) _ _ (record { none = refl; waits = b }) (record { none = refl; waits = b })
  g_jump ops.PopJumpIfFalse p (Value v ∷ st) = g_either (truth w.heap v) _ _ (record { none = refl; waits = b }) (record { none = refl; waits = b })
  g_jump ops.JumpIfTrueOrPop p (Value v ∷ st) = g_either (truth w.heap v) _ _ (record { none = refl; waits = b }) (record { none = refl; waits = b })
  g_jump ops.JumpIfFalseOrPop p (Value v ∷ st) = g_either (truth w.heap v) _ _ (record { none = refl; waits = b }) (record { none = refl; waits = b })
  g_jump ops.SetupExcept p st = inr (record { none = refl; waits = b })
  g_jump ops.SetupFinally p st = inr (record { none = refl; waits = b })
  g_jump ops.PopExceptJump p st = g_pop p st frame.entries
  g_jump ops.ForIter p (Iter over at part ∷ a ∷ c ∷ d ∷ st) = g_next_item (nat_lt at (length_of w.heap over)) p over at st
  g_jump _ p st = g_stuck

  g_one : (st : List Slot) (o : Option (PlainHeap → Val → Outcome Val)) → Goes (one_step library place paid frame frames w st o)
  g_one (Value v ∷ st) (Some op) = g_gives st (on_heap w (op w.heap v))
  g_one st op = g_stuck

  g_two : (st : List Slot) (o : Option TwoValued) → Goes (two_step library place paid frame frames w st o)
  g_two (Value u ∷ Value v ∷ st) (Some op) = g_gives st (on_heap w (op w.heap v u))
  g_two st op = g_stuck

  g_instr : (i : Instr) (st : List Slot) → item_at library frame ≡ Some (Plain i) → Goes (instr_step library place paid frame frames w i st)
  g_instr (instrs.Plain op) st e = g_plain op st
  g_instr (instrs.Num op n) st e = g_number op n st e
  g_instr (instrs.Int z) st e = inr (record { none = refl; waits = b })
  g_instr (instrs.Unary n) st e = g_one st (unary_at n)
  g_instr (instrs.Binary n) st e = g_two st (operator_at n)
  g_instr _ st e = g_stuck

  pub g_item : (item : Item) → item_at library frame ≡ Some item → Goes (item_step library place paid frame frames w item)
  g_item (Plain instr) e = g_instr instr frame.slots e
  g_item (Names op name) e = g_name op name frame.slots e
  g_item (Loads v) e = inr (record { none = refl; waits = b })
  g_item (Jumps op p) e = g_jump op p frame.slots
  g_item (Unwinds p byte) e = inr (unwind_begins library H p (nat_le 128 byte) (byte % 128) frame.entries frame.slots frame frames w b)

module _ (library : Library) (H : Type 0) where
  line_goes : (paid : ℕ) (frame : Frame) (frames : List Frame) (w : PlainWorld) (b : H → WaitBelow library frame.role frames) (m : Option Module) (c : Option Code) (l : Option Line)
      → option_map (λ (l : Line). l.item) l ≡ item_at library frame → (run_line library paid frame frames w m c l ≡ Running (suc paid) frame frames w) ⊎ Begins library H (run_line library paid frame frames w m c l)
  line_goes paid frame frames w b (Some m) (Some code) (Some l) e = g_item library H _ paid frame frames w b l.item (sym e)
  line_goes paid frame frames w b _ _ _ e = inr (stuck library H w)

  -- a step of a running frame pays once more, or it begins an instruction
  step_goes : (paid : ℕ) (frame : Frame) (frames : List Frame) (w : PlainWorld) → (H → WaitBelow library frame.role frames)
      → (step library (Running paid frame frames w) ≡ Running (suc paid) frame frames w) ⊎ Begins library H (step library (Running paid frame frames w))
  step_goes paid frame frames w b =
      line_goes paid frame frames w b (module_in (entry_in library frame.module_name)) (code_at library frame.module_name frame.code) (line_at (code_at library frame.module_name frame.code) frame.position) refl

-- along a run
module _ (library : Library) (P : State → Type 0) (kept : (s : State) → P s → P (step library s)) where
  steps_keep : (n : ℕ) (s : State) → P s → P (steps library n s)
  steps_keep zero s p = p
  steps_keep (suc n) s p = steps_keep n (step library s) (kept s p)

module _ (library : Library) where
  -- the frames that wait
  pub step_waits : (s : State) → WaitsWell library s → WaitsWell library (step library s)
  step_waits (Running paid frame frames w) b =
      elim (step_goes library (Unit {0}) paid frame frames w (λ h. b)) [
        | inl e ↦ subst (WaitsWell library) (sym e) b
        | inr begins ↦ begins.waits tt
      ]
  step_waits (Halted end w) b = tt
  step_waits (Stuck w) b = tt

  -- the steps that are paid
  paid_more : (paid : ℕ) (frame : Frame) (frames : List Frame) (w : PlainWorld) → IsPaid library (Running paid frame frames w) → step library (Running paid frame frames w) ≡ Running (suc paid) frame frames w
      → (k : ℕ) → k < suc paid → step library (Running k frame frames w) ≡ Running (suc k) frame frames w
  paid_more paid frame frames w before e k lt =
      elim (cases_lt k paid) [
        | inl less ↦ before k less
        | inr ge ↦ (let same : k ≡ paid = omega (arith, lt, ge) in subst (λ z. step library (Running z frame frames w) ≡ Running (suc z) frame frames w) (sym same) e)
      ]

  none_paid : (s : State) → NonePaid s → IsPaid library s
  none_paid (Running paid frame frames w) none = λ k lt. absurd (omega (arith, none, lt))
  none_paid (Halted end w) none = tt
  none_paid (Stuck w) none = tt

  pub step_paid : (s : State) → IsPaid library s → IsPaid library (step library s)
  step_paid (Running paid frame frames w) p =
      elim (step_goes library ⊥ paid frame frames w (λ h. absurd h)) [
        | inl e ↦ subst (IsPaid library) (sym e) (paid_more paid frame frames w p e)
        | inr begins ↦ none_paid _ begins.none
      ]
  step_paid (Halted end w) p = tt
  step_paid (Stuck w) p = tt

  -- the first state of a run
  begun_begins : (name : Name) (code : Option Code) (made : Made) (w : PlainWorld) → Begins library (Unit {0}) (machine.begun name code made w)
  begun_begins name (Some code) made w = record { none = refl; waits = λ h. tt }
  begun_begins name None made w = stuck library (Unit {0}) w

  opened_begins : (name : Name) (x : Given Made) → Begins library (Unit {0}) (opened library name x)
  opened_begins name (Gives made w) = begun_begins name (code_at library name 0) made w
  opened_begins name (Throws x w) = halts library (Unit {0}) _ w
  opened_begins name (Fills e w) = halts library (Unit {0}) _ w

  start_begins : (name : Name) (w : PlainWorld) → Begins library (Unit {0}) (start library name w)
  start_begins name w = opened_begins name (given _ (make_module w (codes "__main__")))

  pub start_waits : (name : Name) (w : PlainWorld) → WaitsWell library (start library name w)
  start_waits name w = (start_begins name w).waits tt

  pub start_paid : (name : Name) (w : PlainWorld) → IsPaid library (start library name w)
  start_paid name w = none_paid _ (start_begins name w).none

  pub run_waits : (name : Name) (w : PlainWorld) (n : ℕ) → WaitsWell library (steps library n (start library name w))
  run_waits name w n = steps_keep library (WaitsWell library) step_waits n _ (start_waits name w)

  pub run_paid : (name : Name) (w : PlainWorld) (n : ℕ) → IsPaid library (steps library n (start library name w))
  run_paid name w n = steps_keep library (IsPaid library) step_paid n _ (start_paid name w)
