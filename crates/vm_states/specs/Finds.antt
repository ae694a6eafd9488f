-- What an instruction finds on the frame that stands at it: the slots that it takes, the entries that it leaves, room for what
-- it gives, its operator and its child.
use Rattle.std.specs.Prelude.{◌≡◌, ℕ, suc, ◌+◌, ◌-◌, ◌%◌, ◌<◌, ◌≤◌, length, Some, slice_get}
use Rattle.bc_progress.specs.bc_ops.declared.instr.Op.{Op}
use Rattle.bc_progress.specs.bc_ops.declared.instr.Op.TheVariants as ops
use Rattle.bc_progress.specs.bc_ops.declared.instr.Instr.{Instr}
use Rattle.bc_progress.specs.bc_ops.declared.instr.Instr.TheVariants as instrs
use Rattle.bc_progress.specs.bc_flow.Action.{arguments}
use Rattle.bc_progress.specs.bc_machine.Library.{Item, Plain, Names, Loads, Jumps, Unwinds, Code, Library, code_at}
use Rattle.bc_progress.specs.bc_machine.State.{Frame}
use Rattle.bc_progress.specs.bc_machine.Operations.{TwoValued, operator_at, unary_at}
use Rattle.bc_progress.specs.py_values.Shown.{PlainHeap}
use Rattle.frame_exits.specs.mpy_base.Val.{Val}
use Rattle.bc_progress.specs.py_primitives.Outcome.{Outcome}
use Rattle.bc_progress.specs.Plans.{Plan}
use Rattle.vm_states.specs.OnTop.{OneValue, TwoValues, ThreeValues, Values, Anything, OneDropped, TwoOperands, ThreeOperands}
use Rattle.vm_states.specs.OnTop.{Stored, Defaults, IsLooked, Iterator, Ending, Except}

module _ (plan : Plan) (library : Library) (code : Code) (frame : Frame) where
  -- room for `given` slots in the place of the `taken` topmost
  abbrev pub HasRoom : (taken given : ℕ) → Type 0
  HasRoom taken given = code.locals + (length frame.slots - taken + given) ≤ plan.n_state

  -- room for an entry, and for a slot where its handler is behind the next instruction
  pub record HasEntryRoom (handler : ℕ) : Type 0 where
    pub entry : suc (length frame.entries) ≤ plan.n_exc
    pub slot : suc frame.position < handler → HasRoom 0 1

  -- the child with this number is a code of the frame's module
  pub record HasChild (n : ℕ) : Type 0 where
    pub number : ℕ
    pub number_is : slice_get code.children n ≡ Some number
    pub child : Code
    pub child_is : code_at library frame.module_name number ≡ Some child

  -- the number is that of an operator with one operand
  pub record HasUnary (n : ℕ) : Type 0 where
    pub operator : PlainHeap → Val → Outcome Val
    pub is : unary_at n ≡ Some operator

  -- the number is that of an operator with two operands
  pub record HasBinary (n : ℕ) : Type 0 where
    pub operator : TwoValued
    pub is : operator_at n ≡ Some operator

  -- what an operation without an operand finds; no other operation is one
  abbrev pub FindsPlain : Op → Type 0
  FindsPlain ops.LoadConstFalse = HasRoom 0 1
  FindsPlain ops.LoadConstNone = HasRoom 0 1
  FindsPlain ops.LoadConstTrue = HasRoom 0 1
  FindsPlain ops.LoadNull = HasRoom 0 1
  FindsPlain ops.LoadSubscr = TwoValues frame.slots
  FindsPlain ops.StoreSubscr = Stored frame.slots
  FindsPlain ops.DupTop = OneValue frame.slots × HasRoom 1 2
  FindsPlain ops.DupTopTwo = TwoValues frame.slots × HasRoom 2 4
  FindsPlain ops.PopTop = OneDropped frame.slots
  FindsPlain ops.RotTwo = TwoOperands frame.slots
  FindsPlain ops.RotThree = ThreeOperands frame.slots
  FindsPlain ops.EndFinally = Ending frame.slots frame.entries
  FindsPlain ops.GetIterStack = OneValue frame.slots × HasRoom 1 4
  FindsPlain ops.StoreMap = ThreeValues frame.slots
  FindsPlain ops.ReturnValue = OneValue frame.slots
  FindsPlain ops.RaiseLast = Unit {0}
  FindsPlain ops.RaiseObj = OneValue frame.slots
  FindsPlain _ = ⊥

  -- what an operation finds that names a text
  abbrev pub FindsNames : Op → Type 0
  FindsNames ops.LoadConstString = HasRoom 0 1
  FindsNames ops.LoadName = HasRoom 0 1
  FindsNames ops.LoadGlobal = HasRoom 0 1
  FindsNames ops.StoreName = OneValue frame.slots
  FindsNames ops.StoreGlobal = OneValue frame.slots
  FindsNames ops.DeleteName = Unit {0}
  FindsNames ops.DeleteGlobal = Unit {0}
  FindsNames ops.LoadAttr = OneValue frame.slots
  FindsNames ops.LoadMethod = OneValue frame.slots × HasRoom 1 2
  FindsNames ops.StoreAttr = TwoValues frame.slots
  FindsNames ops.ImportName = TwoValues frame.slots
  FindsNames ops.ImportFrom = OneValue frame.slots × HasRoom 1 2
  FindsNames _ = ⊥

  -- what an operation with a number finds
  abbrev pub FindsNumber : Op → ℕ → Type 0
  FindsNumber ops.LoadFast n = HasRoom 0 1
  FindsNumber ops.LoadFastN n = HasRoom 0 1
  FindsNumber ops.StoreFast n = OneValue frame.slots
  FindsNumber ops.StoreFastN n = OneValue frame.slots
  FindsNumber ops.DeleteFast n = Unit {0}
  FindsNumber ops.BuildTuple n = Values n Anything frame.slots × HasRoom n 1
  FindsNumber ops.BuildList n = Values n Anything frame.slots × HasRoom n 1
  FindsNumber ops.BuildMap n = HasRoom 0 1
  FindsNumber ops.UnpackSequence n = OneValue frame.slots × HasRoom 1 n
  FindsNumber ops.MakeFunction n = HasChild n × HasRoom 0 1
  FindsNumber ops.MakeFunctionDefargs n = HasChild n × Defaults frame.slots
  FindsNumber ops.CallFunction n = Values (arguments n) OneValue frame.slots
  FindsNumber ops.CallMethod n = Values (arguments n) IsLooked frame.slots
  FindsNumber _ n = ⊥

  -- jumps to a position
  abbrev pub FindsJump : Op → (position : ℕ) → Type 0
  FindsJump ops.Jump p = Unit {0}
  FindsJump ops.PopJumpIfTrue p = OneValue frame.slots
  FindsJump ops.PopJumpIfFalse p = OneValue frame.slots
  FindsJump ops.JumpIfTrueOrPop p = OneValue frame.slots
  FindsJump ops.JumpIfFalseOrPop p = OneValue frame.slots
  FindsJump ops.SetupExcept p = HasEntryRoom p
  FindsJump ops.SetupFinally p = HasEntryRoom p
  FindsJump ops.PopExceptJump p = Except frame.entries
  FindsJump ops.ForIter p = Iterator frame.slots × HasRoom 4 5
  FindsJump _ p = ⊥

  -- what an instruction finds that names no text, no object and no place
  abbrev pub FindsInstr : Instr → Type 0
  FindsInstr (instrs.Plain op) = FindsPlain op
  FindsInstr (instrs.Name op n) = ⊥
  FindsInstr (instrs.Num op n) = FindsNumber op n
  FindsInstr (instrs.Int z) = HasRoom 0 1
  FindsInstr (instrs.Jump op offset wide) = ⊥
  FindsInstr (instrs.Unwind offset wide byte) = ⊥
  FindsInstr (instrs.Unary n) = HasUnary n × OneValue frame.slots
  FindsInstr (instrs.Binary n) = HasBinary n × TwoValues frame.slots

  -- what any instruction finds
  abbrev pub Finds : Item → Type 0
  Finds (Plain instr) = FindsInstr instr
  Finds (Names op name) = FindsNames op
  Finds (Loads v) = HasRoom 0 1
  Finds (Jumps op p) = FindsJump op p
  Finds (Unwinds p byte) = byte % 128 ≤ length frame.entries

-- an instruction that goes on to the next one. A jump, a return and a raise don't
abbrev pub GoesOn : Item → Type 0
GoesOn (Plain (instrs.Plain ops.ReturnValue)) = ⊥
GoesOn (Plain (instrs.Plain ops.RaiseLast)) = ⊥
GoesOn (Plain (instrs.Plain ops.RaiseObj)) = ⊥
GoesOn (Plain instr) = Unit {0}
GoesOn (Names op name) = Unit {0}
GoesOn (Loads v) = Unit {0}
GoesOn (Jumps ops.Jump p) = ⊥
GoesOn (Jumps ops.PopExceptJump p) = ⊥
GoesOn (Jumps op p) = Unit {0}
GoesOn (Unwinds p byte) = ⊥
