-- The table of the instructions: what each does with slots, handler entries and the flow. Slots are listed from the top.
use Rattle.std.specs.Prelude.{ℕ, ◌+◌, ◌*◌, ◌/◌, ◌%◌, Bool, true, false, List, [], ◌∷◌, nat_le}
use Rattle.bc_ops.specs.declared.instr.Op.{Op}
use Rattle.bc_ops.specs.declared.instr.Op.TheVariants as ops
use Rattle.bc_ops.specs.declared.instr.Instr.{Instr}
use Rattle.bc_ops.specs.declared.instr.Instr.TheVariants as instrs
use Rattle.bc_ops.specs.declared.listing.Target.{Target}
use Rattle.bc_ops.specs.declared.listing.Target.TheVariants.{Position, Offset}
use Rattle.bc_ops.specs.declared.listing.Item.{Item}
use Rattle.bc_ops.specs.declared.listing.Item.TheVariants as items
use Rattle.bc_shapes.specs.declared.kinds.Kind.TheVariants as kinds
use Rattle.bc_shapes.specs.declared.kinds.Want.{Want}
use Rattle.bc_shapes.specs.declared.kinds.Want.TheVariants as wants
use Rattle.bc_shapes.specs.declared.kinds.Give.{Give}
use Rattle.bc_shapes.specs.declared.kinds.Give.TheVariants.{New, Again}
use Rattle.bc_shapes.specs.Shape.{takes, gives}

-- what an instruction does
pub data Action : Type 0 where
  -- takes and gives slots, and goes on
  Straight : List Want → List Give → Action
  -- takes slots, and gives some and goes on, or gives others and jumps to the position
  Branch : List Want → List Give → List Give → ℕ → Action
  Jump : ℕ → Action
  -- pushes the entry of a handler, which is a finally handler or not
  Setup : ℕ → Bool → Action
  -- drops an except entry, and jumps
  PopExcept : ℕ → Action
  EndFinally : Action
  -- jumps to an offset, out of a number of entries, and takes an iterator or not
  Unwind : ℕ → ℕ → Bool → Action
  Return : Action
  -- takes that number of values, and raises
  Raise : ℕ → Action

-- takes `n` values on top of the slots `wants`, gives `m` new values on top of `given`, and goes on
abbrev pub straight : ℕ → List Want → ℕ → List Give → Action
straight n wants m given = Straight (takes n wants) (gives m given)

-- takes `n` values on top of the slots `wants`, gives `m` new values on top of `given`, and goes on; or gives `there`, and jumps to `to`
abbrev pub branch : ℕ → List Want → ℕ → List Give → List Give → ℕ → Action
branch n wants m given there to = Branch (takes n wants) (gives m given) (gives 0 there) to

-- an item that no code's list has: it does nothing but raise
abbrev pub none : Action
none = Raise 0

-- the four slots of an iterator
abbrev pub iterator : List Want
iterator = wants.Iter4 ∷ wants.Iter3 ∷ wants.Iter2 ∷ wants.Iter1 ∷ []

-- how many arguments a call's operand names: a keyword argument is a name and a value
abbrev pub arguments : ℕ → ℕ
arguments n = n % 256 + 2 * (n / 256)

-- the instructions that don't jump, with their number
unfoldable pub op_action : Op → ℕ → Action
op_action ops.LoadConstString n = straight 0 [] 1 []
op_action ops.LoadName n = straight 0 [] 1 []
op_action ops.LoadGlobal n = straight 0 [] 1 []
op_action ops.LoadAttr n = straight 1 [] 1 []
op_action ops.LoadMethod n = straight 1 [] 0 (New kinds.Method ∷ New kinds.Value ∷ [])
op_action ops.StoreName n = straight 1 [] 0 []
op_action ops.StoreGlobal n = straight 1 [] 0 []
op_action ops.StoreAttr n = straight 2 [] 0 []
op_action ops.DeleteName n = straight 0 [] 0 []
op_action ops.DeleteGlobal n = straight 0 [] 0 []
op_action ops.ImportName n = straight 2 [] 1 []
op_action ops.ImportFrom n = straight 1 [] 1 (Again 0 ∷ [])
op_action ops.LoadConstObj n = straight 0 [] 1 []
op_action ops.LoadFastN n = straight 0 [] 1 []
op_action ops.StoreFastN n = straight 1 [] 0 []
op_action ops.DeleteFast n = straight 0 [] 0 []
op_action ops.BuildTuple n = straight n [] 1 []
op_action ops.BuildList n = straight n [] 1 []
op_action ops.BuildMap n = straight 0 [] 1 []
op_action ops.UnpackSequence n = straight 1 [] n []
op_action ops.MakeFunction n = straight 0 [] 1 []
op_action ops.MakeFunctionDefargs n = straight 0 (wants.Null ∷ wants.Value ∷ []) 1 []
op_action ops.CallFunction n = straight (arguments n + 1) [] 1 []
op_action ops.CallMethod n = straight (arguments n) (wants.Method ∷ wants.Value ∷ []) 1 []
op_action ops.LoadConstFalse n = straight 0 [] 1 []
op_action ops.LoadConstNone n = straight 0 [] 0 (New kinds.Either ∷ [])
op_action ops.LoadConstTrue n = straight 0 [] 1 []
op_action ops.LoadNull n = straight 0 [] 0 (New kinds.Null ∷ [])
op_action ops.LoadSubscr n = straight 2 [] 1 []
op_action ops.StoreSubscr n = straight 2 (wants.ValueOrNull ∷ []) 0 []
op_action ops.DupTop n = straight 1 [] 0 (Again 0 ∷ Again 0 ∷ [])
op_action ops.DupTopTwo n = straight 2 [] 0 (Again 0 ∷ Again 1 ∷ Again 0 ∷ Again 1 ∷ [])
op_action ops.PopTop n = straight 0 (wants.Top ∷ []) 0 []
op_action ops.RotTwo n = straight 0 (wants.ValueOrNull ∷ wants.ValueOrNull ∷ []) 0 (Again 1 ∷ Again 0 ∷ [])
op_action ops.RotThree n = straight 0 (wants.ValueOrNull ∷ wants.ValueOrNull ∷ wants.ValueOrNull ∷ []) 0 (Again 1 ∷ Again 2 ∷ Again 0 ∷ [])
op_action ops.EndFinally n = EndFinally
op_action ops.GetIterStack n = straight 1 [] 0 (New kinds.Iter4 ∷ New kinds.Iter3 ∷ New kinds.Iter2 ∷ New kinds.Iter1 ∷ [])
op_action ops.StoreMap n = straight 3 [] 0 (Again 2 ∷ [])
op_action ops.ReturnValue n = Return
op_action ops.RaiseLast n = Raise 0
op_action ops.RaiseObj n = Raise 1
op_action ops.LoadFast n = straight 0 [] 1 []
op_action ops.StoreFast n = straight 1 [] 0 []
op_action ops.Jump n = none
op_action ops.PopJumpIfTrue n = none
op_action ops.PopJumpIfFalse n = none
op_action ops.JumpIfTrueOrPop n = none
op_action ops.JumpIfFalseOrPop n = none
op_action ops.SetupExcept n = none
op_action ops.SetupFinally n = none
op_action ops.PopExceptJump n = none
op_action ops.ForIter n = none

-- a value on top of an iterator that stays, or a jump without it
abbrev pub next_item : ℕ → Action
next_item to = branch 0 iterator 1 (Again 0 ∷ Again 1 ∷ Again 2 ∷ Again 3 ∷ []) [] to

-- what the instructions do that jump to the position `to`, or have their handler there
unfoldable pub jump_action : Op → ℕ → Action
jump_action ops.Jump to = Jump to
jump_action ops.PopJumpIfTrue to = branch 1 [] 0 [] [] to
jump_action ops.PopJumpIfFalse to = branch 1 [] 0 [] [] to
jump_action ops.JumpIfTrueOrPop to = branch 1 [] 0 [] (Again 0 ∷ []) to
jump_action ops.JumpIfFalseOrPop to = branch 1 [] 0 [] (Again 0 ∷ []) to
jump_action ops.SetupExcept to = Setup to false
jump_action ops.SetupFinally to = Setup to true
jump_action ops.PopExceptJump to = PopExcept to
jump_action ops.ForIter to = next_item to
jump_action _ to = none

-- what an instruction does that is no jump: in a code's list jumps are items of their own
unfoldable pub instr_action : Instr → Action
instr_action (instrs.Plain op) = op_action op 0
instr_action (instrs.Name op n) = op_action op n
instr_action (instrs.Num op n) = op_action op n
instr_action (instrs.Int z) = straight 0 [] 1 []
instr_action (instrs.Jump op offset wide) = none
instr_action (instrs.Unwind offset wide byte) = none
instr_action (instrs.Unary op) = straight 1 [] 1 []
instr_action (instrs.Binary op) = straight 2 [] 1 []

-- the position of a target in a list of that length. An offset that no instruction starts at is behind the list.
abbrev pub place : ℕ → Target → ℕ
place size (Position p) = p
place size (Offset z) = size

-- what an item does in a list of that length
unfoldable pub action : ℕ → Item → Action
action size (items.Plain instr) = instr_action instr
action size (items.Jump op to) = jump_action op (place size to)
action size (items.Unwind to byte) = Unwind (place size to) (byte % 128) (nat_le 128 byte)
