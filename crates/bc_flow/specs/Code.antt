-- A code, and the rules on each of its instructions.
use Rattle.std.specs.Prelude.{ℕ, ◌+◌, ◌≤◌, List, [], ◌∷◌, length, map, max}
use Rattle.bc_ops.specs.declared.instr.Op.{Op}
use Rattle.bc_ops.specs.declared.instr.Op.TheVariants as ops
use Rattle.bc_ops.specs.declared.instr.Instr.TheVariants as instrs
use Rattle.bc_ops.specs.declared.listing.Target.{Target}
use Rattle.bc_ops.specs.declared.listing.Target.TheVariants.{Position, Offset}
use Rattle.bc_ops.specs.declared.listing.Item.{Item}
use Rattle.bc_ops.specs.declared.listing.Item.TheVariants as items
use Rattle.bc_flow.specs.declared.code.Code.{Code as RustCode}
use Rattle.bc_flow.specs.Action.{Action, action, arguments}

-- what the flow is about: what each instruction does, and the room
pub record Code : Type 0 where
  pub actions : List Action
  pub n_state : ℕ
  pub n_exc : ℕ
  pub locals : ℕ

-- one more than the local that an operation with this number names
abbrev pub op_locals : Op → ℕ → ℕ
op_locals ops.LoadFast n = n + 1
op_locals ops.StoreFast n = n + 1
op_locals ops.LoadFastN n = n + 1
op_locals ops.StoreFastN n = n + 1
op_locals ops.DeleteFast n = n + 1
op_locals _ n = 0

-- one more than the local that an item names, and 0 where it names none
unfoldable pub item_locals : Item → ℕ
item_locals (items.Plain (instrs.Num op n)) = op_locals op n
item_locals _ = 0

-- the greater of the argument count and one more than the greatest local that is named
abbrev pub locals : ℕ → List Item → ℕ
locals count [] = count
locals count (item ∷ items) = max (item_locals item) (locals count items)

-- what the flow asks of a code of items
abbrev pub code_of : RustCode → Code
code_of c = record {
  actions = map (action (length c.items.items)) c.items.items;
  n_state = c.n_state;
  n_exc = c.n_exc;
  locals = locals c.arguments c.items.items;
}

-- how many items an operand names
abbrev pub op_named : Op → ℕ → ℕ
op_named ops.BuildTuple n = n
op_named ops.BuildList n = n
op_named ops.BuildMap n = n
op_named ops.UnpackSequence n = n
op_named ops.CallFunction n = arguments n
op_named ops.CallMethod n = arguments n
op_named _ n = 0

-- how many items the operand of an item names, and 0 where it has no such operand
unfoldable pub named : Item → ℕ
named (items.Plain (instrs.Num op n)) = op_named op n
named _ = 0

-- a target that no instruction of a list of that length has
abbrev pub IsOutside : ℕ → Target → Type 0
IsOutside size (Position p) = size ≤ p
IsOutside size (Offset z) = Unit {0}

-- a jump, or a handler's entry, to no instruction
abbrev pub LeavesCode : ℕ → Item → Type 0
LeavesCode size (items.Plain instr) = ⊥
LeavesCode size (items.Jump op to) = IsOutside size to
LeavesCode size (items.Unwind to byte) = IsOutside size to
