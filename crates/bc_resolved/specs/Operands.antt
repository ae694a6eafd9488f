-- The rules on an instruction of the machine alone.
use Rattle.std.specs.Prelude.{ℕ, ◌≤◌, ◌<◌}
use Rattle.bc_progress.specs.mpy_base.declared.limits.TheConstants.{MAX_ITEMS}
use Rattle.bc_progress.specs.bc_ops.declared.instr.Op.TheVariants as ops
use Rattle.bc_progress.specs.bc_ops.declared.instr.Instr.TheVariants as instrs
use Rattle.bc_progress.specs.bc_ops.declared.listing.Item.TheVariants as items
use Rattle.bc_progress.specs.bc_flow.Code.{named}
use Rattle.bc_verify.specs.mpy_tree.Resolved as trees
use Rattle.bc_progress.specs.bc_machine.Library.{Item, Plain, Jumps, Unwinds, local_of}

-- the target is a position of a list of that length
abbrev pub IsInside : ℕ → Item → Type 0
IsInside size (Jumps op p) = p < size
IsInside size (Unwinds p byte) = p < size
IsInside size _ = Unit {0}

-- the instruction's text and object are there, and its child is one of the `children` children
abbrev pub IsThere : ℕ → Item → Type 0
IsThere children (Plain (instrs.Name op n)) = ⊥
IsThere children (Plain (instrs.Num ops.LoadConstObj n)) = ⊥
IsThere children (Plain (instrs.Num ops.MakeFunction n)) = n < children
IsThere children (Plain (instrs.Num ops.MakeFunctionDefargs n)) = n < children
IsThere children _ = Unit {0}

-- one more than the local that the instruction names
abbrev pub local_in : Item → ℕ
local_in (Plain instr) = local_of (trees.plain instr)
local_in _ = 0

-- how many items its operand names
abbrev pub named_in : Item → ℕ
named_in (Plain instr) = named (items.Plain instr)
named_in _ = 0

-- the instruction keeps the rules on its operand
pub record Keeps (size n_state children : ℕ) (item : Item) : Type 0 where
  pub target : IsInside size item
  pub local : local_in item ≤ n_state
  pub few : named_in item ≤ MAX_ITEMS
  pub there : IsThere children item

-- how many pairs a dict's operand names
abbrev pub pairs_in : Item → ℕ
pairs_in (Plain (instrs.Num ops.BuildMap n)) = n
pairs_in _ = 0
