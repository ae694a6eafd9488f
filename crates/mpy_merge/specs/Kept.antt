-- What a code of a verified module keeps, item by item.
use Rattle.std.specs.Prelude.{◌≡◌, ℕ, ◌<◌, ◌≤◌, List, length, All}
use Rattle.bc_scheme.specs.bc_ops.declared.instr.Op.TheVariants.{LoadConstObj}
use Rattle.bc_scheme.specs.bc_ops.declared.instr.Instr.{Instr}
use Rattle.bc_scheme.specs.bc_ops.declared.instr.Instr.TheVariants as instrs
use Rattle.bc_scheme.specs.bc_ops.declared.listing.Target.{Target}
use Rattle.bc_scheme.specs.bc_ops.declared.listing.Target.TheVariants.{Position}
use Rattle.bc_scheme.specs.bc_ops.declared.listing.Item.{Item}
use Rattle.bc_scheme.specs.bc_ops.declared.listing.Item.TheVariants as items
use Rattle.bc_scheme.specs.bc_ops.Listing.{IsListOf}
use Rattle.bc_verify.specs.bc_prelude.declared.prelude.Prelude.{Prelude}
use Rattle.bc_verify.specs.bc_prelude.Prelude.{Begins}
use Rattle.mpy_base.specs.declared.limits.TheConstants.{MAX_CODE_BYTES}
use Rattle.mpy_writer.specs.mpy_tree.Raw.{Module}

-- the text and the object that the instruction names are there
abbrev pub NamesThere : Module → Instr → Type 0
NamesThere m (instrs.Name op n) = n < length m.qstrs
NamesThere m (instrs.Num LoadConstObj n) = n < length m.objects
NamesThere m instr = Unit {0}

-- the jump goes to one of `count` instructions
pub record GoesTo (count : ℕ) (target : Target) : Type 0 where
  pub position : ℕ
  pub target_is : target ≡ Position position
  pub within : position < count

-- an item names what the module has, and jumps to one of `count` instructions
abbrev pub IsKept : Module → ℕ → Item → Type 0
IsKept m count (items.Plain instr) = NamesThere m instr
IsKept m count (items.Jump op target) = GoesTo count target
IsKept m count (items.Unwind target byte) = GoesTo count target

-- a code of a verified module: each item is kept, and so are the names of the code and its arguments
pub record IsKeptCode (m : Module) (bytes : List ℕ) : Type 0 where
  pub prelude : Prelude
  pub begins : Begins bytes prelude
  pub defaults : prelude.defaults ≤ prelude.args
  pub names : All (λ index. index < length m.qstrs) begins.indexes
  pub items : List Item
  pub is_list : IsListOf begins.instructions items
  pub kept : All (IsKept m (length items)) items
  pub short : length bytes ≤ MAX_CODE_BYTES
