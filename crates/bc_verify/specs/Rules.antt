-- The rules on each instruction of a code.
use Rattle.std.specs.Prelude.{◌≡◌, ℕ, ◌<◌, ◌≤◌, length, Some, slice_get}
use Rattle.mpy_base.specs.declared.limits.TheConstants.{MAX_ITEMS}
use Rattle.mpy_tree.specs.bc_ops.declared.instr.Op.TheVariants as ops
use Rattle.mpy_tree.specs.bc_ops.declared.instr.Instr.TheVariants as instrs
use Rattle.mpy_tree.specs.bc_ops.declared.listing.Item.{Item}
use Rattle.mpy_tree.specs.bc_ops.declared.listing.Item.TheVariants.{Plain}
use Rattle.bc_refusals.specs.bc_flow.Code.{LeavesCode, item_locals, named}
use Rattle.mpy_tree.specs.Raw.{Module}
use Rattle.bc_verify.specs.declared.fault.Rule.{Rule}
use Rattle.bc_verify.specs.declared.fault.Rule.TheVariants as rules
use Rattle.bc_verify.specs.Body.{Body}

-- the instruction names a text, an object or a child that isn't there, where the code has `children` children
abbrev pub IsMissing : Module → ℕ → Item → Type 0
IsMissing m children (Plain (instrs.Name op n)) = length m.qstrs ≤ n
IsMissing m children (Plain (instrs.Num ops.LoadConstObj n)) = length m.objects ≤ n
IsMissing m children (Plain (instrs.Num ops.MakeFunction n)) = children ≤ n
IsMissing m children (Plain (instrs.Num ops.MakeFunctionDefargs n)) = children ≤ n
IsMissing m children item = ⊥

-- the instruction breaks the rule by itself. None breaks two of these, so they have no order.
abbrev pub Breaks : Module → ℕ → Body → Rule → Item → Type 0
Breaks m children body rules.Jump item = LeavesCode (length body.items) item
Breaks m children body rules.Local item = body.n_state < item_locals item
Breaks m children body rules.Names item = IsMissing m children item
Breaks m children body rules.State item = MAX_ITEMS < named item
Breaks m children body rule item = ⊥

-- no instruction breaks a rule by itself
abbrev pub KeepsAll : Module → ℕ → Body → Type 0
KeepsAll m children body =
    (p : ℕ) (item : Item) (rule : Rule) → slice_get body.items p ≡ Some item → Breaks m children body rule item → ⊥

-- the instruction at the position is the first that does, and breaks this rule
pub record IsFirstBroken (m : Module) (children : ℕ) (body : Body) (rule : Rule) (position : ℕ) : Type 0 where
  pub item : Item
  pub is : slice_get body.items position ≡ Some item
  pub breaks : Breaks m children body rule item
  pub before : (p : ℕ) (other : Item) (another : Rule) → p < position → slice_get body.items p ≡ Some other
      → Breaks m children body another other → ⊥
