-- Steps of the loops over a code's items.
use Rattle.std.proofs.Common.{◌≡◌, ℕ, ◌<◌, ◌≤◌, ◌+◌, List, [], ◌∷◌, length, get_or, drop, refl, ap, arith}
use Rattle.std.specs.Prelude.{max}
use Rattle.bc_ops.specs.declared.listing.Item.{Item}
use Rattle.bc_ops.specs.declared.listing.Item.TheVariants as items
use Rattle.bc_ops.specs.declared.instr.Instr.TheVariants as instrs
use Rattle.bc_ops.specs.declared.instr.Op.{Op}
use Rattle.bc_ops.specs.declared.instr.Op.TheVariants as ops
use Rattle.bc_shapes.proofs.Loops.{drop_uncons}
use Rattle.bc_flow.specs.Code.{op_locals, item_locals, locals, op_named, named, LeavesCode}

pub locals_step : (count : ℕ) (items : List Item) (i : ℕ) (item : Item) → i < length items → item ≡ get_or items i item → locals count (drop i items) ≡ max (item_locals item) (locals count (drop (i + 1) items))
locals_step count items i item lt e = ap (locals count) (drop_uncons items i item lt e)

pub locals_most : (count : ℕ) (items : List Item) → count ≤ locals count items
locals_most count [] = omega arith
locals_most count (item ∷ items) = let h = locals_most count items in omega (arith, h)

-- A jump names no local and no items, and an instruction that names a local names no items.

pub jump_alone : (size : ℕ) (item : Item) → LeavesCode size item → (item_locals item ≡ 0) × (named item ≡ 0)
unfolding item_locals named
jump_alone size (items.Plain instr) h = absurd h
jump_alone size (items.Jump op to) h = (refl, refl)
jump_alone size (items.Unwind to byte) h = (refl, refl)

op_alone : (op : Op) (n : ℕ) → 0 < op_locals op n → op_named op n ≡ 0
op_alone ops.BuildTuple n h = absurd (omega (arith, h))
op_alone ops.BuildList n h = absurd (omega (arith, h))
op_alone ops.BuildMap n h = absurd (omega (arith, h))
op_alone ops.UnpackSequence n h = absurd (omega (arith, h))
op_alone ops.CallFunction n h = absurd (omega (arith, h))
op_alone ops.CallMethod n h = absurd (omega (arith, h))
op_alone _ n h = refl

pub local_alone : (item : Item) → 0 < item_locals item → named item ≡ 0
unfolding item_locals named
local_alone (items.Plain (instrs.Num op n)) h = op_alone op n h
local_alone (items.Plain (instrs.Plain op)) h = refl
local_alone (items.Plain (instrs.Name op n)) h = refl
local_alone (items.Plain (instrs.Int z)) h = refl
local_alone (items.Plain (instrs.Jump op offset wide)) h = refl
local_alone (items.Plain (instrs.Unwind offset wide byte)) h = refl
local_alone (items.Plain (instrs.Unary op)) h = refl
local_alone (items.Plain (instrs.Binary op)) h = refl
local_alone (items.Jump op to) h = refl
local_alone (items.Unwind to byte) h = refl
