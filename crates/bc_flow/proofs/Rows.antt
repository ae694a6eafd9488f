-- No instruction of the table gives a cause again.
use Rattle.std.proofs.Common.{◌≡◌, ℕ, zero, suc, true, List, [], ◌∷◌, ◌++◌, length, map, replicate, Some, refl, subst}
use Rattle.std.specs.Prelude.{slice_get}
use Rattle.bc_ops.specs.declared.instr.Op.{Op}
use Rattle.bc_ops.specs.declared.instr.Op.TheVariants as ops
use Rattle.bc_ops.specs.declared.instr.Instr.{Instr}
use Rattle.bc_ops.specs.declared.instr.Instr.TheVariants as instrs
use Rattle.bc_ops.specs.declared.listing.Item.{Item}
use Rattle.bc_ops.specs.declared.listing.Item.TheVariants as items
use Rattle.bc_shapes.specs.declared.kinds.Kind.TheVariants as kinds
use Rattle.bc_shapes.specs.declared.kinds.Want.{Want}
use Rattle.bc_shapes.specs.declared.kinds.Give.TheVariants.{New}
use Rattle.bc_shapes.specs.Shape.{takes}
use Rattle.bc_flow.specs.declared.code.Code.{Code as RustCode}
use Rattle.bc_flow.specs.Action.{Action, op_action, jump_action, instr_action, action}
use Rattle.bc_flow.specs.Code.{code_of}
use Rattle.bc_flow.proofs.Going.{all_fine, gives_fine}

new_fine : (ws : List Want) (n : ℕ) → all_fine ws (replicate n (New kinds.Value) ++ []) ≡ true
new_fine ws zero = refl
new_fine ws (suc n) = new_fine ws n

op_fine : (op : Op) (n : ℕ) → gives_fine (op_action op n) ≡ true
unfolding op_action
op_fine ops.UnpackSequence n = new_fine (takes 1 []) n
op_fine _ n = refl

jump_fine : (op : Op) (to : ℕ) → gives_fine (jump_action op to) ≡ true
unfolding jump_action
jump_fine ops.Jump to = refl
jump_fine ops.PopJumpIfTrue to = refl
jump_fine ops.PopJumpIfFalse to = refl
jump_fine ops.JumpIfTrueOrPop to = refl
jump_fine ops.JumpIfFalseOrPop to = refl
jump_fine ops.SetupExcept to = refl
jump_fine ops.SetupFinally to = refl
jump_fine ops.PopExceptJump to = refl
jump_fine ops.ForIter to = refl
jump_fine _ to = refl

instr_fine : (instr : Instr) → gives_fine (instr_action instr) ≡ true
unfolding instr_action
instr_fine (instrs.Plain op) = op_fine op 0
instr_fine (instrs.Name op n) = op_fine op n
instr_fine (instrs.Num op n) = op_fine op n
instr_fine (instrs.Int z) = refl
instr_fine (instrs.Jump op offset wide) = refl
instr_fine (instrs.Unwind offset wide byte) = refl
instr_fine (instrs.Unary op) = refl
instr_fine (instrs.Binary op) = refl

item_fine : (size : ℕ) (item : Item) → gives_fine (action size item) ≡ true
unfolding action
item_fine size (items.Plain instr) = instr_fine instr
item_fine size (items.Jump op to) = jump_fine op _
item_fine size (items.Unwind to byte) = refl

list_fine : (size : ℕ) (xs : List Item) (p : ℕ) (a : Action) → slice_get (map (action size) xs) p ≡ Some a → gives_fine a ≡ true
list_fine size [] p a e = cc
list_fine size (item ∷ xs) zero a e = subst (λ z. gives_fine z ≡ true) (some_is (action size item) a e) (item_fine size item)
  where
    some_is : (x y : Action) → Some x ≡ Some y → x ≡ y
    some_is x y e = cc
list_fine size (item ∷ xs) (suc p) a e = list_fine size xs p a e

pub code_fine : (c : RustCode) (p : ℕ) (a : Action) → slice_get (code_of c).actions p ≡ Some a → gives_fine a ≡ true
code_fine c p a e = list_fine (length c.items.items) c.items.items p a e
