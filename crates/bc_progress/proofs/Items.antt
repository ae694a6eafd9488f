-- What the instructions of a code are to its flow.
use Rattle.std.proofs.Common.{◌≡◌, ℕ, zero, suc, true, List, [], ◌∷◌, ◌++◌, map, replicate, Some, refl, subst}
use Rattle.std.specs.Prelude.{slice_get}
use Rattle.bc_machine.specs.bc_ops.declared.instr.Op.{Op}
use Rattle.bc_machine.specs.bc_ops.declared.instr.Op.TheVariants as ops
use Rattle.bc_machine.specs.bc_ops.declared.instr.Instr.{Instr}
use Rattle.bc_machine.specs.bc_ops.declared.instr.Instr.TheVariants as instrs
use Rattle.bc_flow.specs.bc_shapes.declared.kinds.Kind.TheVariants as kinds
use Rattle.bc_flow.specs.bc_shapes.declared.kinds.Want.{Want}
use Rattle.bc_flow.specs.bc_shapes.declared.kinds.Give.TheVariants.{New}
use Rattle.bc_flow.specs.bc_shapes.Shape.{takes}
use Rattle.bc_flow.specs.Action.{Action, op_action, jump_action, instr_action}
use Rattle.bc_flow.proofs.Going.{all_fine, gives_fine}
use Rattle.bc_flow.proofs.Never.{GivesNoCause}
use Rattle.bc_machine.specs.Library.{Item, Plain, Names, Loads, Jumps, Unwinds, Line, Code}
use Rattle.bc_progress.specs.Plans.{Plan, action_of, flow_of}

new_fine : (ws : List Want) (n : ℕ) → all_fine ws (replicate n (New kinds.Value) ++ []) ≡ true
new_fine ws zero = refl
new_fine ws (suc n) = new_fine ws n

op_fine : (op : Op) (n : ℕ) → gives_fine (op_action op n) ≡ true
unfolding op_action
op_fine ops.UnpackSequence n = new_fine (takes 1 []) n
op_fine _ n = refl

jump_fine : (op : Op) (to : ℕ) → gives_fine (jump_action op to) ≡ true
unfolding jump_action
jump_fine ops.Jump to = refl
jump_fine ops.PopJumpIfTrue to = refl
jump_fine ops.PopJumpIfFalse to = refl
jump_fine ops.JumpIfTrueOrPop to = refl
jump_fine ops.JumpIfFalseOrPop to = refl
jump_fine ops.SetupExcept to = refl
jump_fine ops.SetupFinally to = refl
jump_fine ops.PopExceptJump to = refl
jump_fine ops.ForIter to = refl
jump_fine _ to = refl

instr_fine : (instr : Instr) → gives_fine (instr_action instr) ≡ true
unfolding instr_action
instr_fine (instrs.Plain op) = op_fine op 0
instr_fine (instrs.Name op n) = op_fine op n
instr_fine (instrs.Num op n) = op_fine op n
instr_fine (instrs.Int z) = refl
instr_fine (instrs.Jump op offset wide) = refl
instr_fine (instrs.Unwind offset wide byte) = refl
instr_fine (instrs.Unary op) = refl
instr_fine (instrs.Binary op) = refl

item_fine : (item : Item) → gives_fine (action_of item) ≡ true
item_fine (Plain instr) = instr_fine instr
item_fine (Names op name) = op_fine op 0
item_fine (Loads v) = op_fine ops.LoadConstObj 0
item_fine (Jumps op p) = jump_fine op p
item_fine (Unwinds p byte) = refl

-- the line of an action
pub line_of : (lines : List Line) (p : ℕ) (a : Action) → slice_get (map (λ (l : Line). action_of l.item) lines) p ≡ Some a → (l : Line) × (slice_get lines p ≡ Some l) × (action_of l.item ≡ a)
line_of [] p a e = cc
line_of (l ∷ lines) zero a e = (l, refl, some_is (action_of l.item) a e)
  where
    some_is : (x y : Action) → Some x ≡ Some y → x ≡ y
    some_is x y e = cc
line_of (l ∷ lines) (suc p) a e = line_of lines p a e

-- no instruction gives a cause again
pub fine : (plan : Plan) (code : Code) → GivesNoCause (flow_of plan code)
fine plan code p a e = let l = line_of code.lines p a e in subst (λ z. gives_fine z ≡ true) l.2 (item_fine l.0.item)
