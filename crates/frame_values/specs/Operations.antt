-- Operators by their numbers, as the machine has them.
use Rattle.std.specs.Prelude.{ℕ, Option, Some, None}
use Rattle.frame_moves.specs.mpy_base.Val.{Val}
use Rattle.prim_names.specs.prim_types.py_values.Shown.{PlainHeap}
use Rattle.prim_names.specs.prim_types.py_primitives.Operators.{op_eq, op_ne, op_order, op_contains, op_is, op_match, in_place, binary, unary, unary_not}
use Rattle.prim_names.specs.prim_types.py_primitives.Outcome.{Outcome}
use Rattle.prim_names.specs.prim_types.prim_operators.Operators.{plain_operator, plain_unary}
use Rattle.prim_comparisons.specs.Signs.{plain_sign}
use Rattle.frame_moves.specs.bc_machine.Operations.{TwoValued}
use Rattle.frame_values.specs.declared.operations.OneOperand.{OneOperand}
use Rattle.frame_values.specs.declared.operations.OneOperand.TheVariants as ones
use Rattle.frame_values.specs.declared.operations.TwoOperands.{TwoOperands}
use Rattle.frame_values.specs.declared.operations.TwoOperands.TheVariants as twos

-- the primitive of an operator with one operand
abbrev pub meaning_of_one : OneOperand → PlainHeap → Val → Outcome Val
meaning_of_one (ones.Arithmetic op) = λ heap. unary heap (plain_unary op)
meaning_of_one ones.Not = unary_not

-- the primitive of an operator with two operands
abbrev pub meaning_of_two : TwoOperands → TwoValued
meaning_of_two (twos.Order sign) = λ heap. op_order heap (plain_sign sign)
meaning_of_two twos.Equal = op_eq
meaning_of_two twos.NotEqual = op_ne
meaning_of_two twos.Contains = op_contains
meaning_of_two twos.Is = op_is
meaning_of_two twos.Match = op_match
meaning_of_two (twos.InPlace op) = λ heap. in_place heap (plain_operator op)
meaning_of_two (twos.Arithmetic op) = λ heap. binary heap (plain_operator op)

-- the visits of an operator over two values
abbrev pub visits_of : Option TwoValued → PlainHeap → (left right : Val) → ℕ
visits_of (Some op) heap left right = (op heap left right).visits
visits_of None heap left right = 0
