-- Operators, as the primitives name them.
use Rattle.prim_faults.specs.py_primitives.Operators as plain
use Rattle.prim_operators.specs.declared.operators.Operator.{Operator}
use Rattle.prim_operators.specs.declared.operators.Operator.TheVariants as operators
use Rattle.prim_operators.specs.declared.operators.UnaryOperator.{UnaryOperator}
use Rattle.prim_operators.specs.declared.operators.UnaryOperator.TheVariants as unaries

-- an operator with one operand
abbrev pub plain_unary : UnaryOperator → plain.UnaryOperator
plain_unary unaries.Plus = plain.Plus
plain_unary unaries.Minus = plain.Minus
plain_unary unaries.Invert = plain.Invert

-- an operator with two operands
abbrev pub plain_operator : Operator → plain.Operator
plain_operator operators.Or = plain.Or
plain_operator operators.Xor = plain.Xor
plain_operator operators.And = plain.And
plain_operator operators.ShiftLeft = plain.ShiftLeft
plain_operator operators.ShiftRight = plain.ShiftRight
plain_operator operators.Add = plain.Add
plain_operator operators.Subtract = plain.Subtract
plain_operator operators.Multiply = plain.Multiply
plain_operator operators.FloorDivide = plain.FloorDivide
plain_operator operators.Modulo = plain.Modulo
plain_operator operators.Power = plain.Power
