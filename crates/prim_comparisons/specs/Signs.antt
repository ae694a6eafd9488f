-- The signs of order, as the primitives name them.
use Rattle.prim_faults.specs.py_primitives.Order as plain
use Rattle.prim_comparisons.specs.declared.signs.Sign.{Sign}
use Rattle.prim_comparisons.specs.declared.signs.Sign.TheVariants as signs

-- a sign of order
abbrev pub plain_sign : Sign → plain.Sign
plain_sign signs.Below = plain.Below
plain_sign signs.Above = plain.Above
plain_sign signs.NotAbove = plain.NotAbove
plain_sign signs.NotBelow = plain.NotBelow
