use Rattle.std.proofs.Common.{◌≡◌, ◌≤◌, ◌^◌, min, take, true}
use Rattle.std.specs.Char.{is_ascii_digit}
use Rattle.std.specs.List.{list_all}
use Rattle.prim_types.proofs.NumeralSteps.{value}
use Rattle.prim_types.proofs.numerals.digits_number.Given as goal

abbrev pub invariant-loop-digit : goal.invariant-loop-digit
invariant-loop-digit l =
    (list_all is_ascii_digit (take l.digit-index l.digits) ≡ true) × (l.number ≡ min (value (take l.digit-index l.digits)) (2 ^ 31)) × (l.number ≤ 2 ^ 31)
