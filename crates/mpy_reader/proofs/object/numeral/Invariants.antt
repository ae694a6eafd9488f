use Rattle.std.proofs.Common.{◌≡◌, take}
use Rattle.std.specs.Prelude.{min}
use Rattle.std.specs.Str.Parse.{AllDigits, digits_value}
use Rattle.mpy_reader.specs.declared.object.TheConstants.{PAST}
use Rattle.mpy_reader.proofs.object.numeral.Given as goal

abbrev pub invariant-loop-digit : goal.invariant-loop-digit
invariant-loop-digit l = AllDigits 10 (take l.digit-index l.digits) × (l.n ≡ min (digits_value 10 (take l.digit-index l.digits)) PAST)
