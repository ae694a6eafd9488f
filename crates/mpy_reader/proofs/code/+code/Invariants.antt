use Rattle.std.proofs.Common.{◌+◌, ◌*◌, ◌-◌}
use Rattle.mpy_reader.specs.Reading.{code}
use Rattle.mpy_reader.proofs.Many.{Reaches}
use Rattle.mpy_reader.proofs.code.+code.Given as goal

-- a code has children of one level less, and these are codes
abbrev pub decreases-code : goal.decreases-code
decreases-code l = 3 * l.levels

abbrev pub decreases-children : goal.decreases-children
decreases-children l = 3 * l.levels + 2

abbrev pub decreases-codes : goal.decreases-codes
decreases-codes l = 3 * l.levels + 1

abbrev pub invariant-codes-loop : goal.invariant-codes-loop
invariant-codes-loop l = Reaches (code l.levels l.texts) l.count l.bytes l.codes (l.count - l.counter) l.rest
