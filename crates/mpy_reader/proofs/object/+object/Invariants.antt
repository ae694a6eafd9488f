use Rattle.std.proofs.Common.{◌+◌, ◌*◌, ◌-◌}
use Rattle.mpy_reader.specs.Reading.{object}
use Rattle.mpy_reader.proofs.Many.{Reaches}
use Rattle.mpy_reader.proofs.object.+object.Given as goal

-- an object has a tuple of one level less in it, a tuple its items, and these are objects
abbrev pub decreases-object : goal.decreases-object
decreases-object l = 3 * l.levels

abbrev pub decreases-tuple : goal.decreases-tuple
decreases-tuple l = 3 * l.levels + 2

abbrev pub decreases-items : goal.decreases-items
decreases-items l = 3 * l.levels + 1

abbrev pub invariant-items-loop : goal.invariant-items-loop
invariant-items-loop l = Reaches (object l.levels) l.count l.bytes l.items (l.count - l.counter) l.rest
