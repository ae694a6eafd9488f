use Rattle.std.proofs.Common.{◌-◌}
use Rattle.mpy_reader.specs.Reading.{qstr}
use Rattle.mpy_reader.proofs.Many.{Reaches}
use Rattle.mpy_reader.proofs.qstr.qstrs.Given as goal

abbrev pub invariant-loop : goal.invariant-loop
invariant-loop l = Reaches qstr l.count l.bytes l.qstrs (l.count - l.counter) l.rest
