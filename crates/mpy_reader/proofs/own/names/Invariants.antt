use Rattle.std.proofs.Common.{ℕ, ◌-◌, List}
use Rattle.mpy_reader.specs.Reading.{name}
use Rattle.mpy_reader.proofs.Many.{Reaches}
use Rattle.mpy_reader.proofs.own.names.Given as goal

abbrev pub invariant-loop : goal.invariant-loop
invariant-loop l = (passed : List ℕ) × Reaches (name l.texts) l.count l.bytes passed (l.count - l.counter) l.rest
