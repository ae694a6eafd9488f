-- What was read stands at the front of the line.
use Rattle.std.proofs.Common.{◌≡◌, length, take}
use Rattle.std.specs.Io.KnownBytes.{Consumes}
use Rattle.mpy_io.proofs.input_port.next_answer.Given as goal

abbrev pub invariant-loop-len : goal.invariant-loop-len
invariant-loop-len g l =
    (length l.line ≡ 12) × Consumes (g.R.Read.remaining l.initial.reader) (g.R.Read.remaining l.reader) (take l.len l.line)
