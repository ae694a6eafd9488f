-- What is gone from `rest` was written.
use Rattle.mpy_io.proofs.Written.{Halfway}
use Rattle.mpy_io.proofs.out_sink.write_rest.Given as goal

abbrev pub invariant-loop : goal.invariant-loop
invariant-loop g l = Halfway (g.W.Write.contents l.initial.writer) (g.W.Write.contents l.writer) l.initial.rest l.rest
