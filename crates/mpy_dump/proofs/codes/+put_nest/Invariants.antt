use Rattle.mpy_dump.specs.Codes.{places}
use Rattle.mpy_dump.proofs.Trees.{Reached}
use Rattle.mpy_dump.proofs.codes.+put_nest.Given as goal

abbrev pub decreases-put_nest : goal.decreases-put_nest
decreases-put_nest g l = l.levels

abbrev pub invariant-loop-place : goal.invariant-loop-place
invariant-loop-place g l = Reached g.S.Sink.told g.S.Sink.count l.fn.out l.out l.module l.levels (places l.path) l.code l.place
