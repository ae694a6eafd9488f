use Rattle.std.proofs.Common.{rules}
use Rattle.mpy_io.proofs.Written.{wrote_more, wrote_none}
use Rattle.mpy_io.proofs.out_sink.write_rest.Goals as goal
use Rattle.mpy_io.proofs.out_sink.write_rest.Goals.{in-Ok, in-Err}

pub loop-preserved : goal.loop-preserved
loop-preserved g c =
    elim c.match-write.branch [
      | in-Ok w ↦ wrote_more _ _ _ _ c.loop.rest.now c.match-write.rest.now _ c.loop.invariant w.in-Ok.ensures.bytes (search rules)
      | in-Err w ↦ wrote_none _ _ _ _ c.loop.rest.now c.match-write.rest.now c.loop.invariant w.in-Err.ensures.bytes (search rules)
    ]
