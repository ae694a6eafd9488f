use Rattle.mpy_dump.proofs.Putting.{step_at, stop_at}
use Rattle.mpy_dump.proofs.put.put_all.Goals as goal

pub loop-piece-preserved : goal.loop-piece-preserved
loop-piece-preserved g c =
    step_at (λ piece. piece.now) c.args.pieces.now c.loop-piece.piece-index _ c.loop-piece-test.true c.loop-piece.invariant c.in_ok-put.ensures

pub returns-in_err-put : goal.returns-in_err-put
returns-in_err-put g c =
    stop_at (λ piece. piece.now) c.args.pieces.now c.loop-piece.piece-index _ c.from_residual.result c.from_residual.ensures.0 c.loop-piece-test.true c.loop-piece.invariant c.in_err-put.ensures
