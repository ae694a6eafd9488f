use Rattle.std.proofs.Common.{drop}
use Rattle.std.specs.List.{flat_map}
use Rattle.mpy_dump.proofs.Putting.{Partway}
use Rattle.mpy_dump.proofs.put.put_all.Given as goal

abbrev pub invariant-loop-piece : goal.invariant-loop-piece
invariant-loop-piece g l =
    Partway g.S.Sink.told g.S.Sink.count l.fn.out l.out (flat_map (λ piece. piece.now) l.pieces) (flat_map (λ piece. piece.now) (drop l.piece-index l.pieces))
