use Rattle.std.proofs.Common.{length}
use Rattle.prim_str_methods.specs.Pieces.{pieces_from}
use Rattle.prim_str_methods.proofs.PieceTexts.{PutSoFar}
use Rattle.prim_str_methods.proofs.splits.put_pieces.Given as goal

abbrev pub invariant-loop-piece : goal.invariant-loop-piece
invariant-loop-piece g l =
    let texts = g.C.Constants.text_of l.consts in
    PutSoFar l.initial.arena l.fn.l.cell l.fn.first (pieces_from texts l.initial.arena l.split l.object 0) (pieces_from texts l.initial.arena l.split l.object l.at) l.cell l.arena

abbrev pub decreases-loop-piece : goal.decreases-loop-piece
decreases-loop-piece g l = length (pieces_from (g.C.Constants.text_of l.consts) l.initial.arena l.split l.object l.at)
