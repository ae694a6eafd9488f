use Rattle.std.proofs.Common.{◌≡◌, ◌+◌, ◌≤◌, ◌^◌, length}
use Rattle.prim_str_methods.specs.Pieces.{pieces_from}
use Rattle.prim_str_methods.proofs.splits.count_pieces.Given as goal

abbrev pub invariant-loop-piece : goal.invariant-loop-piece
invariant-loop-piece g l =
    let texts = g.C.Constants.text_of l.consts in
    (l.count + length (pieces_from texts l.arena l.split l.object l.at) ≡ length (pieces_from texts l.arena l.split l.object 0)) × (l.count ≤ l.at) × (l.at ≤ 2 ^ 32)

abbrev pub decreases-loop-piece : goal.decreases-loop-piece
decreases-loop-piece g l = length (pieces_from (g.C.Constants.text_of l.consts) l.arena l.split l.object l.at)
