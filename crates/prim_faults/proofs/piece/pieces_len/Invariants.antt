use Rattle.std.proofs.Common.{◌≡◌, ◌+◌, length, drop}
use Rattle.std.specs.List.{flat_map}
use Rattle.prim_faults.specs.Pieces.{piece_text}
use Rattle.prim_faults.proofs.piece.pieces_len.Given as goal

abbrev pub invariant-loop-piece : goal.invariant-loop-piece
invariant-loop-piece l =
    l.len + length (flat_map (piece_text l.name) (drop l.piece-index l.pieces)) ≡ length (flat_map (piece_text l.name) l.pieces)
