use Rattle.std.proofs.Common.{◌≡◌, ◌<◌, length, drop, get_or}
use Rattle.std.specs.List.{flat_map}
use Rattle.prim_faults.specs.Pieces.{piece_text}
use Rattle.prim_faults.proofs.piece.pieces_byte.Given as goal

abbrev pub invariant-loop-piece : goal.invariant-loop-piece
invariant-loop-piece l = record {
  within : l.left < length (flat_map (piece_text l.name) (drop l.piece-index l.pieces));
  same : get_or (flat_map (piece_text l.name) (drop l.piece-index l.pieces)) l.left 0 ≡ get_or (flat_map (piece_text l.name) l.pieces) l.at 0;
}
