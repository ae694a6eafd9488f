use Rattle.std.proofs.Common.{take, ◌∷◌}
use Rattle.std.specs.List.{flat_map}
use Rattle.py_primitives.specs.Texts.{quote_of, escaped}
use Rattle.prim_walks.specs.Pens.{Wrote}
use Rattle.prim_walks.proofs.pieces.put_quoted.Given as goal

abbrev pub invariant-loop-byte : goal.invariant-loop-byte
invariant-loop-byte g l = Wrote g.P.Pen.Takes l.fn.pen (quote_of l.bytes ∷ flat_map (escaped (quote_of l.bytes)) (take l.byte-index l.bytes)) l.pen
