use Rattle.std.proofs.Common.{refl}
use Rattle.prim_walks.proofs.TextParts.{few_taken, skipped}
use Rattle.prim_walks.proofs.parts.CutterPen.put.Goals as goal

-- a piece that is skipped whole
pub returns-then-length-self : goal.returns-then-length-self
returns-then-length-self c =
    let s = c.args.self.now in
    record { taken = (refl, skipped 4096 s.skip _ c.args.piece.now c.if-length-self.true (few_taken s.part.count s.part.bytes 4096 s.within)) }
