use Rattle.std.proofs.Common.{◌++◌, ap, ◌∙◌, arith, rules}
use Rattle.mpy_dump.specs.Pen.{PenState}
use Rattle.mpy_dump.specs.Short.{short_text}
use Rattle.mpy_dump.proofs.Pens.{added}
use Rattle.mpy_dump.proofs.pen.Pen.add.Goals as goal

pub returns : goal.returns
returns c =
    let piece = c.args.piece.now in
    added c.self.inside.len piece.len _ c.self.inside.bytes piece.bytes (omega arith) (search rules) (search rules) piece.within
    ∙ ap (λ (p : PenState). p.text ++ short_text piece) c.self.view_is
