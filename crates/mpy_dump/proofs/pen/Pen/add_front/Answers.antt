use Rattle.std.proofs.Common.{◌++◌, take, ap, ◌∙◌, arith, rules}
use Rattle.mpy_dump.specs.Pen.{PenState}
use Rattle.mpy_dump.proofs.Pens.{added}
use Rattle.mpy_dump.proofs.pen.Pen.add_front.Goals as goal

pub returns : goal.returns
returns c =
    let bytes = c.args.bytes.now in
    let len = c.args.len in
    added c.self.inside.len len _ c.self.inside.bytes bytes (omega arith) (search rules) (search rules) c.requires.few
    ∙ ap (λ (p : PenState). p.text ++ take len bytes) c.self.view_is
