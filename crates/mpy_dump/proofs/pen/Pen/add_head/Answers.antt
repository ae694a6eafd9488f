use Rattle.std.proofs.Common.{◌≡◌, length, ap, ◌∙◌, arith, rules, length-take-le}
use Rattle.mpy_dump.specs.Pen.{PenState}
use Rattle.mpy_dump.specs.Short.{short_text}
use Rattle.mpy_dump.proofs.Heads.{set_behind}
use Rattle.mpy_dump.proofs.pen.Pen.add_head.Goals as goal

pub returns : goal.returns
returns c =
    let head = c.args.head.now in
    let held = c.args.self.now.text in
    let full = length-take-le c.self.inside.len c.self.inside.bytes (search rules) in
    let long : length held ≡ c.self.inside.len = omega (arith, full, ap (λ (p : PenState). length p.text) c.self.view_is) in
    set_behind c.self-2.inside.bytes held (short_text head.text) c.self-2.inside.len c.self.inside.len head.last head.digit
    (ap (λ (p : PenState). p.text) c.self-2.view_is ∙ c.add.ensures) long c.requires.last
