use Rattle.std.proofs.Common.{◌≡◌, ap, ◌∙◌, arith}
use Rattle.py_tokens.specs.Going.{known_level}
use Rattle.py_tokens.proofs.Going.{inside, ends_open, ends_closed}
use Rattle.py_tokens.proofs.lines.Lines.end_line.Goals.{then-self+in_ok-push, else-self}
use Rattle.py_tokens.proofs.lines.Lines.end_line.Goals as goal

pub returns-then-self-gt0-clause-adds : goal.returns-then-self-gt0-clause-adds
returns-then-self-gt0-clause-adds c pieces stop =
    let here = c.args.self.now in
    inside here.tokens.items here.levels.items here.brackets here.is_new here.level here.level_line here.is_open c.args.text.now here.at here.line pieces stop c.requires.begun c.if-self-gt0.true

pub returns-clause-adds : goal.returns-clause-adds
returns-clause-adds c pieces stop =
    let here = c.args.self.now in
    let its = known_level here.is_new here.level here.level_line in
    let outside : here.brackets ≡ 0 = omega (arith, c.if-self-gt0.false) in
    elim c.if-self.branch [
      | then-self+in_ok-push w ↦ ends_open here.tokens.items _ here.levels.items here.brackets its here.is_open c.args.text.now here.at here.line pieces stop w.if-self.true outside (ap (λ z. z.1.1.0.items) w.self-is ∙ w.in_ok-push.ensures.items)
      | else-self w ↦ ends_closed here.tokens.items _ here.levels.items here.brackets its here.is_open c.args.text.now here.at here.line pieces stop w.if-self.false outside (ap (λ z. z.1.1.0.items) w.self-is)
    ]
