use Rattle.py_tokens.specs.Going.{known_level}
use Rattle.py_tokens.proofs.Going.{adds_token}
use Rattle.py_tokens.proofs.lines.Lines.push.Goals as goal

pub returns-clause-adds : goal.returns-clause-adds
returns-clause-adds c pieces stop =
    let here = c.args.self.now in
    adds_token here.tokens.items c.push.new.self.items here.levels.items here.brackets c.brackets_behind-brackets.result (known_level here.is_new here.level here.level_line) here.is_open c.args.tok c.args.text.now here.at here.line pieces stop c.requires.open c.in_ok-push.ensures.items c.brackets_behind-brackets.ensures
