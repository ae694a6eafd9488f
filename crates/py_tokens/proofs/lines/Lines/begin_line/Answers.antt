use Rattle.py_tokens.proofs.Going.{begins_line}
use Rattle.py_tokens.proofs.lines.Lines.begin_line.Goals as goal

pub returns-clause-alike : goal.returns-clause-alike
returns-clause-alike c pieces stop =
    let here = c.args.self.now in
    begins_line here.tokens.items here.levels.items here.brackets here.is_new here.level here.level_line here.is_open _ c.args.lexeme.now c.args.text.now here.at here.line pieces stop c.requires (here.closed c.requires) c.in_ok-self.ensures
