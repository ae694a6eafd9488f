use Rattle.std.proofs.Common.{refl}
use Rattle.py_tokens.proofs.Going.{passes, passes_here}
use Rattle.py_tokens.proofs.lines.Lines.take.Goals as goal

pub returns-in-Blank : goal.returns-in-Blank
returns-in-Blank c =
    let here = c.args.self.now in
    record {
      stays = record { at = refl; line = refl };
      adds = λ pieces stop. passes c.args.lexeme here.tokens.items here.levels.items here.brackets here.is_new here.level here.level_line here.is_open c.args.text.now here.at here.line pieces stop c.requires.begun (passes_here c.args.lexeme c.in-Blank.is);
    }
