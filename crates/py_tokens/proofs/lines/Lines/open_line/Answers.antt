use Rattle.std.proofs.Common.{◌∷◌, true, ap, ◌∙◌, sym}
use Rattle.py_tokens.specs.declared.lexeme.Lexeme.TheVariants as lexemes
use Rattle.py_tokens.proofs.Going.{piece_of, refuses_level, opens_line, same_state, change_is, error}
use Rattle.py_tokens.proofs.lines.Lines.open_line.Goals as goal

pub returns-in_default-clause-opens : goal.returns-in_default-clause-opens
returns-in_default-clause-opens c tok text pieces stop =
    let here = c.args.self.now in
    let none = change_is here.levels.items c.deref.result.now here.level c.bytes.result.now c.change_of.result c.deref.ensures.value c.bytes.ensures c.change_of.ensures.change ∙ c.in_default.is in
    refuses_level here.tokens.items here.levels.items here.brackets here.is_new here.level here.level_line here.is_open tok text here.at here.line pieces stop c.requires.begun c.if-self.false none
    ∙ ap error (sym c.bad_indent.ensures)

pub returns-clause-opens : goal.returns-clause-opens
returns-clause-opens c tok text pieces stop =
    let here = c.args.self.now in
    let new = c.change_levels.new.self in
    let some = change_is here.levels.items c.deref.result.now here.level c.bytes.result.now c.change_of.result c.deref.ensures.value c.bytes.ensures c.change_of.ensures.change ∙ c.in-Some.is in
    let done = c.in_ok-change_levels.ensures in
    opens_line here.tokens.items new.tokens.items here.levels.items new.levels.items here.brackets here.is_new here.level here.level_line here.is_open tok text here.at here.line pieces stop c.in-Some.change c.requires.begun c.if-self.false some done.tokens done.levels
    ∙ same_state new.tokens.items new.levels.items here.brackets new.brackets here.is_new new.is_new here.level new.level here.level_line new.level_line true (piece_of (lexemes.Token tok) text here.at here.line ∷ pieces) stop done.stays.brackets done.stays.is_new done.stays.level done.stays.level_line
