use Rattle.std.proofs.Common.{ap, ◌∙◌, sym}
use Rattle.py_tokens.specs.Going.{known_level}
use Rattle.py_tokens.proofs.Going.{faults_open, faults_level, faults_refused, change_is, error}
use Rattle.py_tokens.proofs.lines.Lines.fault.Goals as goal

pub returns-then-self : goal.returns-then-self
returns-then-self c =
    let here = c.args.self.now in
    faults_open here.tokens.items here.levels.items here.brackets (known_level here.is_new here.level here.level_line) here.is_open c.args.fault c.if-self.true

pub returns-in-Some : goal.returns-in-Some
returns-in-Some c =
    let here = c.args.self.now in
    faults_level here.tokens.items here.levels.items here.brackets here.is_new here.level here.level_line here.is_open c.args.fault c.in-Some.field-0 c.if-self.false here.fresh
    (change_is here.levels.items c.deref.result.now here.level c.bytes.result.now c.change_of.result c.deref.ensures.value c.bytes.ensures c.change_of.ensures.change ∙ c.in-Some.is)

pub returns-in-None : goal.returns-in-None
returns-in-None c =
    let here = c.args.self.now in
    faults_refused here.tokens.items here.levels.items here.brackets here.is_new here.level here.level_line here.is_open c.args.fault c.if-self.false here.fresh here.outermost
    (change_is here.levels.items c.deref.result.now here.level c.bytes.result.now c.change_of.result c.deref.ensures.value c.bytes.ensures c.change_of.ensures.change ∙ c.in-None.is)
    ∙ ap error (sym c.bad_indent.ensures)
