use Rattle.std.proofs.Common.{sym, ap, ◌∙◌}
use Rattle.emit_stmt.specs.Steps.{last_line}
use Rattle.emit_stmt.proofs.Keeps.{last_of}
use Rattle.emit_stmt.proofs.steps.line_behind.Goals as goal

pub returns-in-Some : goal.returns-in-Some
returns-in-Some c = sym (ap (last_line 1) c.in-Some.ensures.cases.0 ∙ last_of 1 c.in-Some.field-0-1.now c.in-Some.last.now)
