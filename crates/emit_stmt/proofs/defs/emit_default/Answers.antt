use Rattle.emit_stmt.proofs.DefForms.{no_default, some_default}
use Rattle.emit_stmt.proofs.defs.emit_default.Goals as goal

pub returns-in-None : goal.returns-in-None
returns-in-None c = no_default c.args.draft.now c.args.scope.now c.args.line c.args.default.now c.in-None.is

pub returns-in_ok-emit_expr-in-Some : goal.returns-in_ok-emit_expr-in-Some
returns-in_ok-emit_expr-in-Some c = some_default c.args.default.now c.in-Some.value c.in-Some.is c.in_ok-emit_expr-in-Some.ensures
