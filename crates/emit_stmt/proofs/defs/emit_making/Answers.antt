use Rattle.std.proofs.Common.{arith}
use Rattle.emit_expr.specs.py_meaning.Plain.{defaults_of}
use Rattle.emit_stmt.proofs.DefForms.{bare_emits, with_emits}
use Rattle.emit_stmt.proofs.defs.emit_making.Goals as goal

pub returns-then-given-eq0 : goal.returns-then-given-eq0
returns-then-given-eq0 c = bare_emits c.args.scope.now (defaults_of c.args.params.now) (omega (arith, c.default_count-given.ensures)) c.in_ok-put.ensures

pub returns : goal.returns
returns c =
    with_emits (defaults_of c.args.params.now) (λ none. omega (arith, c.default_count-given.ensures)) c.default_count-given.ensures c.in_ok-emit_defaults.ensures c.in_ok-put_items.ensures c.in_ok-put_plain.ensures c.in_ok-put-2.ensures
