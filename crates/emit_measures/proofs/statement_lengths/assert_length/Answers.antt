use Rattle.std.proofs.Common.{sym, ap, ◌∙◌}
use Rattle.bc_scheme.specs.py_meaning.Plain.{plain_expr}
use Rattle.emit_measures.specs.Limits.{saturated}
use Rattle.emit_measures.proofs.LayerLengths.{no_code, all_code, with_code}
use Rattle.emit_measures.proofs.statement_lengths.assert_length.Goals as goal

pub returns-then-level-gt0 : goal.returns-then-level-gt0
returns-then-level-gt0 c held iterator = ap saturated (sym (no_code c.args.locals.now held iterator c.args.level (plain_expr c.args.test.now) c.args.message.now c.if-level-gt0.true))

pub returns-in-None : goal.returns-in-None
returns-in-None c held iterator = rw c.in-None.is (c.plus.ensures _ c.expr_length-tested.ensures ∙ ap saturated (sym (all_code c.args.locals.now held iterator c.args.level (plain_expr c.args.test.now) c.if-level-gt0.false)))

pub returns-in-Some : goal.returns-in-Some
returns-in-Some c held iterator =
    rw c.in-Some.is (c.both.ensures _ _ c.expr_length-tested.ensures c.expr_length.ensures
    ∙ ap saturated (sym (with_code c.args.locals.now held iterator c.args.level (plain_expr c.args.test.now) (plain_expr c.in-Some.message) c.if-level-gt0.false)))
