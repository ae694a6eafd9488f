use Rattle.std.proofs.Common.{sym, ◌∙◌}
use Rattle.emit_expr.proofs.Forms.{straight_emits, negated_emits}
use Rattle.emit_expr.proofs.puts.put_comparison.Goals as goal

pub returns-then-is_negated : goal.returns-then-is_negated
returns-then-is_negated c s = negated_emits s c.args.op c.comparing_number-number.ensures (sym c.is_negated.ensures ∙ c.if-is_negated.true) c.in_ok-put.ensures c.in_ok-put-2.ensures

pub returns : goal.returns
returns c s = straight_emits s c.args.op c.comparing_number-number.ensures (sym c.is_negated.ensures ∙ c.if-is_negated.false) c.in_ok-put.ensures
