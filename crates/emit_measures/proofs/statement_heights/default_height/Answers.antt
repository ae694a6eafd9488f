use Rattle.std.proofs.Common.{refl, ◌∙◌}
use Rattle.emit_measures.proofs.Numbers.{sum}
use Rattle.emit_measures.proofs.Rows.{top}
use Rattle.emit_measures.proofs.statement_heights.default_height.Goals as goal

pub returns-in-None : goal.returns-in-None
returns-in-None c n e = rw c.in-None.is refl

pub returns-in-Some : goal.returns-in-Some
returns-in-Some c n e = rw c.in-Some.is (c.saturating_add.ensures ∙ sum top _ _ _ _ e c.expr_height.ensures)
