use Rattle.std.proofs.Common.{◌∙◌, ◌+◌}
use Rattle.emit_measures.proofs.Numbers.{two, plus}
use Rattle.emit_measures.proofs.Rows.{top}
use Rattle.emit_measures.proofs.expr_heights.over.Goals as goal

pub returns : goal.returns
returns c a b e f = c.max.ensures ∙ two top a (1 + b) _ _ e (c.saturating_add.ensures ∙ plus top 1 b _ f)
