use Rattle.std.proofs.Common.{◌∙◌, sym, ap, arith}
use Rattle.emit_measures.specs.Limits.{saturated}
use Rattle.emit_measures.proofs.Numbers.{behind}
use Rattle.emit_measures.proofs.Rows.{top}
use Rattle.emit_measures.proofs.StoreHeights.{gone_Index, gone_other}
use Rattle.emit_measures.proofs.target_heights.delete_height.Goals as goal

pub returns-in-Index : goal.returns-in-Index
returns-in-Index c = rw (c.in-Index.is, gone_Index) (c.max.ensures ∙ behind top 3 _ _ (c.over.ensures _ _ c.expr_height.ensures c.expr_height-in-Index.ensures) (omega arith))

pub returns-in_default : goal.returns-in_default
returns-in_default c = ap saturated (sym (gone_other c.args.target.now c.in_default.not-Index))
