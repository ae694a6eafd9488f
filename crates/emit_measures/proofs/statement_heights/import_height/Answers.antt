use Rattle.std.proofs.Common.{sym, ap}
use Rattle.emit_measures.specs.Limits.{saturated}
use Rattle.emit_measures.proofs.Rows.{empty_slice, filled_slice}
use Rattle.emit_measures.proofs.LayerHeights.{no_import, some_import}
use Rattle.emit_measures.proofs.statement_heights.import_height.Goals as goal

pub returns-then-is_empty : goal.returns-then-is_empty
returns-then-is_empty c = ap saturated (sym (no_import c.args.names.now (empty_slice c.args.names.now c.is_empty.result c.is_empty.ensures c.if-is_empty.true)))

pub returns : goal.returns
returns c = ap saturated (sym (some_import c.args.names.now (filled_slice c.args.names.now c.is_empty.result c.is_empty.ensures c.if-is_empty.false)))
