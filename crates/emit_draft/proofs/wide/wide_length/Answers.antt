use Rattle.std.proofs.Common.{ap, ◌∙◌}
use Rattle.std.specs.Prelude.{min}
use Rattle.emit_draft.proofs.Lengths.{top, wide_at, none_measured, one_measured, all_measured}
use Rattle.emit_draft.proofs.wide.wide_length.Goals as goal

pub loop-line-init : goal.loop-line-init
loop-line-init c = none_measured c.as_slice-lines.result.now

pub loop-line-preserved : goal.loop-line-preserved
loop-line-preserved c =
    one_measured c.as_slice-lines.result.now c.as_slice-lines.result.now c.loop-line.line-index c.line-item.result c.loop-line.length c.wide_item.result c.saturating_add-length.result c.loop-line.invariant c.loop-line-test.true c.line-item.is
    c.wide_item.ensures c.saturating_add-length.ensures

pub returns : goal.returns
returns c labels =
    all_measured c.as_slice-lines.result.now c.as_slice-lines.result.now c.loop-line.line-index c.loop-line.length c.loop-line.invariant c.loop-line-test.false labels
    ∙ ap (λ z. min (wide_at labels z) top) c.as_slice-lines.ensures
