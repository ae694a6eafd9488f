use Rattle.std.proofs.Common.{[], length, ap, ◌∙◌, arith}
use Rattle.mpy_writer.specs.File.{item_of}
use Rattle.mpy_writer.specs.Positions.{numbered}
use Rattle.mpy_writer.proofs.Positions.{seen_item, length-drafted, started_more, drafted_more}
use Rattle.mpy_writer.proofs.draft.make_draft.Goals as goal

pub loop-item-preserved : goal.loop-item-preserved
loop-item-preserved c =
    let tables = c.args.tables.now in
    let items = c.args.items.now in
    let i = c.loop-item.item-index in
    let xs = numbered tables items in
    let is = seen_item tables items i c.item-item.result c.loop-item-test.true c.item-item.is in
    let size = ap length c.loop-item.invariant.text ∙ length-drafted xs i in
    let len = c.len.ensures in
    let kept = c.loop-item.text.ok.0 in
    record {
      text = drafted_more xs i (item_of tables c.item-item.result) c.loop-item.text.items c.write_draft.new.out.items is c.loop-item.invariant.text c.in_ok-write_draft.ensures;
      starts = started_more xs [] i c.len.result c.loop-item.starts.items c.push.new.self.items c.loop-item.invariant.starts (omega (arith, len, kept, size)) c.in_ok-push.ensures.items;
    }
