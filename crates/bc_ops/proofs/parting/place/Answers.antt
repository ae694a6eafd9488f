use Rattle.std.proofs.Common.{arith}
use Rattle.bc_ops.proofs.Parts.{placed_none, placed_more, placed_all}
use Rattle.bc_ops.proofs.parting.place.Goals as goal

pub loop-item-init : goal.loop-item-init
loop-item-init c = placed_none c.args.starts.now c.args.items.now

pub loop-item-preserved : goal.loop-item-preserved
loop-item-preserved c =
    placed_more c.args.starts.now c.args.items.now c.loop-item.items c.loop-item.item-index _ c.settle.new.item (omega arith) c.loop-item.auto.items c.loop-item.invariant c.settle.ensures

pub returns : goal.returns
returns c = placed_all c.args.starts.now c.args.items.now c.loop-item.items c.loop-item.item-index (omega arith) c.loop-item.auto.items c.loop-item.invariant
