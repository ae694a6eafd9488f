use Rattle.std.proofs.Common.{refl}
use Rattle.std.specs.BinaryHeap.{heap_items}
use Rattle.bc_flow.specs.Views.{table_of}
use Rattle.bc_flow.proofs.Queues.{queued_skip, queued_done, top_least}
use Rattle.bc_flow.proofs.walk.least.Goals as goal

pub returns-then-is_pending-clause-some : goal.returns-then-is_pending-clause-some
returns-then-is_pending-clause-some c =
    let t = table_of c.args.states.now in
    let q = c.loop-p.invariant in
    let pops = c.in-Some.ensures.heap_order q.ordered in
    let x = c.if-is_pending.ensures.yes in (
      x.0,
      top_least t c.in-Some.field-0 (heap_items c.loop-p.queue) x.0 pops.1 q x.1,
      queued_done t c.in-Some.field-0.0 x.0 c.in-Some.field-0 (heap_items c.loop-p.queue) (heap_items c.pop.new.self) refl pops.0 c.in-Some.ensures.permutation q,
    )

pub loop-p-preserved : goal.loop-p-preserved
loop-p-preserved c =
    let q = c.loop-p.invariant in
    queued_skip (table_of c.args.states.now) c.in-Some.field-0 (heap_items c.loop-p.queue) (heap_items c.pop.new.self) (c.in-Some.ensures.heap_order q.ordered).0 c.in-Some.ensures.permutation c.if-is_pending.ensures.no q
