use Rattle.std.proofs.Common.{◌∙◌, ◌+◌, ap, sym, map, drop}
use Rattle.std.specs.BinaryHeap.{heap_items}
use Rattle.bc_flow.specs.Queue.{Queued}
use Rattle.bc_flow.specs.Views.{edge_of_rust, table_of, has_if}
use Rattle.bc_flow.specs.Spans.{Since}
use Rattle.bc_flow.specs.Verified.{at}
use Rattle.bc_flow.proofs.Spans.{each_outside, outside_first, outside_rest, put_grows}
use Rattle.bc_flow.proofs.Queues.{on_true}
use Rattle.bc_flow.proofs.Tables.{put_all_step, agree_all_step}
use Rattle.bc_flow.proofs.walk.put_all.Goals as goal

pub loop-edge-preserved : goal.loop-edge-preserved
loop-edge-preserved c =
    let t = table_of c.loop-edge.states.items in
    let u = table_of c.put_edge.new.states.items in
    let puts = ap (λ b. has_if b c.put_edge.new.states.items) (sym c.if-not-branch.false) ∙ c.in_ok-put_edge.ensures.table in
    record {
      table = c.loop-edge.invariant.table ∙ put_all_step t u c.args.edges.now c.loop-edge.edge-index _ c.loop-edge-test.true puts;
      agree = agree_all_step t u c.args.edges.now c.loop-edge.edge-index _ c.loop-edge-test.true puts c.loop-edge.invariant.agree;
      queued = λ q. on_true _ (Queued u (heap_items c.put_edge.new.queue)) c.if-not-branch.false (c.in_ok-put_edge.ensures.queued (c.loop-edge.invariant.queued q));
      outside = each_outside c.args.among (at t) (at u) (map edge_of_rust (drop (c.loop-edge.edge-index + 1) c.args.edges.now)) (put_grows t u _ _ puts) (outside_rest c.args.among (at t) c.args.edges.now c.loop-edge.edge-index c.loop-edge.invariant.outside);
      since = λ old h. on_true _ (Since old (at u) c.put_edge.new.changes.items) c.if-not-branch.false (c.in_ok-put_edge.ensures.since old (c.loop-edge.invariant.since old h));
    }

pub put_edge-requires-clause-outside : goal.put_edge-requires-clause-outside
put_edge-requires-clause-outside c = outside_first c.args.among (at (table_of c.loop-edge.states.items)) c.args.edges.now c.loop-edge.edge-index _ c.loop-edge-test.true c.loop-edge.invariant.outside
