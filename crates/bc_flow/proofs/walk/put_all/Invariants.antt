use Rattle.std.proofs.Common.{◌≡◌, true, drop, map, Some}
use Rattle.std.specs.BinaryHeap.{heap_items}
use Rattle.bc_flow.specs.Queue.{Queued}
use Rattle.bc_flow.specs.Verified.{Assigned, agree, at, put_next}
use Rattle.bc_flow.specs.Spans.{EachOutside, Since}
use Rattle.bc_flow.specs.Views.{edge_of_rust, table_of}
use Rattle.bc_flow.proofs.walk.put_all.Given as goal

abbrev pub invariant-loop-edge : goal.invariant-loop-edge
invariant-loop-edge l = record {
  table : put_next (map edge_of_rust l.edges) (Some (table_of l.initial.states.items)) ≡ put_next (map edge_of_rust (drop l.edge-index l.edges)) (Some (table_of l.states.items));
  agree : agree (table_of l.states.items) (map edge_of_rust (drop l.edge-index l.edges)) ≡ true;
  queued : Queued (table_of l.initial.states.items) (heap_items l.initial.queue) → Queued (table_of l.states.items) (heap_items l.queue);
  outside : EachOutside l.among (at (table_of l.states.items)) (map edge_of_rust (drop l.edge-index l.edges));
  since : (old : Assigned) → Since old (at (table_of l.initial.states.items)) l.initial.changes.items → Since old (at (table_of l.states.items)) l.changes.items;
}
