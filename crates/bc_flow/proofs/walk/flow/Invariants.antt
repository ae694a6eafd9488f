use Rattle.std.proofs.Common.{suc}
use Rattle.std.specs.BinaryHeap.{heap_items}
use Rattle.bc_flow.specs.Code.{code_of}
use Rattle.bc_flow.specs.Queue.{Queued}
use Rattle.bc_flow.specs.Verified.{Assigned, Comes}
use Rattle.bc_flow.specs.Spans.{Remembers}
use Rattle.bc_flow.specs.Views.{table_of}
use Rattle.bc_flow.proofs.Puts.{weigh}
use Rattle.bc_flow.proofs.walk.flow.Given as goal

abbrev pub invariant-loop-p : goal.invariant-loop-p
invariant-loop-p l = record {
  comes : Comes (code_of l.code) (table_of l.states.items);
  queued : Queued (table_of l.states.items) (heap_items l.queue);
  remembers : (old : Assigned) × Remembers (code_of l.code) old (table_of l.states.items) l.changes.items;
}

abbrev pub decreases-loop-p : goal.decreases-loop-p
decreases-loop-p l = weigh (suc l.code.n_state) (table_of l.states.items)
