use Rattle.std.specs.BinaryHeap.{heap_items, heap_len}
use Rattle.bc_flow.specs.Queue.{Queued}
use Rattle.bc_flow.specs.Views.{table_of}
use Rattle.bc_flow.proofs.walk.least.Given as goal

abbrev pub invariant-loop-p : goal.invariant-loop-p
invariant-loop-p l = Queued (table_of l.states) (heap_items l.queue)

abbrev pub decreases-loop-p : goal.decreases-loop-p
decreases-loop-p l = heap_len l.queue
