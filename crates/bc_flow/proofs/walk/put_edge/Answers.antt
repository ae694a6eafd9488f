use Rattle.std.proofs.Common.{◌≡◌, ◌∙◌, ap, sym, subst, refl, Some}
use Rattle.std.specs.BinaryHeap.{heap_items}
use Rattle.bc_shapes.specs.Shape.{At}
use Rattle.bc_flow.specs.Verified.{put, IsPending}
use Rattle.bc_flow.specs.Views.{edge_of_rust, table_of, has_if}
use Rattle.bc_flow.proofs.Queues.{put_queued, put_was, put_never, on_true}
use Rattle.bc_flow.proofs.Spans.{since_put}
use Rattle.bc_flow.proofs.walk.put_edge.Goals.{else-not-was_pending-via-then-not-was_pending+else-is_pending, else-not-was_pending-via-else-not-was_pending}
use Rattle.bc_flow.proofs.walk.put_edge.Goals as goal

pub returns-in_ok-push-clause-queued : goal.returns-in_ok-push-clause-queued
returns-in_ok-push-clause-queued c q =
    put_queued (table_of c.args.states.now.items) (table_of c.put.new.states.items) c.args.edge.to (edge_of_rust c.args.edge).at _ (heap_items c.args.queue.now) (heap_items c.push.new.self)
    (ap (λ b. has_if b c.put.new.states.items) (sym c.if-not-branch.false) ∙ c.in_ok-put.ensures.puts)
    refl (c.in_ok-push.ensures.heap_order q.ordered) c.in_ok-push.ensures.permutation q

pub returns-else-not-was_pending-clause-queued : goal.returns-else-not-was_pending-clause-queued
returns-else-not-was_pending-clause-queued c q =
    let t = table_of c.args.states.now.items in
    let u = table_of c.put.new.states.items in
    let x = (edge_of_rust c.args.edge).at in
    let n = c.args.edge.to in
    let xs = heap_items c.args.queue.now in
    let puts : Some u ≡ put t n x = ap (λ b. has_if b c.put.new.states.items) (sym c.if-not-branch.false) ∙ c.in_ok-put.ensures.puts in
    elim c.else-not-was_pending.branch [
      | else-not-was_pending-via-then-not-was_pending+else-is_pending w ↦
          put_never t u n x xs puts (subst (λ s. (y : At) → IsPending (table_of s) n y → ⊥) w.deref-then-not-was_pending.ensures.value w.if-is_pending.ensures.no) q
      | else-not-was_pending-via-else-not-was_pending w ↦
          put_was t u n x xs puts (subst (λ s. (y : At) × IsPending (table_of s) n y) c.deref.ensures.value w.if-not-was_pending.ensures.yes) q
    ]

pub returns-in_ok-push-clause-since : goal.returns-in_ok-push-clause-since
returns-in_ok-push-clause-since c old h =
    since_put old (table_of c.args.states.now.items) (table_of c.put.new.states.items) c.args.edge.to (edge_of_rust c.args.edge).at c.put.new.span c.args.changes.now.items c.widen.new.changes.items
    (ap (λ b. has_if b c.put.new.states.items) (sym c.if-not-branch.false) ∙ c.in_ok-put.ensures.puts)
    (on_true _ _ c.if-not-branch.false c.in_ok-put.ensures.keeps) c.widen.ensures.here c.widen.ensures.others h

pub returns-else-not-was_pending-clause-since : goal.returns-else-not-was_pending-clause-since
returns-else-not-was_pending-clause-since c old h =
    since_put old (table_of c.args.states.now.items) (table_of c.put.new.states.items) c.args.edge.to (edge_of_rust c.args.edge).at c.put.new.span c.args.changes.now.items c.widen.new.changes.items
    (ap (λ b. has_if b c.put.new.states.items) (sym c.if-not-branch.false) ∙ c.in_ok-put.ensures.puts)
    (on_true _ _ c.if-not-branch.false c.in_ok-put.ensures.keeps) c.widen.ensures.here c.widen.ensures.others h
