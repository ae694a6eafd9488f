use Rattle.std.proofs.Common.{◌≡◌, ◌∙◌, sym, subst, true, map}
use Rattle.std.specs.BinaryHeap.{heap_items}
use Rattle.bc_flow.specs.Queue.{Queued}
use Rattle.bc_flow.specs.Spans.{EachOutside, Since, updated}
use Rattle.bc_flow.specs.Verified.{agree, at, done_at}
use Rattle.bc_flow.proofs.Spans.{each_outside, grows_done, since_done}
use Rattle.bc_flow.specs.Views.{edge_of_rust, table_of}
use Rattle.bc_flow.proofs.Queues.{on_true}
use Rattle.bc_flow.proofs.Tables.{agree_done}
use Rattle.bc_flow.proofs.walk.act.Goals as goal

pub put_all-requires-clause-agree : goal.put_all-requires-clause-agree
put_all-requires-clause-agree c =
    let w = c.requires.pending in
    let es = map edge_of_rust c.args.judged.now.edges.items in
    subst (λ l. agree (table_of c.set_done.new.states.items) (map edge_of_rust l) ≡ true) (sym c.deref.ensures.value)
    (subst (λ t. agree t es ≡ true) (sym (c.set_done.ensures w.0 w.1)) (agree_done (table_of c.args.states.now.items) c.args.p w.0 es w.1 ∙ sym c.requires.meets ∙ c.if-not-judged-2.false))

pub returns-clause-queued : goal.returns-clause-queued
returns-clause-queued c x w q =
    on_true _ _ c.if-not-branch.false (c.in_ok-put_all.ensures.queued (subst (λ t. Queued t (heap_items c.args.queue.now)) (sym (c.set_done.ensures x w)) q))

pub put_all-requires-clause-outside : goal.put_all-requires-clause-outside
put_all-requires-clause-outside c =
    let w = c.requires.pending in
    let t = table_of c.args.states.now.items in
    let es = map edge_of_rust c.args.judged.now.edges.items in
    let among = c.args.judged.now.among in
    subst (λ l. EachOutside among (at (table_of c.set_done.new.states.items)) (map edge_of_rust l)) (sym c.deref.ensures.value)
    (subst (λ z. EachOutside among (at z) es) (sym (c.set_done.ensures w.0 w.1)) (each_outside among (at t) (at (done_at t c.args.p w.0)) es (grows_done t c.args.p w.0 w.1) c.requires.outside))

pub returns-clause-since : goal.returns-clause-since
returns-clause-since c x w old h =
    on_true _ _ c.if-not-branch.false
    (c.in_ok-put_all.ensures.since (updated old c.args.p x)
    (subst (λ t. Since (updated old c.args.p x) (at t) c.forget.new.changes.items) (sym (c.set_done.ensures x w))
    (since_done old (table_of c.args.states.now.items) c.args.p x c.args.changes.now.items c.forget.new.changes.items w c.forget.ensures h)))
