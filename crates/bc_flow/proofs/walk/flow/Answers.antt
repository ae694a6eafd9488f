use Rattle.std.proofs.Common.{ℕ, ◌∙◌, ap, sym, subst, refl, rules}
use Rattle.std.specs.BinaryHeap.{heap_items}
use Rattle.bc_shapes.specs.Shape.{At}
use Rattle.bc_flow.specs.Queue.{Queued}
use Rattle.bc_flow.specs.Verified.{table_at, IsPending}
use Rattle.bc_flow.specs.Views.{table_of}
use Rattle.bc_flow.proofs.Queues.{start_queued}
use Rattle.bc_flow.specs.Code.{code_of}
use Rattle.bc_flow.proofs.Spans.{empty_none, remembers_anew, remembers_none}
use Rattle.bc_flow.proofs.Decides.{comes_reached}
use Rattle.bc_flow.proofs.Walks as walks
use Rattle.bc_flow.proofs.walk.flow.Goals as goal

pub returns-then-size-eq0-clause-faults : goal.returns-then-size-eq0-clause-faults
returns-then-size-eq0-clause-faults c = walks.first_empty c.args.code.now (search rules)

pub returns-then-size-eq0-clause-none : goal.returns-then-size-eq0-clause-none
returns-then-size-eq0-clause-none c = walks.none_empty c.args.code.now (search rules)

pub loop-p-init : goal.loop-p-init
loop-p-init c = record {
  comes = walks.comes_start c.args.code.now c.in_ok-states.states.items (c.in_ok-states.ensures ∙ ap table_at (search rules));
  queued = subst (λ t. Queued t (heap_items c.push.new.self)) (sym c.in_ok-states.ensures)
      (start_queued _ _ (heap_items c.new-queue.result) (heap_items c.push.new.self) refl (c.in_ok-push.ensures.heap_order c.new-queue.ensures.heap_order) c.in_ok-push.ensures.permutation);
  remembers = remembers_none (code_of c.args.code.now) (table_of c.in_ok-states.states.items) c.no_changes-changes.result.items (empty_none c.no_changes-changes.result.items c.no_changes-changes.ensures);
}

pub visit-requires-clause-long : goal.visit-requires-clause-long
visit-requires-clause-long c = walks.states_long c.args.code.now (λ e. search rules) c.loop-p.states.items c.loop-p.invariant.comes

pub visit-requires-clause-within : goal.visit-requires-clause-within
visit-requires-clause-within c =
    let l = walks.taken_in c.deref.result.now c.loop-p.states.items c.in-Some.p (heap_items c.least.new.queue) c.deref.ensures.value c.in-Some.ensures.some in
    walks.least_within c.args.code.now (λ e. search rules) (table_of c.loop-p.states.items) c.loop-p.invariant.comes c.in-Some.p (l.0, l.1)

pub visit-requires-clause-pending : goal.visit-requires-clause-pending
visit-requires-clause-pending c =
    let l = walks.taken_in c.deref.result.now c.loop-p.states.items c.in-Some.p (heap_items c.least.new.queue) c.deref.ensures.value c.in-Some.ensures.some in
    (l.0, l.1.pending)

pub visit-requires-clause-remembers : goal.visit-requires-clause-remembers
visit-requires-clause-remembers c =
    let m = c.loop-p.invariant.remembers in
    (m.0, remembers_anew _ _ _ _ _ m.1 (c.in_ok-keep_changes.ensures m.0 _ m.1.since))

pub loop-p-smaller : goal.loop-p-smaller
loop-p-smaller c =
    let l = walks.taken_in c.deref.result.now c.loop-p.states.items c.in-Some.p (heap_items c.least.new.queue) c.deref.ensures.value c.in-Some.ensures.some in
    walks.next_lighter c.args.code.now (table_of c.loop-p.states.items) (table_of c.visit.new.states.items) c.in-Some.p (l.0, l.1)
    (λ x w. walks.good_else c.in_ok-rule.field-0 c.visit.new.states.items _ c.in_default-2.not-Err (c.in_ok-rule.ensures.table x w))

pub loop-p-preserved : goal.loop-p-preserved
loop-p-preserved c =
    let l = walks.taken_in c.deref.result.now c.loop-p.states.items c.in-Some.p (heap_items c.least.new.queue) c.deref.ensures.value c.in-Some.ensures.some in
    record {
      comes = walks.next_comes c.args.code.now (table_of c.loop-p.states.items) (table_of c.visit.new.states.items) c.in-Some.p c.loop-p.invariant.comes (l.0, l.1)
          (λ x w. walks.good_else c.in_ok-rule.field-0 c.visit.new.states.items _ c.in_default-2.not-Err (c.in_ok-rule.ensures.table x w));
      queued = walks.ok_else c.in_ok-rule.field-0 (Queued (table_of c.visit.new.states.items) (heap_items c.visit.new.queue)) c.in_default-2.not-Err (c.in_ok-rule.ensures.queued l.0 l.1.pending l.2);
      remembers = walks.ok_else c.in_ok-rule.field-0 _ c.in_default-2.not-Err c.in_ok-rule.ensures.remembers;
    }

pub returns-in-Err-clause-faults : goal.returns-in-Err-clause-faults
returns-in-Err-clause-faults c =
    let l = walks.taken_in c.deref.result.now c.loop-p.states.items c.in-Some.p (heap_items c.least.new.queue) c.deref.ensures.value c.in-Some.ensures.some in
    walks.fault_first c.args.code.now (table_of c.loop-p.states.items) c.in-Err.rule c.in-Some.p c.loop-p.invariant.comes (l.0, l.1)
    (λ x w. walks.bad_from c.in_ok-rule.field-0 c.visit.new.states.items c.in-Err.rule _ c.in-Err.is (c.in_ok-rule.ensures.table x w))

pub returns-in-Err-clause-none : goal.returns-in-Err-clause-none
returns-in-Err-clause-none c =
    let l = walks.taken_in c.deref.result.now c.loop-p.states.items c.in-Some.p (heap_items c.least.new.queue) c.deref.ensures.value c.in-Some.ensures.some in
    walks.fault_none c.args.code.now (table_of c.loop-p.states.items) c.in-Err.rule c.in-Some.p c.loop-p.invariant.comes (l.0, l.1)
    (λ x w. walks.bad_from c.in_ok-rule.field-0 c.visit.new.states.items c.in-Err.rule _ c.in-Err.is (c.in_ok-rule.ensures.table x w))

pub returns-clause-holds : goal.returns-clause-holds
returns-clause-holds c =
    walks.ends_holding c.args.code.now (λ e. search rules) (table_of c.loop-p.states.items) c.loop-p.invariant.comes
    (subst (λ z. (p : ℕ) (x : At) → IsPending (table_of z) p x → ⊥) c.deref.ensures.value c.in_default.ensures.none)

pub returns-clause-least : goal.returns-clause-least
returns-clause-least c b h = walks.ends_least c.args.code.now (table_of c.loop-p.states.items) c.loop-p.invariant.comes b h

pub returns-clause-reached : goal.returns-clause-reached
returns-clause-reached c = comes_reached _ _ c.loop-p.invariant.comes
