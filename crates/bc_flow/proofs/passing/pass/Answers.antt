use Rattle.std.proofs.Common.{◌≡◌, ℕ, length, rules}
use Rattle.std.specs.BinaryHeap.{heap_items}
use Rattle.bc_shapes.specs.Shape.{At}
use Rattle.bc_shapes.specs.Views.{at_of}
use Rattle.bc_flow.specs.Code.{code_of}
use Rattle.bc_flow.specs.Edges.{edges}
use Rattle.bc_flow.specs.Holes.{leaving}
use Rattle.bc_flow.specs.Views.{action_of, table_of}
use Rattle.bc_flow.proofs.Holes.{actions_long, leaving_are, none_run_at, filled_queued, filled_since, filled_visit, left_agree, left_outside, queued_hole, since_hole, states_within}
use Rattle.bc_flow.proofs.Spans.{if_ok_both, remembers_after}
use Rattle.bc_flow.proofs.Walks.{if_ok_map}
use Rattle.bc_flow.proofs.passing.pass.Goals as goal

pub leave-left-requires-clause-agree : goal.leave-left-requires-clause-agree
leave-left-requires-clause-agree c =
    let code = code_of c.args.code.now in
    let t = table_of c.args.states.now.items in
    let a = action_of c.args.action.now in
    let w = c.requires.pending in
    let h = c.requires.passes w.0 w.1 in
    let y = at_of c.take_out-x.result in
    let yx : y ≡ w.0 = c.take_out-x.ensures.shape w.0 w.1 in
    let size : c.len-size.result ≡ length c.args.code.now.items.items = search rules in
    let e : leaving a c.args.p c.len-size.result y ≡ edges code a c.args.p y = leaving_are code a c.args.p y c.len-size.result (actions_long c.args.code.now c.len-size.result size) (none_run_at code t c.args.p w.0 y a c.args.span h yx) in
    left_agree code t (table_of c.take_out-x.new.states.items) c.args.p w.0 y a c.args.span (leaving a c.args.p c.len-size.result y) h c.take_out-x.ensures.table yx e

pub leave-left-requires-clause-outside : goal.leave-left-requires-clause-outside
leave-left-requires-clause-outside c =
    let code = code_of c.args.code.now in
    let t = table_of c.args.states.now.items in
    let a = action_of c.args.action.now in
    let w = c.requires.pending in
    let h = c.requires.passes w.0 w.1 in
    let y = at_of c.take_out-x.result in
    let yx : y ≡ w.0 = c.take_out-x.ensures.shape w.0 w.1 in
    let size : c.len-size.result ≡ length c.args.code.now.items.items = search rules in
    let e : leaving a c.args.p c.len-size.result y ≡ edges code a c.args.p y = leaving_are code a c.args.p y c.len-size.result (actions_long c.args.code.now c.len-size.result size) (none_run_at code t c.args.p w.0 y a c.args.span h yx) in
    left_outside code t (table_of c.take_out-x.new.states.items) c.args.p w.0 y a c.args.span (leaving a c.args.p c.len-size.result y) h c.take_out-x.ensures.table yx e

pub returns-clause-table : goal.returns-clause-table
returns-clause-table c x w =
    let code = code_of c.args.code.now in
    let t = table_of c.args.states.now.items in
    let a = action_of c.args.action.now in
    let h = c.requires.passes x w in
    let y = at_of c.take_out-x.result in
    let yx : y ≡ x = c.take_out-x.ensures.shape x w in
    let size : c.len-size.result ≡ length c.args.code.now.items.items = search rules in
    let e : leaving a c.args.p c.len-size.result y ≡ edges code a c.args.p y = leaving_are code a c.args.p y c.len-size.result (actions_long c.args.code.now c.len-size.result size) (none_run_at code t c.args.p x y a c.args.span h yx) in
    if_ok_map c.leave-left.result _ _
    (λ r v. filled_visit code t (table_of c.take_out-x.new.states.items) c.args.p x y a c.args.span (leaving a c.args.p c.len-size.result y) r c.leave-left.new.states.items c.put_back.new.states.items c.requires.action_is h c.take_out-x.ensures.table yx e v c.put_back.ensures)
    c.leave-left.ensures.table

pub returns-clause-queued : goal.returns-clause-queued
returns-clause-queued c x w q =
    if_ok_map c.leave-left.result _ _
    (λ r v. filled_queued c.args.p (at_of c.take_out-x.result) r c.leave-left.new.states.items c.put_back.new.states.items (heap_items c.leave-left.new.queue) c.put_back.ensures v)
    (c.leave-left.ensures.queued (queued_hole (table_of c.args.states.now.items) (table_of c.take_out-x.new.states.items) c.args.p x (heap_items c.args.queue.now) c.take_out-x.ensures.table q))

pub returns-clause-remembers : goal.returns-clause-remembers
returns-clause-remembers c =
    let code = code_of c.args.code.now in
    let t = table_of c.args.states.now.items in
    let u = table_of c.take_out-x.new.states.items in
    let w = c.requires.pending in
    let r = c.requires.remembers in
    let y = at_of c.take_out-x.result in
    if_ok_both c.leave-left.result _ _ _
    (λ o e h. remembers_after code t c.args.p w.0 o c.put_back.new.states.items r.0 c.args.changes.now.items c.forget.new.changes.items w.1 e r.1 h)
    (returns-clause-table c w.0 w.1)
    (if_ok_both c.leave-left.result _ _ _
    (λ o v h. filled_since r.0 t u c.args.p w.0 y (leaving (action_of c.args.action.now) c.args.p c.len-size.result y) o c.leave-left.new.states.items c.put_back.new.states.items c.leave-left.new.changes.items c.forget.new.changes.items (states_within t c.args.p w.0 w.1) c.take_out-x.ensures.table (c.take_out-x.ensures.shape w.0 w.1) v c.put_back.ensures c.forget.ensures h)
    c.leave-left.ensures.table
    (c.leave-left.ensures.since r.0 (since_hole r.0 t u c.args.p c.args.changes.now.items c.unnote.new.changes.items c.take_out-x.ensures.table c.unnote.ensures.here c.unnote.ensures.others r.1.since)))
