use Rattle.std.proofs.Common.{◌≡◌, ◌<◌, ◌∙◌, Some, ap, arith, length, refl, rules, sym, subst}
use Rattle.bc_shapes.specs.Spans.{FitsBut}
use Rattle.bc_shapes.specs.Views.{at_of}
use Rattle.bc_flow.specs.Code.{code_of}
use Rattle.bc_flow.specs.Edges.{runs, takes}
use Rattle.bc_flow.specs.Holes.{leaving_list}
use Rattle.bc_flow.specs.Spans.{IsClear}
use Rattle.bc_flow.specs.Verified.{at}
use Rattle.bc_flow.specs.Views.{action_of, table_of}
use Rattle.bc_flow.proofs.Holes.{actions_long, passes_are}
use Rattle.bc_flow.proofs.Queues.{on_true}
use Rattle.bc_flow.proofs.Spans.{still_holds}
use Rattle.bc_flow.proofs.Tables.{pending_here, same_at}
use Rattle.bc_flow.proofs.Visits.{pending_is}
use Rattle.bc_flow.proofs.passing.slots_to_pass.Goals as goal

pub finds_again-requires-clause-asked : goal.finds_again-requires-clause-asked
finds_again-requires-clause-asked c =
    let code = code_of c.args.code.now in
    let t = table_of c.args.states.now in
    let a = action_of c.args.action.now in
    let y = at_of c.in-Pending.x in
    let s = c.in_ok-span.span in
    let r = c.requires.remembers in
    let lt : c.args.p < length c.args.states.now = omega (arith, c.requires.within, c.requires.long) in
    let here : at t c.args.p ≡ Some y = pending_is t c.args.p y (pending_here c.args.states.now c.args.p c.index-states-p.result c.in-Pending.x lt c.index-states-p.is c.in-Pending.is) in
    let clear = subst (λ z. IsClear a (length z) s) c.base-base.ensures (on_true _ _ c.if-not-is_clear.false c.is_clear.ensures) in
    let still = still_holds code t c.args.p y a s r.0 c.args.changes.now r.1 here c.requires.action_is (c.in_ok-span.ensures.some s refl) clear in
    subst (FitsBut s (takes a)) (sym c.base-base.ensures) still.asked

pub returns : goal.returns
returns c x w =
    let code = code_of c.args.code.now in
    let t = table_of c.args.states.now in
    let a = action_of c.args.action.now in
    let y = at_of c.in-Pending.x in
    let s = c.in_ok-span.span in
    let r = c.requires.remembers in
    let yx : y ≡ x = same_at c.args.states.now c.args.p x c.index-states-p.result c.in-Pending.x c.index-states-p.is c.in-Pending.is w in
    let here : at t c.args.p ≡ Some y = pending_is t c.args.p x w ∙ ap Some (sym yx) in
    let clear = subst (λ z. IsClear a (length z) s) c.base-base.ensures (on_true _ _ c.if-not-is_clear.false c.is_clear.ensures) in
    let still = still_holds code t c.args.p y a s r.0 c.args.changes.now r.1 here c.requires.action_is (c.in_ok-span.ensures.some s refl) clear in
    let n : c.len.result ≡ length y.entries = search rules in
    let k : c.run_count.result ≡ 0 = omega (arith, c.if-run_count-ne0.false) in
    let none : runs a (length y.entries) ≡ 0 = ap (runs a) (sym n) ∙ sym c.run_count.ensures ∙ k in
    let size : c.len-2.result ≡ length c.args.code.now.items.items = search rules in
    passes_are code t c.args.p x y a s (leaving_list c.edges_from.result) yx still (sym c.finds_again.ensures ∙ c.if-not-finds_again.false) none
    (c.edges_from.ensures code (actions_long c.args.code.now c.len-2.result size) none)
    (on_true _ _ c.if-not-are_away.false c.are_away.ensures)
