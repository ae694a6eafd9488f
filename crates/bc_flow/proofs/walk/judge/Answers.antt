use Rattle.std.proofs.Common.{◌≡◌, length, sym, subst, rules}
use Rattle.bc_shapes.specs.Spans.{FitsBut}
use Rattle.bc_shapes.specs.Views.{at_of}
use Rattle.bc_flow.specs.Code.{code_of}
use Rattle.bc_flow.specs.Edges.{takes}
use Rattle.bc_flow.specs.Spans.{IsClear}
use Rattle.bc_flow.specs.Views.{action_of, table_of}
use Rattle.bc_flow.proofs.Spans.{still_holds}
use Rattle.bc_flow.proofs.Walks.{action_there}
use Rattle.bc_flow.proofs.walk.judge.Goals as goal

pub judge_all-requires-clause-action_is : goal.judge_all-requires-clause-action_is
judge_all-requires-clause-action_is c =
    let size : c.len.result ≡ length c.args.code.now.items.items = search rules in
    action_there (length c.args.code.now.items.items) c.len.result c.args.code.now.items.items c.args.p c.index.result.now (action_of c.action_at-action.result) size c.requires.within c.index.ensures c.action_at-action.ensures

pub judge_again-requires-clause-asked : goal.judge_again-requires-clause-asked
judge_again-requires-clause-asked c =
    let a = action_of c.action_at-action.result in
    let x = at_of c.args.x.now in
    let size : c.len.result ≡ length c.args.code.now.items.items = search rules in
    let is = action_there (length c.args.code.now.items.items) c.len.result c.args.code.now.items.items c.args.p c.index.result.now a size c.requires.within c.index.ensures c.action_at-action.ensures in
    let r = c.requires.remembers in
    let clear = subst (λ z. IsClear a (length z) c.in-Some.span) c.base-base.ensures c.in-Some.ensures.1 in
    let still = still_holds (code_of c.args.code.now) (table_of c.args.states.now) c.args.p x a c.in-Some.span r.0 c.args.changes.now r.1 c.requires.is is c.in-Some.ensures.0 clear in
    subst (FitsBut c.in-Some.span (takes a)) (sym c.base-base.ensures) still.asked

pub returns-in-Some : goal.returns-in-Some
returns-in-Some c =
    let code = code_of c.args.code.now in
    let a = action_of c.action_at-action.result in
    let x = at_of c.args.x.now in
    let size : c.len.result ≡ length c.args.code.now.items.items = search rules in
    let is = action_there (length c.args.code.now.items.items) c.len.result c.args.code.now.items.items c.args.p c.index.result.now a size c.requires.within c.index.ensures c.action_at-action.ensures in
    let r = c.requires.remembers in
    let clear = subst (λ z. IsClear a (length z) c.in-Some.span) c.base-base.ensures c.in-Some.ensures.1 in
    c.judge_again.ensures code (table_of c.args.states.now) c.args.p is c.in_ok-edges.ensures
    (still_holds code (table_of c.args.states.now) c.args.p x a c.in-Some.span r.0 c.args.changes.now r.1 c.requires.is is c.in-Some.ensures.0 clear)
