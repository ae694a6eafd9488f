use Rattle.std.proofs.Common.{◌≡◌, length, rules, sym, subst}
use Rattle.bc_shapes.specs.Shape.{At}
use Rattle.bc_flow.specs.Code.{code_of}
use Rattle.bc_flow.specs.Holes.{Passes}
use Rattle.bc_flow.specs.Spans.{Remembers}
use Rattle.bc_flow.specs.Verified.{IsPending}
use Rattle.bc_flow.specs.Views.{action_of, table_of}
use Rattle.bc_flow.proofs.Walks.{action_there}
use Rattle.bc_flow.proofs.walk.visit.Goals as goal

pub slots_to_pass-requires-clause-action_is : goal.slots_to_pass-requires-clause-action_is
slots_to_pass-requires-clause-action_is c =
    let size : c.len.result ≡ length c.args.code.now.items.items = search rules in
    action_there (length c.args.code.now.items.items) c.len.result c.args.code.now.items.items c.args.p c.index.result.now (action_of c.action_at-action.result) size c.requires.within c.index.ensures c.action_at-action.ensures

pub slots_to_pass-requires-clause-remembers : goal.slots_to_pass-requires-clause-remembers
slots_to_pass-requires-clause-remembers c =
    let r = c.requires.remembers in (
      r.0,
      subst (λ z. Remembers (code_of c.args.code.now) r.0 (table_of z) c.deref-2.result.now) (sym c.deref.ensures.value)
          (subst (λ z. Remembers (code_of c.args.code.now) r.0 (table_of c.args.states.now.items) z) (sym c.deref-2.ensures.value) r.1),
    )

pub pass-requires-clause-action_is : goal.pass-requires-clause-action_is
pass-requires-clause-action_is c =
    let size : c.len.result ≡ length c.args.code.now.items.items = search rules in
    action_there (length c.args.code.now.items.items) c.len.result c.args.code.now.items.items c.args.p c.index.result.now (action_of c.action_at-action.result) size c.requires.within c.index.ensures c.action_at-action.ensures

pub pass-requires-clause-passes : goal.pass-requires-clause-passes
pass-requires-clause-passes c =
    subst (λ z. (x : At) → IsPending (table_of z) c.args.p x → Passes (code_of c.args.code.now) (table_of z) c.args.p x (action_of c.action_at-action.result) c.in-Some.span) c.deref.ensures.value c.in-Some.ensures
