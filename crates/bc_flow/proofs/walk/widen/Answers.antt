use Rattle.std.proofs.Common.{◌≡◌, Some, sym, subst}
use Rattle.std.specs.Prelude.{slice_get}
use Rattle.bc_flow.proofs.Spans.{widened_set, elsewhere_set}
use Rattle.bc_flow.proofs.walk.widen.Goals as goal

pub returns-in-Some-clause-here : goal.returns-in-Some-clause-here
returns-in-Some-clause-here c =
    let is : slice_get c.args.changes.now.items c.args.p ≡ Some (Some c.in-Some.before) = subst (λ l. slice_get l c.args.p ≡ Some (Some c.in-Some.before)) c.deref.ensures.value (c.changed_at.ensures.some c.in-Some.before c.in-Some.is) in
    widened_set c.args.changes.now.items c.args.p c.in-Some.before c.union.result c.args.span is c.union.ensures.one c.union.ensures.other

pub returns-in-Some-clause-others : goal.returns-in-Some-clause-others
returns-in-Some-clause-others c q g = elsewhere_set c.args.changes.now.items c.args.p (Some c.union.result) q g

pub returns-in_default-clause-here : goal.returns-in_default-clause-here
returns-in_default-clause-here c s e =
    absurd (c.in_default.not-Some s (c.changed_at.ensures.all s (subst (λ l. slice_get l c.args.p ≡ Some (Some s)) (sym c.deref.ensures.value) e)))
