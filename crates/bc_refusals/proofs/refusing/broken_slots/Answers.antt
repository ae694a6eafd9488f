use Rattle.std.proofs.Common.{◌∙◌, ap, subst, sym, true}
use Rattle.std.proofs.lemmas.Bool.{OnTrue_at}
use Rattle.bc_flow.specs.bc_shapes.Views.{at_of}
use Rattle.bc_flow.specs.Code.{code_of}
use Rattle.bc_flow.specs.Edges.{edges, finds}
use Rattle.bc_flow.specs.Views.{action_of}
use Rattle.bc_certificates.specs.Checking.{rows_of}
use Rattle.bc_certificates.specs.Rows.{carried}
use Rattle.bc_refusals.specs.Stages.{Agrees, Clashes, opened}
use Rattle.bc_refusals.proofs.Faults.{breaks_finds, breaks_put, found_from, missed_from}
use Rattle.bc_refusals.proofs.refusing.broken_slots.Goals as goal

pub returns-then-misses : goal.returns-then-misses
returns-then-misses c =
    let code = code_of c.args.code.now in
    let a = carried code (rows_of c.args.table.now) in
    let i = action_of c.args.action.now in
    let x = at_of c.args.x.now in
    let r = c.requires in
    let low = c.open_shape.ensures ∙ ap opened c.in_ok-copy.ensures in
    breaks_finds code a c.args.came.now c.args.p x i r.action_is r.there r.came_there r.handlers r.long (subst (λ es. Agrees a c.args.came.now es true) r.along r.agrees)
    (ap (finds i) (sym low) ∙ missed_from (finds i (at_of c.open_shape.new.x)) (sym c.misses.ensures ∙ c.if-misses.true))

pub returns-then-branch : goal.returns-then-branch
returns-then-branch c =
    let code = code_of c.args.code.now in
    let a = carried code (rows_of c.args.table.now) in
    let i = action_of c.args.action.now in
    let x = at_of c.args.x.now in
    let r = c.requires in
    let low = c.open_shape.ensures ∙ ap opened c.in_ok-copy.ensures in
    breaks_put code a c.args.came.now c.args.p x i r.action_is r.there r.came_there r.handlers (found_from (finds i x) (sym c.misses-2.ensures ∙ c.if-misses-2.false)) r.long
    (subst (λ es. Agrees a c.args.came.now es true) r.along r.agrees)
    (subst (λ y. Clashes a c.args.came.now (edges code i c.args.p y)) low (OnTrue_at c.if-branch.true c.in_ok-clashes_first.ensures))

pub broken_behind-requires-clause-height : goal.broken_behind-requires-clause-height
broken_behind-requires-clause-height c = found_from (finds (action_of c.args.action.now) (at_of c.args.x.now)) (sym c.misses-2.ensures ∙ c.if-misses-2.false)
