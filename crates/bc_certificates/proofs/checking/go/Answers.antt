use Rattle.std.proofs.Common.{◌≡◌, ◌∙◌, ap, sym, suc, length, Some, None, rules}
use Rattle.std.proofs.lemmas.Bool.{OnTrue_at}
use Rattle.bc_flow.specs.bc_shapes.Views.{at_of}
use Rattle.bc_flow.specs.Code.{code_of}
use Rattle.bc_flow.specs.Edges.{edge_of, arrive, Next}
use Rattle.bc_flow.specs.Views.{action_of, behind_of, edge_of_rust}
use Rattle.bc_certificates.specs.Rows.{at_if, brought}
use Rattle.bc_certificates.specs.Checking.{Kept, rows_of}
use Rattle.bc_certificates.proofs.Checks.{go_ends, go_falls, behind_from}
use Rattle.bc_certificates.proofs.checking.go.Goals.{After-held-1, After-swap}
use Rattle.bc_certificates.proofs.checking.go.Goals as goal

-- behind an instruction that ends the flow
ends : (c : After-held-1) → Kept (code_of c.args.code.now) (rows_of c.args.table.now) c.args.p (at_of c.args.held.now.x) × (None ≡ brought (code_of c.args.code.now) c.args.p (Some (at_of c.args.held.now.x)))
ends c =
    let i = action_of c.args.action.now in
    go_ends (code_of c.args.code.now) (rows_of c.args.table.now) i c.args.p (at_of c.args.held.now.x) c.requires.is (OnTrue_at c.if-not-branch.false c.in_ok-stands.ensures) (sym c.falls.ensures ∙ c.if-not-falls.true)

-- and behind one that goes on
goes_on : (c : After-swap) → Kept (code_of c.args.code.now) (rows_of c.args.table.now) c.args.p (at_of c.args.held.now.x) × (Some (edge_of_rust c.next_edge.result).at ≡ brought (code_of c.args.code.now) c.args.p (Some (at_of c.args.held.now.x)))
goes_on c =
    let i = action_of c.args.action.now in
    let x = at_of c.args.held.now.x in
    let long : c.len.result ≡ length x.slots = search rules in
    let behind_is = behind_from i x c.change_of.result c.len.result c.deref.result.now (behind_of c.entries_behind-behind.result) c.entries_behind-behind.ensures c.change_of.ensures long c.deref.ensures.value in
    let e = c.next_edge.ensures x c.base-base.ensures ∙ ap (λ z. edge_of i x (arrive (suc c.args.p) z Next)) behind_is in
    go_falls (code_of c.args.code.now) (rows_of c.args.table.now) i c.args.p x (edge_of_rust c.next_edge.result) c.requires.is (OnTrue_at c.if-not-branch.false c.in_ok-stands.ensures) (sym c.falls.ensures ∙ c.if-not-falls.false) e (OnTrue_at c.if-not-branch-2.false c.in_ok-falls_to.ensures.may)

pub returns-then-not-falls-clause-keeps : goal.returns-then-not-falls-clause-keeps
returns-then-not-falls-clause-keeps c = (ends c).0

pub returns-then-not-falls-clause-brings : goal.returns-then-not-falls-clause-brings
returns-then-not-falls-clause-brings c = (ends c).1

pub returns-clause-keeps : goal.returns-clause-keeps
returns-clause-keeps c = (goes_on c).0

pub returns-clause-brings : goal.returns-clause-brings
returns-clause-brings c =
    ap (λ b. at_if b (at_of c.swap.new.x)) c.requires.here
    ∙ ap (λ z. Some (at_of z)) c.swap.ensures.x_after
    ∙ ap Some (OnTrue_at c.if-not-branch-2.false c.in_ok-falls_to.ensures.brings)
    ∙ (goes_on c).1
