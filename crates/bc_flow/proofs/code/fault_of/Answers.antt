use Rattle.std.proofs.Common.{arith}
use Rattle.bc_flow.specs.Code.{LeavesCode}
use Rattle.bc_flow.proofs.Items.{jump_alone, local_alone}
use Rattle.bc_flow.proofs.code.fault_of.Goals as goal

pub returns-then-leaves_code-clause-local : goal.returns-then-leaves_code-clause-local
returns-then-leaves_code-clause-local c =
    let leaves : LeavesCode c.len.result c.args.item.now = c.leaves_code.ensures.0 c.if-leaves_code.true in
    let none = (jump_alone c.len.result c.args.item.now leaves).0 in
    (λ e. cc, λ lt. absurd (omega (arith, lt, none)))

pub returns-then-leaves_code-clause-state : goal.returns-then-leaves_code-clause-state
returns-then-leaves_code-clause-state c =
    let leaves : LeavesCode c.len.result c.args.item.now = c.leaves_code.ensures.0 c.if-leaves_code.true in
    let none = (jump_alone c.len.result c.args.item.now leaves).1 in
    (λ e. cc, λ lt. absurd (omega (arith, lt, none)))

pub returns-then-code-item_locals-clause-state : goal.returns-then-code-item_locals-clause-state
returns-then-code-item_locals-clause-state c =
    let none = local_alone c.args.item.now (omega (arith, c.item_locals.ensures, c.if-code-item_locals.true)) in
    (λ e. cc, λ lt. absurd (omega (arith, lt, none)))
