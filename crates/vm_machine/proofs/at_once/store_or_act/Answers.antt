use Rattle.std.proofs.Common.{sym, subst}
use Rattle.vm_kept.specs.state_calls.bc_rows.declared.row.Row.{Row}
use Rattle.vm_starting.specs.declared.opening.Vm.{Vm}
use Rattle.vm_machine.specs.Acting.{HasFetched, Stepped}
use Rattle.vm_machine.proofs.AtOnce.{at_once, stays}
use Rattle.vm_machine.proofs.Fetched.{runs_over}
use Rattle.vm_machine.proofs.at_once.store_or_act.Goals as goal

pub store_at_once-requires : goal.store_at_once-requires
store_at_once-requires c =
    let h = c.requires.fetched in record { runs = runs_over c.args.library.now c.args.vm.now h.0 c.args.fetched h.1 }

pub returns-then-store_at_once-clause-stepped : goal.returns-then-store_at_once-clause-stepped
returns-then-store_at_once-clause-stepped c =
    let h = c.requires.fetched in
    at_once c.args.library.now h.0 c.args.fetched c.args.vm.now h.1 c.store_at_once.new.frames c.store_at_once.new.arena c.requires.unpaid 0 (c.store_at_once.ensures.done c.if-store_at_once.true) c.step_law.ensures c.registered_law.ensures.stays

pub act_unpaid-requires-clause-fetched : goal.act_unpaid-requires-clause-fetched
act_unpaid-requires-clause-fetched c =
    let h = c.requires.fetched in
    let left = c.store_at_once.ensures.left c.if-store_at_once.false in
    let same = stays c.args.library.now h.0 c.args.fetched c.args.vm.now h.1 c.store_at_once.new.frames c.store_at_once.new.arena left.0 left.1 in
    subst (λ (v : Vm). (row : Row) × HasFetched c.args.library.now v row c.args.fetched) (sym same) h

pub returns-else-store_at_once-clause-stepped : goal.returns-else-store_at_once-clause-stepped
returns-else-store_at_once-clause-stepped c =
    let h = c.requires.fetched in
    let left = c.store_at_once.ensures.left c.if-store_at_once.false in
    let same = stays c.args.library.now h.0 c.args.fetched c.args.vm.now h.1 c.store_at_once.new.frames c.store_at_once.new.arena left.0 left.1 in
    subst (λ (v : Vm). Stepped c.args.library.now c.act_unpaid.result v c.act_unpaid.new.vm) same c.act_unpaid.ensures.stepped
