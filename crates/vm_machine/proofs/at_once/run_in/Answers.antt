use Rattle.std.proofs.Common.{◌+◌, refl, sym, subst, arith}
use Rattle.vm_starting.specs.declared.opening.Vm.{Vm}
use Rattle.vm_machine.specs.Acting.{Stepped}
use Rattle.vm_machine.proofs.AtOnce.{at_once, stays, more_at_once}
use Rattle.vm_machine.proofs.Fetched.{runs_over}
use Rattle.vm_machine.proofs.at_once.run_in.Goals as goal

pub fetch_in-requires-clause-vm : goal.fetch_in-requires-clause-vm
fetch_in-requires-clause-vm c = c.steps.invariant.0.stepped.vm

pub act_at_once-requires : goal.act_at_once-requires
act_at_once-requires c =
    let h = c.in-Some.ensures in
    record { runs = runs_over c.args.library.now c.steps.vm h.0 c.in-Some.fetched h.1 }

pub steps-preserved : goal.steps-preserved
steps-preserved c =
    let h = c.in-Some.ensures in
    let few = c.in-Some-act_at_once.ensures.acts.1 in (
      more_at_once c.args.library.now c.args.vm.now c.steps.vm (record c.steps.vm { frames = c.act_at_once.new.frames }) c.steps.taken (c.in-Some-act_at_once.visits + 1) c.args.most c.steps.invariant.0 (omega (arith, few, c.steps-test.true))
          (at_once c.args.library.now h.0 c.in-Some.fetched c.steps.vm h.1 c.act_at_once.new.frames c.steps.vm.arena c.steps.invariant.0.unpaid c.in-Some-act_at_once.visits c.in-Some-act_at_once.ensures.acts.0 c.step_law.ensures c.registered_law.ensures.stays)
          c.steps.invariant.0.unpaid,
      c.steps.invariant.1,
    )

pub returns-in-None-act_at_once-clause-stepped : goal.returns-in-None-act_at_once-clause-stepped
returns-in-None-act_at_once-clause-stepped c =
    let h = c.in-Some.ensures in
    let same = stays c.args.library.now h.0 c.in-Some.fetched c.steps.vm h.1 c.act_at_once.new.frames c.steps.vm.arena c.in-None-act_at_once.ensures.acts refl in
    subst (λ (v : Vm). Stepped c.args.library.now c.steps.taken c.args.vm.now v) (sym same) c.steps.invariant.0.stepped
