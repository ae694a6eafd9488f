use Rattle.std.proofs.Common.{◌≡◌, ◌<◌, ◌^◌, refl, arith, rules}
use Rattle.snap_states.specs.States.{IsShaped}
use Rattle.snap_loading.proofs.Judged.{StandsForOne, loaded, one_fault, pays_no_more}
use Rattle.snap_loading.proofs.Readied.{library_is}
use Rattle.snap_loading.proofs.loading.machine_at.Goals as goal

pub returns-in-Some-clause-loaded : goal.returns-in-Some-clause-loaded
returns-in-Some-clause-loaded c =
    let shelf = c.args.library.now in
    let s = c.args.snapshot.now in
    let old = c.in_ok-vm.vm in
    let shaped : IsShaped shelf s = search rules in
    let few : s.paid < 2 ^ 63 = search rules in
    let modules = c.library_law.ensures.few in
    let library = library_is shelf old.names.items c.library_law.ensures.first (omega (arith, modules)) c.in_ok-vm.ensures.vm.memory.names in
    let is = c.in_ok-vm.ensures.decoded in
    let one : StandsForOne shelf s = λ heap other modules others calls more a b. c.one_state_law.ensures shelf s heap other modules others calls more c.titles_law.ensures.one shaped a b in
    let shown = c.shown_law.ensures shelf s old.arena old.modules old.frames.calls library c.requires.runnable shaped is in
    loaded shelf s old c.in-Some.vm c.in_ok-vm.ensures.goes_on c.in_ok-vm.ensures.paid is c.requires.fits shaped few one c.in-Some.ensures.paid shown c.in-Some.ensures.same

pub returns-in-None-clause-fault : goal.returns-in-None-clause-fault
returns-in-None-clause-fault c fault e = (
  one_fault _ fault e,
  λ h. c.if_paid.ensures.unpaid c.in-None.is
      (pays_no_more c.args.library.now c.args.snapshot.now c.in_ok-vm.vm c.in_ok-vm.ensures.goes_on c.in_ok-vm.ensures.paid c.in_ok-vm.ensures.decoded h),
)
