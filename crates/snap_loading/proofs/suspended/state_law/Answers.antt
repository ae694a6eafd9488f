use Rattle.std.proofs.Common.{None, refl}
use Rattle.vm_starting.specs.vm_states.vm_frames.Calls.{Calls}
use Rattle.vm_starting.specs.declared.opening.Vm.{Vm}
use Rattle.vm_machine.specs.Machine.{machine_of}
use Rattle.snap_loading.specs.Same.{StandsFor}
use Rattle.snap_loading.specs.Saved.{snapshot_in}
use Rattle.snap_loading.proofs.suspended.state_law.Goals as goal

pub returns : goal.returns
returns c shelf vm tabled named is saved roomy first =
    let s = snapshot_in shelf vm in
    let shaped = c.shaped_law.ensures shelf vm tabled named is saved roomy in
    record {
      shaped = shaped;
      few_paid = saved.within.few_paid;
      -- what is paid in the machine is so in each that its snapshot stands for
      paid = λ heap modules calls decoded p program w.
          let frames : Calls = vm.frames in
          let other : Vm = record vm { arena = heap; modules = modules; frames = record frames { calls = calls }; end = None } in
          let stands : StandsFor shelf s other = record { goes_on = refl; paid = refl; shaped = shaped; decoded = decoded } in
          let same = c.loaded_law.ensures shelf vm other s tabled named is saved first refl stands in
          let own = saved.paid p program in
          c.paid_anywhere_law.ensures.machines p other own.0 w
          (c.paid_too_law.ensures same.renaming p.library (machine_of p vm own.0) (machine_of p other own.0) (same.keeps p program) (same.states p program own.0) own.1);
    }
