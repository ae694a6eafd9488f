use Rattle.std.proofs.Common.{◌≡◌, ℕ, List, sym, subst, ap, ◌∙◌, refl}
use Rattle.mpy_base.specs.World.{PortState, AModule, IsA}
use Rattle.mpy_base.specs.Val.{PlainWorld}
use Rattle.bc_library.specs.Shelf.{Shelf}
use Rattle.bc_machine.specs.py_effects.Ends.{new_world}
use Rattle.bc_machine.specs.Growth.{world_of}
use Rattle.bc_machine.specs.Library.{Name}
use Rattle.bc_machine.specs.State.{State}
use Rattle.bc_machine.specs.Machine.{steps, start, run_of}
use Rattle.vm_starting.specs.vm_states.Means.{Program}
use Rattle.vm_starting.specs.Programs.{IsProgramOf}
use Rattle.vm_starting.specs.declared.opening.Vm.{Vm}
use Rattle.vm_machine.specs.Machine.{IsVm, machine_of, world_in}
use Rattle.snap_laws.specs.Filled.{AreFilled, HoldsBytes}
use Rattle.snap_laws.specs.Kept.{WaitsWell, IsPaid}
use Rattle.snap_laws.specs.States as laws
use Rattle.snap_kept.specs.Files as kept
use Rattle.snap_kept.specs.Frames.{IsKept}
use Rattle.snap_loading.specs.Saved.{Keeps}
use Rattle.snap_loading.proofs.Suspending.{Runs, machine_runs, is_held, stays_first, begins_first, world_is, keeps_by}
use Rattle.snap_loading.proofs.suspended.suspended_law.Goals as goal

same_files : (p : Program) → laws.OfFiles p.library → kept.OfFiles p.library
same_files p o = record { files = λ name m e. let f = o.files name m e in record { held = f.held; tree = f.tree; resolves = f.resolves; is = f.is } }

pub returns : goal.returns
returns c shelf main cells bytes ports n vm is on bounds to = record {
  goes_on = on;
  keeps = λ p program w.
      let r = to.stands p program in
      let first = start p.library main (new_world cells bytes ports) in
      let runs : Runs (steps p.library n first) = subst Runs (sym r.1) (machine_runs p vm r.0 on (is.runs on p program).state.running.fits) in
      let held = is_held p.library main cells bytes ports n (λ k m le. c.sound_law.ensures.runs p.library main cells bytes ports k m le) runs in
      let constants = c.constants_law.ensures p.library (same_files p (c.files_law.ensures shelf p program)) in
      keeps_by p vm r.0 w (record {
        kept = subst (IsKept p.library) r.1 (c.values_law.ensures.run p.library p.plans main held.0 cells bytes ports n constants program.means.follows held.1);
        waits = subst (WaitsWell p.library) r.1 (c.waits_law.ensures.run p.library main (new_world cells bytes ports) n);
        filled = subst (λ s. AreFilled (world_of s).heap) r.1 (c.filled_law.ensures.run p.library main cells bytes ports n);
        bytes = subst (λ s. HoldsBytes (world_of s).heap) r.1 (c.bytes_law.ensures.run p.library main cells bytes ports n);
      });
  paid = λ p program.
      let r = to.stands p program in
      (r.0, subst (IsPaid p.library) r.1 (c.paid_law.ensures.run p.library main (new_world cells bytes ports) n));
  within = bounds;
}
