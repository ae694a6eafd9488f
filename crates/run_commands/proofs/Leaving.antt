-- What a run leaves that saves its state.
use Rattle.std.proofs.Common.{◌≡◌, ◌⊎◌, inl, inr, ℕ, ◌≤◌, List, Option, Some, None, refl, sym, ap, subst, ◌∙◌}
use Rattle.mpy_base.specs.declared.room.Room.{Room}
use Rattle.mpy_base.specs.World.{PortState}
use Rattle.mpy_io.specs.Files.{FileOf}
use Rattle.mpy_io.specs.Ports.{PortView}
use Rattle.port_set.specs.Calls.{Tell}
use Rattle.port_set.specs.Counts.{AreAccounted}
use Rattle.bc_library.specs.Shelf.{Shelf}
use Rattle.library_runs.specs.vm_frames.bc_machine.Library.{Name}
use Rattle.library_runs.specs.vm_frames.bc_machine.Machine.{run}
use Rattle.library_runs.specs.vm_starting.declared.opening.Vm.{Vm}
use Rattle.library_runs.specs.declared.ending.RunEnd.{RunEnd}
use Rattle.library_runs.specs.declared.ending.RunEnd.TheVariants as ends
use Rattle.library_runs.specs.Runs.{RunsAs, RunsSo, Sight, StandsAt, StandsSo}
use Rattle.command_files.specs.image_runs.declared.fault.MainFault.TheVariants as mains
use Rattle.command_files.specs.mpy_endings.declared.ending.Ending.{Ending}
use Rattle.command_files.specs.mpy_endings.declared.ending.Ending.TheVariants.{Done, Unaccepted, Unread, Unverified, Unmerged, Unopened, Unfrozen, Unboarded, Different, Stopped, ReadFault, WriteFault, Unwritten, NoMemory, Absent}
use Rattle.command_files.specs.mpy_endings.declared.ending.Stop.TheVariants.{Past, LibraryFault, LibraryUnaccepted, Raised, Memory, Steps, Unsaved, Unresumed}
use Rattle.command_files.specs.mpy_endings.Ending.{status_of}
use Rattle.command_files.specs.Outside.{Outside}
use Rattle.run_commands.specs.Ready.{RunLibrary}
use Rattle.run_commands.specs.Run.{sight_in}
use Rattle.run_commands.specs.Save.{EndsRunTo, RunsSaving, Saved, Suspends}
use Rattle.run_commands.specs.Suspended.{LeavesRun, SavesRun}
use Rattle.run_commands.proofs.Resting.{grew_by, tells_same}

abbrev pub StandSo : Type 0
StandSo = (shelf : Shelf) (name : Name) (room : Room) (steps : ℕ) (old new : Sight) (vm : Vm) → AreAccounted old.ports new.ports → StandsAt shelf name room steps old new vm
    → StandsSo shelf name room steps old vm

abbrev pub RunSo : Type 0
RunSo = (shelf : Shelf) (name : Name) (room : Room) (steps : ℕ) (old new : Sight) (end : RunEnd) (said : List ℕ) → AreAccounted old.ports new.ports
    → RunsAs shelf name room steps old new end said → RunsSo shelf name room steps old new end said

module _ (stand_so : StandSo) (run_so : RunSo) (below : Shelf) (main : List ℕ) (room : Room) (few_cells : room.cells ≤ 4194304) (few_bytes : room.bytes ≤ 16777216) (steps : ℕ)
    (name : List ℕ) (old new : Outside) (ports_old ports_new : List PortView) where
  abbrev before : Sight
  before = sight_in old ports_old

  abbrev after : Sight
  after = sight_in new ports_new

  module _ (snap : List ℕ) (said : List ℕ) where
    abbrev Stopped_so : Type 0
    Stopped_so = Suspends (RunLibrary below main old.files name) room steps before after said (Saved snap old.files new.files)

    abbrev Went : Ending → Type 0
    Went ending = RunsSaving (RunLibrary below main old.files name) room steps before after said snap old.files new.files ending

    -- only a run that was stopped by its steps, and whose state was saved, has this status
    stopped : (ending : Ending) → 5 ≡ status_of ending → Went ending → Stopped_so
    stopped Done e h = absurd cc
    stopped (Unaccepted fault) e h = absurd cc
    stopped (Unread fault) e h = absurd cc
    stopped (Unverified fault) e h = absurd cc
    stopped (Unmerged fault) e h = absurd h.0
    stopped (Unopened (mains.Image fault)) e h = absurd cc
    stopped (Unopened (mains.NoMain main)) e h = absurd cc
    stopped (Unfrozen fault) e h = absurd h.0
    stopped (Unboarded fault) e h = absurd h.0
    stopped (Different difference) e h = absurd h.0
    stopped (Stopped (Past limit)) e h = absurd cc
    stopped (Stopped (LibraryFault path)) e h = absurd cc
    stopped (Stopped (LibraryUnaccepted source)) e h = absurd cc
    stopped (Stopped Raised) e h = absurd cc
    stopped (Stopped Memory) e h = absurd cc
    stopped (Stopped (Steps count)) e h = h.0
    stopped (Stopped Unsaved) e h = absurd cc
    stopped (Stopped (Unresumed fault)) e h = absurd h.0
    stopped ReadFault e h = absurd cc
    stopped WriteFault e h = absurd cc
    stopped Unwritten e h = absurd cc
    stopped NoMemory e h = absurd cc
    stopped Absent e h = absurd cc

    leaves : Stopped_so → (ports : List PortState) (printed : List ℕ) → Tell ports_old ports → AreAccounted ports_old ports_new → old.out ≡ Some printed
        → LeavesRun (RunLibrary below main old.files name) room steps snap ports before after old.files new.files
    leaves h ports printed told all out =
        let shelf = h.ready.library in
        let so = run_so shelf h.ready.main room steps before after ends.Limit said all h.runs in
        let first = so h.runs.program.0 h.runs.program.1 ports printed out told in
        let saved = h.saves.1 in
        let here = run h.runs.program.0.library h.ready.main room.cells room.bytes ports steps in
        record {
          ready = h.ready;
          comes = h.comes;
          printed = here.world.output;
          left = here.world.ports;
          bytes = h.saves.0;
          prints = first.output;
          told = first.told;
          written = h.saves.2;
          suspended = λ names. record {
            names = names;
            vm = h.vm;
            suspended = record {
              is_vm = h.stands.is_vm;
              goes_on = h.stands.goes_on;
              runs = record { stands = λ p is. stand_so shelf h.ready.main room steps before after h.vm all h.stands p is ports printed out told };
              held = saved.held;
              few_cells = few_cells;
              few_bytes = few_bytes;
              few_calls = saved.few_calls;
              few_steps = saved.few_steps;
              fits = saved.fits;
              spelled = saved.is.is;
            };
            few_bytes = saved.few_bytes;
            runs = λ p is.
                let ran = so p is ports printed out told in
                let there = run p.library h.ready.main room.cells room.bytes ports steps in
                record {
                  prints = grew_by before.out after.out printed there.world.output here.world.output out ran.output first.output;
                  leaves = tells_same after.ports there.world.ports here.world.ports ran.told first.told;
                };
          };
        }

  pub saves_run : (saved : Option (List ℕ)) (status : ℕ) → EndsRunTo saved (RunLibrary below main) room steps name old new ports_old ports_new status
      → SavesRun saved (RunLibrary below main) room steps name old new ports_old ports_new status
  saves_run None status ended = tt
  saves_run (Some snap) status ended = λ five ports printed told all out.
      leaves snap ended.said (stopped snap ended.said ended.ending (sym five ∙ ended.status_is) ended.went) ports printed told all out
