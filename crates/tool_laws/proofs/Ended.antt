-- A run whose steps suffice ends as its program means.
use Rattle.std.proofs.Common.{◌≡◌, ℕ, ◌+◌, ◌*◌, ◌≤◌, List, Option, Some, sym, ap, subst, ◌∙◌}
use Rattle.std.specs.Prelude.{IfSome, Ok}
use Rattle.mpy_base.specs.declared.room.Room.{Room}
use Rattle.mpy_base.specs.World.{PortState}
use Rattle.mpy_io.specs.Files.{FileOf}
use Rattle.mpy_io.specs.Ports.{PortView}
use Rattle.bc_library.specs.Shelf.{Shelf}
use Rattle.py_effects.specs.Ends.{Run}
use Rattle.py_meaning.specs.Program.{Program}
use Rattle.py_meaning.specs.Meaning.{meaning}
use Rattle.bc_scheme.specs.Correct.{HasEnded}
use Rattle.meant_files.specs.Sources.{IsProgramOfSources}
use Rattle.command_files.specs.Outside.{Outside}
use Rattle.mpy_endings.specs.Ending.{IsRunStatus}
use Rattle.meant_commands.specs.run_commands.Base.{base_of}
use Rattle.meant_commands.specs.run_commands.declared.ready.Ready.{Ready}
use Rattle.meant_commands.specs.run_commands.Ready.{GoLibrary, RunLibrary}
use Rattle.meant_commands.specs.run_commands.Run.{EndsRun}
use Rattle.meant_commands.specs.GoMeant.{GoMeans, MeansSources}
use Rattle.meant_commands.specs.Meant.{DoesAsMeant, HoldsProgram, RunMeans, end_status}
use Rattle.tool_laws.specs.Runs.{AnswersOnce, OnFiles, SettledRun}
use Rattle.tool_laws.proofs.Settling.{run_ends}

-- it ends so, where its meaning has ended in t turns
pub ends_so : (program : Program) (room : Room) (steps : ℕ) (states : List PortState) (old new : Outside) (ports_new : List PortView) (status t : ℕ)
    → DoesAsMeant program room steps states old new ports_new status → IsRunStatus status → HasEnded (meaning program room.cells room.bytes states t) → 16 * t + 16 ≤ steps
    → status ≡ end_status (meaning program room.cells room.bytes states t).end
ends_so program room steps states old new ports_new status t does is ended within =
    let prints = does.ended is in
    prints.status_is ∙ ap (λ (r : Run). end_status r.end) (prints.means.in_time t ended within)

module _ (room : Room) (steps : ℕ) (files : FileOf) (name printed : List ℕ) (ports : List PortView) (states : List PortState) where
  module _ (level : ℕ) (law : (old new : Outside) (ports_old ports_new : List PortView) (status : ℕ) → EndsRun (GoLibrary level) room steps name old new ports_old ports_new status
      → GoMeans level room steps name old new ports_old ports_new status) (once : AnswersOnce (GoLibrary level (Some files) name)) where
    pub go_ends : (ready : Ready) (program : Program) (t status : ℕ) → GoLibrary level (Some files) name (Ok ready) → IsProgramOfSources files (base_of name) name level program
        → HasEnded (meaning program room.cells room.bytes states t) → 16 * t + 16 ≤ steps
        → SettledRun (OnFiles files (EndsRun (GoLibrary level) room steps name)) printed ports states status
        → status ≡ end_status (meaning program room.cells room.bytes states t).end
    go_ends ready program t status loads is ended within x =
        let made = run_ends (GoLibrary level) room steps name files printed ports states once ready loads status x in
        let means = subst (λ (f : Option FileOf). IfSome f (MeansSources level room steps name x.old x.new ports x.ports_new status)) x.went.0 (law x.old x.new ports x.ports_new status x.went.1) in
        ends_so program room steps states x.old x.new x.ports_new status t (means.means program is states printed x.told x.accounted x.out) made ended within

  module _ (below : Shelf) (main : List ℕ) (law : (old new : Outside) (ports_old ports_new : List PortView) (status : ℕ)
      → EndsRun (RunLibrary below main) room steps name old new ports_old ports_new status → RunMeans (RunLibrary below main) room steps name old new ports_old ports_new status)
      (once : AnswersOnce (RunLibrary below main (Some files) name)) where
    pub run_ends_so : (ready : Ready) (program : Program) (t status : ℕ) → RunLibrary below main (Some files) name (Ok ready) → HoldsProgram (RunLibrary below main) (Some files) name program
        → HasEnded (meaning program room.cells room.bytes states t) → 16 * t + 16 ≤ steps
        → SettledRun (OnFiles files (EndsRun (RunLibrary below main) room steps name)) printed ports states status
        → status ≡ end_status (meaning program room.cells room.bytes states t).end
    run_ends_so ready program t status loads holds ended within x =
        let made = run_ends (RunLibrary below main) room steps name files printed ports states once ready loads status x in
        let held = subst (λ (f : Option FileOf). HoldsProgram (RunLibrary below main) f name program) (sym x.went.0) holds in
        let does = law x.old x.new ports x.ports_new status x.went.1 program held states printed x.told x.accounted x.out in
        ends_so program room steps states x.old x.new x.ports_new status t does made ended within
