-- From endings to statuses.
use Rattle.std.proofs.Common.{◌≡◌, ℕ, List, Option, Some, refl, sym, ap, subst, ◌∙◌}
use Rattle.std.specs.Prelude.{Result, Ok}
use Rattle.mpy_base.specs.declared.room.Room.{Room}
use Rattle.mpy_base.specs.World.{PortState}
use Rattle.mpy_io.specs.Files.{FileOf}
use Rattle.mpy_io.specs.Ports.{PortView}
use Rattle.meant_commands.specs.run_commands.library_runs.Runs.{Sight}
use Rattle.manifest_files.specs.declared.frozen_fault.SourcesFault.TheVariants as sources
use Rattle.manifest_files.specs.declared.frozen_fault.FrozenFault.TheVariants as frozen
use Rattle.mpy_endings.specs.declared.ending.Ending.{Ending}
use Rattle.mpy_endings.specs.declared.ending.Ending.TheVariants.{Done, Unaccepted, Unread, Unverified, Unmerged, Unopened, Unfrozen, Unboarded, Different, Stopped, ReadFault, WriteFault, Unwritten, NoMemory, Absent}
use Rattle.mpy_endings.specs.declared.ending.BoardFault.TheVariants as boards
use Rattle.mpy_endings.specs.declared.ending.Stop.TheVariants.{Past, LibraryFault, LibraryUnaccepted, Raised, Memory, Steps, Unsaved, Unresumed}
use Rattle.mpy_endings.specs.Ending.{IsSettled, IsRunStatus, status_of}
use Rattle.command_files.specs.Outside.{Ends, EndsAt, Outside, Writes, WritesOf}
use Rattle.meant_commands.specs.run_commands.declared.ready.Ready.{Ready}
use Rattle.meant_commands.specs.run_commands.Run.{EndsRun, Runs, sight_in}
use Rattle.meant_commands.specs.Alike.{Tells}
use Rattle.tool_laws.specs.Once.{EndOnce, IsDone, IsSettledStatus, OneStatus, Settled, Succeeds}
use Rattle.tool_laws.specs.Runs.{AnswersOnce, OnFiles, RunLaws, SettledRun}
use Rattle.tool_laws.proofs.Running.{one_run, run_made}

pub settled_of : (ending : Ending) → IsSettledStatus (status_of ending) → IsSettled ending
settled_of Done s = tt
settled_of (Unaccepted fault) s = tt
settled_of (Unread fault) s = tt
settled_of (Unverified fault) s = tt
settled_of (Unmerged fault) s = tt
settled_of (Unopened fault) s = tt
settled_of (Unfrozen (frozen.Sources (sources.Manifest fault))) s = refl
settled_of (Unfrozen (frozen.Sources (sources.Absent name))) s = refl
settled_of (Unfrozen (frozen.Sources (sources.Unaccepted name fault))) s = refl
settled_of (Unfrozen (frozen.Sources (sources.Unread name))) s = absurd (s.reads refl)
settled_of (Unfrozen (frozen.Image fault)) s = refl
settled_of (Unboarded (boards.Plan fault)) s = refl
settled_of (Unboarded (boards.NoModule name)) s = refl
settled_of (Unboarded (boards.Unwritten task)) s = absurd (s.writes refl)
settled_of (Different difference) s = tt
settled_of (Stopped (Past limit)) s = tt
settled_of (Stopped (LibraryFault path)) s = absurd (s.reads refl)
settled_of (Stopped (LibraryUnaccepted source)) s = tt
settled_of (Stopped Raised) s = tt
settled_of (Stopped Memory) s = tt
settled_of (Stopped (Steps count)) s = tt
settled_of (Stopped Unsaved) s = tt
settled_of (Stopped (Unresumed fault)) s = tt
settled_of ReadFault s = absurd (s.reads refl)
settled_of WriteFault s = absurd (s.writes refl)
settled_of Unwritten s = absurd (s.writes refl)
settled_of NoMemory s = absurd (s.memory refl)
settled_of Absent s = tt

pub settled_by : (ending : Ending) (status : ℕ) → status ≡ status_of ending → IsSettledStatus status → IsSettled ending
settled_by ending status is s = settled_of ending (subst IsSettledStatus is s)

-- commands that run nothing
-- =========================

module _ (files : FileOf) where
  module _ (Relates : Option FileOf → List ℕ → Ending → Option (List ℕ) → Option (List ℕ) → Type 0) (name : List ℕ) where
    abbrev Ending_with : (before behind : Option (List ℕ)) → Ending → Type 0
    Ending_with before behind ending = Relates (Some files) name ending before behind

    ended : (status : ℕ) (x : Settled (Ends Relates name) files status) → Ending_with x.old.out x.new.out x.went.ending
    ended status x = subst (λ (f : Option FileOf). Relates f name x.went.ending x.old.out x.new.out) x.tells x.went.went

    pub ends_once : ((before behind printed after : Option (List ℕ)) → EndOnce (Ending_with before behind) (Ending_with printed after)) → OneStatus (Ends Relates name) files
    ends_once once one other x y =
        let same = once x.old.out x.new.out y.old.out y.new.out x.went.ending y.went.ending (settled_by x.went.ending one x.went.status_is x.settled)
        (settled_by y.went.ending other y.went.status_is y.settled) (ended one x) (ended other y) in
        x.went.status_is ∙ (ap status_of same ∙ sym y.went.status_is)

    pub ends_done : ((before behind : Option (List ℕ)) → IsDone (Ending_with before behind)) → Succeeds (Ends Relates name) files
    ends_done done status x =
        x.went.status_is ∙ ap status_of (done x.old.out x.new.out x.went.ending (settled_by x.went.ending status x.went.status_is x.settled) (ended status x))

  module _ (Relates : Option FileOf → Option FileOf → Ending → Type 0) (read written : List ℕ) where
    wrote : (status : ℕ) (x : Settled (Writes Relates read written) files status) → Relates (Some files) x.new.files x.went.ending
    wrote status x = subst (λ (f : Option FileOf). Relates f x.new.files x.went.ending) x.tells x.went.went

    pub writes_once : ((a b : Option FileOf) → EndOnce (Relates (Some files) a) (Relates (Some files) b)) → OneStatus (Writes Relates read written) files
    writes_once once one other x y =
        let same = once x.new.files y.new.files x.went.ending y.went.ending (settled_by x.went.ending one x.went.status_is x.settled)
        (settled_by y.went.ending other y.went.status_is y.settled) (wrote one x) (wrote other y) in
        x.went.status_is ∙ (ap status_of same ∙ sym y.went.status_is)

    pub writes_done : ((new : Option FileOf) → IsDone (Relates (Some files) new)) → Succeeds (Writes Relates read written) files
    writes_done done status x =
        x.went.status_is ∙ ap status_of (done x.new.files x.went.ending (settled_by x.went.ending status x.went.status_is x.settled) (wrote status x))

  module _ (Relates : Option FileOf → Option FileOf → ℕ → Ending → Type 0) (words : List (List ℕ)) where
    wrote_of : (status : ℕ) (x : Settled (WritesOf Relates words) files status) → Relates (Some files) x.new.files x.went.place x.went.ending
    wrote_of status x = subst (λ (f : Option FileOf). Relates f x.new.files x.went.place x.went.ending) x.tells x.went.went

    pub writes_of_once : ((a b : Option FileOf) (place another : ℕ) → EndOnce (Relates (Some files) a place) (Relates (Some files) b another)) → OneStatus (WritesOf Relates words) files
    writes_of_once once one other x y =
        let same = once x.new.files y.new.files x.went.place y.went.place x.went.ending y.went.ending (settled_by x.went.ending one x.went.status_is x.settled)
        (settled_by y.went.ending other y.went.status_is y.settled) (wrote_of one x) (wrote_of other y) in
        x.went.status_is ∙ (ap status_of same ∙ sym y.went.status_is)

    pub writes_of_done : ((new : Option FileOf) (place : ℕ) → IsDone (Relates (Some files) new place)) → Succeeds (WritesOf Relates words) files
    writes_of_done done status x =
        x.went.status_is ∙ ap status_of (done x.new.files x.went.place x.went.ending (settled_by x.went.ending status x.went.status_is x.settled) (wrote_of status x))

  module _ (Relates : (old new : Option FileOf) → (before behind : Option (List ℕ)) → (place : ℕ) → Ending → Type 0) (words : List (List ℕ)) where
    ended_at : (status : ℕ) (x : Settled (EndsAt Relates words) files status) → Relates (Some files) x.new.files x.old.out x.new.out x.went.place x.went.ending
    ended_at status x = subst (λ (f : Option FileOf). Relates f x.new.files x.old.out x.new.out x.went.place x.went.ending) x.tells x.went.went

    pub ends_at_once : ((a b : Option FileOf) (before behind printed after : Option (List ℕ)) (place another : ℕ)
        → EndOnce (Relates (Some files) a before behind place) (Relates (Some files) b printed after another)) → OneStatus (EndsAt Relates words) files
    ends_at_once once one other x y =
        let same = once x.new.files y.new.files x.old.out x.new.out y.old.out y.new.out x.went.place y.went.place x.went.ending y.went.ending
        (settled_by x.went.ending one x.went.status_is x.settled) (settled_by y.went.ending other y.went.status_is y.settled) (ended_at one x) (ended_at other y) in
        x.went.status_is ∙ (ap status_of same ∙ sym y.went.status_is)

    pub ends_at_done : ((new : Option FileOf) (before behind : Option (List ℕ)) (place : ℕ) → IsDone (Relates (Some files) new before behind place)) → Succeeds (EndsAt Relates words) files
    ends_at_done done status x =
        x.went.status_is
        ∙ ap status_of (done x.new.files x.old.out x.new.out x.went.place x.went.ending (settled_by x.went.ending status x.went.status_is x.settled) (ended_at status x))

-- runs
-- ====

-- what is seen behind the output
abbrev seen : (printed : List ℕ) → List PortView → Sight
seen printed ports = record { out = Some printed; ports = ports }

module _ (Comes : Option FileOf → (name : List ℕ) → Result Ready Ending → Type 0) (room : Room) (steps : ℕ) (name : List ℕ) (files : FileOf) (printed : List ℕ)
    (ports : List PortView) (states : List PortState) where
  abbrev Going_so : Outside → Outside → List PortView → List PortView → ℕ → Type 0
  Going_so = OnFiles files (EndsRun Comes room steps name)

  abbrev Call : ℕ → Type 0
  Call status = SettledRun Going_so printed ports states status

  pub went_so : (status : ℕ) (x : Call status) → Runs (Comes (Some files) name) room steps (seen printed ports) (sight_in x.new x.ports_new) x.went.1.said x.went.1.ending
  went_so status x =
      subst (λ (o : Option (List ℕ)). Runs (Comes (Some files) name) room steps (record { out = o; ports = ports }) (sight_in x.new x.ports_new) x.went.1.said x.went.1.ending) x.out
      (subst (λ (f : Option FileOf). Runs (Comes f name) room steps (sight_in x.old ports) (sight_in x.new x.ports_new) x.went.1.said x.went.1.ending) x.went.0 x.went.1.went)

  tells_so : (status : ℕ) → Call status → Tells (seen printed ports)
  tells_so status x = record { printed = printed; out = refl; ports = states; told = x.told }

  pub settled_so : (status : ℕ) (x : Call status) → IsSettled x.went.1.ending
  settled_so status x = settled_by x.went.1.ending status x.went.1.status_is x.settled

  pub run_once : RunLaws → AnswersOnce (Comes (Some files) name) → (one other : ℕ) → Call one → Call other → one ≡ other
  run_once laws once one other x y =
      let same = one_run laws (Comes (Some files) name) once room steps (seen printed ports) (sight_in x.new x.ports_new) (sight_in y.new y.ports_new) x.went.1.said y.went.1.said
      (tells_so one x) x.accounted y.accounted x.went.1.ending y.went.1.ending (settled_so one x) (settled_so other y) (went_so one x) (went_so other y) in
      x.went.1.status_is ∙ (ap status_of same ∙ sym y.went.1.status_is)

  pub run_ends : AnswersOnce (Comes (Some files) name) → (ready : Ready) → Comes (Some files) name (Ok ready) → (status : ℕ) → Call status → IsRunStatus status
  run_ends once ready comes status x =
      subst IsRunStatus (sym x.went.1.status_is)
      (run_made (Comes (Some files) name) once room steps (seen printed ports) (sight_in x.new x.ports_new) x.went.1.said ready x.went.1.ending comes (settled_so status x) (went_so status x))
