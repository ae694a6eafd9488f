-- What the run of a made source says of its program, from how it ended.
use Rattle.std.proofs.Common.{◌≡◌, ◌⊎◌, ℕ, List, subst, sym, ◌∙◌, inl, inr}
use Rattle.mpy_base.specs.declared.room.Room.{Room}
use Rattle.mpy_io.specs.Ports.{PortView}
use Rattle.mpy_endings.specs.image_runs.declared.fault.MainFault.TheVariants as mains
use Rattle.mpy_endings.specs.declared.ending.Ending.{Ending}
use Rattle.mpy_endings.specs.declared.ending.Ending.TheVariants.{Done, Unaccepted, Unread, Unverified, Unmerged, Unopened, Unfrozen, Unboarded, Different, Stopped, ReadFault, WriteFault, Unwritten, NoMemory, Absent}
use Rattle.mpy_endings.specs.declared.ending.Stop.TheVariants.{Past, LibraryFault, LibraryUnaccepted, Raised, Memory, Steps, Unsaved, Unresumed}
use Rattle.mpy_endings.specs.Ending.{status_of, IsRunStatus}
use Rattle.mpy_endings.proofs.Statuses.{none_unsaved}
use Rattle.board_command.specs.command_files.Outside.{Outside}
use Rattle.meant_commands.specs.run_commands.Ready.{GoLibrary}
use Rattle.meant_commands.specs.run_commands.Run.{EndsRun, IsUnloaded, Runs, sight_in}
use Rattle.meant_commands.specs.GoMeant.{GoMeans}
use Rattle.meant_commands.specs.run_commands.Stress.{EndsStress, Ran, beside, stress_name}
use Rattle.mpy_tool.specs.Making.{MeansMade, StressMeans}

-- the statuses of a run, and that of a sink that failed
abbrev IsRunning : ℕ → Type 0
IsRunning status = IsRunStatus status ⊎ (status ≡ 8)

not_run : (n : ℕ) → (n ≡ 0 → ⊥) → (n ≡ 1 → ⊥) → (n ≡ 5 → ⊥) → (n ≡ 6 → ⊥) → IsRunStatus n → ⊥
not_run n a b c d (inl is) = a is
not_run n a b c d (inr (inl is)) = b is
not_run n a b c d (inr (inr (inl is))) = c is
not_run n a b c d (inr (inr (inr is))) = d is

not_running : (n : ℕ) → (n ≡ 0 → ⊥) → (n ≡ 1 → ⊥) → (n ≡ 5 → ⊥) → (n ≡ 6 → ⊥) → (n ≡ 8 → ⊥) → IsRunning n → ⊥
not_running n a b c d e (inl is) = not_run n a b c d is
not_running n a b c d e (inr is) = e is

-- no run without a library
unloaded_not : (ending : Ending) → IsUnloaded ending → IsRunning (status_of ending) → ⊥
unloaded_not Done u h = absurd u
unloaded_not (Unaccepted fault) u h = not_running 3 (λ e. absurd cc) (λ e. absurd cc) (λ e. absurd cc) (λ e. absurd cc) (λ e. absurd cc) h
unloaded_not (Unread fault) u h = not_running 4 (λ e. absurd cc) (λ e. absurd cc) (λ e. absurd cc) (λ e. absurd cc) (λ e. absurd cc) h
unloaded_not (Unverified fault) u h = not_running 4 (λ e. absurd cc) (λ e. absurd cc) (λ e. absurd cc) (λ e. absurd cc) (λ e. absurd cc) h
unloaded_not (Unmerged fault) u h = absurd u
unloaded_not (Unopened (mains.Image fault)) u h = not_running 4 (λ e. absurd cc) (λ e. absurd cc) (λ e. absurd cc) (λ e. absurd cc) (λ e. absurd cc) h
unloaded_not (Unopened (mains.NoMain main)) u h = not_running 10 (λ e. absurd cc) (λ e. absurd cc) (λ e. absurd cc) (λ e. absurd cc) (λ e. absurd cc) h
unloaded_not (Unfrozen fault) u h = absurd u
unloaded_not (Unboarded fault) u h = absurd u
unloaded_not (Different difference) u h = absurd u
unloaded_not (Stopped (Past limit)) u h = not_running 11 (λ e. absurd cc) (λ e. absurd cc) (λ e. absurd cc) (λ e. absurd cc) (λ e. absurd cc) h
unloaded_not (Stopped (LibraryFault path)) u h = not_running 7 (λ e. absurd cc) (λ e. absurd cc) (λ e. absurd cc) (λ e. absurd cc) (λ e. absurd cc) h
unloaded_not (Stopped (LibraryUnaccepted source)) u h = not_running 3 (λ e. absurd cc) (λ e. absurd cc) (λ e. absurd cc) (λ e. absurd cc) (λ e. absurd cc) h
unloaded_not (Stopped Raised) u h = absurd u
unloaded_not (Stopped Memory) u h = absurd u
unloaded_not (Stopped (Steps count)) u h = absurd u
unloaded_not (Stopped Unsaved) u h = absurd u
unloaded_not (Stopped (Unresumed fault)) u h = absurd u
unloaded_not ReadFault u h = not_running 7 (λ e. absurd cc) (λ e. absurd cc) (λ e. absurd cc) (λ e. absurd cc) (λ e. absurd cc) h
unloaded_not WriteFault u h = absurd u
unloaded_not Unwritten u h = absurd u
unloaded_not NoMemory u h = not_running 9 (λ e. absurd cc) (λ e. absurd cc) (λ e. absurd cc) (λ e. absurd cc) (λ e. absurd cc) h
unloaded_not Absent u h = not_running 10 (λ e. absurd cc) (λ e. absurd cc) (λ e. absurd cc) (λ e. absurd cc) (λ e. absurd cc) h

-- a made source saves no state
never_unsaved : (room : Room) (steps : ℕ) (name : List ℕ) (old new : Outside) (ports_old ports_new : List PortView) (status : ℕ) → EndsRun (GoLibrary 0) room steps name old new ports_old ports_new status → status ≡ 13 → ⊥
never_unsaved room steps name old new ports_old ports_new status h s =
    none_unsaved (Runs (GoLibrary 0 old.files name) room steps (sight_in old ports_old) (sight_in new ports_new) h.said) (λ p. p) h.ending h.went (sym h.status_is ∙ s)

eight_unsaved : (status : ℕ) → status ≡ 8 → status ≡ 13 → ⊥
eight_unsaved status a b = absurd cc

pub stress_unsaved : (seed count : ℕ) (room : Room) (steps : ℕ) (old new : Outside) (ports_old ports_new : List PortView) (status : ℕ) → EndsStress seed count room steps old new ports_old ports_new status → status ≡ 13 → ⊥
stress_unsaved seed count room steps old new ports_old ports_new status (inl h) s = never_unsaved room steps stress_name (beside seed count old old.out) new ports_old ports_new status h.goes s
stress_unsaved seed count room steps old new ports_old ports_new status (inr (inl h)) s = eight_unsaved status h.status_is s
stress_unsaved seed count room steps old new ports_old ports_new status (inr (inr h)) s = never_unsaved room steps stress_name (beside seed count old h.printed) new ports_old ports_new status h.goes s

-- what the law of runs of sources says
abbrev pub GoLaw : Type 0
GoLaw = (level : ℕ) (room : Room) (steps : ℕ) (name : List ℕ) (old new : Outside) (ports_old ports_new : List PortView) (status : ℕ)
    → EndsRun (GoLibrary level) room steps name old new ports_old ports_new status → GoMeans level room steps name old new ports_old ports_new status

module _ (law : GoLaw) (seed count : ℕ) (room : Room) (steps : ℕ) (old new : Outside) (ports_old ports_new : List PortView) (status : ℕ) where
  meant : Ran seed count room steps old new ports_old ports_new status → MeansMade seed count room steps old new ports_old ports_new status
  meant h = record {
    number = h.number;
    has = h.has;
    printed = h.printed;
    prints = h.prints;
    means = law 0 room steps stress_name (beside seed count old h.printed) new ports_old ports_new status h.goes;
  }

  pub stress_means : EndsStress seed count room steps old new ports_old ports_new status → StressMeans seed count room steps old new ports_old ports_new status
  stress_means (inl h) =
      let none = λ (running : IsRunning status). unloaded_not h.goes.ending h.unloaded (subst IsRunning h.goes.status_is running) in
      record { ended = λ e. absurd (none (inl e)); cut_short = λ e. absurd (none (inr e)) }
  stress_means (inr (inl h)) = record {
    ended = λ e. absurd (not_run 8 (λ x. absurd cc) (λ x. absurd cc) (λ x. absurd cc) (λ x. absurd cc) (subst IsRunStatus h.status_is e));
    cut_short = λ e. inl h;
  }
  stress_means (inr (inr h)) = record { ended = λ e. meant h; cut_short = λ e. inr (meant h) }
