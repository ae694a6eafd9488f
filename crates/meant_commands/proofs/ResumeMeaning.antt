-- What a run that goes on from the snapshot of a suspended run says of its program.
use Rattle.std.proofs.Common.{◌≡◌, ◌⊎◌, inl, inr, ℕ, zero, ◌+◌, ◌≤◌, List, [], ◌∷◌, ◌++◌, map, Option, Some, None, Result, Ok, Err, refl, sym, ap, subst, ◌∙◌, append-nil, arith}
use Rattle.std.specs.Prelude.{◌≢◌, slice_get, slice_index_or}
use Rattle.std.specs.Option.{option_map}
use Rattle.std.proofs.lemmas.Option.{slice_get-map}
use Rattle.std.specs.Io.KnownBytes.{Appends}
use Rattle.meant_files.specs.mpy_base.declared.room.Room.{Room}
use Rattle.meant_files.specs.mpy_base.World.{PortState}
use Rattle.meant_files.specs.mpy_io.Files.{FileOf, Becomes}
use Rattle.meant_files.specs.mpy_io.Ports.{PortView}
use Rattle.meant_files.specs.mpy_io.Told.{AppendsFront}
use Rattle.meant_files.specs.port_set.Calls.{Tell}
use Rattle.meant_files.specs.port_set.Counts.{AreAccounted}
use Rattle.library_files.specs.bc_library.Shelf.{Shelf}
use Rattle.meant_files.specs.vm_frames.bc_machine.Library.{Name}
use Rattle.meant_files.specs.vm_starting.declared.opening.Vm.{Vm}
use Rattle.meant_files.specs.py_effects.Ends.{Run}
use Rattle.meant_files.specs.py_effects.Growth.{Starts}
use Rattle.meant_files.specs.py_meaning.Program.{Program}
use Rattle.meant_files.specs.py_meaning.Meaning.{meaning}
use Rattle.meant_files.specs.meant_runs.Units.{AreUnits}
use Rattle.meant_files.specs.meant_runs.Meant.{RanAsMeant, CutShortAsMeant, EndsAsMeant}
use Rattle.run_commands.specs.library_runs.declared.ending.RunEnd.{RunEnd}
use Rattle.run_commands.specs.library_runs.declared.ending.RunEnd.TheVariants as ends
use Rattle.run_commands.specs.library_runs.Runs.{GoesOn, Sight, end_of, said_of}
use Rattle.run_commands.specs.mpy_endings.declared.ending.Ending.{Ending}
use Rattle.run_commands.specs.mpy_endings.declared.ending.Ending.TheVariants.{Done, Unaccepted, Unread, Unverified, Unmerged, Unopened, Unfrozen, Unboarded, Different, Stopped, ReadFault, WriteFault, Unwritten, NoMemory, Absent}
use Rattle.run_commands.specs.mpy_endings.declared.ending.Stop.TheVariants.{Past, LibraryFault, LibraryUnaccepted, Raised, Memory, Steps, Unsaved, Unresumed}
use Rattle.run_commands.specs.mpy_endings.Ending.{IsRunStatus, status_of}
use Rattle.run_commands.specs.mpy_endings.Line.{Says, line_of}
use Rattle.run_commands.specs.command_files.mpy_words.Words.{saved_name}
use Rattle.run_commands.specs.command_files.Outside.{Outside}
use Rattle.run_commands.specs.Run.{IsUnloaded, ending_of, sight_in}
use Rattle.run_commands.specs.Ready.{RunLibrary}
use Rattle.run_commands.specs.Save.{EndsRunTo, SavesState}
use Rattle.run_commands.specs.Resume.{EndsOn, EndsResume, HoldsState, IsNotLoaded, IsNotResumed, IsResumed, RefusesState, ResumeLibrary, Resumes, SavesOn, WentOn}
use Rattle.run_commands.specs.Suspended.{AreNamed, Front, IsRest, IsSuspendedRun, LeavesRun, RefusesSnapshot, SavesRun, told_of, view_of}
use Rattle.run_commands.proofs.Resting.{tells_same, told_are}
use Rattle.run_commands.proofs.Resumption.{library_unloaded, refused_uncut, refused_unrun, unloaded_uncut}
use Rattle.run_commands.proofs.Running.{unloaded_unrun}
use Rattle.meant_commands.specs.Meant.{HoldsProgram, end_status, end_text}
use Rattle.meant_commands.specs.ResumeMeant.{BeginsTogether, DoTogether, EndsTogether, HoldsSuspended, IsSameLibrary, MeansInParts, MeansTogether, ResumeMeans}
use Rattle.meant_commands.proofs.Meaning.{MeantLaw, limit_open, not_run, status_as, text_as}

-- the laws of suspended runs
-- ==========================

abbrev pub RestLaw : Type 0
RestLaw = (shelf : Shelf) (main : Name) (front : Front) (file : FileOf) (name snap : List ℕ) (vm : Vm) (steps : ℕ) (old new : Sight) (end : RunEnd) (said before : List ℕ)
    → IsSuspendedRun shelf main front snap → file name ≡ Some snap → HoldsState shelf (Some file) name vm → GoesOn shelf vm steps old new end said → end ≢ ends.NoMemory
    → AreAccounted old.ports new.ports → old.out ≡ Some before → Tell old.ports front.left → IsRest shelf main front steps old new end said

abbrev pub AcceptedLaw : Type 0
AcceptedLaw = (shelf : Shelf) (main : Name) (front : Front) (file : FileOf) (name snap : List ℕ) → IsSuspendedRun shelf main front snap → file name ≡ Some snap
    → RefusesSnapshot shelf file name → ⊥

-- ports that count no faults
-- ==========================

none_counted : (found : Option PortState) (view : PortView) → option_map view_of found ≡ Some view → view.count ≡ 0
none_counted None view e = absurd (let wrong : None ≡ Some view = e in cc)
none_counted (Some port) view e = let same : view_of port ≡ view = cc in sym (ap (λ (v : PortView). v.count) same)

no_count : (ports : List PortState) (number : ℕ) (view : PortView) → slice_get (map view_of ports) number ≡ Some view → view.count ≡ 0
no_count ports number view is = none_counted (slice_get ports number) view (sym (slice_get-map view_of ports number) ∙ is)

unfailing : (ports others : List PortState) → AreAccounted (map view_of ports) (map view_of others)
unfailing ports others number before after was is =
    let none : after.count ≡ 0 = no_count others number after is in
    record { countable = omega (arith, none); accounted = inl (omega (arith, none)) }

-- statuses
-- ========

-- a run that went on isn't a refusal
on_unrefused : (end : RunEnd) (steps : ℕ) → status_of (ending_of end steps) ≡ 4 → ⊥
on_unrefused ends.Ended steps e = absurd cc
on_unrefused ends.Raised steps e = absurd cc
on_unrefused ends.Memory steps e = absurd cc
on_unrefused ends.Limit steps e = absurd cc
on_unrefused ends.WriteFault steps e = absurd cc
on_unrefused ends.NoMemory steps e = absurd cc

module _ (snap : List ℕ) (files_old files_new : Option FileOf) (shelf : Shelf) (left : Vm) (steps : ℕ) where
  saves_unrefused : (ending : Ending) → SavesState snap files_old files_new shelf left steps ending → status_of ending ≡ 4 → ⊥
  saves_unrefused Done h e = absurd h
  saves_unrefused (Unaccepted fault) h e = absurd h
  saves_unrefused (Unread fault) h e = absurd h
  saves_unrefused (Unverified fault) h e = absurd h
  saves_unrefused (Unmerged fault) h e = absurd h
  saves_unrefused (Unopened fault) h e = absurd h
  saves_unrefused (Unfrozen fault) h e = absurd h
  saves_unrefused (Unboarded fault) h e = absurd h
  saves_unrefused (Different difference) h e = absurd h
  saves_unrefused (Stopped (Past limit)) h e = absurd h
  saves_unrefused (Stopped (LibraryFault path)) h e = absurd h
  saves_unrefused (Stopped (LibraryUnaccepted source)) h e = absurd h
  saves_unrefused (Stopped Raised) h e = absurd h
  saves_unrefused (Stopped Memory) h e = absurd h
  saves_unrefused (Stopped (Steps count)) h e = absurd cc
  saves_unrefused (Stopped Unsaved) h e = absurd cc
  saves_unrefused (Stopped (Unresumed fault)) h e = absurd h
  saves_unrefused ReadFault h e = absurd h
  saves_unrefused WriteFault h e = absurd h
  saves_unrefused Unwritten h e = absurd cc
  saves_unrefused NoMemory h e = absurd cc
  saves_unrefused Absent h e = absurd h

module _ (shelf : Shelf) (vm : Vm) (steps : ℕ) (old new : Sight) (said : List ℕ) (files_old files_new : Option FileOf) where
  went_unrefused : (saved : Option (List ℕ)) (ending : Ending) → WentOn shelf vm steps old new said files_old files_new saved ending → status_of ending ≡ 4 → ⊥
  went_unrefused None ending h e = on_unrefused h.end steps (sym (ap status_of h.is) ∙ e)
  went_unrefused (Some snap) ending (inl h) e = on_unrefused h.0.end steps (sym (ap status_of h.0.is) ∙ e)
  went_unrefused (Some snap) ending (inr h) e = saves_unrefused snap files_old files_new shelf h.left steps ending h.saves e

module _ (accepted : AcceptedLaw) (shelf : Shelf) (main : Name) (front : Front) (file : FileOf) (name snap : List ℕ) (suspended : IsSuspendedRun shelf main front snap) (there : file name ≡ Some snap) where
  never_refused : (ending : Ending) → RefusesState shelf (Some file) name ending → status_of ending ≡ 4 → ⊥
  never_refused Done h e = absurd h
  never_refused (Unaccepted fault) h e = absurd h
  never_refused (Unread fault) h e = absurd h
  never_refused (Unverified fault) h e = absurd h
  never_refused (Unmerged fault) h e = absurd h
  never_refused (Unopened fault) h e = absurd h
  never_refused (Unfrozen fault) h e = absurd h
  never_refused (Unboarded fault) h e = absurd h
  never_refused (Different difference) h e = absurd h
  never_refused (Stopped (Past limit)) h e = absurd h
  never_refused (Stopped (LibraryFault path)) h e = absurd h
  never_refused (Stopped (LibraryUnaccepted source)) h e = absurd h
  never_refused (Stopped Raised) h e = absurd h
  never_refused (Stopped Memory) h e = absurd h
  never_refused (Stopped (Steps count)) h e = absurd h
  never_refused (Stopped Unsaved) h e = absurd h
  never_refused (Stopped (Unresumed fault)) h e = accepted shelf main front file name snap suspended there (fault, h)
  never_refused ReadFault h e = absurd cc
  never_refused WriteFault h e = absurd h
  never_refused Unwritten h e = absurd h
  never_refused NoMemory h e = absurd cc
  never_refused Absent h e = absurd cc

-- one run
-- =======

module _ (program : Program) (front : Front) (steps : ℕ) (old new : Outside) (ports_old ports_new : List PortView) (status : ℕ) where
  abbrev before : Sight
  before = sight_in old ports_old

  abbrev after : Sight
  after = sight_in new ports_new

  abbrev Does : Type 0
  Does = DoTogether program front steps old new ports_new status

  -- no run was made
  none : (IsRunStatus status → ⊥) → (status ≡ 8 → ⊥) → Does
  none unrun uncut = record { ended = λ run_status. absurd (unrun run_status); cut_short = λ eight. absurd (uncut eight) }

  eight_unrun : status ≡ 8 → IsRunStatus status → ⊥
  eight_unrun is run_status = not_run 8 (λ e. absurd cc) (λ e. absurd cc) (λ e. absurd cc) (λ e. absurd cc) (subst IsRunStatus is run_status)

  module _ (law : MeantLaw) (shelf : Shelf) (units : AreUnits program shelf) where
    module _ (end : RunEnd) (said : List ℕ) (r : IsRest shelf program.main_name front steps before after end said) where
      abbrev first : Sight
      first = told_of [] front.ports

      abbrev last : Sight
      last = told_of (front.printed ++ r.rest) r.ports

      as_meant : EndsAsMeant program front.room (front.steps + steps) front.ports first last end said
      as_meant =
          law program shelf front.room (front.steps + steps) first last end said units r.whole (unfailing front.ports r.ports) front.ports [] refl (told_are front.ports)

      told_new : (ports : List PortState) → Tell last.ports ports → Tell ports_new ports
      told_new ports h = subst (λ (z : List PortState). Tell ports_new z) (tells_same last.ports r.ports ports (told_are r.ports) h) r.told

      -- what begins the output of a run
      starts : (output : List ℕ) → AppendsFront first.out last.out output → Starts (front.printed ++ r.rest) output
      starts output h = (h.rest, h.parts ∙ ap (λ (text : List ℕ). text ++ h.rest) (sym h.added))

      -- it ran to its end, or for all its steps
      over : (word : List ℕ) → status ≡ status_of (ending_of end steps) → Says old.say new.say old.say_faults new.say_faults (said ++ line_of word (ending_of end steps)) → (status ≡ 8 → ⊥)
          → RanAsMeant program front.room (front.steps + steps) front.ports first last end said → Does
      over word status_is says uncut h = record {
        ended = λ run_status. record {
          run = h.run;
          means = h.means;
          status_is = status_is ∙ (ap (λ (e : RunEnd). status_of (ending_of e steps)) h.end_is ∙ status_as steps h.run.end);
          rest = r.rest;
          prints = r.prints;
          output = sym h.prints;
          told = told_new h.run.world.ports h.told;
          says = subst (Says old.say new.say old.say_faults new.say_faults)
              (ap (λ (text : List ℕ). text ++ line_of word (ending_of end steps)) h.said_is
              ∙ (ap (λ (e : RunEnd). said_of h.run.world.heap h.run.end ++ line_of word (ending_of e steps)) h.end_is ∙ text_as word steps h.run.world.heap h.run.end)) says;
        };
        cut_short = λ eight. absurd (uncut eight);
      }

      -- the sink failed
      cut : status ≡ 8 → CutShortAsMeant program front.room (front.steps + steps) front.ports first last → Does
      cut is h = record {
        ended = λ run_status. absurd (eight_unrun is run_status);
        cut_short = λ eight. record {
          run = h.run;
          means = h.means;
          rest = r.rest;
          prints = r.prints;
          begins = starts h.run.world.output h.prints;
          bound = h.bound;
          begins_meant = starts (meaning program front.room.cells front.room.bytes front.ports h.bound).world.output h.prints_meant;
          taken = h.taken;
          within = h.within;
          earlier = h.earlier;
          earlier_means = h.earlier_means;
          told = told_new h.earlier.world.ports h.told;
        };
      }

      -- it took all its steps, and its state wasn't written
      unwritten : ends.Limit ≡ end → status ≡ 8 → RanAsMeant program front.room (front.steps + steps) front.ports first last end said → Does
      unwritten limit is h =
          let stopped = h.means.stopped (limit_open h.run.end (limit ∙ h.end_is)) in
          let whole : h.run.world.output ≡ front.printed ++ r.rest = sym h.prints in
          record {
            ended = λ run_status. absurd (eight_unrun is run_status);
            cut_short = λ eight. record {
              run = h.run;
              means = h.means;
              rest = r.rest;
              prints = r.prints;
              begins = ([], whole ∙ sym (append-nil (front.printed ++ r.rest)));
              bound = stopped.bound;
              begins_meant = (stopped.prints_on.rest, stopped.prints_on.output ∙ ap (λ (text : List ℕ). text ++ stopped.prints_on.rest) whole);
              taken = front.steps + steps;
              within = omega arith;
              earlier = h.run;
              earlier_means = h.means;
              told = told_new h.run.world.ports h.told;
            };
          }

    -- by how the run on ended
    module _ (vm : Vm) (said word : List ℕ)
        (rests : (end : RunEnd) → GoesOn shelf vm steps before after end said → end ≢ ends.NoMemory → IsRest shelf program.main_name front steps before after end said) where
      abbrev SaysEnd : Ending → Type 0
      SaysEnd ending = Says old.say new.say old.say_faults new.say_faults (said ++ line_of word ending)

      not_eight : (n : ℕ) → (n ≡ 8 → ⊥) → status ≡ n → status ≡ 8 → ⊥
      not_eight n other is eight = other (sym is ∙ eight)

      not_nine : status ≡ 9 → Does
      not_nine is = none
          (λ s. not_run 9 (λ e. absurd cc) (λ e. absurd cc) (λ e. absurd cc) (λ e. absurd cc) (subst IsRunStatus is s))
          (not_eight 9 (λ e. absurd cc) is)

      on_by : (end : RunEnd) → GoesOn shelf vm steps before after end said → status ≡ status_of (ending_of end steps) → SaysEnd (ending_of end steps) → Does
      on_by ends.Ended goes is says =
          let r = rests ends.Ended goes (λ e. absurd cc) in over ends.Ended said r word is says (not_eight 0 (λ e. absurd cc) is) (as_meant ends.Ended said r)
      on_by ends.Raised goes is says =
          let r = rests ends.Raised goes (λ e. absurd cc) in over ends.Raised said r word is says (not_eight 1 (λ e. absurd cc) is) (as_meant ends.Raised said r)
      on_by ends.Memory goes is says =
          let r = rests ends.Memory goes (λ e. absurd cc) in over ends.Memory said r word is says (not_eight 6 (λ e. absurd cc) is) (as_meant ends.Memory said r)
      on_by ends.Limit goes is says =
          let r = rests ends.Limit goes (λ e. absurd cc) in over ends.Limit said r word is says (not_eight 5 (λ e. absurd cc) is) (as_meant ends.Limit said r)
      on_by ends.WriteFault goes is says =
          let r = rests ends.WriteFault goes (λ e. absurd cc) in cut ends.WriteFault said r is (as_meant ends.WriteFault said r)
      on_by ends.NoMemory goes is says = not_nine is

      -- what became of the state
      saved_by : (snap : List ℕ) (left : Vm) (ending : Ending) → GoesOn shelf vm steps before after ends.Limit said → SavesState snap old.files new.files shelf left steps ending
          → status ≡ status_of ending → SaysEnd ending → Does
      saved_by snap left Done goes h is says = absurd h
      saved_by snap left (Unaccepted fault) goes h is says = absurd h
      saved_by snap left (Unread fault) goes h is says = absurd h
      saved_by snap left (Unverified fault) goes h is says = absurd h
      saved_by snap left (Unmerged fault) goes h is says = absurd h
      saved_by snap left (Unopened fault) goes h is says = absurd h
      saved_by snap left (Unfrozen fault) goes h is says = absurd h
      saved_by snap left (Unboarded fault) goes h is says = absurd h
      saved_by snap left (Different difference) goes h is says = absurd h
      saved_by snap left (Stopped (Past limit)) goes h is says = absurd h
      saved_by snap left (Stopped (LibraryFault path)) goes h is says = absurd h
      saved_by snap left (Stopped (LibraryUnaccepted source)) goes h is says = absurd h
      saved_by snap left (Stopped Raised) goes h is says = absurd h
      saved_by snap left (Stopped Memory) goes h is says = absurd h
      saved_by snap left (Stopped (Steps count)) goes h is says = on_by ends.Limit goes is (subst (λ (n : ℕ). SaysEnd (Stopped (Steps n))) h.1 says)
      saved_by snap left (Stopped Unsaved) goes h is says = none
          (λ s. not_run 13 (λ e. absurd cc) (λ e. absurd cc) (λ e. absurd cc) (λ e. absurd cc) (subst IsRunStatus is s))
          (not_eight 13 (λ e. absurd cc) is)
      saved_by snap left (Stopped (Unresumed fault)) goes h is says = absurd h
      saved_by snap left ReadFault goes h is says = absurd h
      saved_by snap left WriteFault goes h is says = absurd h
      saved_by snap left Unwritten goes h is says =
          let r = rests ends.Limit goes (λ e. absurd cc) in unwritten ends.Limit said r refl is (as_meant ends.Limit said r)
      saved_by snap left NoMemory goes h is says = not_nine is
      saved_by snap left Absent goes h is says = absurd h

      on_end : (ending : Ending) → EndsOn shelf vm steps before after said old.files new.files ending → status ≡ status_of ending → SaysEnd ending → Does
      on_end ending h is says = on_by h.end h.went (is ∙ ap status_of h.is) (subst SaysEnd h.is says)

      went_by : (saved : Option (List ℕ)) (ending : Ending) → WentOn shelf vm steps before after said old.files new.files saved ending → status ≡ status_of ending → SaysEnd ending → Does
      went_by None ending h is says = on_end ending h is says
      went_by (Some snap) ending (inl h) is says = on_end ending h.0 is says
      went_by (Some snap) ending (inr h) is says = saved_by snap h.left ending h.went h.saves is says

-- the command
-- ===========

module _ (law : MeantLaw) (rest : RestLaw) (accepted : AcceptedLaw) (below : Shelf) (steps : ℕ) (name snap : List ℕ) (words : List (List ℕ)) (save : Option ℕ)
    (old new : Outside) (ports_old ports_new : List PortView) (status : ℕ) (program : Program) (front : Front)
    (holds : HoldsSuspended (ResumeLibrary below) old.files name snap program front) where
  abbrev Refused : Type 0
  Refused = (ending : Ending) × ResumeLibrary below old.files name (Err ending) × (status ≡ status_of ending)

  abbrev Resumed : (said : List ℕ) (place : ℕ) → Ending → Type 0
  Resumed said place ending =
      Resumes (ResumeLibrary below old.files name) snap words save steps (sight_in old ports_old) (sight_in new ports_new) said old.files new.files place ending

  only_unloaded : (said : List ℕ) (place : ℕ) (ending : Ending) → status ≡ status_of ending → Resumed said place ending → status ≡ 4 → Refused
  only_unloaded said place ending is (inl h) four = (ending, h.comes, is)
  only_unloaded said place ending is (inr (inl h)) four =
      let refuses = subst (λ (files : Option FileOf). RefusesState h.shelf files snap ending) holds.told h.refuses in
      absurd (never_refused accepted h.shelf program.main_name front holds.file snap holds.bytes (holds.suspended h.shelf h.comes) holds.there ending refuses (sym is ∙ four))
  only_unloaded said place ending is (inr (inr h)) four =
      absurd (went_unrefused h.shelf h.vm steps (sight_in old ports_old) (sight_in new ports_new) said old.files new.files (saved_name words save) ending h.went (sym is ∙ four))

  module _ (before : List ℕ) (left : Tell ports_old front.left) (all : AreAccounted ports_old ports_new) (out : old.out ≡ Some before) where
    abbrev Together : Type 0
    Together = DoTogether program front steps old new ports_new status

    unmade : (ending : Ending) → status ≡ status_of ending → (IsRunStatus (status_of ending) → ⊥) → (status_of ending ≡ 8 → ⊥) → Together
    unmade ending is unrun uncut =
        none program front steps old new ports_old ports_new status (λ s. unrun (subst IsRunStatus is s)) (λ eight. uncut (sym is ∙ eight))

    did : (said : List ℕ) (place : ℕ) (ending : Ending) → status ≡ status_of ending → Resumed said place ending
        → Says old.say new.say old.say_faults new.say_faults (said ++ line_of (slice_index_or words place []) ending) → Together
    did said place ending is (inl h) says =
        let unloaded = library_unloaded below old.files name ending h.comes in
        unmade ending is (unloaded_unrun ending unloaded) (unloaded_uncut ending unloaded)
    did said place ending is (inr (inl h)) says =
        unmade ending is (refused_unrun h.shelf old.files snap ending h.refuses) (refused_uncut h.shelf old.files snap ending h.refuses)
    did said place ending is (inr (inr h)) says =
        let state = subst (λ (files : Option FileOf). HoldsState h.shelf files snap h.vm) holds.told h.holds in
        went_by program front steps old new ports_old ports_new status law h.shelf (holds.units h.shelf h.comes) h.vm said (slice_index_or words place [])
        (λ end goes some.
        rest h.shelf program.main_name front holds.file snap holds.bytes h.vm steps (sight_in old ports_old) (sight_in new ports_new) end said before
        (holds.suspended h.shelf h.comes) holds.there state goes some all out left)
        (saved_name words save) ending h.went is says

  pub means_together : EndsResume (ResumeLibrary below) steps name snap words save old new ports_old ports_new status
      → MeansTogether (ResumeLibrary below) steps name program front old new ports_old ports_new status
  means_together ended = record {
    accepted = only_unloaded ended.said ended.place ended.ending ended.status_is ended.went;
    together = λ before left all out. did before left all out ended.said ended.place ended.ending ended.status_is ended.went ended.says;
  }

pub resume_means : MeantLaw → RestLaw → AcceptedLaw → (below : Shelf) (steps : ℕ) (name snap : List ℕ) (words : List (List ℕ)) (save : Option ℕ) (old new : Outside) (ports_old ports_new : List PortView) (status : ℕ)
    → EndsResume (ResumeLibrary below) steps name snap words save old new ports_old ports_new status
    → ResumeMeans (ResumeLibrary below) steps name snap old new ports_old ports_new status
resume_means law rest accepted below steps name snap words save old new ports_old ports_new status ended program front holds =
    means_together law rest accepted below steps name snap words save old new ports_old ports_new status program front holds ended

-- a run and its parts
-- ===================

-- a run that saves its state leaves the snapshot of a suspended run
abbrev pub LeavesLaw : Type 0
LeavesLaw = (below : Shelf) (main : List ℕ) (saved : Option (List ℕ)) (room : Room) (steps : ℕ) (name : List ℕ) (old new : Outside) (ports_old ports_new : List PortView) (status : ℕ)
    → room.cells ≤ 4194304 → room.bytes ≤ 16777216 → EndsRunTo saved (RunLibrary below main) room steps name old new ports_old ports_new status
    → SavesRun saved (RunLibrary below main) room steps name old new ports_old ports_new status

-- the files of a folder that tells them, behind a write
written_there : (old new : Option FileOf) (name bytes : List ℕ) (file : FileOf) → old ≡ Some file → Becomes old new name bytes → (now : FileOf) × (new ≡ Some now) × (now name ≡ Some bytes)
written_there None new name bytes file e h = absurd (let wrong : None ≡ Some file = e in cc)
written_there (Some before) new name bytes file e h = (h.0, h.1, h.2.here)

module _ (below : Shelf) (main : List ℕ) (room : Room) (steps : ℕ) (name snap : List ℕ) (program : Program) (ports : List PortState) (old left : Outside) (ports_old ports_left : List PortView)
    (file : FileOf) (files : old.files ≡ Some file) (held : HoldsProgram (RunLibrary below main) old.files name program)
    (same : IsSameLibrary below main old.files left.files name)
    (leaves : LeavesRun (RunLibrary below main old.files name) room steps snap ports (sight_in old ports_old) (sight_in left ports_left) old.files left.files) where
  abbrev front : Front
  front = record { room = room; ports = ports; steps = steps; printed = leaves.printed; left = leaves.left }

  pub holds_suspended : HoldsSuspended (ResumeLibrary below) left.files name snap program front
  holds_suspended =
      let now = written_there old.files left.files snap leaves.bytes file files leaves.written in
      let own = held leaves.ready leaves.comes in
      record {
        file = now.0;
        told = now.1;
        bytes = leaves.bytes;
        there = now.2;
        units = λ shelf comes. subst (AreUnits program) (sym (same leaves.ready shelf leaves.comes comes).0) own.1;
        suspended = λ shelf comes.
            let is = same leaves.ready shelf leaves.comes comes in
            let here = leaves.suspended (subst AreNamed is.0 is.1) in
            subst (λ (z : Shelf). IsSuspendedRun z program.main_name front leaves.bytes) (sym is.0)
            (subst (λ (z : List ℕ). IsSuspendedRun leaves.ready.library z front leaves.bytes) (sym own.0) here);
      }

pub parts_mean : MeantLaw → RestLaw → AcceptedLaw → LeavesLaw → (below : Shelf) (main : List ℕ) (room : Room) (steps more : ℕ) (name snap : List ℕ) (words : List (List ℕ)) (save : Option ℕ)
    (program : Program) (ports : List PortState) (file : FileOf) (printed : List ℕ) (old left from new : Outside) (ports_old ports_left ports_from ports_new : List PortView) (status : ℕ)
    → room.cells ≤ 4194304 → room.bytes ≤ 16777216
    → EndsRunTo (Some snap) (RunLibrary below main) room steps name old left ports_old ports_left 5
    → EndsResume (ResumeLibrary below) more name snap words save from new ports_from ports_new status
    → HoldsProgram (RunLibrary below main) old.files name program → old.files ≡ Some file → old.out ≡ Some printed → Tell ports_old ports → AreAccounted ports_old ports_left
    → from.files ≡ left.files → IsSameLibrary below main old.files left.files name
    → MeansInParts (ResumeLibrary below) room steps more name program ports old left from new ports_left ports_from ports_new status
parts_mean law rest accepted leaves below main room steps more name snap words save program ports file printed old left from new ports_old ports_left ports_from ports_new status few_cells few_bytes
    ran went held files out told all kept same =
    let l = leaves below main (Some snap) room steps name old left ports_old ports_left 5 few_cells few_bytes ran refl ports printed told all out in
    let holds = holds_suspended below main room steps name snap program ports old left ports_old ports_left file files held same l in
    let here = subst (λ (z : Option FileOf). HoldsSuspended (ResumeLibrary below) z name snap program (front below main room steps name snap program ports old left ports_old ports_left file files held same l)) (sym kept) holds in
    record {
      printed = l.printed;
      prints = l.prints;
      ports_as_left = l.left;
      told = l.told;
      means = resume_means law rest accepted below more name snap words save from new ports_from ports_new status went program _ here;
    }
