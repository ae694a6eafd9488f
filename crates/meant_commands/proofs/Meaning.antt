-- What a run that has ended says of its program.
use Rattle.std.proofs.Common.{◌≡◌, inl, inr, ℕ, true, List, [], ◌∷◌, ◌++◌, Ok, Option, Some, None, arith, refl, sym, ap, subst, ◌∙◌, append-nil, length}
use Rattle.std.specs.Io.KnownBytes.{Appends}
use Rattle.meant_files.specs.mpy_base.declared.room.Room.{Room}
use Rattle.meant_files.specs.mpy_base.World.{PortState}
use Rattle.meant_files.specs.mpy_io.Files.{FileOf}
use Rattle.meant_files.specs.mpy_io.Ports.{PortView}
use Rattle.meant_files.specs.mpy_io.Told.{AppendsFront}
use Rattle.library_files.specs.bc_library.mpy_tree.File.{IsFile}
use Rattle.library_files.specs.bc_library.mpy_tree.Raw.{Module}
use Rattle.meant_files.specs.port_set.Calls.{Tell}
use Rattle.meant_files.specs.port_set.Counts.{AreAccounted}
use Rattle.library_files.specs.bc_library.Shelf.{Shelf}
use Rattle.meant_files.specs.py_values.Shown.{PlainHeap}
use Rattle.meant_files.specs.py_effects.Ends.{End, Open, Ended, Raised, Memory, end_report}
use Rattle.meant_files.specs.py_meaning.Program.{Unit, Program}
use Rattle.meant_files.specs.py_meaning.Meaning.{meaning}
use Rattle.meant_files.specs.prim_outputs.Rooms.{room_line}
use Rattle.meant_files.specs.meant_runs.Units.{AreUnits}
use Rattle.library_files.specs.Loads.{Loaded, LoadsFrom, main_name}
use Rattle.run_commands.specs.library_runs.declared.ending.RunEnd.{RunEnd}
use Rattle.run_commands.specs.library_runs.declared.ending.RunEnd.TheVariants as ends
use Rattle.run_commands.specs.library_runs.Runs.{Sight, RunsAs, end_of, said_of}
use Rattle.meant_files.specs.meant_runs.Meant.{RanAsMeant, CutShortAsMeant, EndsAsMeant}
use Rattle.meant_files.specs.Built.{IsBuilt, IsBuiltProgram}
use Rattle.run_commands.specs.mpy_endings.declared.ending.Ending.{Ending}
use Rattle.run_commands.specs.mpy_endings.declared.ending.Ending.TheVariants.{Done, Unaccepted, Unread, Unverified, Unmerged, Unopened, Unfrozen, Unboarded, Different, Stopped, ReadFault, WriteFault, Unwritten, NoMemory, Absent}
use Rattle.run_commands.specs.image_runs.declared.fault.MainFault.TheVariants as mains
use Rattle.run_commands.specs.mpy_endings.declared.ending.Stop.TheVariants as stops
use Rattle.run_commands.specs.Base.{base_of}
use Rattle.run_commands.specs.mpy_endings.Ending.{IsRunStatus, status_of}
use Rattle.run_commands.specs.mpy_endings.Line.{Says, line_of, name_in}
use Rattle.run_commands.specs.command_files.Outside.{Outside}
use Rattle.run_commands.specs.Ready.{RunLibrary, not_read, of_file, of_image, begins_image}
use Rattle.run_commands.specs.Run.{FileLibrary, RanLibrary, Runs, EndsRun, ending_of, sight_in}
use Rattle.run_commands.specs.library_runs.vm_starting.declared.opening.Vm.{Vm}
use Rattle.run_commands.specs.Save.{EndsRunTo, RunsSaving, Suspends}
use Rattle.meant_commands.specs.Meant.{HoldsBuilt, HoldsProgram, DoesAsMeant, Libraries, RunMeans, end_status, end_text}

-- ends
-- ====

pub status_as : (steps : ℕ) (end : End) → status_of (ending_of (end_of end) steps) ≡ end_status end
status_as steps Open = refl
status_as steps Ended = refl
status_as steps (Raised x) = refl
status_as steps (Memory room) = refl

pub text_as : (name : List ℕ) (steps : ℕ) (heap : PlainHeap) (end : End) → said_of heap end ++ line_of name (ending_of (end_of end) steps) ≡ end_text steps heap end
text_as name steps heap Open = refl
text_as name steps heap Ended = refl
text_as name steps heap (Raised x) = append-nil (end_report heap (Raised x))
text_as name steps heap (Memory room) = append-nil (room_line room)

-- statuses
-- ========

-- no run has this one
pub not_run : (n : ℕ) → (n ≡ 0 → ⊥) → (n ≡ 1 → ⊥) → (n ≡ 5 → ⊥) → (n ≡ 6 → ⊥) → IsRunStatus n → ⊥
not_run n a b c d (inl e) = a e
not_run n a b c d (inr (inl e)) = b e
not_run n a b c d (inr (inr (inl e))) = c e
not_run n a b c d (inr (inr (inr e))) = d e

-- what was printed begins a longer text
whole_front : (old new : Option (List ℕ)) (text more whole : List ℕ) → whole ≡ text ++ more → Appends old new text → AppendsFront old new whole
whole_front old new text more whole e h = record { front = text; rest = more; parts = e; added = h }

pub limit_open : (end : End) → ends.Limit ≡ end_of end → end ≡ Open
limit_open Open e = refl
limit_open Ended e = absurd cc
limit_open (Raised x) e = absurd cc
limit_open (Memory room) e = absurd cc

-- what the law below says of each library's run
abbrev pub MeantLaw : Type 0
MeantLaw = (program : Program) (shelf : Shelf) (room : Room) (steps : ℕ) (old new : Sight) (end : RunEnd) (said : List ℕ)
    → AreUnits program shelf → RunsAs shelf program.main_name room steps old new end said → AreAccounted old.ports new.ports
    → (ports : List PortState) (printed : List ℕ) → old.out ≡ Some printed → Tell old.ports ports
    → EndsAsMeant program room steps ports old new end said

module _ (law : MeantLaw) (Comes : Libraries) (program : Program) (room : Room) (steps : ℕ) (name : List ℕ) (old new : Outside) (ports_old ports_new : List PortView)
    (ports : List PortState) (printed : List ℕ) (holds : HoldsProgram Comes old.files name program) (ports_told : Tell ports_old ports) (accounted : AreAccounted ports_old ports_new)
    (out_told : old.out ≡ Some printed) (status : ℕ) (said : List ℕ) where
  abbrev before : Sight
  before = sight_in old ports_old

  abbrev after : Sight
  after = sight_in new ports_new

  abbrev Does : Type 0
  Does = DoesAsMeant program room steps ports old new ports_new status

  abbrev RanSo : RunEnd → Type 0
  RanSo end = RanLibrary (Comes old.files name) room steps before after said end

  -- a run that was made up to its end, or for all its steps
  over : (end : RunEnd) → status ≡ status_of (ending_of end steps) → Says old.say new.say old.say_faults new.say_faults (said ++ line_of name (ending_of end steps))
      → (status ≡ 8 → ⊥) → RanAsMeant program room steps ports before after end said → Does
  over end status_is says other h = record {
    ended = λ run_status. record {
      run = h.run;
      means = h.means;
      status_is = status_is ∙ ap (λ (e : RunEnd). status_of (ending_of e steps)) h.end_is ∙ status_as steps h.run.end;
      prints = h.prints;
      told = h.told;
      says = subst (Says old.say new.say old.say_faults new.say_faults)
          (ap (λ (text : List ℕ). text ++ line_of name (ending_of end steps)) h.said_is
          ∙ ap (λ (e : RunEnd). said_of h.run.world.heap h.run.end ++ line_of name (ending_of e steps)) h.end_is ∙ text_as name steps h.run.world.heap h.run.end) says;
    };
    cut_short = λ e. absurd (other e);
  }

  cut : status ≡ 8 → CutShortAsMeant program room steps ports before after → Does
  cut is h = record {
    ended = λ run_status. absurd (not_run 8 (λ e. absurd cc) (λ e. absurd cc) (λ e. absurd cc) (λ e. absurd cc) (subst IsRunStatus is run_status));
    cut_short = λ e. record {
      run = h.run;
      means = h.means;
      prints = h.prints;
      bound = h.bound;
      prints_meant = h.prints_meant;
      taken = h.taken;
      within = h.within;
      earlier = h.earlier;
      earlier_means = h.earlier_means;
      told = h.told;
    };
  }

  ran : (end : RunEnd) → (EndsAsMeant program room steps ports before after end said → Does) → RanSo end → Does
  ran end step r =
      let held = holds r.0 r.1 in
      let runs = subst (λ (main : List ℕ). RunsAs r.0.library main room steps before after end said) (sym held.0) r.2 in
      step (law program r.0.library room steps before after end said held.1 runs accounted ports printed out_told ports_told)

  -- no run was made
  none : (n : ℕ) → (n ≡ 0 → ⊥) → (n ≡ 1 → ⊥) → (n ≡ 5 → ⊥) → (n ≡ 6 → ⊥) → (n ≡ 8 → ⊥) → status ≡ n → Does
  none n a b c d e is = record {
    ended = λ run_status. absurd (not_run n a b c d (subst IsRunStatus is run_status));
    cut_short = λ eight. absurd (e (sym is ∙ eight));
  }

  abbrev Went : Ending → Type 0
  Went ending = Runs (Comes old.files name) room steps before after said ending

  abbrev SaysEnd : Ending → Type 0
  SaysEnd ending = Says old.say new.say old.say_faults new.say_faults (said ++ line_of name ending)

  not_eight : (n : ℕ) → (n ≡ 8 → ⊥) → status ≡ n → status ≡ 8 → ⊥
  not_eight n other is eight = other (sym is ∙ eight)

  pub meant_by : (ending : Ending) → status ≡ status_of ending → SaysEnd ending → Went ending → Does
  meant_by Done is says h = ran ends.Ended (over ends.Ended is says (not_eight 0 (λ e. absurd cc) is)) h
  meant_by (Stopped stops.Raised) is says h = ran ends.Raised (over ends.Raised is says (not_eight 1 (λ e. absurd cc) is)) h
  meant_by (Stopped stops.Memory) is says h = ran ends.Memory (over ends.Memory is says (not_eight 6 (λ e. absurd cc) is)) h
  meant_by (Stopped (stops.Steps count)) is says h =
      ran ends.Limit (over ends.Limit is (subst (λ (n : ℕ). SaysEnd (Stopped (stops.Steps n))) h.1 says) (not_eight 5 (λ e. absurd cc) is)) h.0
  meant_by (Stopped stops.Unsaved) is says h = absurd h
  meant_by (Stopped (stops.Unresumed fault)) is says h = absurd h
  meant_by (Stopped (stops.Past limit)) is says h = none 11 (λ e. absurd cc) (λ e. absurd cc) (λ e. absurd cc) (λ e. absurd cc) (λ e. absurd cc) is
  meant_by (Stopped (stops.LibraryFault path)) is says h = none 7 (λ e. absurd cc) (λ e. absurd cc) (λ e. absurd cc) (λ e. absurd cc) (λ e. absurd cc) is
  meant_by (Stopped (stops.LibraryUnaccepted source)) is says h = none 3 (λ e. absurd cc) (λ e. absurd cc) (λ e. absurd cc) (λ e. absurd cc) (λ e. absurd cc) is
  meant_by (Unaccepted fault) is says h = none 3 (λ e. absurd cc) (λ e. absurd cc) (λ e. absurd cc) (λ e. absurd cc) (λ e. absurd cc) is
  meant_by (Unread fault) is says h = none 4 (λ e. absurd cc) (λ e. absurd cc) (λ e. absurd cc) (λ e. absurd cc) (λ e. absurd cc) is
  meant_by (Unverified fault) is says h = none 4 (λ e. absurd cc) (λ e. absurd cc) (λ e. absurd cc) (λ e. absurd cc) (λ e. absurd cc) is
  meant_by (Unmerged fault) is says h = absurd h
  meant_by (Unopened (mains.Image fault)) is says h = none 4 (λ e. absurd cc) (λ e. absurd cc) (λ e. absurd cc) (λ e. absurd cc) (λ e. absurd cc) is
  meant_by (Unopened (mains.NoMain main)) is says h = none 10 (λ e. absurd cc) (λ e. absurd cc) (λ e. absurd cc) (λ e. absurd cc) (λ e. absurd cc) is
  meant_by (Unfrozen fault) is says h = absurd h
  meant_by (Unboarded fault) is says h = absurd h
  meant_by (Different difference) is says h = absurd h
  meant_by ReadFault is says h = none 7 (λ e. absurd cc) (λ e. absurd cc) (λ e. absurd cc) (λ e. absurd cc) (λ e. absurd cc) is
  meant_by WriteFault is says h = ran ends.WriteFault (cut is) h
  meant_by Unwritten is says h = absurd h
  meant_by NoMemory is says h = none 9 (λ e. absurd cc) (λ e. absurd cc) (λ e. absurd cc) (λ e. absurd cc) (λ e. absurd cc) is
  meant_by Absent is says h = none 10 (λ e. absurd cc) (λ e. absurd cc) (λ e. absurd cc) (λ e. absurd cc) (λ e. absurd cc) is

  -- a run whose state is saved
  -- ==========================

  module _ (snap : List ℕ) where
    abbrev WentTo : Ending → Type 0
    WentTo ending = RunsSaving (Comes old.files name) room steps before after said snap old.files new.files ending

    abbrev SaysTo : Ending → Type 0
    SaysTo ending = Says old.say new.say old.say_faults new.say_faults (said ++ line_of (name_in name snap ending) ending)

    -- the state wasn't written
    unwritten : status ≡ 8 → RanAsMeant program room steps ports before after ends.Limit said → Does
    unwritten is h =
        let stopped = h.means.stopped (limit_open h.run.end h.end_is) in
        record {
          ended = λ run_status. absurd (not_run 8 (λ e. absurd cc) (λ e. absurd cc) (λ e. absurd cc) (λ e. absurd cc) (subst IsRunStatus is run_status));
          cut_short = λ e. record {
            run = h.run;
            means = h.means;
            prints = whole_front old.out new.out h.run.world.output [] h.run.world.output (sym (append-nil h.run.world.output)) h.prints;
            bound = stopped.bound;
            prints_meant = whole_front old.out new.out h.run.world.output stopped.prints_on.rest (meaning program room.cells room.bytes ports stopped.bound).world.output stopped.prints_on.output h.prints;
            taken = steps;
            within = grind arith;
            earlier = h.run;
            earlier_means = h.means;
            told = h.told;
          };
        }

    suspended : {Saves : Shelf → Vm → Type 0} → Suspends (Comes old.files name) room steps before after said Saves → RanSo ends.Limit
    suspended h = (h.ready, h.comes, h.runs)

    pub meant_to : (ending : Ending) → status ≡ status_of ending → SaysTo ending → WentTo ending → Does
    meant_to Done is says h = meant_by Done is says h.0
    meant_to (Stopped stops.Raised) is says h = meant_by (Stopped stops.Raised) is says h.0
    meant_to (Stopped stops.Memory) is says h = meant_by (Stopped stops.Memory) is says h.0
    meant_to (Stopped (stops.Steps count)) is says h = meant_by (Stopped (stops.Steps count)) is says (suspended h.0, h.1)
    meant_to (Stopped stops.Unsaved) is says h = none 13 (λ e. absurd cc) (λ e. absurd cc) (λ e. absurd cc) (λ e. absurd cc) (λ e. absurd cc) is
    meant_to (Stopped (stops.Unresumed fault)) is says h = absurd h.0
    meant_to (Stopped (stops.Past limit)) is says h = meant_by (Stopped (stops.Past limit)) is says h.0
    meant_to (Stopped (stops.LibraryFault path)) is says h = meant_by (Stopped (stops.LibraryFault path)) is says h.0
    meant_to (Stopped (stops.LibraryUnaccepted source)) is says h = meant_by (Stopped (stops.LibraryUnaccepted source)) is says h.0
    meant_to (Unaccepted fault) is says h = meant_by (Unaccepted fault) is says h.0
    meant_to (Unread fault) is says h = meant_by (Unread fault) is says h.0
    meant_to (Unverified fault) is says h = meant_by (Unverified fault) is says h.0
    meant_to (Unmerged fault) is says h = absurd h.0
    meant_to (Unopened fault) is says h = meant_by (Unopened fault) is says h.0
    meant_to (Unfrozen fault) is says h = absurd h.0
    meant_to (Unboarded fault) is says h = absurd h.0
    meant_to (Different difference) is says h = absurd h.0
    meant_to ReadFault is says h = meant_by ReadFault is says h.0
    meant_to WriteFault is says h = meant_by WriteFault is says h.0
    meant_to Unwritten is says h = ran ends.Limit (unwritten is) (suspended h)
    meant_to NoMemory is says h = none 9 (λ e. absurd cc) (λ e. absurd cc) (λ e. absurd cc) (λ e. absurd cc) (λ e. absurd cc) is
    meant_to Absent is says h = meant_by Absent is says h.0

pub run_means : MeantLaw → (Comes : Libraries) (room : Room) (steps : ℕ) (name : List ℕ) (old new : Outside) (ports_old ports_new : List PortView) (status : ℕ)
    → EndsRun Comes room steps name old new ports_old ports_new status → RunMeans Comes room steps name old new ports_old ports_new status
run_means law Comes room steps name old new ports_old ports_new status ended program holds ports printed ports_told accounted out_told =
    meant_by law Comes program room steps name old new ports_old ports_new ports printed holds ports_told accounted out_told status ended.said ended.ending ended.status_is ended.says ended.went

pub run_to_means : MeantLaw → (snap : Option (List ℕ)) (Comes : Libraries) (room : Room) (steps : ℕ) (name : List ℕ) (old new : Outside) (ports_old ports_new : List PortView) (status : ℕ)
    → EndsRunTo snap Comes room steps name old new ports_old ports_new status → RunMeans Comes room steps name old new ports_old ports_new status
run_to_means law None Comes room steps name old new ports_old ports_new status ended program holds ports printed ports_told accounted out_told =
    run_means law Comes room steps name old new ports_old ports_new status ended program holds ports printed ports_told accounted out_told
run_to_means law (Some snap) Comes room steps name old new ports_old ports_new status ended program holds ports printed ports_told accounted out_told =
    meant_to law Comes program room steps name old new ports_old ports_new ports printed holds ports_told accounted out_told status ended.said snap ended.ending ended.status_is ended.says ended.went

-- the library of a file
-- =====================

by_some : {a b : List ℕ} → Some a ≡ Some b → a ≡ b
by_some e = cc

-- a file begins otherwise than an image
begins_other : (bytes rest : List ℕ) → bytes ≡ 0x4d ∷ 6 ∷ rest → begins_image bytes ≡ true → ⊥
begins_other bytes rest e h = let same : begins_image (0x4d ∷ 6 ∷ rest) ≡ true = subst (λ (z : List ℕ). begins_image z ≡ true) e h in cc

-- where the file under the name is one of a module, the run of its library is that of a file
pub file_holds : (below : Shelf) (files : FileOf) (name main : List ℕ) (program : Program)
    → ((shelf : Shelf) → FileLibrary (Some files) name (Ok shelf) → (program.main_name ≡ main_name) × AreUnits program shelf)
    → ((bytes : List ℕ) → files name ≡ Some bytes → (m : Module) × IsFile bytes m)
    → HoldsProgram (RunLibrary below main) (Some files) name program
file_holds below files name main program known is_file ready (not_read ending h e) = absurd cc
file_holds below files name main program known is_file ready (of_file bytes there other h) = let k = known ready.library h.0 in (k.0 ∙ sym h.1.main_is, k.1)
file_holds below files name main program known is_file ready (of_image bytes there short begins h) =
    let file = is_file bytes there in
    absurd (begins_other bytes _ file.1.spelling.text_is begins)

-- files that were built
-- =====================

module _ (is_file : (unit : Unit) (bytes : List ℕ) → IsBuilt unit bytes → (m : Module) × IsFile bytes m)
    (law : (files : FileOf) (base bytes : List ℕ) (main : Module) (shelf : Shelf) (program : Program) → IsFile bytes main → LoadsFrom files base main (length bytes) (Loaded shelf)
    → IsBuiltProgram files base bytes shelf program → AreUnits program shelf) where
  built_library : (files : FileOf) (name : List ℕ) (program : Program) → HoldsBuilt files name program → (shelf : Shelf) → FileLibrary (Some files) name (Ok shelf) → (program.main_name ≡ main_name) × AreUnits program shelf
  built_library files name program built shelf loads =
      let same : loads.holds.bytes ≡ built.bytes = by_some (sym loads.holds.holds ∙ built.there) in
      let is_main : IsFile built.bytes loads.main = subst (λ (bytes : List ℕ). IsFile bytes loads.main) same loads.holds.file in
      let size_is : loads.size ≡ length built.bytes = loads.holds.size_is ∙ ap length same in
      let from = subst (λ (size : ℕ). LoadsFrom files (base_of name) loads.main size (Loaded shelf)) size_is loads.loads in
      ((built.built shelf loads).main_name_is, law files (base_of name) built.bytes loads.main shelf program is_main from (built.built shelf loads))

  pub holds_built : (below : Shelf) (files : FileOf) (name main : List ℕ) (program : Program) → HoldsBuilt files name program → HoldsProgram (RunLibrary below main) (Some files) name program
  holds_built below files name main program built =
      file_holds below files name main program (built_library files name program built)
      (λ bytes there. let same : built.bytes ≡ bytes = by_some (sym built.there ∙ there) in subst (λ (b : List ℕ). (m : Module) × IsFile b m) same (is_file program.main built.bytes built.main))
