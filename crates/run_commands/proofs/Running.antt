-- What running a library comes to, from its parts.
use Rattle.std.proofs.Common.{◌≡◌, ℕ, ◌++◌, Bool, true, false, List, [], length, Option, Some, IfSome, Result, Ok, Err, refl, sym, ap, subst, ◌∙◌, inl, append-nil}
use Rattle.std.specs.Io.KnownBytes.{Keeps}
use Rattle.std.proofs.KnownBytes.{Appends-nil, Keeps-refl}
use Rattle.mpy_base.specs.declared.room.Room.{Room}
use Rattle.mpy_base.specs.declared.refused.Refused.{Refused}
use Rattle.mpy_base.specs.declared.refused.Refused.TheVariants as refused
use Rattle.mpy_io.specs.Count.{Counts}
use Rattle.mpy_io.specs.declared.fault.Failed.{Failed}
use Rattle.mpy_io.specs.Files.{FileOf}
use Rattle.mpy_io.specs.Ports.{PortView}
use Rattle.bc_library.specs.mpy_tree.Raw.{Module}
use Rattle.bc_library.specs.Shelf.{Shelf}
use Rattle.library_files.specs.declared.limit.LoadFault.{LoadFault}
use Rattle.library_files.specs.declared.limit.LoadFault.TheVariants as faults
use Rattle.library_files.specs.Ends.{EndsIn, FailsInBase, is_failed}
use Rattle.library_files.specs.Loads.{Loading, LoadsFrom}
use Rattle.library_runs.specs.declared.ending.RunEnd.{RunEnd}
use Rattle.library_runs.specs.declared.ending.RunEnd.TheVariants as ends
use Rattle.library_runs.specs.Runs.{Sight, IsOver, RunsAs, is_write_fault, sight, speaks}
use Rattle.command_files.specs.mpy_endings.declared.ending.Ending.{Ending}
use Rattle.command_files.specs.mpy_endings.declared.ending.Ending.TheVariants.{Done, Unaccepted, Unread, Unverified, Unmerged, Unopened, Unfrozen, Unboarded, Different, Stopped, ReadFault, WriteFault, Unwritten, NoMemory, Absent}
use Rattle.command_files.specs.mpy_endings.declared.ending.Stop.TheVariants.{Past, LibraryFault, LibraryUnaccepted, Raised, Memory, Steps, Unsaved, Unresumed}
use Rattle.run_commands.specs.Base.{base_of}
use Rattle.command_files.specs.mpy_endings.Ending.{IsRunStatus, is_folder_fault, is_out_fault, is_said, status_of}
use Rattle.command_files.specs.Folder.{MayHold}
use Rattle.command_files.specs.mpy_endings.Line.{Puts, Says, line_of}
use Rattle.command_files.specs.Opened.{Opens, Refuses, failed_in}
use Rattle.run_commands.specs.declared.ready.Ready.{Ready}
use Rattle.command_files.specs.Outside.{Outside}
use Rattle.run_commands.specs.Ready.{OpensMain}
use Rattle.run_commands.specs.Run.{HoldsMain, LoadsOf, RefusesLibrary, IsUnloaded, Untouched, Runs, EndsRun, sight_in, load_end, ending_of}
use Rattle.command_files.proofs.mpy_endings_lemmas.Said.{says_from}
use Rattle.command_files.proofs.mpy_endings_lemmas.Statuses.{none_run, not_eight, not_nine}
use Rattle.command_files.proofs.Verifying.{opened_err}

-- the main file
-- =============

-- what is opened of the bytes of the main file
pub opens_main : (bytes : List ℕ) (m : Module) (size : ℕ) → size ≡ length bytes → Opens bytes (Ok m) → OpensMain bytes (Ok (m, size))
opens_main bytes m size s h = (h.0, h.1, s)

pub main_from : (files : Option FileOf) (name bytes : List ℕ) (main : Module × ℕ) → MayHold files name (Some bytes) → OpensMain bytes (Ok main) → HoldsMain files name main.0 main.1
main_from files name bytes main holds h = record { bytes = bytes; holds = holds; file = h.0; verified = h.1; size_is = h.2 }

pub refuses_library : (files : Option FileOf) (name : List ℕ) (ending : Ending) → Refuses files name ending → RefusesLibrary files name ending
refuses_library files name Done h = absurd h
refuses_library files name (Unaccepted fault) h = absurd h
refuses_library files name (Unread fault) h = h
refuses_library files name (Unverified fault) h = h
refuses_library files name (Unmerged fault) h = absurd h
refuses_library files name (Unopened fault) h = absurd h
refuses_library files name (Unfrozen fault) h = absurd h
refuses_library files name (Unboarded fault) h = absurd h
refuses_library files name (Different difference) h = absurd h
refuses_library files name (Stopped stop) h = absurd h
refuses_library files name ReadFault h = tt
refuses_library files name WriteFault h = absurd h
refuses_library files name Unwritten h = absurd h
refuses_library files name NoMemory h = tt
refuses_library files name Absent h = h

-- what keeps the bytes from being opened keeps their library from being loaded
pub bytes_refuse : (files : Option FileOf) (name bytes : List ℕ) (ending : Ending) → MayHold files name (Some bytes) → Opens bytes (Err ending) → RefusesLibrary files name ending
bytes_refuse files name bytes ending holds h = refuses_library files name ending (opened_err files name bytes (Err ending) holds h)

-- its library
-- ===========

pub loads_of : (files now : Option FileOf) (name base : List ℕ) (main : Module) (size : ℕ) (end : Loading) → now ≡ files → base ≡ base_of name → HoldsMain files name main size
    → IfSome now (λ file. LoadsFrom file base main size end) → LoadsOf files name end
loads_of files now name base main size end e b holds loads = record {
  main = main;
  size = size;
  holds = holds;
  loads = subst (λ (bs : List ℕ). IfSome files (λ file. LoadsFrom file bs main size end)) b (subst (λ (fs : Option FileOf). IfSome fs (λ file. LoadsFrom file base main size end)) e loads);
}

pub load_refuses : (files now : Option FileOf) (name base : List ℕ) (main : Module) (size : ℕ) (r : Refused LoadFault) → now ≡ files → base ≡ base_of name → HoldsMain files name main size
    → IfSome now (λ file. EndsIn (LoadsFrom file base main size) (Err r)) → FailsInBase {A = Shelf} base (Err r) → RefusesLibrary files name (load_end r)
load_refuses files now name base main size (refused.Fault (faults.Past limit)) e b holds h at = loads_of files now name base main size (Rattle.library_files.specs.Loads.Past limit) e b holds h
load_refuses files now name base main size (refused.Fault (faults.Failed read)) e b holds h at = subst (λ (bs : List ℕ). FailsInBase {A = Shelf} bs (Err (refused.Fault (faults.Failed read)))) b at
load_refuses files now name base main size (refused.Fault (faults.Unaccepted source)) e b holds h at = absurd at.4
load_refuses files now name base main size refused.NoMemory e b holds h at = tt

pub refused_unloaded : (files : Option FileOf) (name : List ℕ) (ending : Ending) → RefusesLibrary files name ending → IsUnloaded ending
refused_unloaded files name Done h = absurd h
refused_unloaded files name (Unaccepted fault) h = absurd h
refused_unloaded files name (Unread fault) h = tt
refused_unloaded files name (Unverified fault) h = tt
refused_unloaded files name (Unmerged fault) h = absurd h
refused_unloaded files name (Unopened fault) h = absurd h
refused_unloaded files name (Unfrozen fault) h = absurd h
refused_unloaded files name (Unboarded fault) h = absurd h
refused_unloaded files name (Different difference) h = absurd h
refused_unloaded files name (Stopped (Past limit)) h = tt
refused_unloaded files name (Stopped (LibraryFault path)) h = tt
refused_unloaded files name (Stopped (LibraryUnaccepted source)) h = absurd h
refused_unloaded files name (Stopped Raised) h = absurd h
refused_unloaded files name (Stopped Memory) h = absurd h
refused_unloaded files name (Stopped (Steps count)) h = absurd h
refused_unloaded files name (Stopped Unsaved) h = absurd h
refused_unloaded files name (Stopped (Unresumed fault)) h = absurd h
refused_unloaded files name ReadFault h = tt
refused_unloaded files name WriteFault h = absurd h
refused_unloaded files name Unwritten h = absurd h
refused_unloaded files name NoMemory h = tt
refused_unloaded files name Absent h = tt

pub load_failed : (r : Refused LoadFault) → is_failed {A = Shelf} (Err r) ≡ is_folder_fault (load_end r)
load_failed (refused.Fault (faults.Past limit)) = refl
load_failed (refused.Fault (faults.Failed read)) = refl
load_failed (refused.Fault (faults.Unaccepted source)) = refl
load_failed refused.NoMemory = refl

-- its run
-- =======

module _ (Comes : Result Ready Ending → Type 0) (room : Room) (steps : ℕ) (old new : Sight) (said : List ℕ) where
  abbrev Went : Ending → Type 0
  Went ending = Runs Comes room steps old new said ending

  untouched : new ≡ old → said ≡ [] → Untouched old new said
  untouched e s = record {
    prints = subst (λ (sight : Sight). Keeps old.out sight.out) (sym e) (Keeps-refl old.out);
    ports = ap (λ (sight : Sight). sight.ports) e;
    says = s;
  }

  pub ran_library : (ready : Ready) (end : RunEnd) → Comes (Ok ready) → (end ≡ ends.NoMemory → new ≡ old) → RunsAs ready.library ready.main room steps old new end said → Went (ending_of end steps)
  ran_library ready ends.Ended loads none r = (ready, loads, r)
  ran_library ready ends.Raised loads none r = (ready, loads, r)
  ran_library ready ends.Memory loads none r = (ready, loads, r)
  ran_library ready ends.Limit loads none r = ((ready, loads, r), refl)
  ran_library ready ends.WriteFault loads none r = (ready, loads, r)
  ran_library ready ends.NoMemory loads none r = untouched (none refl) r.is_said

  pub not_loaded : (ending : Ending) → IsUnloaded ending → Comes (Err ending) → new ≡ old → said ≡ [] → Went ending
  not_loaded Done u h e s = absurd u
  not_loaded (Unaccepted fault) u h e s = (h, untouched e s)
  not_loaded (Unread fault) u h e s = (h, untouched e s)
  not_loaded (Unverified fault) u h e s = (h, untouched e s)
  not_loaded (Unmerged fault) u h e s = absurd u
  not_loaded (Unopened fault) u h e s = (h, untouched e s)
  not_loaded (Unfrozen fault) u h e s = absurd u
  not_loaded (Unboarded fault) u h e s = absurd u
  not_loaded (Different difference) u h e s = absurd u
  not_loaded (Stopped (Past limit)) u h e s = (h, untouched e s)
  not_loaded (Stopped (LibraryFault path)) u h e s = (h, untouched e s)
  not_loaded (Stopped (LibraryUnaccepted source)) u h e s = (h, untouched e s)
  not_loaded (Stopped Raised) u h e s = absurd u
  not_loaded (Stopped Memory) u h e s = absurd u
  not_loaded (Stopped (Steps count)) u h e s = absurd u
  not_loaded (Stopped Unsaved) u h e s = absurd u
  not_loaded (Stopped (Unresumed fault)) u h e s = absurd u
  not_loaded ReadFault u h e s = (h, untouched e s)
  not_loaded WriteFault u h e s = absurd u
  not_loaded Unwritten u h e s = absurd u
  not_loaded NoMemory u h e s = untouched e s
  not_loaded Absent u h e s = (h, untouched e s)

  -- what is said of the run is said in it
  pub unsaid : (ending : Ending) → Went ending → is_said ending ≡ false → said ≡ []
  unsaid Done r e = r.2.is_said
  unsaid (Unaccepted fault) r e = r.1.says
  unsaid (Unread fault) r e = r.1.says
  unsaid (Unverified fault) r e = r.1.says
  unsaid (Unmerged fault) r e = absurd r
  unsaid (Unopened fault) r e = r.1.says
  unsaid (Unfrozen fault) r e = absurd r
  unsaid (Unboarded fault) r e = absurd r
  unsaid (Different difference) r e = absurd r
  unsaid (Stopped (Past limit)) r e = r.1.says
  unsaid (Stopped (LibraryFault path)) r e = r.1.says
  unsaid (Stopped (LibraryUnaccepted source)) r e = r.1.says
  unsaid (Stopped Raised) r e = absurd cc
  unsaid (Stopped Memory) r e = absurd cc
  unsaid (Stopped (Steps count)) r e = r.0.2.is_said
  unsaid (Stopped Unsaved) r e = absurd r
  unsaid (Stopped (Unresumed fault)) r e = absurd r
  unsaid ReadFault r e = r.1.says
  unsaid WriteFault r e = r.2.is_said
  unsaid Unwritten r e = absurd r
  unsaid NoMemory r e = r.says
  unsaid Absent r e = r.1.says

  -- what is known of each result that loading comes to is known of the run
  module _ (Known : Result Ready Ending → Type 0) (known : (r : Result Ready Ending) → Comes r → Known r) where
    pub runs_known : (ending : Ending) → Went ending → Runs Known room steps old new said ending
    runs_known Done r = (r.0, known (Ok r.0) r.1, r.2)
    runs_known (Unaccepted fault) r = (known (Err (Unaccepted fault)) r.0, r.1)
    runs_known (Unread fault) r = (known (Err (Unread fault)) r.0, r.1)
    runs_known (Unverified fault) r = (known (Err (Unverified fault)) r.0, r.1)
    runs_known (Unmerged fault) r = absurd r
    runs_known (Unopened fault) r = (known (Err (Unopened fault)) r.0, r.1)
    runs_known (Unfrozen fault) r = absurd r
    runs_known (Unboarded fault) r = absurd r
    runs_known (Different difference) r = absurd r
    runs_known (Stopped (Past limit)) r = (known (Err (Stopped (Past limit))) r.0, r.1)
    runs_known (Stopped (LibraryFault path)) r = (known (Err (Stopped (LibraryFault path))) r.0, r.1)
    runs_known (Stopped (LibraryUnaccepted source)) r = (known (Err (Stopped (LibraryUnaccepted source))) r.0, r.1)
    runs_known (Stopped Raised) r = (r.0, known (Ok r.0) r.1, r.2)
    runs_known (Stopped Memory) r = (r.0, known (Ok r.0) r.1, r.2)
    runs_known (Stopped (Steps count)) r = ((r.0.0, known (Ok r.0.0) r.0.1, r.0.2), r.1)
    runs_known (Stopped Unsaved) r = absurd r
    runs_known (Stopped (Unresumed fault)) r = absurd r
    runs_known ReadFault r = (known (Err ReadFault) r.0, r.1)
    runs_known WriteFault r = (r.0, known (Ok r.0) r.1, r.2)
    runs_known Unwritten r = absurd r
    runs_known NoMemory r = r
    runs_known Absent r = (known (Err Absent) r.0, r.1)

pub out_counted : (end : RunEnd) (steps : ℕ) → is_write_fault end ≡ is_out_fault (ending_of end steps)
out_counted ends.Ended steps = refl
out_counted ends.Raised steps = refl
out_counted ends.Memory steps = refl
out_counted ends.Limit steps = refl
out_counted ends.WriteFault steps = refl
out_counted ends.NoMemory steps = refl

pub reads_nothing : (end : RunEnd) (steps : ℕ) → is_folder_fault (ending_of end steps) ≡ false
reads_nothing ends.Ended steps = refl
reads_nothing ends.Raised steps = refl
reads_nothing ends.Memory steps = refl
reads_nothing ends.Limit steps = refl
reads_nothing ends.WriteFault steps = refl
reads_nothing ends.NoMemory steps = refl

pub speaks_alike : (end : RunEnd) (steps : ℕ) → speaks end ≡ is_said (ending_of end steps)
speaks_alike ends.Ended steps = refl
speaks_alike ends.Raised steps = refl
speaks_alike ends.Memory steps = refl
speaks_alike ends.Limit steps = refl
speaks_alike ends.WriteFault steps = refl
speaks_alike ends.NoMemory steps = refl

pub done_is_over : (end : RunEnd) (steps : ℕ) → ending_of end steps ≡ Done → IsOver end
done_is_over ends.Ended steps e = tt
done_is_over ends.Raised steps e = tt
done_is_over ends.Memory steps e = tt
done_is_over ends.Limit steps e = tt
done_is_over ends.WriteFault steps e = absurd cc
done_is_over ends.NoMemory steps e = absurd cc

pub unloaded_quiet : (ending : Ending) → IsUnloaded ending → is_out_fault ending ≡ false
unloaded_quiet Done h = refl
unloaded_quiet (Unaccepted fault) h = refl
unloaded_quiet (Unread fault) h = refl
unloaded_quiet (Unverified fault) h = refl
unloaded_quiet (Unmerged fault) h = refl
unloaded_quiet (Unopened fault) h = refl
unloaded_quiet (Unfrozen fault) h = refl
unloaded_quiet (Unboarded fault) h = refl
unloaded_quiet (Different difference) h = refl
unloaded_quiet (Stopped stop) h = refl
unloaded_quiet ReadFault h = refl
unloaded_quiet WriteFault h = absurd h
unloaded_quiet Unwritten h = refl
unloaded_quiet NoMemory h = refl
unloaded_quiet Absent h = refl

pub unloaded_unrun : (ending : Ending) → IsUnloaded ending → IsRunStatus (status_of ending) → ⊥
unloaded_unrun ending h s = none_run IsUnloaded (λ p. p) (λ p. p) (λ p. p) (λ count p. p) ending h s

-- a run with the status of one was made
pub run_over : (end : RunEnd) (steps : ℕ) (ending : Ending) → ending ≡ ending_of end steps → IsRunStatus (status_of ending) → IsOver end
run_over ends.Ended steps ending is s = tt
run_over ends.Raised steps ending is s = tt
run_over ends.Memory steps ending is s = tt
run_over ends.Limit steps ending is s = tt
run_over ends.WriteFault steps ending is s = not_eight (subst (λ (e : Ending). IsRunStatus (status_of e)) is s)
run_over ends.NoMemory steps ending is s = not_nine (subst (λ (e : Ending). IsRunStatus (status_of e)) is s)

-- what is said
-- ============

-- nothing
pub says_nothing : (a : Option (List ℕ)) (k : ℕ) → Says a a k k []
says_nothing a k = inl (Appends-nil a, refl)

by_said : (t : Bool) (a b c : Option (List ℕ)) (k l m : ℕ) (said line : List ℕ) (r : Result (Unit {0}) Failed)
    → (t ≡ false → (b ≡ a) × (l ≡ k) × (said ≡ [])) → (t ≡ true → (c ≡ b) × (m ≡ l) × (line ≡ [])) → Says a b k l said → Puts b c l m line r → Says a c k m (said ++ line)
by_said true a b c k l m said line r none same s p =
    let x = same refl in
    let text : said ≡ said ++ line = sym (append-nil said) ∙ ap (λ (bs : List ℕ). said ++ bs) (sym x.2) in
    subst (λ (bs : List ℕ). Says a c k m bs) text (subst (λ (n : ℕ). Says a c k n said) (sym x.1) (subst (λ (o : Option (List ℕ)). Says a o k l said) (sym x.0) s))
by_said false a b c k l m said line r none same s p =
    let x = none refl in
    let text : line ≡ said ++ line = ap (λ (bs : List ℕ). bs ++ line) (sym x.2) in
    let here = subst (λ (o : Option (List ℕ)). Puts o c k m line r) x.0 (subst (λ (n : ℕ). Puts b c n m line r) x.1 p) in
    subst (λ (bs : List ℕ). Says a c k m bs) text (says_from a c k m line r here)

said_line : (name : List ℕ) (ending : Ending) → is_said ending ≡ true → line_of name ending ≡ []
said_line name Done e = refl
said_line name (Unaccepted fault) e = absurd cc
said_line name (Unread fault) e = absurd cc
said_line name (Unverified fault) e = absurd cc
said_line name (Unmerged fault) e = absurd cc
said_line name (Unopened fault) e = absurd cc
said_line name (Unfrozen fault) e = absurd cc
said_line name (Unboarded fault) e = absurd cc
said_line name (Different difference) e = absurd cc
said_line name (Stopped (Past limit)) e = absurd cc
said_line name (Stopped (LibraryFault path)) e = absurd cc
said_line name (Stopped (LibraryUnaccepted source)) e = absurd cc
said_line name (Stopped Raised) e = refl
said_line name (Stopped Memory) e = refl
said_line name (Stopped (Steps count)) e = absurd cc
said_line name (Stopped Unsaved) e = absurd cc
said_line name (Stopped (Unresumed fault)) e = absurd cc
said_line name ReadFault e = absurd cc
said_line name WriteFault e = absurd cc
said_line name Unwritten e = absurd cc
said_line name NoMemory e = absurd cc
said_line name Absent e = absurd cc

-- what was said in the run, and the line behind it
pub said_all : (a b c : Option (List ℕ)) (k l m : ℕ) (name said : List ℕ) (ending : Ending) (r : Result (Unit {0}) Failed)
    → (is_said ending ≡ false → (b ≡ a) × (l ≡ k) × (said ≡ [])) → (is_said ending ≡ true → (c ≡ b) × (m ≡ l)) → Says a b k l said → Puts b c l m (line_of name ending) r
    → Says a c k m (said ++ line_of name ending)
said_all a b c k l m name said ending r none same s p =
    by_said (is_said ending) a b c k l m said (line_of name ending) r none (λ e. ((same e).0, (same e).1, said_line name ending e)) s p

-- where neither the sink nor the ports changed, they tell the same
pub same_sight : {S P : Type 0} (told : S → Option (List ℕ)) (seen : P → PortView) (a b : S) (ps qs : List P) → b ≡ a → qs ≡ ps → sight told seen b qs ≡ sight told seen a ps
same_sight {S = S} {P = P} told seen a b ps qs e f = ap (λ (s : S). sight told seen s qs) e ∙ ap (λ (xs : List P). sight told seen a xs) f

-- the whole of a run
-- ==================

module _ (room : Room) (steps : ℕ) (old new : Outside) (ports_old ports_new : List PortView) (loaded : Result Ready Ending) (ending : Ending) (said : List ℕ)
    (ran : Runs (λ (r : Result Ready Ending). r ≡ loaded) room steps (sight_in old ports_old) (sight_in new ports_new) said ending) where
  -- what was said in it, and the line behind it
  pub says_run : (between : Option (List ℕ)) (count : ℕ) (name : List ℕ) (r : Result (Unit {0}) Failed) → (is_said ending ≡ false → (between ≡ old.say) × (count ≡ old.say_faults)) → (is_said ending ≡ true → (new.say ≡ between) × (new.say_faults ≡ count))
      → Says old.say between old.say_faults count said → Puts between new.say count new.say_faults (line_of name ending) r → Says old.say new.say old.say_faults new.say_faults (said ++ line_of name ending)
  says_run between count name r silent same s p =
      said_all old.say between new.say old.say_faults count new.say_faults name said ending r
      (λ e. ((silent e).0, (silent e).1, unsaid (λ (r : Result Ready Ending). r ≡ loaded) room steps (sight_in old ports_old) (sight_in new ports_new) said ending ran e)) same s p

  -- of what was loaded, whatever is known of that
  pub ends_run : (Comes : Option FileOf → (name : List ℕ) → Result Ready Ending → Type 0) (name word : List ℕ) (status : ℕ) → status ≡ status_of ending → word ≡ name → Comes old.files word loaded
      → Counts old.folder_faults new.folder_faults (failed_in loaded) → failed_in loaded ≡ is_folder_fault ending → Counts old.out_faults new.out_faults (is_out_fault ending)
      → Says old.say new.say old.say_faults new.say_faults (said ++ line_of word ending) → EndsRun Comes room steps name old new ports_old ports_new status
  ends_run Comes name word status status_is e comes counts reads out says =
      let went = runs_known (λ (r : Result Ready Ending). r ≡ loaded) room steps (sight_in old ports_old) (sight_in new ports_new) said (Comes old.files word) (λ r same. subst (Comes old.files word) (sym same) comes) ending ran in
      subst (λ (n : List ℕ). EndsRun Comes room steps n old new ports_old ports_new status) e
      (record {
        ending = ending;
        said = said;
        status_is = status_is;
        went = went;
        folder_counts = subst (Counts old.folder_faults new.folder_faults) reads counts;
        out_counts = out;
        says = says;
      })
