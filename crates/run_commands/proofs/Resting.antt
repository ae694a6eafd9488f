-- What goes on behind a suspended run, as the rest of one run.
use Rattle.std.proofs.Common.{◌≡◌, ◌⊎◌, inl, inr, ℕ, ◌+◌, ◌≤◌, ◌<◌, List, [], ◌∷◌, ◌++◌, map, Option, Some, None, refl, sym, ap, subst, ◌∙◌, append_assoc, arith}
use Rattle.std.specs.Prelude.{◌≢◌, length}
use Rattle.std.proofs.lemmas.List.{append_cancel_left}
use Rattle.std.specs.Io.KnownBytes.{Appends}
use Rattle.mpy_base.specs.declared.limits.TheConstants.{MAX_READ_BYTES}
use Rattle.mpy_base.specs.Val.{PlainWorld}
use Rattle.mpy_base.specs.World.{PortState}
use Rattle.mpy_io.specs.Files.{FileOf}
use Rattle.mpy_io.specs.Ports.{PortView}
use Rattle.mpy_io.specs.Told.{AppendsFront}
use Rattle.port_set.specs.Calls.{Tell}
use Rattle.port_set.specs.Counts.{AreAccounted}
use Rattle.bc_library.specs.Shelf.{Shelf}
use Rattle.library_runs.specs.vm_frames.py_effects.Ends as plain
use Rattle.library_runs.specs.vm_frames.py_effects.Ends.{End, Run, end_report, new_world}
use Rattle.library_runs.specs.vm_frames.py_effects.Growth.{Starts}
use Rattle.library_runs.specs.vm_frames.bc_machine.Library.{Name}
use Rattle.library_runs.specs.vm_frames.bc_machine.State.{State}
use Rattle.library_runs.specs.vm_frames.bc_machine.Machine.{run, run_of, steps as steps_of}
use Rattle.library_runs.specs.prim_outputs.Rooms.{room_line}
use Rattle.library_runs.specs.vm_starting.vm_states.Means.{Program}
use Rattle.library_runs.specs.vm_starting.Programs.{IsProgramOf}
use Rattle.library_runs.specs.vm_starting.declared.opening.Vm.{Vm}
use Rattle.library_runs.specs.vm_machine.Machine.{machine_of}
use Rattle.library_runs.specs.vm_frames.bc_machine.py_values.Shown.{PlainHeap}
use Rattle.library_runs.specs.declared.ending.RunEnd.{RunEnd}
use Rattle.library_runs.specs.declared.ending.RunEnd.TheVariants as ends
use Rattle.library_runs.specs.Runs.{CutFrom, EndsFrom, EndsSo, GoesOn, GoesSo, RanFrom, Sight, end_of, first_state, run_from, said_of, standing}
use Rattle.library_runs.proofs.Ended.{machine_world}
use Rattle.snap_grammar.specs.declared.fault.SnapFault.{SnapFault}
use Rattle.snap_grammar.specs.declared.fault.SnapFault.TheVariants.{BadHeader, BadForm, BadState}
use Rattle.snap_grammar.specs.declared.parts.Snapshot.{Snapshot}
use Rattle.snap_grammar.specs.Reading.{BeginsSo}
use Rattle.snap_grammar.specs.Spelling.{Fits, spelling}
use Rattle.snap_states.specs.States.{IsStateOf}
use Rattle.snap_loading.specs.Given.{HasNames, IsTabled}
use Rattle.snap_loading.specs.Loaded.{IsLoaded}
use Rattle.snap_loading.specs.Resumed.{EndAlike, GoesOnAs, IsRestOf}
use Rattle.snap_loading.specs.Saved.{snapshot_in}
use Rattle.snap_loading.specs.Suspended.{IsSuspended}
use Rattle.command_files.specs.mpy_endings.declared.ending.Ending.TheVariants.{Stopped}
use Rattle.command_files.specs.mpy_endings.declared.ending.Stop.TheVariants.{Unresumed}
use Rattle.run_commands.specs.Resume.{FirstSnapFault, HoldsState, RefusesState}
use Rattle.run_commands.specs.Suspended.{Front, IsRest, IsSuspendedRun, RefusesSnapshot, told_of, view_of}

-- what is told
-- ============

-- known bytes that grew by a text
grown : (old new : Option (List ℕ)) (before text : List ℕ) → old ≡ Some before → Appends old new text → new ≡ Some (before ++ text)
grown None new before text e h = absurd (let wrong : None ≡ Some before = e in cc)
grown (Some xs) None before text e h = absurd h
grown (Some xs) (Some ys) before text e h =
    let same : xs ≡ before = (let whole : Some xs ≡ Some before = e in cc) in
    ap Some (h ∙ ap (λ (z : List ℕ). z ++ text) same)

some_is : (xs ys : List ℕ) → Some xs ≡ Some ys → xs ≡ ys
some_is xs ys e = cc

-- they grew by one text
pub grew_by : (old new : Option (List ℕ)) (before text other : List ℕ) → old ≡ Some before → Appends old new text → Appends old new other → text ≡ other
grew_by old new before text other e h k =
    append_cancel_left before text other (some_is (before ++ text) (before ++ other) (sym (grown old new before text e h) ∙ grown old new before other e k))

-- ports that tell these, and what ports tell
pub told_are : (ports : List PortState) → Tell (map view_of ports) ports
told_are [] = refl
told_are (port ∷ ports) = ap (λ (found : List (Option PortState)). Some port ∷ found) (told_are ports)

some_same : (ports others : List PortState) → map (λ (port : PortState). Some port) ports ≡ map (λ (port : PortState). Some port) others → ports ≡ others
some_same [] [] e = refl
some_same [] (port ∷ others) e = absurd cc
some_same (port ∷ ports) [] e = absurd cc
some_same (port ∷ ports) (other ∷ others) e =
    let head : port ≡ other = cc in
    let tail : ports ≡ others = some_same ports others cc in
    cc

pub tells_same : (views : List PortView) (ports others : List PortState) → Tell views ports → Tell views others → ports ≡ others
tells_same views ports others h k = some_same ports others (sym h ∙ k)

-- ends
-- ====

end_alike : (a b : End) → EndAlike a b → end_of b ≡ end_of a
end_alike plain.Open plain.Open h = refl
end_alike plain.Ended plain.Ended h = refl
end_alike (plain.Raised x) (plain.Raised y) h = refl
end_alike (plain.Memory d) (plain.Memory e) h = refl
end_alike a b h = absurd h

said_alike : (a b : End) (heap other : PlainHeap) → EndAlike a b → end_report other b ≡ end_report heap a → said_of other b ≡ said_of heap a
said_alike plain.Open plain.Open heap other h e = refl
said_alike plain.Ended plain.Ended heap other h e = refl
said_alike (plain.Raised x) (plain.Raised y) heap other h e = e
said_alike (plain.Memory d) (plain.Memory c) heap other h e = ap room_line h
said_alike a b heap other h e = absurd h

-- one run
-- =======

-- the machine of a suspended run's snapshot goes on as the run
abbrev pub Continues : Type 0
Continues = (shelf : Shelf) (main : Name) (cells bytes : ℕ) (ports : List PortState) (n : ℕ) (snap : List ℕ) (vm other : Vm) → IsTabled shelf → HasNames shelf
    → IsSuspended shelf main cells bytes ports n snap vm → IsLoaded shelf snap other → (p : Program) → IsProgramOf shelf p → GoesOnAs p main cells bytes ports n vm other

module _ (law : Continues) (shelf : Shelf) (main : Name) (front : Front) (snap : List ℕ) (other : Vm) (tabled : IsTabled shelf)
    (suspended : IsSuspendedRun shelf main front snap) (loaded : IsLoaded shelf snap other) where
  -- what goes on for so many steps
  abbrev behind : Program → ℕ → Run
  behind p m = run_from p.library (standing p other front.left) m

  module _ (p : Program) (is : IsProgramOf shelf p) where
    -- the run of so many steps more
    abbrev whole : ℕ → Run
    whole m = run p.library main front.room.cells front.room.bytes front.ports (front.steps + m)

    is_rest : (m : ℕ) → IsRestOf front.printed (whole m) (behind p m)
    is_rest m =
        let stands = suspended.suspended.runs.stands p is in
        let there = ap (λ (s : State). (run_of s).world) stands.1 ∙ machine_world p suspended.vm stands.0 in
        let printed : stands.0.output ≡ front.printed = sym (ap (λ (w : PlainWorld). w.output) there) ∙ (suspended.runs p is).prints in
        let left : stands.0.ports ≡ front.left = sym (ap (λ (w : PlainWorld). w.ports) there) ∙ (suspended.runs p is).leaves in
        let so = law shelf main front.room.cells front.room.bytes front.ports front.steps snap suspended.vm other tabled suspended.names suspended.suspended loaded p is stands.0 stands.1 m in
        subst (λ (out : List ℕ). IsRestOf out (whole m) (behind p m)) printed
        (subst (λ (ports : List PortState). IsRestOf stands.0.output (whole m) (run_of (steps_of p.library m (machine_of p other (new_world 0 0 ports))))) left so)

    module _ (m : ℕ) (old new : Sight) (before : List ℕ) (out : old.out ≡ Some before) (rest : List ℕ) (ports : List PortState)
        (prints : Appends old.out new.out rest) (told : Tell new.ports ports) where
      -- what is seen of the whole run, before and behind it
      abbrev first : Sight
      first = told_of [] front.ports

      abbrev last : Sight
      last = told_of (front.printed ++ rest) ports

      same_rest : (text : List ℕ) → Appends old.out new.out text → rest ≡ text
      same_rest text h = grew_by old.out new.out before rest text out prints h

      told_last : (others : List PortState) → Tell new.ports others → Tell last.ports others
      told_last others h = subst (λ (z : List PortState). Tell last.ports z) (tells_same new.ports ports others told h) (told_are ports)

      ran : (end : RunEnd) (said : List ℕ) → RanFrom p.library (standing p other front.left) m old new end said
          → RanFrom p.library (first_state p main front.room (front.steps + m) front.ports) (front.steps + m) first last end said
      ran end said h =
          let so = is_rest m in
          record {
            end_is = h.end_is ∙ end_alike (whole m).end (behind p m).end so.ends;
            said_is = h.said_is ∙ said_alike (whole m).end (behind p m).end (whole m).world.heap (behind p m).world.heap so.ends so.report;
            output = ap (λ (text : List ℕ). front.printed ++ text) (same_rest (behind p m).world.output h.output) ∙ sym so.output;
            told = subst (λ (z : List PortState). Tell last.ports z) so.ports (told_last (behind p m).world.ports h.told);
          }

      -- what the next step adds
      next_added : (taken : ℕ) (more : List ℕ) → Starts ((behind p taken).world.output ++ more) (behind p (taken + 1)).world.output
          → Starts ((whole taken).world.output ++ more) (run p.library main front.room.cells front.room.bytes front.ports ((front.steps + taken) + 1)).world.output
      next_added taken more h =
          let r = (behind p taken).world.output in
          let one : (front.steps + taken) + 1 ≡ front.steps + (taken + 1) = omega arith in
          let on : (run p.library main front.room.cells front.room.bytes front.ports ((front.steps + taken) + 1)).world.output ≡ (whole (taken + 1)).world.output =
          ap (λ (k : ℕ). (run p.library main front.room.cells front.room.bytes front.ports k).world.output) one in
          let grew : (whole (taken + 1)).world.output ≡ front.printed ++ ((r ++ more) ++ h.0) =
          (is_rest (taken + 1)).output ∙ ap (λ (text : List ℕ). front.printed ++ text) h.1 in
          let there : (whole taken).world.output ++ more ≡ front.printed ++ (r ++ more) =
          ap (λ (text : List ℕ). text ++ more) (is_rest taken).output ∙ append_assoc front.printed r more in
          (h.0, on ∙ (grew ∙ (sym (append_assoc front.printed (r ++ more) h.0) ∙ ap (λ (text : List ℕ). text ++ h.0) (sym there))))

      cut : CutFrom p.library (standing p other front.left) m old new
          → CutFrom p.library (first_state p main front.room (front.steps + m) front.ports) (front.steps + m) first last
      cut h =
          let so = is_rest m in
          let there = is_rest h.taken in
          let r = (behind p h.taken).world.output in
          record {
            output = record {
              front = front.printed ++ rest;
              rest = h.output.rest;
              parts = so.output ∙ (ap (λ (text : List ℕ). front.printed ++ text)
                  (h.output.parts ∙ ap (λ (text : List ℕ). text ++ h.output.rest) (sym (same_rest h.output.front h.output.added)))
                  ∙ sym (append_assoc front.printed rest h.output.rest));
              added = refl;
            };
            taken = front.steps + h.taken;
            within = omega (arith, h.within);
            told = subst (λ (z : List PortState). Tell last.ports z) there.ports (told_last (behind p h.taken).world.ports h.told);
            more = h.more;
            added = ap (λ (text : List ℕ). front.printed ++ text) (same_rest (r ++ h.more) h.added)
                ∙ (sym (append_assoc front.printed r h.more) ∙ ap (λ (text : List ℕ). text ++ h.more) (sym there.output));
            next = elim h.next [
              | inl none ↦ inl none
              | inr x ↦ inr (omega (arith, x.0), next_added h.taken h.more x.1)
            ];
          }

      ends_so : (end : RunEnd) (said : List ℕ) → end ≢ ends.NoMemory → EndsFrom p.library (standing p other front.left) m old new end said
          → EndsSo p main front.room (front.steps + m) front.ports first last end said
      ends_so ends.Ended said some h = ran ends.Ended said h
      ends_so ends.Raised said some h = ran ends.Raised said h
      ends_so ends.Memory said some h = ran ends.Memory said h
      ends_so ends.Limit said some h = ran ends.Limit said h
      ends_so ends.WriteFault said some h = cut h
      ends_so ends.NoMemory said some h = absurd (some refl)

  module _ (m : ℕ) (old new : Sight) where
    -- what was seen of it: what it printed, and the ports
    abbrev Seen : Type 0
    Seen = (rest : List ℕ) × (ports : List PortState) × Appends old.out new.out rest × Tell new.ports ports

    seen : (p : Program) (end : RunEnd) (said : List ℕ) → end ≢ ends.NoMemory → EndsFrom p.library (standing p other front.left) m old new end said → Seen
    seen p ends.Ended said some h = ((behind p m).world.output, (behind p m).world.ports, h.output, h.told)
    seen p ends.Raised said some h = ((behind p m).world.output, (behind p m).world.ports, h.output, h.told)
    seen p ends.Memory said some h = ((behind p m).world.output, (behind p m).world.ports, h.output, h.told)
    seen p ends.Limit said some h = ((behind p m).world.output, (behind p m).world.ports, h.output, h.told)
    seen p ends.WriteFault said some h = (h.output.front, (behind p h.taken).world.ports, h.output.added, h.told)
    seen p ends.NoMemory said some h = absurd (some refl)

    pub rests_by : (end : RunEnd) (said before : List ℕ) → GoesOn shelf other m old new end said → GoesSo shelf other m old new end said → end ≢ ends.NoMemory
        → old.out ≡ Some before → Tell old.ports front.left → IsRest shelf main front m old new end said
    rests_by end said before goes so some out left =
        let s = seen goes.program.0 end said some (so goes.program.0 goes.program.1 front.left before out left) in
        record {
          rest = s.0;
          ports = s.1;
          prints = s.2;
          told = s.3;
          whole = record {
            program = goes.program;
            is_said = goes.is_said;
            runs = λ p is ports printed e t.
                inl (subst (λ (z : List PortState). EndsSo p main front.room (front.steps + m) z (told_of [] front.ports) (told_of (front.printed ++ s.0) s.1) end said)
                (tells_same (map view_of front.ports) front.ports ports (told_are front.ports) t)
                (ends_so p is m old new before out s.0 s.1 s.2 s.3 end said some (so p is front.left before out left)));
          };
        }

-- by the file of the snapshot
-- ===========================

abbrev pub On : Type 0
On = (shelf : Shelf) (vm : Vm) (steps : ℕ) (old new : Sight) (end : RunEnd) (said : List ℕ) → AreAccounted old.ports new.ports → GoesOn shelf vm steps old new end said
    → GoesSo shelf vm steps old new end said

pub rests : Continues → On → (shelf : Shelf) (main : Name) (front : Front) (file : FileOf) (name snap : List ℕ) (vm : Vm) (steps : ℕ) (old new : Sight) (end : RunEnd) (said before : List ℕ)
    → IsSuspendedRun shelf main front snap → file name ≡ Some snap → HoldsState shelf (Some file) name vm → GoesOn shelf vm steps old new end said → end ≢ ends.NoMemory
    → AreAccounted old.ports new.ports → old.out ≡ Some before → Tell old.ports front.left → IsRest shelf main front steps old new end said
rests law on shelf main front file name snap vm steps old new end said before suspended there holds goes some all out left =
    let same : holds.bytes ≡ snap = some_is holds.bytes snap (sym holds.holds ∙ there) in
    let loaded = subst (λ (bytes : List ℕ). IsLoaded shelf bytes vm) same holds.loaded in
    rests_by law shelf main front snap vm holds.tabled suspended loaded steps old new end said before goes (on shelf vm steps old new end said all goes) some out left

-- the snapshot of a suspended run is one of a state
abbrev pub Begins : Type 0
Begins = (shelf : Shelf) (main : Name) (cells bytes : ℕ) (ports : List PortState) (n : ℕ) (snap : List ℕ) (vm : Vm) → IsSuspended shelf main cells bytes ports n snap vm → BeginsSo snap

abbrev pub AreStates : Type 0
AreStates = (shelf : Shelf) (main : Name) (cells bytes : ℕ) (ports : List PortState) (n : ℕ) (snap : List ℕ) (vm : Vm) → IsTabled shelf → HasNames shelf
    → IsSuspended shelf main cells bytes ports n snap vm → (s : Snapshot) → Fits s → snap ≡ spelling s → IsStateOf shelf s

module _ (header : Begins) (state : AreStates) (shelf : Shelf) (main : Name) (front : Front) where
  no_fault : (snap : List ℕ) (fault : SnapFault) → IsTabled shelf → IsSuspendedRun shelf main front snap → FirstSnapFault shelf snap fault → ⊥
  no_fault snap BadHeader tabled x h = h (header shelf main front.room.cells front.room.bytes front.ports front.steps snap x.vm x.suspended)
  no_fault snap BadForm tabled x h = h.1 (snapshot_in shelf x.vm) x.suspended.fits x.suspended.spelled
  no_fault snap BadState tabled x h = h.3 (state shelf main front.room.cells front.room.bytes front.ports front.steps snap x.vm tabled x.names x.suspended h.0 h.1 h.2)

  not_refused : (file : FileOf) (name snap : List ℕ) (fault : SnapFault) → IsSuspendedRun shelf main front snap → file name ≡ Some snap
      → RefusesState shelf (Some file) name (Stopped (Unresumed fault)) → ⊥
  not_refused file name snap fault x there (inl long) =
      let same : long.1.0 ≡ snap = some_is long.1.0 snap (sym long.1.1 ∙ there) in
      let many : MAX_READ_BYTES < length snap = subst (λ (bytes : List ℕ). MAX_READ_BYTES < length bytes) same long.1.2 in
      let few = x.few_bytes in
      let most : MAX_READ_BYTES ≡ 16777216 = refl in
      omega (arith, many, few, most)
  not_refused file name snap fault x there (inr holds) =
      let same : holds.bytes ≡ snap = some_is holds.bytes snap (sym holds.holds ∙ there) in
      no_fault snap fault holds.tabled x (subst (λ (bytes : List ℕ). FirstSnapFault shelf bytes fault) same holds.first)

  pub accepted : (file : FileOf) (name snap : List ℕ) → IsSuspendedRun shelf main front snap → file name ≡ Some snap → RefusesSnapshot shelf file name → ⊥
  accepted file name snap x there refused = not_refused file name snap refused.0 x there refused.1
