-- Two whole runs of one library that begin alike are alike.
use Rattle.std.proofs.Common.{◌≡◌, ℕ, ◌++◌, List, Option, Some, None, sym, ap, ◌∙◌}
use Rattle.std.specs.Io.KnownBytes.{Appends}
use Rattle.meant_files.specs.mpy_base.declared.room.Room.{Room}
use Rattle.meant_files.specs.mpy_base.World.{PortState}
use Rattle.meant_files.specs.port_set.Counts.{AreAccounted}
use Rattle.library_files.specs.bc_library.Shelf.{Shelf}
use Rattle.meant_files.specs.vm_frames.bc_machine.Library.{Name}
use Rattle.meant_files.specs.vm_starting.vm_states.Means.{Program}
use Rattle.meant_files.specs.vm_starting.Programs.{IsProgramOf}
use Rattle.run_commands.specs.library_runs.declared.ending.RunEnd.{RunEnd}
use Rattle.run_commands.specs.library_runs.declared.ending.RunEnd.TheVariants as ends
use Rattle.run_commands.specs.library_runs.Runs.{Sight, IsOver, Ran, EndsSo, RunsAs, RunsSo}
use Rattle.meant_commands.specs.Alike.{Tells, IsWholeRun, AreAlike}

-- known bytes that grew by a text
grown : (old new : Option (List ℕ)) (printed text : List ℕ) → old ≡ Some printed → Appends old new text → new ≡ Some (printed ++ text)
grown None new printed text e h = absurd (let wrong : None ≡ Some printed = e in cc)
grown (Some xs) None printed text e h = absurd h
grown (Some xs) (Some ys) printed text e h =
    let same : xs ≡ printed = (let whole : Some xs ≡ Some printed = e in cc) in
    ap Some (h ∙ ap (λ (z : List ℕ). z ++ text) same)

-- a run that was made up to its end is the machine's
over_ran : (p : Program) (name : Name) (room : Room) (steps : ℕ) (ports : List PortState) (old new : Sight) (end : RunEnd) (said : List ℕ) → IsOver end → EndsSo p name room steps ports old new end said
    → Ran p name room steps ports old new end said
over_ran p name room steps ports old new ends.Ended said over h = h
over_ran p name room steps ports old new ends.Raised said over h = h
over_ran p name room steps ports old new ends.Memory said over h = h
over_ran p name room steps ports old new ends.Limit said over h = h
over_ran p name room steps ports old new ends.WriteFault said over h = absurd over
over_ran p name room steps ports old new ends.NoMemory said over h = absurd over

-- where no port strayed a run is the machine's
abbrev pub Accounted : Type 0
Accounted = (shelf : Shelf) (name : Name) (room : Room) (steps : ℕ) (old new : Sight) (end : RunEnd) (said : List ℕ) → AreAccounted old.ports new.ports → RunsAs shelf name room steps old new end said → RunsSo shelf name room steps old new end said

module _ (runs_so : Accounted) (shelf : Shelf) (name : Name) (room : Room) (steps : ℕ) (old : Sight) (tells : Tells old) where
  ran_of : (new : Sight) (end : RunEnd) (said : List ℕ) → IsWholeRun shelf name room steps old new end said → (program : (p : Program) × IsProgramOf shelf p) → Ran program.0 name room steps tells.ports old new end said
  ran_of new end said h program =
      over_ran program.0 name room steps tells.ports old new end said h.over
      (runs_so shelf name room steps old new end said h.accounted h.runs program.0 program.1 tells.ports tells.printed tells.out tells.told)

  module _ (new_a new_b : Sight) (end_a end_b : RunEnd) (said_a said_b : List ℕ) (a : IsWholeRun shelf name room steps old new_a end_a said_a) (b : IsWholeRun shelf name room steps old new_b end_b said_b) where
    pub same_end : end_a ≡ end_b
    same_end = (ran_of new_a end_a said_a a a.runs.program).end_is ∙ sym (ran_of new_b end_b said_b b a.runs.program).end_is

    pub same_said : said_a ≡ said_b
    same_said = (ran_of new_a end_a said_a a a.runs.program).said_is ∙ sym (ran_of new_b end_b said_b b a.runs.program).said_is

    pub alike : AreAlike new_a new_b
    alike =
        let x = ran_of new_a end_a said_a a a.runs.program in
        let y = ran_of new_b end_b said_b b a.runs.program in
        record {
          out = grown old.out new_a.out tells.printed _ tells.out x.output ∙ sym (grown old.out new_b.out tells.printed _ tells.out y.output);
          ports = x.told ∙ sym y.told;
        }
