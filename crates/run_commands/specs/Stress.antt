-- What `stress SEED COUNT` does: it runs a made source, as `go` runs one.
use Rattle.std.specs.Prelude.{◌≡◌, ◌⊎◌, ℕ, ◌-◌, ◌^◌, min, List, [], ◌∷◌, ◌++◌, length, codes, decimal, Option, Some, Ok}
use Rattle.std.specs.Io.KnownBytes.{Appends}
use Rattle.mpy_base.specs.declared.room.Room.{Room}
use Rattle.mpy_io.specs.Count.{Rose}
use Rattle.mpy_io.specs.Files.{FileOf}
use Rattle.mpy_io.specs.Memory.{file_of}
use Rattle.mpy_io.specs.Ports.{PortView}
use Rattle.mpy_io.specs.Told.{AppendsFront}
use Rattle.bc_library.specs.mpy_tree.Raw.{Module}
use Rattle.bc_library.specs.mpy_tree.Codes.{codes_of}
use Rattle.bc_library.specs.Shelf.{module_at}
use Rattle.command_files.specs.mpy_endings.declared.ending.Ending.TheVariants.{WriteFault}
use Rattle.command_files.specs.mpy_endings.Ending.{status_of}
use Rattle.command_files.specs.mpy_endings.Line.{Says, line_of}
use Rattle.command_files.specs.Outside.{Outside}
use Rattle.run_commands.specs.declared.ready.Ready.{Ready}
use Rattle.run_commands.specs.Ready.{GoLibrary}
use Rattle.run_commands.specs.Run.{EndsRun, IsUnloaded}
use Rattle.run_commands.specs.Source.{stress_text}

-- the name of the made source
abbrev pub stress_name : List ℕ
stress_name = codes "stress.py"

-- the greatest count of its assignments
abbrev pub most_assignments : ℕ
most_assignments = 20000

-- a folder that has the made source alone
abbrev pub stress_files : (seed count : ℕ) → FileOf
stress_files seed count = file_of ((stress_name, stress_text seed count) ∷ [])

-- how many codes the main module of a library has, where they are fewer than 2^64
pub record HasCodes (ready : Ready) (number : ℕ) : Type 0 where
  pub main : Module
  pub is_main : module_at ready.library ready.place ≡ Some main
  pub number_is : number ≡ min (length (codes_of main)) (2 ^ 64 - 1)

-- what is printed in front of the output: how long the source is, and how many codes its module has
abbrev pub front_lines : (bytes number : ℕ) → List ℕ
front_lines bytes number = (codes "source " ++ decimal bytes ++ codes " bytes\n") ++ (codes "codes " ++ decimal number ++ codes "\n")

-- two sinks and a folder that tells nothing and has these faults
abbrev pub sinks : (faults : ℕ) → (out : Option (List ℕ)) → (out_faults : ℕ) → (say : Option (List ℕ)) → (say_faults : ℕ) → (files : Option FileOf) → Outside
sinks faults out out_faults say say_faults files = record {
  files = files;
  folder_faults = faults;
  out = out;
  out_faults = out_faults;
  say = say;
  say_faults = say_faults;
}

-- of the source with this seed and this count of assignments
module _ (seed count : ℕ) where
  -- at level 0 it has a library whose main module has this many codes
  abbrev pub HasLibrary : (number : ℕ) → Type 0
  HasLibrary number = (ready : Ready) × GoLibrary 0 (Some (stress_files seed count)) stress_name (Ok ready) × HasCodes ready number

  -- the lines in front of its output
  abbrev pub lines : (number : ℕ) → List ℕ
  lines number = front_lines (length (stress_text seed count)) number

  -- the outside of its run, when this was printed: a folder has the source alone
  abbrev pub beside : (old : Outside) → (printed : Option (List ℕ)) → Outside
  beside old printed = record {
    files = Some (stress_files seed count);
    folder_faults = old.folder_faults;
    out = printed;
    out_faults = old.out_faults;
    say = old.say;
    say_faults = old.say_faults;
  }

  module _ (room : Room) (steps : ℕ) (old new : Outside) (ports_old ports_new : List PortView) (status : ℕ) where
    -- `go` of the source ended so, behind what was printed
    abbrev pub Goes : (printed : Option (List ℕ)) → Type 0
    Goes printed = EndsRun (GoLibrary 0) room steps stress_name (beside old printed) new ports_old ports_new status

    -- `go` of the source ended without a library, and no line was printed
    pub record Unloaded : Type 0 where
      pub goes : Goes old.out
      pub unloaded : IsUnloaded goes.ending

    -- a line in front of the output couldn't be printed, and nothing was run
    pub record Unprinted : Type 0 where
      pub number : ℕ
      pub has : HasLibrary number
      pub status_is : status ≡ status_of WriteFault
      pub prints : AppendsFront old.out new.out (lines number)
      pub ports : ports_new ≡ ports_old
      pub folder_counts : new.folder_faults ≡ old.folder_faults
      pub out_counts : Rose old.out_faults new.out_faults
      pub says : Says old.say new.say old.say_faults new.say_faults (line_of stress_name WriteFault)

    -- both lines were printed, and behind them `go` of the source ended so
    pub record Ran : Type 0 where
      pub number : ℕ
      pub has : HasLibrary number
      pub printed : Option (List ℕ)
      pub prints : Appends old.out printed (lines number)
      pub goes : Goes printed

    -- how `stress` ended
    abbrev pub EndsStress : Type 0
    EndsStress = Unloaded ⊎ Unprinted ⊎ Ran
