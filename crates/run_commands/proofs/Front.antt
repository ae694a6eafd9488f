-- How a made source ended, with the lines in front of its output.
use Rattle.std.proofs.Common.{◌≡◌, ℕ, Bool, false, List, [], length, Option, Some, Ok, Err, refl, sym, ap, subst, inl, inr}
use Rattle.std.specs.Io.KnownBytes.{Appends}
use Rattle.mpy_base.specs.declared.room.Room.{Room}
use Rattle.mpy_io.specs.Count.{Counts, Rose}
use Rattle.mpy_io.specs.Files.{FileOf}
use Rattle.mpy_io.specs.Ports.{PortView}
use Rattle.mpy_io.specs.Told.{AppendsFront}
use Rattle.command_files.specs.mpy_endings.declared.ending.Ending.{Ending}
use Rattle.command_files.specs.mpy_endings.declared.ending.Ending.TheVariants.{WriteFault}
use Rattle.command_files.specs.mpy_endings.Ending.{is_folder_fault, is_out_fault, status_of}
use Rattle.command_files.specs.mpy_endings.Line.{Says, line_of}
use Rattle.command_files.specs.Outside.{Outside}
use Rattle.run_commands.specs.declared.ready.Ready.{Ready}
use Rattle.run_commands.specs.Ready.{GoLibrary}
use Rattle.run_commands.specs.Run.{EndsRun, IsUnloaded, sight_in}
use Rattle.run_commands.proofs.Running.{not_loaded, unloaded_quiet}
use Rattle.run_commands.specs.Source.{stress_text}
use Rattle.run_commands.specs.Stress.{EndsStress, HasCodes, beside, front_lines, sinks, stress_files, stress_name}

-- a count that stays, where the call didn't fail
stays : (old new : ℕ) (failed : Bool) → failed ≡ false → new ≡ old → Counts old new failed
stays old new failed e same = subst (Counts old new) (sym e) same

module _ (seed count : ℕ) (room : Room) (steps : ℕ) where
  -- there is no library, and nothing was printed
  pub no_library : (old new : Outside) (ports : List PortView) (status : ℕ) (ending : Ending) → GoLibrary 0 (Some (stress_files seed count)) stress_name (Err ending) → IsUnloaded ending
      → is_folder_fault ending ≡ false → status ≡ status_of ending → new.out ≡ old.out → new.folder_faults ≡ old.folder_faults → new.out_faults ≡ old.out_faults
      → Says old.say new.say old.say_faults new.say_faults (line_of stress_name ending) → EndsStress seed count room steps old new ports ports status
  no_library old new ports status ending comes u reads status_is out folder faults says = inl (record {
    goes = record {
      ending = ending;
      said = [];
      status_is = status_is;
      went = not_loaded (GoLibrary 0 (Some (stress_files seed count)) stress_name) room steps (sight_in (beside seed count old old.out) ports) (sight_in new ports) [] ending u comes
          (ap (λ (told : Option (List ℕ)). record { out = told; ports = ports }) out) refl;
      folder_counts = stays old.folder_faults new.folder_faults (is_folder_fault ending) reads folder;
      out_counts = stays old.out_faults new.out_faults (is_out_fault ending) (unloaded_quiet ending u) faults;
      says = says;
    };
    unloaded = u;
  })

  -- there is one, and the lines in front of the output were put, or not
  module _ (bytes number : ℕ) (ready : Ready) (length_is : bytes ≡ length (stress_text seed count)) (comes : GoLibrary 0 (Some (stress_files seed count)) stress_name (Ok ready)) (codes_are : HasCodes ready number)
      (faults : ℕ) (files : Option FileOf) (out between last : Option (List ℕ)) (out_faults between_faults last_faults : ℕ) (say said : Option (List ℕ)) (say_faults said_faults : ℕ) where
    pub cut_short : (ports : List PortView) (status : ℕ) → status ≡ status_of WriteFault → AppendsFront out between (front_lines bytes number) × Rose out_faults between_faults
        → Says say said say_faults said_faults (line_of stress_name WriteFault)
        → EndsStress seed count room steps (sinks faults out out_faults say say_faults files) (sinks faults between between_faults said said_faults files) ports ports status
    cut_short ports status status_is put says = inr (inl (record {
      number = number;
      has = (ready, comes, codes_are);
      status_is = status_is;
      prints = subst (λ (n : ℕ). AppendsFront out between (front_lines n number)) length_is put.0;
      ports = refl;
      folder_counts = refl;
      out_counts = put.1;
      says = says;
    }))

    pub ran : (ports_old ports_new : List PortView) (status : ℕ) → Appends out between (front_lines bytes number) × (between_faults ≡ out_faults)
        → EndsRun (GoLibrary 0) room steps stress_name (sinks faults between between_faults say say_faults (Some (stress_files seed count))) (sinks faults last last_faults said said_faults files) ports_old ports_new status
        → EndsStress seed count room steps (sinks faults out out_faults say say_faults files) (sinks faults last last_faults said said_faults files) ports_old ports_new status
    ran ports_old ports_new status put ended = inr (inr (record {
      number = number;
      has = (ready, comes, codes_are);
      printed = between;
      prints = subst (λ (n : ℕ). Appends out between (front_lines n number)) length_is put.0;
      goes = subst (λ (n : ℕ). EndsRun (GoLibrary 0) room steps stress_name (sinks faults between n say say_faults (Some (stress_files seed count))) (sinks faults last last_faults said said_faults files) ports_old ports_new status) put.1 ended;
    }))
