-- What the run of a made source says of its program.
use Rattle.std.specs.Prelude.{◌≡◌, ◌⊎◌, ℕ, List, Option}
use Rattle.std.specs.Io.KnownBytes.{Appends}
use Rattle.mpy_base.specs.declared.room.Room.{Room}
use Rattle.mpy_io.specs.Ports.{PortView}
use Rattle.board_command.specs.command_files.Outside.{Outside}
use Rattle.meant_commands.specs.GoMeant.{GoMeans}
use Rattle.mpy_endings.specs.Ending.{IsRunStatus}
use Rattle.meant_commands.specs.run_commands.Stress.{HasLibrary, Unprinted, beside, lines, stress_name}

-- The lines of the source of this seed and this count were printed, and behind them it did as the program of this source means.
module _ (seed count : ℕ) (room : Room) (steps : ℕ) (old new : Outside) (ports_old ports_new : List PortView) (status : ℕ) where
  pub record MeansMade : Type 0 where
    pub number : ℕ
    pub has : HasLibrary seed count number
    pub printed : Option (List ℕ)
    pub prints : Appends old.out printed (lines seed count number)
    pub means : GoMeans 0 room steps stress_name (beside seed count old printed) new ports_old ports_new status

  -- with the status of a run, and where the sink of the output failed: in the lines, or behind them
  pub record StressMeans : Type 0 where
    pub ended : IsRunStatus status → MeansMade
    pub cut_short : status ≡ 8 → Unprinted seed count room steps old new ports_old ports_new status ⊎ MeansMade
