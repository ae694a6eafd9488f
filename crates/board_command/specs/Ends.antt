-- How the command ends whose plan was run, or wasn't.
use Rattle.std.specs.Prelude.{Result, Ok, Err}
use Rattle.board_files.specs.declared.stop.BoardStop.{BoardStop}
use Rattle.board_files.specs.declared.stop.BoardStop.TheVariants as stops
use Rattle.command_files.specs.mpy_endings.declared.ending.Ending.{Ending}
use Rattle.command_files.specs.mpy_endings.declared.ending.Ending.TheVariants.{Done, Unboarded, WriteFault, NoMemory}
use Rattle.command_files.specs.mpy_endings.declared.ending.BoardFault.TheVariants as boards

-- the ending, by what running the plan answers
abbrev pub ending_of : Result (Unit {0}) BoardStop → Ending
ending_of (Ok done) = Done
ending_of (Err (stops.NoModule name)) = Unboarded (boards.NoModule name)
ending_of (Err (stops.Unwritten task)) = Unboarded (boards.Unwritten task)
ending_of (Err stops.WriteFault) = WriteFault
ending_of (Err stops.NoMemory) = NoMemory
