-- How a command ended: its status, which count of faults rose, and whether the ending is determined.
use Rattle.std.specs.Prelude.{◌≡◌, ◌⊎◌, ℕ, Bool, true, false}
use Rattle.image_runs.specs.declared.fault.MainFault.{MainFault}
use Rattle.image_runs.specs.declared.fault.MainFault.TheVariants as mains
use Rattle.manifest_files.specs.declared.frozen_fault.SourcesFault.{SourcesFault}
use Rattle.manifest_files.specs.declared.frozen_fault.SourcesFault.TheVariants as sources
use Rattle.manifest_files.specs.declared.frozen_fault.FrozenFault.{FrozenFault}
use Rattle.manifest_files.specs.declared.frozen_fault.FrozenFault.TheVariants as frozen
use Rattle.manifest_files.specs.FrozenFaults.{is_read_failure}
use Rattle.mpy_endings.specs.declared.ending.Ending.{Ending}
use Rattle.mpy_endings.specs.declared.ending.Ending.TheVariants.{Done, Unaccepted, Unread, Unverified, Unmerged, Unopened}
use Rattle.mpy_endings.specs.declared.ending.Ending.TheVariants.{Unfrozen, Unboarded, Different, Stopped, ReadFault, WriteFault}
use Rattle.mpy_endings.specs.declared.ending.Ending.TheVariants.{Unwritten, NoMemory, Absent}
use Rattle.mpy_endings.specs.declared.ending.BoardFault.{BoardFault}
use Rattle.mpy_endings.specs.declared.ending.BoardFault.TheVariants as boards
use Rattle.mpy_endings.specs.declared.ending.Stop.{Stop}
use Rattle.mpy_endings.specs.declared.ending.Stop.TheVariants.{Past, LibraryFault, LibraryUnaccepted, Raised, Memory, Steps, Unsaved, Unresumed}

-- of a run that wasn't done
abbrev pub stop_status : Stop → ℕ
stop_status Raised = 1
stop_status (LibraryUnaccepted source) = 3
stop_status (Steps count) = 5
stop_status Memory = 6
stop_status (LibraryFault path) = 7
stop_status (Past limit) = 11
stop_status Unsaved = 13
stop_status (Unresumed fault) = 4

-- the status of an image that has no main module
abbrev pub main_status : MainFault → ℕ
main_status (mains.Image fault) = 4
main_status (mains.NoMain name) = 10

-- the status of a manifest whose sources have no modules
abbrev pub sources_status : SourcesFault → ℕ
sources_status (sources.Manifest fault) = 11
sources_status (sources.Absent name) = 10
sources_status (sources.Unaccepted name fault) = 3
sources_status (sources.Unread name) = 7

-- the status of a manifest whose sources have no image
abbrev pub frozen_status : FrozenFault → ℕ
frozen_status (frozen.Sources fault) = sources_status fault
frozen_status (frozen.Image fault) = 11

-- the status of a board that didn't run its plan
abbrev pub board_status : BoardFault → ℕ
board_status (boards.Plan fault) = 11
board_status (boards.NoModule name) = 11
board_status (boards.Unwritten task) = 8

-- the exit status
abbrev pub status_of : Ending → ℕ
status_of Done = 0
status_of (Unaccepted fault) = 3
status_of (Unread fault) = 4
status_of (Unverified fault) = 4
status_of ReadFault = 7
status_of WriteFault = 8
status_of Unwritten = 8
status_of NoMemory = 9
status_of Absent = 10
status_of (Unmerged fault) = 11
status_of (Unopened fault) = main_status fault
status_of (Unfrozen fault) = frozen_status fault
status_of (Unboarded fault) = board_status fault
status_of (Different difference) = 12
status_of (Stopped stop) = stop_status stop

-- the statuses of a run that was made up to its end, or for all its steps
abbrev pub IsRunStatus : ℕ → Type 0
IsRunStatus status = (status ≡ 0) ⊎ (status ≡ 1) ⊎ (status ≡ 5) ⊎ (status ≡ 6)

-- whether the folder's count of faults rose
abbrev pub is_read_stop : Stop → Bool
is_read_stop (Past limit) = false
is_read_stop (LibraryFault path) = true
is_read_stop (LibraryUnaccepted source) = false
is_read_stop Raised = false
is_read_stop Memory = false
is_read_stop (Steps count) = false
is_read_stop Unsaved = false
is_read_stop (Unresumed fault) = false

-- is it the fault of a file that wasn't written?
abbrev pub is_output_fault : BoardFault → Bool
is_output_fault (boards.Plan fault) = false
is_output_fault (boards.NoModule name) = false
is_output_fault (boards.Unwritten task) = true

-- whether the folder's count of faults rose where a command ended so
abbrev pub is_folder_fault : Ending → Bool
is_folder_fault Done = false
is_folder_fault (Unaccepted fault) = false
is_folder_fault (Unread fault) = false
is_folder_fault (Unverified fault) = false
is_folder_fault (Unmerged fault) = false
is_folder_fault (Unopened fault) = false
is_folder_fault (Unfrozen fault) = is_read_failure fault
is_folder_fault (Unboarded fault) = is_output_fault fault
is_folder_fault (Different difference) = false
is_folder_fault (Stopped stop) = is_read_stop stop
is_folder_fault ReadFault = true
is_folder_fault WriteFault = false
is_folder_fault Unwritten = true
is_folder_fault NoMemory = false
is_folder_fault Absent = false

-- whether the count of what is printed to rose
abbrev pub is_out_fault : Ending → Bool
is_out_fault Done = false
is_out_fault (Unaccepted fault) = false
is_out_fault (Unread fault) = false
is_out_fault (Unverified fault) = false
is_out_fault (Unmerged fault) = false
is_out_fault (Unopened fault) = false
is_out_fault (Unfrozen fault) = false
is_out_fault (Unboarded fault) = false
is_out_fault (Different difference) = false
is_out_fault (Stopped stop) = false
is_out_fault ReadFault = false
is_out_fault WriteFault = true
is_out_fault Unwritten = false
is_out_fault NoMemory = false
is_out_fault Absent = false

-- whether it was said in the run how it ended
abbrev pub is_stop_said : Stop → Bool
is_stop_said (Past limit) = false
is_stop_said (LibraryFault path) = false
is_stop_said (LibraryUnaccepted source) = false
is_stop_said Raised = true
is_stop_said Memory = true
is_stop_said (Steps count) = false
is_stop_said Unsaved = false
is_stop_said (Unresumed fault) = false

-- whether it was said in the run how the command ended
abbrev pub is_said : Ending → Bool
is_said Done = false
is_said (Unaccepted fault) = false
is_said (Unread fault) = false
is_said (Unverified fault) = false
is_said (Unmerged fault) = false
is_said (Unopened fault) = false
is_said (Unfrozen fault) = false
is_said (Unboarded fault) = false
is_said (Different difference) = false
is_said (Stopped stop) = is_stop_said stop
is_said ReadFault = false
is_said WriteFault = false
is_said Unwritten = false
is_said NoMemory = false
is_said Absent = false

-- neither a call that failed outside nor want of memory cut the command short
abbrev pub IsSettledStop : Stop → Type 0
IsSettledStop (Past limit) = Unit {0}
IsSettledStop (LibraryFault path) = ⊥
IsSettledStop (LibraryUnaccepted source) = Unit {0}
IsSettledStop Raised = Unit {0}
IsSettledStop Memory = Unit {0}
IsSettledStop (Steps count) = Unit {0}
IsSettledStop Unsaved = Unit {0}
IsSettledStop (Unresumed fault) = Unit {0}

-- neither a call that failed outside nor want of memory cut the command short that ended so
abbrev pub IsSettled : Ending → Type 0
IsSettled Done = Unit {0}
IsSettled (Unaccepted fault) = Unit {0}
IsSettled (Unread fault) = Unit {0}
IsSettled (Unverified fault) = Unit {0}
IsSettled (Unmerged fault) = Unit {0}
IsSettled (Unopened fault) = Unit {0}
IsSettled (Unfrozen fault) = is_read_failure fault ≡ false
IsSettled (Unboarded fault) = is_output_fault fault ≡ false
IsSettled (Different difference) = Unit {0}
IsSettled (Stopped stop) = IsSettledStop stop
IsSettled ReadFault = ⊥
IsSettled WriteFault = ⊥
IsSettled Unwritten = ⊥
IsSettled NoMemory = ⊥
IsSettled Absent = Unit {0}
