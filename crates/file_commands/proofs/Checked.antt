-- Files that aren't read or verified, of `check` and `dump`.
use Rattle.std.proofs.Common.{ℕ, List, Option, Err}
use Rattle.std.proofs.KnownBytes.{Keeps-refl}
use Rattle.mpy_io.specs.Files.{FileOf}
use Rattle.command_files.specs.mpy_endings.declared.ending.Ending.{Ending}
use Rattle.command_files.specs.mpy_endings.declared.ending.Ending.TheVariants.{Done, Unaccepted, Unread, Unverified, Unmerged, Unopened, Unfrozen, Unboarded, Different, Stopped, ReadFault, WriteFault, Unwritten, NoMemory, Absent}
use Rattle.command_files.specs.Folder.{IsNotRead}
use Rattle.command_files.specs.Opened.{Opens}
use Rattle.command_files.proofs.Long.{not_read}
use Rattle.file_commands.specs.Check.{Judges, Checks}
use Rattle.file_commands.specs.Dump.{Dumps}

-- what keeps a module from being verified keeps its codes from being counted
pub judged_from : (bytes : List ℕ) (ending : Ending) → Opens bytes (Err ending) → Judges bytes (Err ending)
judged_from bytes Done h = absurd h
judged_from bytes (Unaccepted fault) h = absurd h
judged_from bytes (Unread fault) h = h
judged_from bytes (Unverified fault) h = h
judged_from bytes (Unmerged fault) h = absurd h
judged_from bytes (Unopened fault) h = absurd h
judged_from bytes (Unfrozen fault) h = absurd h
judged_from bytes (Unboarded fault) h = absurd h
judged_from bytes (Different difference) h = absurd h
judged_from bytes (Stopped stop) h = absurd h
judged_from bytes ReadFault h = absurd h
judged_from bytes WriteFault h = absurd h
judged_from bytes Unwritten h = absurd h
judged_from bytes NoMemory h = tt
judged_from bytes Absent h = absurd h

pub not_checked : (files : Option FileOf) (name : List ℕ) (ending : Ending) (told : Option (List ℕ)) → IsNotRead files name ending → Checks files name ending told told
not_checked files name Done told h = absurd h
not_checked files name (Unaccepted fault) told h = absurd h
not_checked files name (Unread fault) told h = (not_read files name (Unread fault) h, Keeps-refl told)
not_checked files name (Unverified fault) told h = absurd h
not_checked files name (Unmerged fault) told h = absurd h
not_checked files name (Unopened fault) told h = absurd h
not_checked files name (Unfrozen fault) told h = absurd h
not_checked files name (Unboarded fault) told h = absurd h
not_checked files name (Different difference) told h = absurd h
not_checked files name (Stopped stop) told h = absurd h
not_checked files name ReadFault told h = Keeps-refl told
not_checked files name WriteFault told h = absurd h
not_checked files name Unwritten told h = absurd h
not_checked files name NoMemory told h = Keeps-refl told
not_checked files name Absent told h = (h, Keeps-refl told)

pub not_dumped : (files : Option FileOf) (name : List ℕ) (ending : Ending) (told : Option (List ℕ)) → IsNotRead files name ending → Dumps files name ending told told
not_dumped files name Done told h = absurd h
not_dumped files name (Unaccepted fault) told h = absurd h
not_dumped files name (Unread fault) told h = (not_read files name (Unread fault) h, Keeps-refl told)
not_dumped files name (Unverified fault) told h = absurd h
not_dumped files name (Unmerged fault) told h = absurd h
not_dumped files name (Unopened fault) told h = absurd h
not_dumped files name (Unfrozen fault) told h = absurd h
not_dumped files name (Unboarded fault) told h = absurd h
not_dumped files name (Different difference) told h = absurd h
not_dumped files name (Stopped stop) told h = absurd h
not_dumped files name ReadFault told h = Keeps-refl told
not_dumped files name WriteFault told h = absurd h
not_dumped files name Unwritten told h = absurd h
not_dumped files name NoMemory told h = Keeps-refl told
not_dumped files name Absent told h = (h, Keeps-refl told)
