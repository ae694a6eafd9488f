-- Files that are read as verified modules, and what a merge of them does.
use Rattle.std.proofs.Common.{◌≡◌, false, List, ℕ, Option, Some, Result, Ok, Err, refl}
use Rattle.std.specs.Prelude.{IfOk, IfErr}
use Rattle.mpy_io.specs.Files.{FileOf}
use Rattle.mpy_endings.specs.image_open.mpy_tree.Raw.{Module}
use Rattle.mpy_endings.specs.declared.ending.Ending.{Ending}
use Rattle.mpy_endings.specs.declared.ending.Ending.TheVariants.{Done, Unaccepted, Unread, Unverified, Unmerged, Unopened, Unfrozen, Unboarded, Different, Stopped, ReadFault, WriteFault, Unwritten, NoMemory, Absent}
use Rattle.command_files.specs.Folder.{MayHold}
use Rattle.mpy_endings.specs.Ending.{is_folder_fault}
use Rattle.command_files.specs.Opened.{Opens, HoldsModule, Refuses, failed_in}

-- a file that was read
pub opened_ok : (files : Option FileOf) (name bytes : List ℕ) (r : Result Module Ending) → MayHold files name (Some bytes) → Opens bytes r → IfOk r (HoldsModule files name)
opened_ok files name bytes (Ok m) holds h = record { bytes = bytes; holds = holds; file = h.0; verified = h.1 }
opened_ok files name bytes (Err ending) holds h = tt

refused_by : (files : Option FileOf) (name bytes : List ℕ) (ending : Ending) → MayHold files name (Some bytes) → Opens bytes (Err ending) → Refuses files name ending
refused_by files name bytes Done holds h = absurd h
refused_by files name bytes (Unaccepted fault) holds h = absurd h
refused_by files name bytes (Unread fault) holds h = (bytes, holds, h)
refused_by files name bytes (Unverified fault) holds h = (bytes, holds, h)
refused_by files name bytes (Unmerged fault) holds h = absurd h
refused_by files name bytes (Unopened fault) holds h = absurd h
refused_by files name bytes (Unfrozen fault) holds h = absurd h
refused_by files name bytes (Unboarded fault) holds h = absurd h
refused_by files name bytes (Different difference) holds h = absurd h
refused_by files name bytes (Stopped stop) holds h = absurd h
refused_by files name bytes ReadFault holds h = absurd h
refused_by files name bytes WriteFault holds h = absurd h
refused_by files name bytes Unwritten holds h = absurd h
refused_by files name bytes NoMemory holds h = tt
refused_by files name bytes Absent holds h = absurd h

pub opened_err : (files : Option FileOf) (name bytes : List ℕ) (r : Result Module Ending) → MayHold files name (Some bytes) → Opens bytes r → IfErr r (Refuses files name)
opened_err files name bytes (Ok m) holds h = tt
opened_err files name bytes (Err ending) holds h = refused_by files name bytes ending holds h

still : (bytes : List ℕ) (ending : Ending) → Opens bytes (Err ending) → is_folder_fault ending ≡ false
still bytes Done h = refl
still bytes (Unaccepted fault) h = refl
still bytes (Unread fault) h = refl
still bytes (Unverified fault) h = refl
still bytes (Unmerged fault) h = refl
still bytes (Unopened fault) h = refl
still bytes (Unfrozen fault) h = absurd h
still bytes (Unboarded fault) h = absurd h
still bytes (Different difference) h = absurd h
still bytes (Stopped stop) h = absurd h
still bytes ReadFault h = absurd h
still bytes WriteFault h = refl
still bytes Unwritten h = absurd h
still bytes NoMemory h = refl
still bytes Absent h = refl

pub opened_still : (bytes : List ℕ) (r : Result Module Ending) → Opens bytes r → failed_in r ≡ false
opened_still bytes (Ok m) h = refl
opened_still bytes (Err ending) h = still bytes ending h
