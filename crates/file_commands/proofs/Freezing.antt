-- What writing an image does to other files.
use Rattle.std.proofs.Common.{List, ℕ, Option}
use Rattle.mpy_io.specs.Files.{FileOf}
use Rattle.manifest_files.specs.image_grammar.bc_library.Shelf.{Shelf}
use Rattle.command_files.specs.mpy_endings.declared.ending.Ending.{Ending}
use Rattle.command_files.specs.mpy_endings.declared.ending.Ending.TheVariants.{Done, Unaccepted, Unread, Unverified, Unmerged, Unopened, Unfrozen, Unboarded, Different, Stopped, ReadFault, WriteFault, Unwritten, NoMemory, Absent}
use Rattle.command_files.specs.Folder.{ChangesOnly}
use Rattle.file_commands.specs.Freeze.{Freezes}
use Rattle.command_files.proofs.Others.{same_only, became_only, front_only}

module _ (version : ℕ) (below : Shelf) (manifest written : List ℕ) (old new : Option FileOf) where
  pub freezes_only : (ending : Ending) → Freezes version below manifest written old new ending → ChangesOnly old new written
  freezes_only Done h = became_only old new written h.0 h.2
  freezes_only (Unaccepted fault) h = absurd h
  freezes_only (Unread fault) h = absurd h
  freezes_only (Unverified fault) h = absurd h
  freezes_only (Unmerged fault) h = absurd h
  freezes_only (Unopened fault) h = absurd h
  freezes_only (Unfrozen fault) h = same_only old new written h.1
  freezes_only (Unboarded fault) h = absurd h
  freezes_only (Different difference) h = absurd h
  freezes_only (Stopped stop) h = absurd h
  freezes_only ReadFault h = absurd h
  freezes_only WriteFault h = became_only old new written h.0 h.2
  freezes_only Unwritten h = front_only old new written h.0 h.2
  freezes_only NoMemory h = same_only old new written h
  freezes_only Absent h = absurd h
