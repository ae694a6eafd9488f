-- What writing the image of a manifest's sources does.
use Rattle.std.specs.Prelude.{◌≡◌, ℕ, List, Option}
use Rattle.mpy_io.specs.Files.{FileOf, Becomes, BecomesFront}
use Rattle.manifest_files.specs.image_grammar.bc_library.Shelf.{Shelf}
use Rattle.frozen_files.specs.Frozen.{HoldsFrozen, RefusesFrozen}
use Rattle.command_files.specs.mpy_endings.declared.ending.Ending.{Ending}
use Rattle.command_files.specs.mpy_endings.declared.ending.Ending.TheVariants.{Done, Unaccepted, Unread, Unverified, Unmerged}
use Rattle.command_files.specs.mpy_endings.declared.ending.Ending.TheVariants.{Unopened, Unfrozen, Unboarded, Different, Stopped}
use Rattle.command_files.specs.mpy_endings.declared.ending.Ending.TheVariants.{ReadFault, WriteFault, Unwritten, NoMemory, Absent}

-- in this version, over the library below
module _ (version : ℕ) (below : Shelf) (manifest written : List ℕ) (old new : Option FileOf) where
  -- How writing the image of the sources of the manifest of this name ended: what the written file became, or why all files are as they
  -- were.
  abbrev pub Freezes : Ending → Type 0
  Freezes Done = (bytes : List ℕ) × HoldsFrozen version below old manifest bytes × Becomes old new written bytes
  Freezes (Unaccepted fault) = ⊥
  Freezes (Unread fault) = ⊥
  Freezes (Unverified fault) = ⊥
  Freezes (Unmerged fault) = ⊥
  Freezes (Unopened fault) = ⊥
  Freezes (Unfrozen fault) = RefusesFrozen version below old manifest fault × (new ≡ old)
  Freezes (Unboarded fault) = ⊥
  Freezes (Different difference) = ⊥
  Freezes (Stopped stop) = ⊥
  Freezes ReadFault = ⊥
  -- nothing was printed, but what the sink held before wasn't handed on
  Freezes WriteFault = (bytes : List ℕ) × HoldsFrozen version below old manifest bytes × Becomes old new written bytes
  Freezes Unwritten = (bytes : List ℕ) × HoldsFrozen version below old manifest bytes × BecomesFront old new written bytes
  Freezes NoMemory = new ≡ old
  Freezes Absent = ⊥
