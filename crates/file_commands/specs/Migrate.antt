-- What writing an image once more does.
use Rattle.std.specs.Prelude.{◌≡◌, ℕ, List, Option, Some, None}
use Rattle.mpy_base.specs.declared.refused.Refused.{Refused}
use Rattle.mpy_base.specs.declared.refused.Refused.TheVariants as refusals
use Rattle.mpy_io.specs.Files.{FileOf, Becomes, BecomesFront}
use Rattle.manifest_files.specs.image_grammar.bc_library.Shelf.{no_entries}
use Rattle.manifest_files.specs.image_grammar.declared.entry.Entry.{Entry}
use Rattle.manifest_files.specs.image_grammar.declared.fault.ImageFault.TheVariants.{TooBig}
use Rattle.manifest_files.specs.image_grammar.Opening.{nothing_below}
use Rattle.frozen_files.specs.image_freeze.Frozen.{IsTooBig, second_front}
use Rattle.frozen_files.specs.image_freeze.declared.fault.MigrateFault.{MigrateFault}
use Rattle.frozen_files.specs.image_freeze.declared.fault.MigrateFault.TheVariants.{Opening, Freezing}
use Rattle.frozen_files.specs.image_freeze.Migrated.{IsImageOf, Migrates as MigratesTo}
use Rattle.image_runs.specs.declared.fault.MainFault.TheVariants as mains
use Rattle.manifest_files.specs.declared.frozen_fault.FrozenFault.TheVariants as frozen
use Rattle.command_files.specs.mpy_endings.declared.ending.Ending.{Ending}
use Rattle.command_files.specs.mpy_endings.declared.ending.Ending.TheVariants.{Done, Unaccepted, Unread, Unverified, Unmerged}
use Rattle.command_files.specs.mpy_endings.declared.ending.Ending.TheVariants.{Unopened, Unfrozen, Unboarded, Different, Stopped}
use Rattle.command_files.specs.mpy_endings.declared.ending.Ending.TheVariants.{ReadFault, WriteFault, Unwritten, NoMemory, Absent}
use Rattle.command_files.specs.Folder.{MayHold, IsNotRead}
use Rattle.command_files.specs.Images.{HoldsNoImage}

-- the bytes are the image of version 2 of the modules of the image under the name, which lies over nothing
pub record HoldsMigrated (files : Option FileOf) (name out : List ℕ) : Type 0 where
  pub bytes : List ℕ
  pub holds : MayHold files name (Some bytes)
  pub migrates : MigratesTo bytes out

-- the file under the name is an image over nothing, whose modules are too many or too long for one of version 2
pub record HoldsTooBig (files : Option FileOf) (name : List ℕ) : Type 0 where
  pub bytes : List ℕ
  pub holds : MayHold files name (Some bytes)
  pub entries : List Entry
  pub is : IsImageOf entries bytes
  pub big : IsTooBig (second_front nothing_below) nothing_below entries

-- how a migration ends that is refused so
abbrev pub refused_end : Refused MigrateFault → Ending
refused_end (refusals.Fault (Opening fault)) = Unopened (mains.Image fault)
refused_end (refusals.Fault (Freezing fault)) = Unfrozen (frozen.Image fault)
refused_end refusals.NoMemory = NoMemory

-- How writing the image of this name once more ended: what the written file became, or why all files are as they were.
abbrev pub Migrates : (name written : List ℕ) → Option FileOf → Option FileOf → Ending → Type 0
Migrates name written old new Done = (bytes : List ℕ) × HoldsMigrated old name bytes × Becomes old new written bytes
Migrates name written old new (Unaccepted fault) = ⊥
Migrates name written old new (Unread fault) = IsNotRead old name (Unread fault) × (new ≡ old)
Migrates name written old new (Unverified fault) = ⊥
Migrates name written old new (Unmerged fault) = ⊥
Migrates name written old new (Unopened (mains.Image fault)) = HoldsNoImage no_entries old name fault × (new ≡ old)
Migrates name written old new (Unopened (mains.NoMain main)) = ⊥
Migrates name written old new (Unfrozen (frozen.Sources fault)) = ⊥
Migrates name written old new (Unfrozen (frozen.Image fault)) = (fault ≡ TooBig) × HoldsTooBig old name × (new ≡ old)
Migrates name written old new (Unboarded fault) = ⊥
Migrates name written old new (Different difference) = ⊥
Migrates name written old new (Stopped stop) = ⊥
Migrates name written old new ReadFault = new ≡ old
-- nothing was printed, but what the sink held before wasn't handed on
Migrates name written old new WriteFault = (bytes : List ℕ) × HoldsMigrated old name bytes × Becomes old new written bytes
Migrates name written old new Unwritten = (bytes : List ℕ) × HoldsMigrated old name bytes × BecomesFront old new written bytes
Migrates name written old new NoMemory = new ≡ old
Migrates name written old new Absent = MayHold old name None × (new ≡ old)
