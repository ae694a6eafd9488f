-- What checking a file against a source does.
use Rattle.std.specs.Prelude.{◌≡◌, ◌⊎◌, ℕ, ◌++◌, List, Option, Some, None, codes, decimal}
use Rattle.std.specs.Io.KnownBytes.{Appends, Keeps}
use Rattle.mpy_base.specs.declared.source.SourceFault.{SourceFault}
use Rattle.mpy_io.specs.Files.{FileOf}
use Rattle.mpy_io.specs.Told.{AppendsFront}
use Rattle.command_files.specs.mpy_writer.mpy_tree.Resolved.{ResolvedModule, Reads}
use Rattle.mpy_reader.specs.Reading.{FirstFault}
use Rattle.command_files.specs.mpy_compile.Checked.{IsTranslation, DiffersFirst}
use Rattle.command_files.specs.mpy_endings.declared.ending.Difference.{Difference}
use Rattle.command_files.specs.mpy_endings.declared.ending.Ending.{Ending}
use Rattle.command_files.specs.mpy_endings.declared.ending.Ending.TheVariants.{Done, Unaccepted, Unread, Unverified, Unmerged}
use Rattle.command_files.specs.mpy_endings.declared.ending.Ending.TheVariants.{Unopened, Unfrozen, Unboarded, Different, Stopped}
use Rattle.command_files.specs.mpy_endings.declared.ending.Ending.TheVariants.{ReadFault, WriteFault, Unwritten, NoMemory, Absent}
use Rattle.command_files.specs.Folder.{MayHold}
use Rattle.command_files.specs.Source.{HoldsFaulty}
use Rattle.file_commands.specs.Check.{count_of}

-- the line of a translation with `count` codes
abbrev pub translation_line : ℕ → List ℕ
translation_line count = codes "translation " ++ decimal count ++ codes "\n"

-- there is a file of this name
abbrev pub IsThere : Option FileOf → (name : List ℕ) → Type 0
IsThere files name = (bytes : List ℕ) × MayHold files name (Some bytes)

-- the source and the file of these names, at a level
module _ (level : ℕ) (files : Option FileOf) (source file : List ℕ) where
  -- the file is a translation of the source, with `count` codes
  pub record HoldsTranslation (count : ℕ) : Type 0 where
    pub text : List ℕ
    pub has_source : MayHold files source (Some text)
    pub bytes : List ℕ
    pub has_file : MayHold files file (Some bytes)
    pub is : IsTranslation level text bytes
    pub count_is : count ≡ count_of is.compares.is_have.0

  -- it is none, and differs there first
  pub record HoldsDifferent (difference : Difference) : Type 0 where
    pub text : List ℕ
    pub has_source : MayHold files source (Some text)
    pub bytes : List ℕ
    pub has_file : MayHold files file (Some bytes)
    pub is : DiffersFirst level text bytes difference.path difference.what difference.at

  -- the file is read, and the source isn't accepted under the name that the file stores
  pub record HoldsUnaccepted (fault : SourceFault) : Type 0 where
    pub bytes : List ℕ
    pub has_file : MayHold files file (Some bytes)
    pub read : ResolvedModule
    pub reads : Reads bytes read
    pub faulty : HoldsFaulty level files source read.source fault

  -- How a check of the file against the source ended, with the place of the word that its line names, and what it printed: of faults the
  -- first is told, in the order in which the source is read, the file is read, the source is compiled, and they are compared.
  module _ (before behind : Option (List ℕ)) where
    abbrev pub ChecksAs : (place : ℕ) → Ending → Type 0
    ChecksAs place Done = (count : ℕ) × HoldsTranslation count × Appends before behind (translation_line count)
    ChecksAs place (Unaccepted fault) = (place ≡ 1) × HoldsUnaccepted fault × Keeps before behind
    ChecksAs place (Unread fault) = (place ≡ 2) × IsThere files source
        × ((bytes : List ℕ) × MayHold files file (Some bytes) × FirstFault bytes fault) × Keeps before behind
    ChecksAs place (Unverified fault) = ⊥
    ChecksAs place (Unmerged fault) = ⊥
    ChecksAs place (Unopened fault) = ⊥
    ChecksAs place (Unfrozen fault) = ⊥
    ChecksAs place (Unboarded fault) = ⊥
    ChecksAs place (Different difference) = (place ≡ 2) × HoldsDifferent difference × Keeps before behind
    ChecksAs place (Stopped stop) = ⊥
    ChecksAs place ReadFault = ((place ≡ 1) ⊎ (place ≡ 2) × IsThere files source) × Keeps before behind
    ChecksAs place WriteFault = (count : ℕ) × HoldsTranslation count × AppendsFront before behind (translation_line count)
    ChecksAs place Unwritten = ⊥
    ChecksAs place NoMemory = Keeps before behind
    ChecksAs place Absent = ((place ≡ 1) × MayHold files source None ⊎ (place ≡ 2) × IsThere files source × MayHold files file None) × Keeps before behind
