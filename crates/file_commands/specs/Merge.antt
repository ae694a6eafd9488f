-- What merging files does.
use Rattle.std.specs.Prelude.{◌≡◌, ℕ, ◌+◌, ◌<◌, List, [], length, take, Option, slice_index_or}
use Rattle.std.specs.List.{AllZip}
use Rattle.mpy_io.specs.Files.{FileOf, Becomes, BecomesFront}
use Rattle.command_files.specs.mpy_writer.mpy_tree.Raw.{Module}
use Rattle.mpy_merge.specs.declared.fault.MergeFault.{MergeFault}
use Rattle.mpy_merge.specs.Faults as merges
use Rattle.mpy_merge.specs.AsMerge.{ReadsAsMerge}
use Rattle.mpy_merge.specs.Merged.{IsMerged}
use Rattle.command_files.specs.mpy_endings.declared.ending.Ending.{Ending}
use Rattle.command_files.specs.mpy_endings.declared.ending.Ending.TheVariants.{Done, Unaccepted, Unread, Unverified, Unmerged}
use Rattle.command_files.specs.mpy_endings.declared.ending.Ending.TheVariants.{Unopened, Unfrozen, Unboarded, Different, Stopped}
use Rattle.command_files.specs.mpy_endings.declared.ending.Ending.TheVariants.{ReadFault, WriteFault, Unwritten, NoMemory, Absent}
use Rattle.command_files.specs.Opened.{HoldsModule, Refuses}

-- several files
-- =============

-- the files under the names are those of these verified modules
abbrev pub HoldModules : Option FileOf → List (List ℕ) → List Module → Type 0
HoldModules files names modules = AllZip (HoldsModule files) names modules

-- The first of the files that isn't one of a verified module, and why; its name is the word at the place, of which the first
-- two aren't such names.
pub record IsFirstRefused (files : Option FileOf) (names : List (List ℕ)) (place : ℕ) (ending : Ending) : Type 0 where
  pub at : ℕ
  pub within : at < length names
  pub place_is : place ≡ at + 2
  pub modules : List Module
  pub before : HoldModules files (take at names) modules
  pub refused : Refuses files (slice_index_or names at []) ending

-- the bytes are the merged file of the modules of the files, which have no fault, and are read as the merge of their trees
pub record HoldMerged (files : Option FileOf) (names : List (List ℕ)) (bytes : List ℕ) : Type 0 where
  pub modules : List Module
  pub hold : HoldModules files names modules
  pub unmerged : (fault : MergeFault) → merges.FirstFault modules fault → ⊥
  pub merged : IsMerged modules bytes
  pub reads : ReadsAsMerge modules bytes

-- the modules of the files have this first fault
pub record HoldUnmerged (files : Option FileOf) (names : List (List ℕ)) (fault : MergeFault) : Type 0 where
  pub modules : List Module
  pub hold : HoldModules files names modules
  pub first : merges.FirstFault modules fault

-- How merging the files of these names ended, and the place of the word that the line names: what the written file became, or
-- why all files are as they were.
abbrev pub Merges : (names : List (List ℕ)) (written : List ℕ) → Option FileOf → Option FileOf → ℕ → Ending → Type 0
Merges names written old new place Done = (bytes : List ℕ) × HoldMerged old names bytes × Becomes old new written bytes
Merges names written old new place (Unaccepted fault) = ⊥
Merges names written old new place (Unread fault) = IsFirstRefused old names place (Unread fault) × (new ≡ old)
Merges names written old new place (Unverified fault) = IsFirstRefused old names place (Unverified fault) × (new ≡ old)
Merges names written old new place (Unmerged fault) = HoldUnmerged old names fault × (new ≡ old)
Merges names written old new place (Unopened fault) = ⊥
Merges names written old new place (Unfrozen fault) = ⊥
Merges names written old new place (Unboarded fault) = ⊥
Merges names written old new place (Different difference) = ⊥
Merges names written old new place (Stopped stop) = ⊥
Merges names written old new place ReadFault = IsFirstRefused old names place ReadFault × (new ≡ old)
-- nothing was printed, but what the sink held before wasn't handed on
Merges names written old new place WriteFault = (bytes : List ℕ) × HoldMerged old names bytes × Becomes old new written bytes
Merges names written old new place Unwritten = (bytes : List ℕ) × HoldMerged old names bytes × BecomesFront old new written bytes × (place ≡ 1)
Merges names written old new place NoMemory = new ≡ old
Merges names written old new place Absent = IsFirstRefused old names place Absent × (new ≡ old)
