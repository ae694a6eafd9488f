-- Why modules have no merged file.
use Rattle.std.specs.Prelude.{◌≡◌, ◌⊎◌, ℕ, ◌+◌, ◌<◌, List, [], length, take, Some, slice_get}
use Rattle.mpy_base.specs.declared.limits.TheConstants.{MAX_TABLE, MAX_FILE_BYTES}
use Rattle.mpy_writer.specs.mpy_tree.Raw.{Module}
use Rattle.mpy_writer.specs.declared.tables.Tables.{Tables}
use Rattle.mpy_merge.specs.declared.fault.MergeFault.{MergeFault}
use Rattle.mpy_merge.specs.declared.fault.MergeFault.TheVariants.{Empty, TooManyNames, TooMany, TooFar, TooBig}
use Rattle.mpy_merge.specs.declared.fault.TheConstants.{MAX_PARTS}
use Rattle.mpy_merge.specs.Far.{HasFarCode}
use Rattle.mpy_merge.specs.Merged.{AreTables, all_objects, IsMerged, NestsWithin}

-- a code of the module at the place has a jump that reaches too far, or too many bytes, with its objects behind those of the modules
-- in front of it
pub record IsFarAt (tables : Tables) (modules : List Module) (place : ℕ) : Type 0 where
  pub m : Module
  pub is : slice_get modules place ≡ Some m
  pub far : HasFarCode tables (length (all_objects (take place modules))) m m.code

-- the module at the place is the first with such a code
pub record IsFirstFarIn (tables : Tables) (modules : List Module) (place : ℕ) : Type 0 where
  pub far : IsFarAt tables modules place
  pub before : (earlier : ℕ) → earlier < place → IsFarAt tables modules earlier → ⊥

-- the module at the place is the first with such a code, by the tables that the modules are merged to
pub record IsFirstFar (modules : List Module) (place : ℕ) : Type 0 where
  pub tables : Tables
  pub are_tables : AreTables modules tables
  pub first : IsFirstFarIn tables modules place

-- a joined table is too long
pub record HasManyNames (modules : List Module) : Type 0 where
  pub tables : Tables
  pub are_tables : AreTables modules tables
  pub many : (MAX_TABLE < length tables.texts.texts) ⊎ (MAX_TABLE < length (all_objects modules))

-- the codes of a module nest as deep as a file's may, and those of the merged file so one deeper
pub record IsDeep (modules : List Module) : Type 0 where
  pub place : ℕ
  pub m : Module
  pub is : slice_get modules place ≡ Some m
  pub deep : NestsWithin 31 m.code → ⊥

-- the merged file has too many bytes
pub record IsLong (modules : List Module) : Type 0 where
  pub bytes : List ℕ
  pub merged : IsMerged modules bytes
  pub long : MAX_FILE_BYTES < length bytes

-- each fault counts only where there is none before it: no module, too many modules, too many names, a code too far, too big
abbrev pub FirstFault : List Module → MergeFault → Type 0
FirstFault modules Empty = modules ≡ []
FirstFault modules TooMany = MAX_PARTS < length modules
FirstFault modules TooManyNames = (0 < length modules) × (length modules < MAX_PARTS + 1) × HasManyNames modules
FirstFault modules (TooFar place) = (0 < length modules) × (length modules < MAX_PARTS + 1) × (HasManyNames modules → ⊥) × IsFirstFar modules place
FirstFault modules TooBig =
    (0 < length modules) × (length modules < MAX_PARTS + 1) × (HasManyNames modules → ⊥)
    × ((place : ℕ) → IsFirstFar modules place → ⊥) × (IsDeep modules ⊎ IsLong modules)
