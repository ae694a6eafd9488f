-- How long codes and files are with all jumps wide.
use Rattle.std.specs.Prelude.{◌≡◌, ◌⊎◌, ℕ, suc, ◌+◌, ◌<◌, ◌≤◌, List, [], ◌∷◌, length, All, true, Option, Some, None}
use Rattle.std.specs.List.{sum_by, zip}
use Rattle.mpy_base.specs.Vuint.{vuint}
use Rattle.mpy_base.specs.declared.limits.TheConstants.{MAX_FILE_BYTES, MAX_TABLE, MAX_CODE_BYTES}
use Rattle.bc_labels.specs.Places.{size_of}
use Rattle.mpy_tree.specs.bc_prelude.Signature as signatures
use Rattle.mpy_tree.specs.bc_prelude.Size as sizes
use Rattle.mpy_tree.specs.bc_prelude.Names as names
use Rattle.mpy_tree.specs.bc_prelude.Lines.{table_of}
use Rattle.mpy_tree.specs.declared.module.Item.{Item}
use Rattle.mpy_tree.specs.declared.module.Code.{Code, out-Code}
use Rattle.mpy_tree.specs.declared.module.ModuleCode.{ModuleCode}
use Rattle.mpy_tree.specs.File.{header_of}
use Rattle.mpy_tree.specs.Canonical.{changes}
use Rattle.mpy_writer.specs.Codes.{codes}
use Rattle.mpy_writer.specs.declared.tables.Tables.{Tables}
use Rattle.mpy_writer.specs.Tables.{AreTables, TablesFit}
use Rattle.mpy_writer.specs.File.{item_of, signature_of, indexes_of, has_some, count_bytes, front_bytes}

-- ---- lengths

-- the bytes of an item whose offset, where it has one, takes two
abbrev pub wide_size : Tables → Item → ℕ
wide_size tables item = size_of (item_of tables item) true

-- where items start, from such a place on
abbrev pub wide_starts : Tables → ℕ → List Item → List ℕ
wide_starts tables at [] = []
wide_starts tables at (item ∷ items) = at ∷ wide_starts tables (at + wide_size tables item) items

-- the bytes of a code's names and of its line table
abbrev pub wide_information : Tables → Code → ℕ
wide_information tables code = length (names.spelling (indexes_of tables code))
    + length (table_of (changes 1 (zip (wide_starts tables 0 (out-Code code).instrs) (out-Code code).lines)))

-- a code's own bytes
abbrev pub wide_own : Tables → Code → ℕ
wide_own tables code = length (signatures.spelling (signature_of code)) + length (sizes.spelling (wide_information tables code))
    + wide_information tables code + sum_by (wide_size tables) (out-Code code).instrs

-- so many own bytes with their header and the number of the code's children
abbrev pub head_size : Code → ℕ → ℕ
head_size code own = length (vuint (header_of own (has_some (out-Code code).children))) + own + length (count_bytes (out-Code code).children)

abbrev pub wide_head : Tables → Code → ℕ
wide_head tables code = head_size code (wide_own tables code)

-- the file
abbrev pub wide_file : Tables → ModuleCode → ℕ
wide_file tables m = length (front_bytes tables) + sum_by (wide_head tables) (codes m)

-- ---- limits

-- the module's file passes a limit of files
pub record IsLongFile (m : ModuleCode) : Type 0 where
  pub tables : Tables
  pub are_tables : AreTables m tables
  pub past : (MAX_TABLE < length tables.texts.texts) ⊎ (MAX_TABLE < length tables.objects.texts) ⊎ (MAX_FILE_BYTES < wide_file tables m)

-- a code passes its limit
abbrev pub IsLong : Tables → Code → Type 0
IsLong tables code = MAX_CODE_BYTES < wide_own tables code

-- the first of these codes that does, by its place
pub data FirstLong (tables : Tables) : List Code → ℕ → Type 0 where
  here : {code : Code} {codes : List Code} → IsLong tables code → FirstLong tables (code ∷ codes) 0
  later : {code : Code} {codes : List Code} {n : ℕ}
      → (IsLong tables code → ⊥) → FirstLong tables codes n → FirstLong tables (code ∷ codes) (suc n)

-- the first code that is too long, of which the module's own is so too where the file is
abbrev pub PassesAt : ModuleCode → ℕ → Type 0
PassesAt m n = (IsLongFile m × (n ≡ 0)) ⊎ ((IsLongFile m → ⊥) × (tables : Tables) × AreTables m tables × FirstLong tables (codes m) n)

-- nothing is too long
pub record FitsWide (m : ModuleCode) : Type 0 where
  pub tables : Tables
  pub are_tables : AreTables m tables
  pub fit : TablesFit tables
  pub codes_fit : All (λ code. wide_own tables code ≤ MAX_CODE_BYTES) (codes m)
  pub file : wide_file tables m ≤ MAX_FILE_BYTES

-- ---- on the way

-- the number is that count, as far as a file goes
abbrev pub Counts : ℕ → ℕ → Type 0
Counts n count = (n ≡ count) ⊎ ((MAX_FILE_BYTES < n) × (MAX_FILE_BYTES < count))

-- the first of these codes that is too long, or none
abbrev pub IsFirst : Tables → List Code → Option ℕ → Type 0
IsFirst tables codes (Some n) = FirstLong tables codes n
IsFirst tables codes None = All (λ code. wide_own tables code ≤ MAX_CODE_BYTES) codes

-- what is found of codes behind so many bytes of a file: the file's own code where it is too long with them
abbrev pub Judges : Tables → List Code → ℕ → Option ℕ → Type 0
Judges tables codes front found =
    ((MAX_FILE_BYTES < front + sum_by (wide_head tables) codes) × (found ≡ Some 0))
    ⊎ ((front + sum_by (wide_head tables) codes ≤ MAX_FILE_BYTES) × IsFirst tables codes found)
