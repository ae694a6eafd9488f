-- The file of a module.
use Rattle.std.specs.Prelude.{◌≡◌, ◌⊎◌, ℕ, ◌+◌, ◌<◌, List, [], ◌∷◌, ◌++◌, length, map, Contains, Bool, true, false, Option, Some, None}
use Rattle.std.specs.List.{AllZip, concat, flat_map, zip}
use Rattle.mpy_base.specs.Vuint.{vuint}
use Rattle.mpy_base.specs.declared.limits.TheConstants.{MAX_FILE_BYTES, MAX_TABLE, MAX_CODE_BYTES}
use Rattle.mpy_tree.specs.bc_ops.declared.instr.Op.TheVariants.{LoadConstObj}
use Rattle.mpy_tree.specs.bc_ops.declared.instr.Instr.{Instr}
use Rattle.mpy_tree.specs.bc_ops.declared.instr.Instr.TheVariants as instrs
use Rattle.bc_labels.specs.declared.labelled.Labelled.{Labelled}
use Rattle.bc_labels.specs.declared.labelled.Labelled.TheVariants as labels
use Rattle.bc_labels.specs.Choice.{IsLayout, IsTooFar, instrs_of}
use Rattle.mpy_tree.specs.bc_prelude.declared.signature.Signature.{Signature}
use Rattle.mpy_tree.specs.bc_prelude.Signature as signatures
use Rattle.mpy_tree.specs.bc_prelude.Size as sizes
use Rattle.mpy_tree.specs.bc_prelude.Names as names
use Rattle.mpy_tree.specs.bc_prelude.Lines.{table_of}
use Rattle.mpy_tree.specs.qstr_pool.Static.{static_number_of}
use Rattle.mpy_tree.specs.declared.module.Item.{Item}
use Rattle.mpy_tree.specs.declared.module.Item.TheVariants as items
use Rattle.mpy_tree.specs.declared.module.Code.{Code, out-Code}
use Rattle.mpy_tree.specs.declared.module.ModuleCode.{ModuleCode}
use Rattle.mpy_tree.specs.declared.raw.Qstr.{Qstr}
use Rattle.mpy_tree.specs.declared.raw.Qstr.TheVariants as qstrs
use Rattle.mpy_tree.specs.File.{header_of}
use Rattle.mpy_tree.specs.Canonical.{qstr_bytes, changes, offsets}
use Rattle.mpy_writer.specs.declared.fault.WriteFault.{WriteFault}
use Rattle.mpy_writer.specs.declared.fault.WriteFault.TheVariants.{TooManyNames, TooFar, TooBig}
use Rattle.mpy_writer.specs.Codes.{codes}
use Rattle.mpy_writer.specs.declared.tables.Tables.{Tables}
use Rattle.mpy_writer.specs.Tables.{AreTables, text_number, object_number}

-- a code
-- ======

-- an item with numbers in place of texts and objects
abbrev pub item_of : Tables → Item → Labelled
item_of tables (items.Plain instr) = labels.Plain instr
item_of tables (items.Named op text) = labels.Plain (instrs.Name op (text_number tables text))
item_of tables (items.Object object) = labels.Plain (instrs.Num LoadConstObj (object_number tables object))
item_of tables (items.Jump op position) = labels.Jump op position
item_of tables (items.Unwind position byte) = labels.Unwind position byte

-- the items, each behind the label of its position, from such a position on
abbrev pub labelled_from : Tables → ℕ → List Item → List Labelled
labelled_from tables position [] = []
labelled_from tables position (item ∷ items) =
    labels.At position ∷ (item_of tables item ∷ labelled_from tables (position + 1) items)

-- the items of a code with their labels
abbrev pub labelled : Tables → Code → List Labelled
labelled tables code = labelled_from tables 0 (out-Code code).instrs

-- the signature of a code, which has no flags and no keyword-only arguments
abbrev pub signature_of : Code → Signature
signature_of code = record {
  n_state = (out-Code code).n_state;
  n_exc = (out-Code code).n_exc;
  flags = 0;
  args = length (out-Code code).args;
  kwonly = 0;
  defaults = (out-Code code).defaults;
}

-- the numbers of its name and its arguments
abbrev pub indexes_of : Tables → Code → List ℕ
indexes_of tables code = map (text_number tables) ((out-Code code).name ∷ (out-Code code).args)

-- the line table: an entry where the line of an instruction isn't that of the one before, and none for line 1 at first
abbrev pub lines_of : List Instr → List ℕ → List ℕ
lines_of instrs lines = table_of (changes 1 (zip (offsets 0 instrs) lines))

-- the signature, the length of the information, the information and the instructions
abbrev pub own_bytes : Signature → List ℕ → List ℕ → List ℕ → List ℕ
own_bytes signature names lines instructions =
    signatures.spelling signature ++ (sizes.spelling (length names + length lines) ++ (names ++ (lines ++ instructions)))

-- a code's own bytes: its instructions have the layout with the fewest wide offsets
pub record IsOwn (tables : Tables) (code : Code) (own : List ℕ) : Type 0 where
  pub instructions : List ℕ
  pub layout : IsLayout (labelled tables code) instructions
  pub own_is : own ≡ own_bytes (signature_of code) (names.spelling (indexes_of tables code))
      (lines_of (instrs_of (labelled tables code) layout.widths) (out-Code code).lines) instructions

-- a file
-- ======

-- does a code with these children have any?
abbrev pub has_some : List Code → Bool
has_some [] = false
has_some (child ∷ children) = true

-- the number of the children: nothing where there are none
abbrev pub count_bytes : List Code → List ℕ
count_bytes [] = []
count_bytes (child ∷ children) = vuint (length (child ∷ children))

-- the header, the own bytes and the number of the children, which follow
abbrev pub head_bytes : Code → List ℕ → List ℕ
head_bytes code own =
    vuint (header_of (length own) (has_some (out-Code code).children)) ++ (own ++ count_bytes (out-Code code).children)

-- the heads of codes with their own bytes
abbrev pub heads : List Code → List (List ℕ) → List ℕ
heads (code ∷ codes) (own ∷ owns) = head_bytes code own ++ heads codes owns
heads codes owns = []

-- a text that every file may name by number is named so
abbrev pub entry_of : List ℕ → Option ℕ → Qstr
entry_of text None = qstrs.Own text
entry_of text (Some number) = qstrs.Static number

-- the entry of a text in the table of texts
abbrev pub qstr_of : List ℕ → Qstr
qstr_of text = entry_of text (static_number_of text)

-- the bytes in front of the codes
abbrev pub front_bytes : Tables → List ℕ
front_bytes tables =
    0x4d ∷ 6 ∷ 0 ∷ 31 ∷ (vuint (length tables.texts.texts) ++ (vuint (length tables.objects.texts)
    ++ (flat_map qstr_bytes (map qstr_of tables.texts.texts) ++ concat tables.objects.texts)))

-- the file of the module
pub record IsWritten (m : ModuleCode) (bytes : List ℕ) : Type 0 where
  pub tables : Tables
  pub are_tables : AreTables m tables
  pub owns : List (List ℕ)
  pub are_own : AllZip (IsOwn tables) (codes m) owns
  pub bytes_are : bytes ≡ front_bytes tables ++ heads (codes m) owns

-- why there is none
-- =================

-- a table is too long
pub record HasManyNames (m : ModuleCode) : Type 0 where
  pub tables : Tables
  pub are_tables : AreTables m tables
  pub many : (MAX_TABLE < length tables.texts.texts) ⊎ (MAX_TABLE < length tables.objects.texts)

-- an offset of one of the codes fits no form
abbrev pub SomeFar : Tables → List Code → Type 0
SomeFar tables codes = (code : Code) × Contains codes code × IsTooFar (labelled tables code)

-- a jump in one of the module's codes has an offset that fits no form
pub record HasFarJump (m : ModuleCode) : Type 0 where
  pub tables : Tables
  pub are_tables : AreTables m tables
  pub far : SomeFar tables (codes m)

-- one of the codes has too many bytes
abbrev pub IsBig : Tables → Code → Type 0
IsBig tables code = (own : List ℕ) × IsOwn tables code own × (MAX_CODE_BYTES < length own)

-- why one code has no own bytes
abbrev pub IsCodeFault : Tables → Code → WriteFault → Type 0
IsCodeFault tables code TooManyNames = ⊥
IsCodeFault tables code TooFar = IsTooFar (labelled tables code)
IsCodeFault tables code TooBig = IsBig tables code

-- one of the codes has too many bytes
abbrev pub SomeBig : Tables → List Code → Type 0
SomeBig tables codes = (code : Code) × Contains codes code × IsBig tables code

-- one of the module's codes has too many bytes
pub record HasBigCode (m : ModuleCode) : Type 0 where
  pub tables : Tables
  pub are_tables : AreTables m tables
  pub big : SomeBig tables (codes m)

-- the file has too many bytes
pub record IsBigFile (m : ModuleCode) : Type 0 where
  pub bytes : List ℕ
  pub is_written : IsWritten m bytes
  pub big : MAX_FILE_BYTES < length bytes

-- the fault of a module: a later one counts only where no code has an earlier one
abbrev pub FirstFault : ModuleCode → WriteFault → Type 0
FirstFault m TooManyNames = HasManyNames m
FirstFault m TooFar = (HasManyNames m → ⊥) × HasFarJump m
FirstFault m TooBig = (HasManyNames m → ⊥) × (HasFarJump m → ⊥) × (HasBigCode m ⊎ IsBigFile m)
