-- A code of a module with the numbers of a merged file.
use Rattle.std.specs.Prelude.{◌≡◌, ℕ, zero, suc, ◌+◌, ◌≤◌, List, [], ◌∷◌, length, map, unwrap_or}
use Rattle.std.specs.List.{AllZip}
use Rattle.mpy_base.specs.declared.limits.TheConstants.{MAX_CODE_BYTES}
use Rattle.bc_scheme.specs.bc_ops.declared.instr.Op.TheVariants.{LoadConstObj}
use Rattle.bc_scheme.specs.bc_ops.declared.instr.Instr.{Instr}
use Rattle.bc_scheme.specs.bc_ops.declared.instr.Instr.TheVariants as instrs
use Rattle.bc_scheme.specs.bc_ops.declared.listing.Target.TheVariants.{Position}
use Rattle.bc_scheme.specs.bc_ops.declared.listing.Item as listings
use Rattle.bc_scheme.specs.bc_ops.declared.listing.Item.TheVariants as listed
use Rattle.bc_scheme.specs.bc_ops.Listing.{Lists}
use Rattle.bc_verify.specs.bc_prelude.declared.prelude.Prelude.{Prelude}
use Rattle.bc_verify.specs.bc_prelude.Prelude.{Begins}
use Rattle.bc_verify.specs.bc_prelude.Lines.{line_of}
use Rattle.mpy_writer.specs.mpy_tree.declared.module.Item.{Item}
use Rattle.mpy_writer.specs.mpy_tree.declared.module.Item.TheVariants as items
use Rattle.mpy_writer.specs.mpy_tree.declared.module.Code.{Code, out-Code}
use Rattle.mpy_writer.specs.mpy_tree.declared.raw.Qstr.{Qstr}
use Rattle.mpy_writer.specs.mpy_tree.declared.raw.RawCode.{RawCode, out-RawCode}
use Rattle.mpy_writer.specs.mpy_tree.Raw.{Module, text_of}
use Rattle.mpy_writer.specs.mpy_tree.Resolved.{name_at}
use Rattle.mpy_writer.specs.declared.tables.Tables.{Tables}
use Rattle.mpy_writer.specs.Tables.{text_number}
use Rattle.mpy_writer.specs.File.{IsOwn}

-- the text of an entry, and none of one that has none
abbrev pub entry_text : Qstr → List ℕ
entry_text entry = unwrap_or (text_of entry) []

-- the text that a number of the module leads to, and none where it leads to none
abbrev pub text_at : Module → ℕ → List ℕ
text_at m n = unwrap_or (name_at m n) []

-- a text has the number that the file's table gives it, and an object comes behind those of the modules in front
abbrev pub moved_instr : Tables → ℕ → Module → Instr → Instr
moved_instr tables base m (instrs.Name op n) = instrs.Name op (text_number tables (text_at m n))
moved_instr tables base m (instrs.Num LoadConstObj n) = instrs.Num LoadConstObj (base + n)
moved_instr tables base m instr = instr

-- a jump goes to the same position
abbrev pub IsMovedItem : Tables → ℕ → Module → listings.Item → Item → Type 0
IsMovedItem tables base m (listed.Plain instr) moved = moved ≡ items.Plain (moved_instr tables base m instr)
IsMovedItem tables base m (listed.Jump op target) moved =
    (position : ℕ) × (target ≡ Position position) × (moved ≡ items.Jump op position)
IsMovedItem tables base m (listed.Unwind target byte) moved =
    (position : ℕ) × (target ≡ Position position) × (moved ≡ items.Unwind position byte)

-- the code says what the bytes of the module's code say: the same names, numbers and lines, with its numbers moved
pub record IsMovedCode (tables : Tables) (base : ℕ) (m : Module) (bytes : List ℕ) (code : Code) : Type 0 where
  pub prelude : Prelude
  pub begins : Begins bytes prelude
  pub names : (out-Code code).name ∷ (out-Code code).args ≡ map (text_at m) begins.indexes
  pub defaults : (out-Code code).defaults ≡ prelude.defaults
  pub n_state : (out-Code code).n_state ≡ prelude.n_state
  pub n_exc : (out-Code code).n_exc ≡ prelude.n_exc
  pub items : List listings.Item
  pub offsets : List ℕ
  pub lists : Lists begins.instructions items offsets
  pub instrs : AllZip (IsMovedItem tables base m) items (out-Code code).instrs
  pub lines : (out-Code code).lines ≡ map (line_of begins.lines) offsets
  pub alone : (out-Code code).children ≡ []

-- the bytes are what is written for such a code
pub record IsMovedOwn (tables : Tables) (base : ℕ) (m : Module) (bytes own : List ℕ) : Type 0 where
  pub code : Code
  pub moved : IsMovedCode tables base m bytes code
  pub is_own : IsOwn tables code own
  pub short : length own ≤ MAX_CODE_BYTES

-- the bytes of a code and of those in it, in that number of levels of codes at most, are what is written for the moved codes
unfoldable pub IsMovedTree : ℕ → Tables → ℕ → Module → RawCode → RawCode → Type 0
IsMovedTree zero tables base m raw moved = ⊥
IsMovedTree (suc levels) tables base m raw moved =
    IsMovedOwn tables base m (out-RawCode raw).bytes (out-RawCode moved).bytes
    × AllZip (IsMovedTree levels tables base m) (out-RawCode raw).children (out-RawCode moved).children
