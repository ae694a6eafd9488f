-- Why a code has no bytes with its numbers moved.
use Rattle.std.specs.Prelude.{◌≡◌, ◌⊎◌, ℕ, List, Some}
use Rattle.mpy_writer.specs.bc_labels.Choice.{IsTooFar}
use Rattle.mpy_writer.specs.mpy_tree.Codes.{code_at}
use Rattle.mpy_writer.specs.mpy_tree.declared.module.Code.{Code}
use Rattle.mpy_writer.specs.mpy_tree.declared.raw.RawCode.{RawCode, out-RawCode}
use Rattle.mpy_writer.specs.mpy_tree.Raw.{Module}
use Rattle.mpy_writer.specs.declared.tables.Tables.{Tables}
use Rattle.mpy_writer.specs.File.{labelled, IsBig}
use Rattle.mpy_merge.specs.Moved.{IsMovedCode}

-- the code of the bytes, with its numbers moved, has an offset that fits no form or too many bytes
pub record IsFarOwn (tables : Tables) (base : ℕ) (m : Module) (bytes : List ℕ) : Type 0 where
  pub code : Code
  pub moved : IsMovedCode tables base m bytes code
  pub far : IsTooFar (labelled tables code) ⊎ IsBig tables code

-- one of the codes of the tree is such
pub record HasFarCode (tables : Tables) (base : ℕ) (m : Module) (root : RawCode) : Type 0 where
  pub path : List ℕ
  pub raw : RawCode
  pub is : code_at path root ≡ Some raw
  pub far : IsFarOwn tables base m (out-RawCode raw).bytes
