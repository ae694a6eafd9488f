-- The parts of a merged file as they are written.
use Rattle.std.specs.Prelude.{◌≡◌, ℕ, ◌≤◌, List, ◌∷◌, ◌++◌, length, map}
use Rattle.std.specs.List.{flat_map}
use Rattle.mpy_base.specs.Vuint.{vuint}
use Rattle.mpy_base.specs.declared.limits.TheConstants.{MAX_CODE_BYTES, MAX_DEPTH}
use Rattle.mpy_writer.specs.mpy_tree.declared.module.Constant.{Constant}
use Rattle.mpy_writer.specs.mpy_tree.declared.raw.RawCode.{RawCode}
use Rattle.mpy_writer.specs.mpy_tree.Raw.{Module}
use Rattle.mpy_writer.specs.mpy_tree.Canonical.{qstr_bytes, code_bytes}
use Rattle.mpy_writer.specs.declared.tables.Tables.{Tables}
use Rattle.mpy_writer.specs.File.{IsOwn, qstr_of}
use Rattle.mpy_writer.specs.Tables.{spelled}
use Rattle.mpy_merge.specs.Heads.{head_of}
use Rattle.mpy_merge.specs.Merged.{outer_code, AreMoved}

-- the bytes in front of the codes
abbrev pub front_of : List (List ℕ) → List Constant → List ℕ
front_of texts objects =
    0x4d ∷ 6 ∷ 0 ∷ 31 ∷ (vuint (length texts) ++ (vuint (length objects)
    ++ (flat_map qstr_bytes (map qstr_of texts) ++ flat_map spelled objects)))

-- the outermost code and the modules' codes behind its head, of as many levels as a file may have without it
pub record AreCodes (tables : Tables) (modules : List Module) (bytes : List ℕ) : Type 0 where
  pub own : List ℕ
  pub is_own : IsOwn tables (outer_code (length modules)) own
  pub short : length own ≤ MAX_CODE_BYTES
  pub parts : List RawCode
  pub are_moved : AreMoved MAX_DEPTH tables 0 modules parts
  pub bytes_are : bytes ≡ head_of own (length modules) ++ flat_map (code_bytes MAX_DEPTH) parts
