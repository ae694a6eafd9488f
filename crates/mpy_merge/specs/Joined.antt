-- A merged file's tables have those of a module.
use Rattle.std.specs.Prelude.{◌≡◌, ℕ, ◌+◌, ◌<◌, length, map, Contains, Some, slice_get}
use Rattle.mpy_writer.specs.mpy_tree.declared.module.Constant.{Constant}
use Rattle.mpy_writer.specs.mpy_tree.Raw.{Module}
use Rattle.mpy_writer.specs.declared.tables.Tables.{Tables}
use Rattle.mpy_writer.specs.File.{qstr_of}
use Rattle.mpy_merge.specs.Moved.{text_at}

-- each text of the module is in the table, and its objects stand behind `base` others
pub record IsJoined (tables : Tables) (base : ℕ) (m merged : Module) : Type 0 where
  pub qstrs_are : merged.qstrs ≡ map qstr_of tables.texts.texts
  pub texts_there : (n : ℕ) → n < length m.qstrs → Contains tables.texts.texts (text_at m n)
  pub objects_there : (n : ℕ) (object : Constant) → slice_get m.objects n ≡ Some object → slice_get merged.objects (base + n) ≡ Some object
