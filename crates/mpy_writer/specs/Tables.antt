-- The tables of a module, and the numbers that they give.
use Rattle.std.specs.Prelude.{◌≡◌, ℕ, ◌≤◌, List, [], length, map, unwrap_or}
use Rattle.mpy_base.specs.declared.limits.TheConstants.{MAX_TABLE, MAX_DEPTH}
use Rattle.mpy_tree.specs.qstr_pool.Pool.{Texts, number_of}
use Rattle.mpy_tree.specs.declared.module.Constant.{Constant}
use Rattle.mpy_tree.specs.declared.module.ModuleCode.{ModuleCode}
use Rattle.mpy_tree.specs.Canonical.{object_bytes}
use Rattle.mpy_tree.specs.FirstUse.{FirstUsed}
use Rattle.mpy_writer.specs.declared.tables.Tables.{Tables}
use Rattle.mpy_writer.specs.Codes.{texts_used, objects_used}

-- what is written for an object, which no other object has
abbrev pub spelled : Constant → List ℕ
spelled object = object_bytes MAX_DEPTH object

-- numbers from 0 on for what is used, each once, in the order of first use
pub record IsTable (used : List (List ℕ)) (table : Texts) : Type 0 where
  pub first : table.first ≡ 0
  pub texts : FirstUsed [] used table.texts

-- the texts that the module names, and the objects as they are written
pub record AreTables (m : ModuleCode) (tables : Tables) : Type 0 where
  pub texts : IsTable (texts_used m) tables.texts
  pub objects : IsTable (map spelled (objects_used m)) tables.objects

-- the tables are no longer than a file's, and number from 0 on
pub record Fits (table : Texts) : Type 0 where
  pub first : table.first ≡ 0
  pub few : length table.texts ≤ MAX_TABLE

-- both tables fit
pub record TablesFit (tables : Tables) : Type 0 where
  pub texts : Fits tables.texts
  pub objects : Fits tables.objects

-- the number of a text, and 0 of one that has none
abbrev pub text_number : Tables → List ℕ → ℕ
text_number tables text = unwrap_or (number_of tables.texts text) 0

-- the number of an object
abbrev pub object_number : Tables → Constant → ℕ
object_number tables object = unwrap_or (number_of tables.objects (spelled object)) 0
