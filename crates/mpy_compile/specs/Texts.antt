-- Modules none of whose texts is longer than a file.
use Rattle.std.specs.Prelude.{◌≡◌, ℕ, Bool, true, ◌&&◌, List, length, nat_le}
use Rattle.std.specs.List.{list_all}
use Rattle.mpy_base.specs.declared.limits.TheConstants.{MAX_FILE_BYTES}
use Rattle.mpy_writer.specs.mpy_tree.declared.module.Constant.{Constant, out-Constant}
use Rattle.mpy_writer.specs.mpy_tree.declared.module.Constant.TheOpen.{Constant-F}
use Rattle.mpy_writer.specs.mpy_tree.declared.module.Item.{Item}
use Rattle.mpy_writer.specs.mpy_tree.declared.module.Item.TheVariants as items
use Rattle.mpy_writer.specs.mpy_tree.declared.module.Code.{Code, out-Code}
use Rattle.mpy_writer.specs.mpy_tree.declared.module.ModuleCode.{ModuleCode}
use Rattle.mpy_writer.specs.Codes.{codes}

-- the text is no longer than a file
abbrev pub text_fits : List ℕ → Bool
text_fits text = nat_le (length text) MAX_FILE_BYTES

-- a str; the other objects of a source's module have no text
abbrev pub object_fits : Constant-F Constant → Bool
object_fits Constant-F.None = true
object_fits Constant-F.False = true
object_fits Constant-F.True = true
object_fits (Constant-F.Str text) = text_fits text
object_fits (Constant-F.Int n) = true
object_fits (Constant-F.Tuple items) = true

-- the texts of an instruction are no longer than a file
abbrev pub item_fits : Item → Bool
item_fits (items.Plain instr) = true
item_fits (items.Named op text) = text_fits text
item_fits (items.Object object) = object_fits (out-Constant object)
item_fits (items.Jump op position) = true
item_fits (items.Unwind position byte) = true

-- the code's own texts, without those of the codes in it
abbrev pub code_fits : Code → Bool
code_fits code = text_fits (out-Code code).name && (list_all text_fits (out-Code code).args && list_all item_fits (out-Code code).instrs)

-- the texts of a module are no longer than a file
abbrev pub module_fits : ModuleCode → Bool
module_fits m = text_fits m.source && list_all code_fits (codes m)

-- the texts of a module are no longer than a file, as a fact
abbrev pub TextsFit : ModuleCode → Type 0
TextsFit m = module_fits m ≡ true
