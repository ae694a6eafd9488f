-- The codes of a module, and what they name.
use Rattle.std.specs.Prelude.{ℕ, zero, suc, List, [], ◌∷◌, ◌++◌}
use Rattle.std.specs.List.{flat_map}
use Rattle.mpy_base.specs.declared.limits.TheConstants.{MAX_DEPTH}
use Rattle.mpy_tree.specs.declared.module.Constant.{Constant}
use Rattle.mpy_tree.specs.declared.module.Item.{Item}
use Rattle.mpy_tree.specs.declared.module.Item.TheVariants as items
use Rattle.mpy_tree.specs.declared.module.Code.{Code, out-Code}
use Rattle.mpy_tree.specs.declared.module.ModuleCode.{ModuleCode}

-- a code, and behind it those in it, that number of levels deep
unfoldable pub codes_in : ℕ → Code → List Code
codes_in zero code = []
codes_in (suc levels) code = code ∷ flat_map (codes_in levels) (out-Code code).children

-- the codes of a module: each in front of those in it, and those in a child in front of those in a later one
abbrev pub codes : ModuleCode → List Code
codes m = codes_in MAX_DEPTH m.code

-- the texts and objects that instructions name
abbrev pub text_in : Item → List (List ℕ)
text_in (items.Named op text) = text ∷ []
text_in item = []

-- the object that an instruction names, if it names one
abbrev pub object_in : Item → List Constant
object_in (items.Object object) = object ∷ []
object_in item = []

-- the texts that a code names: its name, its arguments and its instructions' texts
abbrev pub texts_in : Code → List (List ℕ)
texts_in code = (out-Code code).name ∷ ((out-Code code).args ++ flat_map text_in (out-Code code).instrs)

-- the objects that a code's instructions name
abbrev pub objects_in : Code → List Constant
objects_in code = flat_map object_in (out-Code code).instrs

-- the texts that a module names, as often as it names them
abbrev pub texts_used : ModuleCode → List (List ℕ)
texts_used m = m.source ∷ flat_map texts_in (codes m)

-- the objects that a module names, as often as it names them
abbrev pub objects_used : ModuleCode → List Constant
objects_used m = flat_map objects_in (codes m)
