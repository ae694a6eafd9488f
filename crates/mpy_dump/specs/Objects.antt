-- How objects are written in a listing.
use Rattle.std.specs.Prelude.{ℕ, List, ◌++◌, length, codes, ◌==◌, if◌then◌else◌, []}
use Rattle.std.specs.Fmt.{signed_decimal}
use Rattle.mpy_tree.specs.declared.module.Constant.{Constant}
use Rattle.mpy_tree.specs.declared.module.Constant.TheOpen.{Constant-F}
use Rattle.mpy_tree.specs.declared.module.Constant.TheFolds.{fold-Constant}
use Rattle.mpy_dump.specs.Texts.{str_text}
use Rattle.mpy_dump.specs.Numbered.{numbered}

-- what stands in front of the item of a tuple at the place
abbrev pub gap : ℕ → List ℕ
gap place = if place == 0 then [] else codes ", "

-- an item of a tuple, with what stands in front of it
abbrev pub item_text : ℕ → List ℕ → List ℕ
item_text place item = gap place ++ item

-- what stands behind `count` items: a lone one has a comma
abbrev pub closing : ℕ → List ℕ
closing count = if count == 1 then codes ",)" else codes ")"

-- an object, by what is written for a tuple's items
abbrev pub object_step : Constant-F (List ℕ) → List ℕ
object_step Constant-F.None = codes "None"
object_step Constant-F.False = codes "False"
object_step Constant-F.True = codes "True"
object_step (Constant-F.Str text) = str_text text
object_step (Constant-F.Int n) = signed_decimal n
object_step (Constant-F.Tuple items) = codes "(" ++ (numbered item_text 0 items ++ closing (length items))

-- an object as it is listed
abbrev pub object_text : Constant → List ℕ
object_text = fold-Constant (List ℕ) object_step
