-- A module as a file holds it.
use Rattle.std.specs.Prelude.{ℕ, List, Option, Some}
use Rattle.qstr_pool.specs.Static.{static_text_of}
use Rattle.mpy_tree.specs.declared.module.Constant.{Constant}
use Rattle.mpy_tree.specs.declared.raw.Qstr.{Qstr}
use Rattle.mpy_tree.specs.declared.raw.Qstr.TheVariants.{Static, Own}
use Rattle.mpy_tree.specs.declared.raw.RawCode.{RawCode}

-- the small-integer bits, the tables and the code
pub record Module : Type 0 where
  pub bits : ℕ
  pub qstrs : List Qstr
  pub objects : List Constant
  pub code : RawCode

-- the text of an entry
abbrev pub text_of : Qstr → Option (List ℕ)
text_of (Static number) = static_text_of number
text_of (Own text) = Some text
