-- The listing of a module.
use Rattle.std.specs.Prelude.{◌≡◌, ℕ, List, [], ◌++◌, length, codes, decimal, unwrap_or}
use Rattle.mpy_tree.specs.declared.module.Constant.{Constant}
use Rattle.mpy_tree.specs.declared.raw.Qstr.{Qstr}
use Rattle.mpy_tree.specs.declared.raw.Qstr.TheVariants.{Static, Own}
use Rattle.mpy_tree.specs.Codes.{codes_of}
use Rattle.mpy_tree.specs.File.{Many}
use Rattle.mpy_tree.specs.Raw.{Module, text_of}
use Rattle.mpy_dump.specs.Numbered.{numbered}
use Rattle.mpy_dump.specs.Texts.{name_text}
use Rattle.mpy_dump.specs.Objects.{object_text}
use Rattle.mpy_dump.specs.Codes.{IsCodeText}

-- the format's version and architecture, the small-integer bits, and how long the tables are
abbrev pub head_line : Module → List ℕ
head_line m =
    codes "mpy 6 0 " ++ (decimal m.bits ++ (codes " qstrs " ++ (decimal (length m.qstrs)
    ++ (codes " objects " ++ (decimal (length m.objects) ++ codes "\n")))))

-- how a text is spelled in its table
abbrev pub spelling_text : Qstr → List ℕ
spelling_text (Static number) = codes "static " ++ (decimal number ++ codes " ")
spelling_text (Own text) = codes "own "

-- the line of a text of the table
abbrev pub qstr_line : ℕ → Qstr → List ℕ
qstr_line n qstr =
    (codes "qstr " ++ (decimal n ++ codes " "))
    ++ (spelling_text qstr ++ (name_text (unwrap_or (text_of qstr) []) ++ codes "\n"))

-- the line of an object of the table
abbrev pub object_line : ℕ → Constant → List ℕ
object_line n object = (codes "object " ++ (decimal n ++ codes " ")) ++ (object_text object ++ codes "\n")

-- the first line, the table of texts, that of objects, and the codes in preorder
pub record IsListing (m : Module) (text : List ℕ) : Type 0 where
  pub codes_text : List ℕ
  pub are_codes : Many (IsCodeText m) codes_text (codes_of m)
  pub text_is : text ≡ head_line m ++ (numbered qstr_line 0 m.qstrs ++ (numbered object_line 0 m.objects ++ codes_text))
