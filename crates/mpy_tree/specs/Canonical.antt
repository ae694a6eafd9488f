-- Canonical files: each field is what is written for it anew.
use Rattle.std.specs.Prelude.{◌≡◌, ℕ, zero, suc, ◌+◌, ◌*◌, List, [], ◌∷◌, ◌++◌, length, All, Bool, true, false, None, ◌==◌, if◌then◌else◌}
use Rattle.std.specs.List.{flat_map, zip}
use Rattle.std.specs.Fmt.{signed_decimal}
use Rattle.qstr_pool.specs.mpy_base.Vuint.{vuint}
use Rattle.qstr_pool.specs.mpy_base.declared.limits.TheConstants.{MAX_DEPTH}
use Rattle.bc_ops.specs.declared.instr.Instr.{Instr}
use Rattle.bc_ops.specs.Code as instructions
use Rattle.bc_prelude.specs.declared.prelude.Prelude.{Prelude}
use Rattle.bc_prelude.specs.Prelude.{front_of}
use Rattle.bc_prelude.specs.Names as names
use Rattle.bc_prelude.specs.Lines.{Rises, table_of}
use Rattle.qstr_pool.specs.Static.{static_number_of}
use Rattle.mpy_tree.specs.declared.module.Constant.{Constant, out-Constant}
use Rattle.mpy_tree.specs.declared.module.Constant.TheOpen.{Constant-F}
use Rattle.mpy_tree.specs.declared.raw.Qstr.{Qstr}
use Rattle.mpy_tree.specs.declared.raw.Qstr.TheVariants.{Static, Own}
use Rattle.mpy_tree.specs.declared.raw.RawCode.{RawCode, out-RawCode}
use Rattle.mpy_tree.specs.Raw.{Module}
use Rattle.mpy_tree.specs.File.{header_of, tag_none, tag_false, tag_true, tag_str, tag_int, tag_tuple}

-- what is written for a text
abbrev pub qstr_bytes : Qstr → List ℕ
qstr_bytes (Static number) = vuint (2 * number + 1)
qstr_bytes (Own text) = vuint (2 * length text) ++ (text ++ 0 ∷ [])

-- a text that every file may name is named by its number
abbrev pub IsNamed : Qstr → Type 0
IsNamed (Static number) = Unit {0}
IsNamed (Own text) = static_number_of text ≡ None

-- what is written for an object, by what is written for those in it
abbrev pub object_by : (Constant → List ℕ) → Constant-F Constant → List ℕ
object_by inner Constant-F.None = tag_none ∷ []
object_by inner Constant-F.False = tag_false ∷ []
object_by inner Constant-F.True = tag_true ∷ []
object_by inner (Constant-F.Str text) = tag_str ∷ (vuint (length text) ++ (text ++ 0 ∷ []))
object_by inner (Constant-F.Int n) = tag_int ∷ (vuint (length (signed_decimal n)) ++ signed_decimal n)
object_by inner (Constant-F.Tuple items) = tag_tuple ∷ (vuint (length items) ++ flat_map inner items)

-- what is written for an object of that number of levels of tuples at most
unfoldable pub object_bytes : ℕ → Constant → List ℕ
object_bytes zero object = object_by (λ _. []) (out-Constant object)
object_bytes (suc levels) object = object_by (object_bytes levels) (out-Constant object)

-- what is written for children: nothing where there are none
abbrev pub children_bytes : (RawCode → List ℕ) → List RawCode → List ℕ
children_bytes inner [] = []
children_bytes inner (child ∷ children) = vuint (length (child ∷ children)) ++ flat_map inner (child ∷ children)

-- does the list have any item?
abbrev pub has_some : {A : Type 0} → List A → Bool
has_some [] = false
has_some (x ∷ xs) = true

-- what is written for a code of that number of levels of codes at most
unfoldable pub code_bytes : ℕ → RawCode → List ℕ
code_bytes zero code = []
code_bytes (suc levels) code =
    vuint (header_of (length (out-RawCode code).bytes) (has_some (out-RawCode code).children))
    ++ ((out-RawCode code).bytes ++ children_bytes (code_bytes levels) (out-RawCode code).children)

-- what is written for a module: the header, the numbers of texts and of objects, the texts, the objects and the code
abbrev pub file_bytes : Module → List ℕ
file_bytes m =
    0x4d ∷ 6 ∷ 0 ∷ m.bits ∷ (vuint (length m.qstrs) ++ (vuint (length m.objects)
    ++ (flat_map qstr_bytes m.qstrs ++ (flat_map (object_bytes MAX_DEPTH) m.objects ++ code_bytes MAX_DEPTH m.code))))

-- the pairs of an offset and a line, without those of the line before
abbrev pub changes : ℕ → List (ℕ × ℕ) → List (ℕ × ℕ)
changes line [] = []
changes line (pair ∷ pairs) = if pair.1 == line then changes line pairs else pair ∷ changes pair.1 pairs

-- the offsets that instructions start at, where the first starts at the one that is given
abbrev pub offsets : ℕ → List Instr → List ℕ
offsets at [] = []
offsets at (instr ∷ instrs) = at ∷ offsets (at + length (instructions.spelling instr)) instrs

-- a code's own bytes are what is written for its parts: the table has the lines of its instructions
pub record IsCanonicalCode (code : List ℕ) : Type 0 where
  pub prelude : Prelude
  pub indexes : List ℕ
  pub instrs : List Instr
  pub lines : List ℕ
  pub a_line_each : length lines ≡ length instrs
  pub rises : Rises (zip (offsets 0 instrs) lines)
  pub code_is : code ≡ front_of prelude ++ (names.spelling indexes
      ++ (table_of (changes 1 (zip (offsets 0 instrs) lines)) ++ flat_map instructions.spelling instrs))
  pub info_at : prelude.info_at ≡ length (front_of prelude)
  pub code_at : prelude.code_at ≡ prelude.info_at + length (names.spelling indexes)
      + length (table_of (changes 1 (zip (offsets 0 instrs) lines)))

-- the fact `P` holds of a code's own bytes and of those of the codes in it, that number of levels deep
unfoldable pub AllCodes : (List ℕ → Type 0) → ℕ → RawCode → Type 0
AllCodes P zero code = P (out-RawCode code).bytes
AllCodes P (suc levels) code = P (out-RawCode code).bytes × All (AllCodes P levels) (out-RawCode code).children

-- the file is what is written for its module, its small integers take 31 bits, each static text is named by its number, and each
-- code is canonical
pub record Canonical (bytes : List ℕ) : Type 0 where
  pub m : Module
  pub bytes_are : bytes ≡ file_bytes m
  pub bits : m.bits ≡ 31
  pub named : All IsNamed m.qstrs
  pub codes : AllCodes IsCanonicalCode MAX_DEPTH m.code
