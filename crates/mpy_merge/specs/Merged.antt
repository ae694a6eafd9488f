-- The merged file of modules.
use Rattle.std.specs.Prelude.{◌≡◌, ℕ, zero, suc, ◌+◌, ◌≤◌, List, [], ◌∷◌, ◌++◌, length, map, All, codes}
use Rattle.std.specs.List.{flat_map}
use Rattle.mpy_base.specs.declared.limits.TheConstants.{MAX_CODE_BYTES}
use Rattle.bc_scheme.specs.bc_ops.declared.instr.Op.TheVariants as ops
use Rattle.bc_scheme.specs.bc_ops.declared.instr.Instr.TheVariants as instrs
use Rattle.mpy_writer.specs.mpy_tree.declared.module.Constant.{Constant}
use Rattle.mpy_writer.specs.mpy_tree.declared.module.Item.{Item}
use Rattle.mpy_writer.specs.mpy_tree.declared.module.Item.TheVariants.{Plain}
use Rattle.mpy_writer.specs.mpy_tree.declared.module.Code.{Code, roll-Code}
use Rattle.mpy_writer.specs.mpy_tree.declared.raw.RawCode.{RawCode, out-RawCode, roll-RawCode}
use Rattle.mpy_writer.specs.mpy_tree.Raw.{Module}
use Rattle.mpy_writer.specs.mpy_tree.Canonical.{file_bytes}
use Rattle.mpy_writer.specs.declared.tables.Tables.{Tables}
use Rattle.mpy_writer.specs.Outcome.{no_texts}
use Rattle.mpy_writer.specs.Tables.{IsTable}
use Rattle.mpy_writer.specs.File.{IsOwn, qstr_of}
use Rattle.mpy_merge.specs.Moved.{entry_text, text_at, IsMovedTree}

-- tables
-- ======

-- the texts of a module's table
abbrev pub texts_of : Module → List (List ℕ)
texts_of m = map entry_text m.qstrs

-- the name of the first module's source, that of the outermost code, and the texts of each module in order
abbrev pub texts_used : List Module → List (List ℕ)
texts_used [] = []
texts_used (m ∷ ms) = text_at m 0 ∷ codes "<module>" ∷ flat_map texts_of (m ∷ ms)

-- the objects of the modules in order, each as often as it stands
abbrev pub all_objects : List Module → List Constant
all_objects modules = flat_map (λ m. m.objects) modules

-- each text once, in the order of first use. Objects keep their order, so no table gives them numbers.
pub record AreTables (modules : List Module) (tables : Tables) : Type 0 where
  pub texts : IsTable (texts_used modules) tables.texts
  pub objects : tables.objects ≡ no_texts

-- codes
-- =====

-- the calls of `n` children, of which the first is at `at`
abbrev pub calls : ℕ → ℕ → List Item
calls at zero = []
calls at (suc n) =
    Plain (instrs.Num ops.MakeFunction at) ∷ Plain (instrs.Num ops.CallFunction 0) ∷ Plain (instrs.Plain ops.PopTop) ∷ calls (suc at) n

-- the items of the outer code over `n` children
abbrev pub outer_items : ℕ → List Item
outer_items n = calls 0 n ++ Plain (instrs.Plain ops.LoadConstNone) ∷ Plain (instrs.Plain ops.ReturnValue) ∷ []

-- the outermost code of `n` modules, without those in it
abbrev pub outer_code : ℕ → Code
outer_code n = roll-Code (record {
  name = codes "<module>";
  args = [];
  defaults = 0;
  n_state = 1;
  n_exc = 0;
  instrs = outer_items n;
  lines = map (λ _. 1) (outer_items n);
  children = [];
})

-- the codes of the modules with their numbers moved, where `base` objects come in front
abbrev pub AreMoved : ℕ → Tables → ℕ → List Module → List RawCode → Type 0
AreMoved levels tables base [] parts = parts ≡ []
AreMoved levels tables base (m ∷ ms) parts =
    (part : RawCode) × (rest : List RawCode) × (parts ≡ part ∷ rest) × IsMovedTree levels tables base m m.code part
    × AreMoved levels tables (base + length m.objects) ms rest

-- a code has at most `levels` levels of codes, itself among them
unfoldable pub NestsWithin : ℕ → RawCode → Type 0
NestsWithin zero code = ⊥
NestsWithin (suc levels) code = All (NestsWithin levels) (out-RawCode code).children

-- a file
-- ======

-- the module of these tables, objects and codes, below an outer code with these bytes
abbrev pub merged_module : Tables → List Constant → List ℕ → List RawCode → Module
merged_module tables objects own parts = record {
  bits = 31;
  qstrs = map qstr_of tables.texts.texts;
  objects = objects;
  code = roll-RawCode (record { bytes = own; children = parts });
}

-- the bytes are those of the modules' codes below the outermost one
pub record IsMerged (modules : List Module) (bytes : List ℕ) : Type 0 where
  pub tables : Tables
  pub are_tables : AreTables modules tables
  pub own : List ℕ
  pub is_own : IsOwn tables (outer_code (length modules)) own
  pub short : length own ≤ MAX_CODE_BYTES
  pub parts : List RawCode
  pub are_moved : AreMoved 31 tables 0 modules parts
  pub bytes_are : bytes ≡ file_bytes (merged_module tables (all_objects modules) own parts)
