-- The module of a source.
use Rattle.std.specs.Prelude.{◌≡◌, ℕ}
use Rattle.mpy_writer.specs.mpy_tree.declared.module.ModuleCode.{ModuleCode}
use Rattle.mpy_writer.specs.mpy_tree.Resolved.{ResolvedModule, IsTreeOf}
use Rattle.py_tree.specs.declared.stmt.Module.{Module}
use Rattle.py_scopes.specs.Scopes.{slots_of}
use Rattle.tr_source.specs.py_meaning.Tree.{Name}
use Rattle.tr_source.specs.py_meaning.Plain.{plain_tree}
use Rattle.tr_source.specs.py_meaning.Program.{Source}
use Rattle.emit_measures.specs.bc_scheme.Translation.{Translates}

-- the source of a parser's tree, by its stored name
abbrev pub source_of : (file : Name) (level : ℕ) → Module → Source
source_of file level tree = record { file = file; level = level; body = plain_tree tree; locals = slots_of tree }

-- the module with its texts and objects, as the machine takes it
pub record IsResolved (whole : ModuleCode) (m : ResolvedModule) : Type 0 where
  pub source : m.source ≡ whole.source
  pub code : IsTreeOf m.code whole.code

-- the module translates the source
pub record IsTranslated (source : Source) (whole : ModuleCode) : Type 0 where
  pub resolved : ResolvedModule
  pub is : IsResolved whole resolved
  pub translates : Translates source resolved
