-- Accepted sources, but for the limits that are counted on their code.
use Rattle.std.specs.Prelude.{ℕ, ◌<◌, []}
use Rattle.bc_resolved.specs.mpy_base.declared.limits.TheConstants.{MAX_DEPTH}
use Rattle.py_meaning.specs.py_tree.declared.stmt.Module.{Module}
use Rattle.py_meaning.specs.py_tree.Formed.{IsFormed}
use Rattle.emit_measures.specs.py_scopes.Scopes.{slots_of, IsFaultless}
use Rattle.emit_measures.specs.bc_scheme.py_meaning.Tree.{Name}
use Rattle.emit_measures.specs.bc_scheme.py_meaning.Plain.{plain_tree}
use Rattle.emit_measures.specs.bc_scheme.py_meaning.Program.{Source, source_texts}
use Rattle.tr_source.specs.Nested.{nested}
use Rattle.tr_source.specs.Within.{AllWithin}

-- the source of a parser's tree, by its stored name
abbrev pub source_of : (file : Name) (level : ℕ) → Module → Source
source_of file level tree = record { file = file; level = level; body = plain_tree tree; locals = slots_of tree }

-- the limits don't depend on the name
pub record IsAccepted (level : ℕ) (tree : Module) : Type 0 where
  pub formed : IsFormed tree
  pub faultless : IsFaultless tree
  pub within : AllWithin (source_texts [] (source_of [] level tree) 0)
  -- with the module's own code
  pub nested : nested (plain_tree tree) < MAX_DEPTH
