-- The names that a module imports.
use Rattle.std.specs.Prelude.{◌≡◌, ℕ, List, [], ◌++◌, Option, Some, None}
use Rattle.std.specs.List.{filter_map}
use Rattle.bc_ops.specs.declared.instr.Op.TheVariants as ops
use Rattle.mpy_reader.specs.mpy_tree.Raw.{Module}
use Rattle.mpy_reader.specs.mpy_tree.Resolved.{Resolved, named, Body, instrs_of, Tree, node, Trees, no_more, more, ResolvedModule, Resolves}

-- the name that an instruction imports, if it is an import
abbrev pub import_of : Resolved → Option (List ℕ)
import_of (named ops.ImportName name) = Some name
import_of instruction = None

-- the names that a code's own instructions import, in their order
abbrev pub own_imports : Body → List (List ℕ)
own_imports body = filter_map import_of (instrs_of body)

-- the names that a code and the codes in it import, in preorder
abbrev mutual
  pub imports_of : Tree → List (List ℕ)
  imports_of (node body children) = own_imports body ++ imports_of_all children

  pub imports_of_all : Trees → List (List ℕ)
  imports_of_all no_more = []
  imports_of_all (more tree trees) = imports_of tree ++ imports_of_all trees

-- the names that a module's tree imports
pub record Imports (m : Module) (names : List (List ℕ)) : Type 0 where
  pub tree : ResolvedModule
  pub resolves : Resolves m tree
  pub names_are : names ≡ imports_of tree.code
