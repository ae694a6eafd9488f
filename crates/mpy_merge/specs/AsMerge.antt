-- What a merged file is read as.
use Rattle.std.specs.Prelude.{ℕ, List, ◌∷◌}
use Rattle.std.specs.List.{AllZip}
use Rattle.mpy_writer.specs.mpy_tree.Raw.{Module}
use Rattle.mpy_writer.specs.mpy_tree.Resolved.{ResolvedModule, Resolves, Reads}
use Rattle.bc_scheme.specs.Merge.{merge_of}

-- the bytes are a file of the merge of the modules' trees
pub record ReadsAsMerge (modules : List Module) (bytes : List ℕ) : Type 0 where
  pub tree : ResolvedModule
  pub trees : List ResolvedModule
  pub are_trees : AllZip Resolves modules (tree ∷ trees)
  pub reads : Reads bytes (merge_of tree trees)
