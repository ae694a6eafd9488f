-- A tree imports what one that it fits imports.
use Rattle.std.proofs.Common.{◌≡◌, ℕ, List, ◌++◌, refl, ap, ap₂}
use Rattle.std.specs.List.{filter_map}
use Rattle.tr_source.specs.bc_scheme.mpy_tree.Resolved.{Resolved, Tree, node, Trees, no_more, more}
use Rattle.frozen_files.specs.library_files.Imports.{import_of, imports_of, imports_of_all}
use Rattle.meant_runs.specs.trans_laws.trans_parts.Comparing.{FitsTree, FitTrees}

abbrev joined : List (List ℕ) → List (List ℕ) → List (List ℕ)
joined own others = own ++ others

mutual
  pub same_imports : (a b : Tree) → FitsTree a b → imports_of a ≡ imports_of b
  same_imports (node a xs) (node b ys) f =
      ap₂ joined (ap (λ (items : List Resolved). filter_map import_of items) f.0.1.1.1.1.1.1.0) (same_imports_of_all xs ys f.1)

  same_imports_of_all : (xs ys : Trees) → FitTrees xs ys → imports_of_all xs ≡ imports_of_all ys
  same_imports_of_all no_more no_more f = refl
  same_imports_of_all no_more (more b ys) f = absurd f
  same_imports_of_all (more a xs) no_more f = absurd f
  same_imports_of_all (more a xs) (more b ys) f = ap₂ joined (same_imports a b f.0) (same_imports_of_all xs ys f.1)
