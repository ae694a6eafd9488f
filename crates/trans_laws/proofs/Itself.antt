-- A tree fits itself.
use Rattle.std.proofs.Common.{ℕ, ◌≤◌, refl, arith}
use Rattle.tr_source.specs.bc_scheme.mpy_tree.Resolved.{Body, Tree, node, Trees, no_more, more}
use Rattle.trans_parts.specs.Comparing.{AllServe, parts, single, FitsTree, FitTrees}

self_room : (n : ℕ) → n ≤ n
self_room n = omega arith

serves_self : (body : Body) (trees : Trees) → AllServe parts (single body trees) (single body trees)
serves_self body trees = (refl, (refl, (refl, (self_room body.n_state, (self_room body.n_exc, (refl, (refl, (refl, tt))))))))

mutual
  pub fits_itself : (tree : Tree) → FitsTree tree tree
  fits_itself (node body trees) = (serves_self body trees, fit_themselves trees)

  pub fit_themselves : (trees : Trees) → FitTrees trees trees
  fit_themselves no_more = tt
  fit_themselves (more tree trees) = (fits_itself tree, fit_themselves trees)
