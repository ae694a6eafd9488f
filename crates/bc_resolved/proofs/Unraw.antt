-- The tree of a verified module is.
use Rattle.std.proofs.Common.{◌≡◌, ℕ, zero, suc, List, [], ◌∷◌, Some, refl, ap, ◌∙◌, subst, slice_get, option_and_then}
use Rattle.bc_verify.specs.mpy_tree.declared.raw.RawCode.{RawCode, out-RawCode}
use Rattle.bc_verify.specs.mpy_tree.Raw.{Module}
use Rattle.bc_verify.specs.mpy_tree.Resolved.{Body, Tree, node, Trees, no_more, more, ResolvedModule, IsBody, ResolvesCode, ResolveCodes, Resolves}
use Rattle.bc_progress.specs.bc_flow.Verified.{Verified}
use Rattle.bc_verify.specs.Body as verify
use Rattle.bc_verify.specs.mpy_tree.Codes.{code_at}
use Rattle.bc_verify.specs.Rules.{KeepsAll}
use Rattle.bc_verify.specs.Verified.{children_of, IsVerifiedCode, AreVerified, IsVerified}
use Rattle.bc_verify.proofs.Bodies.{one_body}
use Rattle.bc_resolved.specs.Verified.{IsVerifiedBody, AreVerifiedIn, AreVerifiedAll, IsVerifiedTree}
use Rattle.bc_resolved.specs.Known.{HasTexts}
use Rattle.bc_resolved.proofs.InBytes.{tree_from_bytes}
use Rattle.bc_resolved.proofs.Regular.{list_regular}
use Rattle.bc_resolved.proofs.Raw.{own_body, own_says, own_tells, codes_count}

body_from : (m : Module) (code : RawCode) (body : Body) → HasTexts m → IsBody m (out-RawCode code).bytes body → IsVerifiedCode m code → IsVerifiedBody (children_of code) body
body_from m code body texts b v =
    let own = own_body m code body b in
    let same : v.body ≡ own = (one_body (out-RawCode code).bytes v.body own v.offsets _ v.says (own_says m code body b)).0 in
    tree_from_bytes m (children_of code) own body (own_tells m code body b) (list_regular _ _ b.is_list) texts (subst (KeepsAll m (children_of code)) same v.instructions) (subst (λ z. Verified (verify.flow_of z)) same v.flow)

mutual
  tree_from : (m : Module) (tree : Tree) (code : RawCode) → HasTexts m → ResolvesCode m tree code → AreVerified m code → AreVerifiedIn tree
  tree_from m (node body trees) code texts r v = (
    subst (λ k. IsVerifiedBody k body) (codes_count m trees (out-RawCode code).children r.1) (body_from m code body texts r.0 (v [] code refl)),
    trees_from m trees (out-RawCode code).children texts r.1 (λ n path other e. v (n ∷ path) other e),
  )

  trees_from : (m : Module) (trees : Trees) (codes : List RawCode) → HasTexts m → ResolveCodes m trees codes
      → ((n : ℕ) (path : List ℕ) (other : RawCode) → option_and_then (code_at path) (slice_get codes n) ≡ Some other → IsVerifiedCode m other) → AreVerifiedAll trees
  trees_from m no_more codes texts r v = tt
  trees_from m (more tree trees) codes texts r v = (
    tree_from m tree r.0 texts r.3 (λ path other e. v zero path other (ap (λ z. option_and_then (code_at path) (slice_get z 0)) r.2 ∙ e)),
    trees_from m trees r.1 texts r.4 (λ n path other e. v (suc n) path other (ap (λ z. option_and_then (code_at path) (slice_get z (suc n))) r.2 ∙ e)),
  )

pub tree_verified : (m : Module) (tree : ResolvedModule) → HasTexts m → Resolves m tree → IsVerified m → IsVerifiedTree tree
tree_verified m tree texts r v = tree_from m tree.code m.code texts r.code v
