-- A module whose tree is verified is.
use Rattle.std.proofs.Common.{◌≡◌, ℕ, zero, suc, List, [], ◌∷◌, length, map, Some, refl, sym, ap, ◌∙◌, subst, slice_get, option_and_then, unwrap_or, arith}
use Rattle.std.proofs.lemmas.List.{length-map}
use Rattle.bc_verify.specs.mpy_tree.declared.raw.RawCode.{RawCode, out-RawCode}
use Rattle.bc_verify.specs.mpy_tree.Raw.{Module}
use Rattle.bc_verify.specs.mpy_tree.Resolved.{Body, Tree, node, Trees, no_more, more, ResolvedModule, IsBody, name_at, ResolvesCode, ResolveCodes, Resolves}
use Rattle.bc_progress.specs.bc_ops.Listing.{starts}
use Rattle.bc_verify.specs.Body as verify
use Rattle.bc_verify.specs.mpy_tree.Codes.{code_at}
use Rattle.bc_verify.specs.Verified.{children_of, IsVerifiedCode, AreVerified, IsVerified}
use Rattle.bc_resolved.specs.Verified.{IsVerifiedBody, count_of, AreVerifiedIn, AreVerifiedAll, IsVerifiedTree}
use Rattle.bc_resolved.proofs.InBytes.{Tells, bytes_from_tree}
use Rattle.bc_resolved.proofs.Regular.{list_regular}

-- what the bytes of a body say
abbrev pub own_body : (m : Module) (code : RawCode) (body : Body) → IsBody m (out-RawCode code).bytes body → verify.Body
own_body m code body b = record { items = b.items; n_state = b.prelude.n_state; n_exc = b.prelude.n_exc; arguments = b.prelude.args }

pub own_says : (m : Module) (code : RawCode) (body : Body) (b : IsBody m (out-RawCode code).bytes body) → verify.Says (out-RawCode code).bytes (own_body m code body b) (starts 0 b.is_list.pieces)
own_says m code body b = record { prelude = b.prelude; begins = b.begins; lists = record { is_list = b.is_list; offsets_are = refl }; n_state = refl; n_exc = refl; arguments = refl }

pub own_tells : (m : Module) (code : RawCode) (body : Body) (b : IsBody m (out-RawCode code).bytes body) → Tells m (own_body m code body b) body
own_tells m code body b =
    let l1 = ap (λ z. length z) b.names in
    let l2 = length-map b.begins.indexes (λ n. name_at m n) in
    let l3 = b.begins.count in
    let l4 : length (map Some (body.name ∷ body.args)) ≡ suc (length body.args) = length-map (body.name ∷ body.args) Some in
    record { instrs = b.instrs; n_state = b.n_state; n_exc = b.n_exc; args = omega (arith, l1, l2, l3, l4) }

raw_code : (m : Module) (code : RawCode) (body : Body) → IsBody m (out-RawCode code).bytes body → IsVerifiedBody (children_of code) body → IsVerifiedCode m code
raw_code m code body b v =
    let r = bytes_from_tree m (children_of code) (own_body m code body b) body (own_tells m code body b) (list_regular _ _ b.is_list) v in
    record {
      body = own_body m code body b;
      offsets = starts 0 b.is_list.pieces;
      says = own_says m code body b;
      instructions = r.0;
      flow = r.1;
    }

pub codes_count : (m : Module) (trees : Trees) (codes : List RawCode) → ResolveCodes m trees codes → length codes ≡ count_of trees
codes_count m no_more codes e = ap (λ z. length z) e
codes_count m (more tree trees) codes e = ap (λ z. length z) e.2 ∙ ap suc (codes_count m trees e.1 e.4)

mutual
  raw_tree : (m : Module) (tree : Tree) (code : RawCode) → ResolvesCode m tree code → AreVerifiedIn tree → AreVerified m code
  raw_tree m (node body trees) code r v [] other e =
      let n = codes_count m trees (out-RawCode code).children r.1 in
      subst (λ z. IsVerifiedCode m z) (ap (λ o. unwrap_or o code) e) (raw_code m code body r.0 (subst (λ k. IsVerifiedBody k body) (sym n) v.0))
  raw_tree m (node body trees) code r v (n ∷ path) other e = raw_trees m trees (out-RawCode code).children r.1 v.1 n path other e

  raw_trees : (m : Module) (trees : Trees) (codes : List RawCode) → ResolveCodes m trees codes → AreVerifiedAll trees → (n : ℕ) (path : List ℕ) (other : RawCode) → option_and_then (code_at path) (slice_get codes n) ≡ Some other → IsVerifiedCode m other
  raw_trees m no_more codes r v n path other e = absurd (cc (sym (ap (λ z. option_and_then (code_at path) (slice_get z n)) r) ∙ e))
  raw_trees m (more tree trees) codes r v zero path other e =
      raw_tree m tree r.0 r.3 v.0 path other (sym (ap (λ z. option_and_then (code_at path) (slice_get z 0)) r.2) ∙ e)
  raw_trees m (more tree trees) codes r v (suc n) path other e =
      raw_trees m trees r.1 r.4 v.1 n path other (sym (ap (λ z. option_and_then (code_at path) (slice_get z (suc n))) r.2) ∙ e)

pub module_verified : (m : Module) (tree : ResolvedModule) → Resolves m tree → IsVerifiedTree tree → IsVerified m
module_verified m tree r v = raw_tree m tree.code m.code r.code v
