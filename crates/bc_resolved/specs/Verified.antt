-- Verified trees.
use Rattle.std.specs.Prelude.{◌≡◌, ℕ, suc, List, [], ◌∷◌, length, map, Some, slice_get}
use Rattle.bc_progress.specs.bc_flow.Code as flow
use Rattle.bc_progress.specs.bc_flow.Verified.{Verified}
use Rattle.bc_verify.specs.mpy_tree.Resolved.{Resolved, Body, instrs_of, Tree, node, Trees, no_more, more, ResolvedModule}
use Rattle.bc_progress.specs.bc_machine.Library.{item_of, locals_of}
use Rattle.bc_progress.specs.Plans.{action_of}
use Rattle.bc_resolved.specs.Operands.{Keeps}

-- what the flow of a code of a tree is about
abbrev pub flow_of : Body → flow.Code
flow_of body = record {
  actions = map (λ r. action_of (item_of (length body.lines) r)) (instrs_of body);
  n_state = body.n_state;
  n_exc = body.n_exc;
  locals = locals_of (length body.args) (instrs_of body);
}

-- a code of a tree keeps the rules: each of its instructions does, with its text or object found, and so does its flow
pub record IsVerifiedBody (children : ℕ) (body : Body) : Type 0 where
  pub instructions : (p : ℕ) (r : Resolved) → slice_get (instrs_of body) p ≡ Some r
      → Keeps (length body.lines) body.n_state children (item_of (length body.lines) r)
  pub flow : Verified (flow_of body)

-- how many trees these are
abbrev pub count_of : Trees → ℕ
count_of no_more = 0
count_of (more tree trees) = suc (count_of trees)

abbrev mutual
  pub AreVerifiedIn : Tree → Type 0
  AreVerifiedIn (node body trees) = IsVerifiedBody (count_of trees) body × AreVerifiedAll trees

  pub AreVerifiedAll : Trees → Type 0
  AreVerifiedAll no_more = Unit {0}
  AreVerifiedAll (more tree trees) = AreVerifiedIn tree × AreVerifiedAll trees

-- the tree of a module whose codes keep the rules
abbrev pub IsVerifiedTree : ResolvedModule → Type 0
IsVerifiedTree m = AreVerifiedIn m.code

-- each is the tree of a module whose codes keep the rules
abbrev pub AllVerifiedTrees : List ResolvedModule → Type 0
AllVerifiedTrees [] = Unit {0}
AllVerifiedTrees (m ∷ ms) = IsVerifiedTree m × AllVerifiedTrees ms
