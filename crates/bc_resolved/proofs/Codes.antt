-- The codes of a verified tree are verified codes of the machine.
use Rattle.std.proofs.Common.{◌≡◌, ◌⊎◌, inl, inr, ℕ, zero, suc, ◌+◌, ◌<◌, ◌≤◌, List, [], ◌∷◌, ◌++◌, length, map, Option, Some, None, refl, ap, subst, ◌∙◌, slice_get, option_and_then, arith, length-append}
use Rattle.bc_progress.specs.bc_ops.declared.instr.Op.TheVariants as ops
use Rattle.bc_progress.specs.bc_ops.declared.instr.Instr.TheVariants as instrs
use Rattle.bc_progress.specs.bc_flow.Action.{Action}
use Rattle.bc_progress.specs.bc_flow.Code as flow
use Rattle.bc_progress.specs.bc_flow.Verified.{Holds as Meets}
use Rattle.bc_verify.specs.bc_prelude.declared.prelude.Prelude.{Prelude}
use Rattle.bc_verify.specs.bc_prelude.Prelude.{Begins}
use Rattle.bc_verify.specs.mpy_tree.declared.raw.RawCode.{RawCode, out-RawCode}
use Rattle.bc_verify.specs.mpy_tree.Raw as raw
use Rattle.bc_verify.specs.mpy_tree.Resolved.{Resolved, ResolvedLine, Body, instrs_of, Tree, node, Trees, no_more, more, ResolvedModule, ResolvesCode, ResolveCodes, Resolves}
use Rattle.bc_verify.specs.mpy_tree.Codes.{code_at}
use Rattle.bc_progress.specs.bc_machine.Library.{Item, Plain, Line, Code, Module, item_of, line_of, locals_of, code_of, size_of, sizes_of, numbers_from, codes_from, codes_of, module_of}
use Rattle.bc_progress.specs.Plans.{action_of, IsKnown, IsChild, MakesChild, Plan, IsVerifiedCode, IsVerifiedModule}
use Rattle.bc_resolved.specs.Operands.{IsThere}
use Rattle.bc_resolved.specs.Verified.{IsVerifiedBody, count_of, AreVerifiedIn, AreVerifiedAll, IsVerifiedTree}
use Rattle.bc_resolved.specs.Known.{IsKnownBody, AreKnownIn, AreKnownAll, IsKnownTree}
use Rattle.bc_resolved.specs.Rooms.{TakesAtMost, PlanAtMost}

some_is : {A : Type 0} (x y : A) → Some x ≡ Some y → x ≡ y
some_is x y e = cc

-- one code
-- ========

actions_same : (size : ℕ) (lines : List ResolvedLine) → map (λ r. action_of (item_of size r)) (map (λ (l : ResolvedLine). l.item) lines) ≡ map (λ (l : Line). action_of l.item) (map (line_of size) lines)
actions_same size [] = refl
actions_same size (l ∷ lines) = ap (λ (z : List Action). action_of (item_of size l.item) ∷ z) (actions_same size lines)

-- the instruction of a line
item_in : (size : ℕ) (lines : List ResolvedLine) (p : ℕ) (l : Line) → slice_get (map (line_of size) lines) p ≡ Some l
    → (r : Resolved) × (slice_get (map (λ (l : ResolvedLine). l.item) lines) p ≡ Some r) × (item_of size r ≡ l.item)
item_in size [] p l e = cc
item_in size (x ∷ lines) zero l e = (x.item, refl, ap (λ (z : Line). z.item) (some_is (line_of size x) l e))
item_in size (x ∷ lines) (suc p) l e = item_in size lines p l e

params_fit : (most : ℕ) (rs : List Resolved) → most ≤ locals_of most rs
params_fit most [] = omega arith
params_fit most (r ∷ rs) = let h = params_fit most rs in omega (arith, h)

some_size : (tree : Tree) → 0 < size_of tree
some_size (node body trees) = omega arith

child_in : (count number : ℕ) (trees : Trees) → number + sizes_of trees ≤ count → (n : ℕ) → n < count_of trees → IsChild count (numbers_from number trees) n
child_in count number no_more le n lt = absurd (omega (arith, lt))
child_in count number (more tree trees) le zero lt = let s = some_size tree in (number, refl, omega (arith, le, s))
child_in count number (more tree trees) le (suc n) lt = child_in count (number + size_of tree) trees (omega (arith, le)) n (omega (arith, lt))

makes_child : (count number : ℕ) (trees : Trees) → number + sizes_of trees ≤ count → (item : Item) → IsThere (count_of trees) item → MakesChild count (numbers_from number trees) item
makes_child count number trees le (Plain (instrs.Num ops.MakeFunction n)) h = child_in count number trees le n h
makes_child count number trees le (Plain (instrs.Num ops.MakeFunctionDefargs n)) h = child_in count number trees le n h
makes_child count number trees le _ h = tt

-- a body, the bodies of trees, and plans that take no more slots and entries than these
abbrev Rooms : Type 1
Rooms = (n_state n_exc : ℕ) → Type 0

abbrev of_body : Body → (n_state n_exc : ℕ) → Type 0
of_body body n_state n_exc = (body.n_state ≤ n_state) × (body.n_exc ≤ n_exc)

abbrev mutual
  pub of_tree : Tree → (n_state n_exc : ℕ) → Type 0
  of_tree (node body trees) n_state n_exc = of_body body n_state n_exc × of_trees trees n_state n_exc

  pub of_trees : Trees → (n_state n_exc : ℕ) → Type 0
  of_trees no_more n_state n_exc = Unit {0}
  of_trees (more tree trees) n_state n_exc = of_tree tree n_state n_exc × of_trees trees n_state n_exc

abbrev Bounds : Rooms → Plan → Type 0
Bounds rooms plan = (n_state n_exc : ℕ) → rooms n_state n_exc → (plan.n_state ≤ n_state) × (plan.n_exc ≤ n_exc)

abbrev HasPlan : Rooms → ℕ → Code → Type 0
HasPlan rooms count code = (plan : Plan) × IsVerifiedCode count plan code × Bounds rooms plan

-- more take no less
wider : (a b : Rooms) (count : ℕ) (code : Code) → ((n_state n_exc : ℕ) → b n_state n_exc → a n_state n_exc) → HasPlan a count code → HasPlan b count code
wider a b count code to p = (p.0, p.1, λ n_state n_exc h. p.2 n_state n_exc (to n_state n_exc h))

body_plan : (count number : ℕ) (body : Body) (trees : Trees) → number + sizes_of trees ≤ count → IsVerifiedBody (count_of trees) body → IsKnownBody body → HasPlan (of_body body) count (code_of body (numbers_from number trees))
body_plan count number body trees le v k =
    let size = length body.lines in (
      record { n_state = body.n_state; n_exc = body.n_exc; assigned = v.flow.0 },
      record {
        params = params_fit (length body.args) (instrs_of body);
        known = λ p l e. (let r = item_in size body.lines p l e in subst IsKnown r.2 (k p r.0 r.1));
        children = λ p l e. (let r = item_in size body.lines p l e in makes_child count number trees le l.item (subst (IsThere (count_of trees)) r.2 (v.instructions p r.0 r.1).there));
        meets = subst (λ (z : List Action). (let code : flow.Code = record { actions = z; n_state = body.n_state; n_exc = body.n_exc; locals = locals_of (length body.args) (instrs_of body) } in Meets code v.flow.0)) (actions_same size body.lines) v.flow.1;
      },
      λ n_state n_exc h. h,
    )

-- all codes
-- =========

get_in : {A : Type 0} (xs ys : List A) (n : ℕ) (x : A) → slice_get (xs ++ ys) n ≡ Some x → (slice_get xs n ≡ Some x) ⊎ ((k : ℕ) × (slice_get ys k ≡ Some x))
get_in [] ys n x e = inr (n, e)
get_in (y ∷ xs) ys zero x e = inl e
get_in (y ∷ xs) ys (suc n) x e = get_in xs ys n x e

mutual
  tree_plans : (count number : ℕ) (tree : Tree) → number + size_of tree ≤ count → AreVerifiedIn tree → AreKnownIn tree → (n : ℕ) (code : Code) → slice_get (codes_from number tree) n ≡ Some code → HasPlan (of_tree tree) count code
  tree_plans count number (node body trees) le v k zero code e =
      wider (of_body body) (of_tree (node body trees)) count code (λ n_state n_exc h. h.0)
      (subst (HasPlan (of_body body) count) (some_is (code_of body (numbers_from (suc number) trees)) code e) (body_plan count (suc number) body trees (omega (arith, le)) v.0 k.0))
  tree_plans count number (node body trees) le v k (suc n) code e =
      wider (of_trees trees) (of_tree (node body trees)) count code (λ n_state n_exc h. h.1) (trees_plans count (suc number) trees (omega (arith, le)) v.1 k.1 n code e)

  trees_plans : (count number : ℕ) (trees : Trees) → number + sizes_of trees ≤ count → AreVerifiedAll trees → AreKnownAll trees → (n : ℕ) (code : Code) → slice_get (codes_of number trees) n ≡ Some code → HasPlan (of_trees trees) count code
  trees_plans count number no_more le v k n code e = absurd (cc e)
  trees_plans count number (more tree trees) le v k n code e =
      elim (get_in (codes_from number tree) (codes_of (number + size_of tree) trees) n code e) [
        | inl a ↦ wider (of_tree tree) (of_trees (more tree trees)) count code (λ n_state n_exc h. h.0) (tree_plans count number tree (omega (arith, le)) v.0 k.0 n code a)
        | inr b ↦ wider (of_trees trees) (of_trees (more tree trees)) count code (λ n_state n_exc h. h.1) (trees_plans count (number + size_of tree) trees (omega (arith, le)) v.1 k.1 (b.0) code (b.1))
      ]

mutual
  tree-length : (number : ℕ) (tree : Tree) → length (codes_from number tree) ≡ size_of tree
  tree-length number (node body trees) = ap suc (trees-length (suc number) trees)

  trees-length : (number : ℕ) (trees : Trees) → length (codes_of number trees) ≡ sizes_of trees
  trees-length number no_more = refl
  trees-length number (more tree trees) =
      let a = length-append (codes_from number tree) (codes_of (number + size_of tree) trees) in
      let b = tree-length number tree in
      let c = trees-length (number + size_of tree) trees in
      omega (arith, a, b, c)

-- a plan for each code gives one for the module
abbrev pub Planned : Rooms → Module → Type 0
Planned rooms m = (plans : ℕ → Plan) × IsVerifiedModule plans m × ((n_state n_exc : ℕ) → rooms n_state n_exc → PlanAtMost n_state n_exc plans)

module _ (rooms : Rooms) (m : Module) (each : (n : ℕ) (code : Code) → slice_get m.codes n ≡ Some code → HasPlan rooms (length m.codes) code) where
  plan_in : (n : ℕ) (o : Option Code) → slice_get m.codes n ≡ o → Plan
  plan_in n None e = record { n_state = 0; n_exc = 0; assigned = λ p. None }
  plan_in n (Some code) e = (each n code e).0

  code_in : (n : ℕ) (o : Option Code) (e : slice_get m.codes n ≡ o) (code : Code) → o ≡ Some code → IsVerifiedCode (length m.codes) (plan_in n o e) code
  unfolding plan_in
  code_in n None e code q = cc
  code_in n (Some own) e code q = subst (IsVerifiedCode (length m.codes) (each n own e).0) (some_is own code q) (each n own e).1

  room_in : (n : ℕ) (o : Option Code) (e : slice_get m.codes n ≡ o) → Bounds rooms (plan_in n o e)
  unfolding plan_in
  room_in n None e n_state n_exc h = (omega arith, omega arith)
  room_in n (Some own) e n_state n_exc h = (each n own e).2 n_state n_exc h

  planned : 0 < length m.codes → Planned rooms m
  planned lt = (
    (λ n. plan_in n (slice_get m.codes n) refl),
    record { begins = lt; codes = λ n code e. code_in n (slice_get m.codes n) refl code e },
    (λ n_state n_exc h n. room_in n (slice_get m.codes n) refl n_state n_exc h),
  )

pub module_planned : (tree : ResolvedModule) → IsVerifiedTree tree → IsKnownTree tree → Planned (of_tree tree.code) (module_of tree)
module_planned tree v k =
    let codes = codes_from 0 tree.code in
    let long : length codes ≡ size_of tree.code = tree-length 0 tree.code in
    planned (of_tree tree.code) (module_of tree) (λ n code e. tree_plans (length codes) 0 tree.code (omega (arith, long)) v k n code e) (let s = some_size tree.code in omega (arith, s, long))

-- the trees of a module take what its codes do
-- =============================================

module _ (m : raw.Module) (n_state n_exc : ℕ) where
  abbrev Within : RawCode → Type 0
  Within code = (path : List ℕ) (other : RawCode) (p : Prelude) → code_at path code ≡ Some other → Begins (out-RawCode other).bytes p → (p.n_state ≤ n_state) × (p.n_exc ≤ n_exc)

  mutual
    tree_takes : (tree : Tree) (code : RawCode) → ResolvesCode m tree code → Within code → of_tree tree n_state n_exc
    tree_takes (node body trees) code r w =
        let own = w [] code r.0.prelude refl r.0.begins in
        ((omega (arith, own.0, r.0.n_state), omega (arith, own.1, r.0.n_exc)), trees_take trees (out-RawCode code).children r.1 (λ n path other p e b. w (n ∷ path) other p e b))

    trees_take : (trees : Trees) (codes : List RawCode) → ResolveCodes m trees codes
        → ((n : ℕ) (path : List ℕ) (other : RawCode) (p : Prelude) → option_and_then (code_at path) (slice_get codes n) ≡ Some other → Begins (out-RawCode other).bytes p → (p.n_state ≤ n_state) × (p.n_exc ≤ n_exc))
        → of_trees trees n_state n_exc
    trees_take no_more codes r w = tt
    trees_take (more tree trees) codes r w = (
      tree_takes tree r.0 r.3 (λ path other p e b. w zero path other p (ap (λ z. option_and_then (code_at path) (slice_get z 0)) r.2 ∙ e) b),
      trees_take trees r.1 r.4 (λ n path other p e b. w (suc n) path other p (ap (λ z. option_and_then (code_at path) (slice_get z (suc n))) r.2 ∙ e) b),
    )

pub takes : (m : raw.Module) (tree : ResolvedModule) → Resolves m tree → (n_state n_exc : ℕ) → TakesAtMost n_state n_exc m → of_tree tree.code n_state n_exc
takes m tree r n_state n_exc w = tree_takes m n_state n_exc tree.code m.code r.code w
