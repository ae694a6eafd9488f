-- The locals of a code are more than each that its instructions name.
use Rattle.std.proofs.Common.{◌≡◌, ℕ, zero, suc, ◌+◌, ◌≤◌, List, [], ◌∷◌, ◌++◌, length, map, Some, refl, ap, subst, arith}
use Rattle.std.specs.Prelude.{slice_get}
use Rattle.bc_progress.specs.bc_ops.declared.instr.Op.TheVariants as ops
use Rattle.bc_progress.specs.bc_ops.declared.instr.Instr.{Instr}
use Rattle.bc_progress.specs.bc_ops.declared.instr.Instr.TheVariants as instrs
use Rattle.vm_fetching.specs.mpy_tree.Resolved.{Resolved, plain, named, object, jump, unwind, ResolvedLine, Body, instrs_of, Tree, node, Trees, no_more, more, ResolvedModule}
use Rattle.bc_progress.specs.bc_machine.Library.{Line, Code, item_of, line_of, local_of, locals_of, code_of, size_of, numbers_from, codes_from, codes_of, module_of}
use Rattle.vm_states.specs.Locals.{InstrIsWithin, IsWithinLocals}

pub mapped_at : {A B : Type 0} (f : A → B) (xs : List A) (p : ℕ) (y : B) → slice_get (map f xs) p ≡ Some y → (x : A) × (slice_get xs p ≡ Some x) × (f x ≡ y)
mapped_at f [] p y e = cc
mapped_at f (x ∷ xs) zero y e = (x, refl, cc)
mapped_at f (x ∷ xs) (suc p) y e = mapped_at f xs p y e

pub map_at : {A B : Type 0} (f : A → B) (xs : List A) (p : ℕ) (x : A) → slice_get xs p ≡ Some x → slice_get (map f xs) p ≡ Some (f x)
map_at f [] p x e = cc
map_at f (y ∷ xs) zero x e = let same : y ≡ x = cc in ap (λ z. Some (f z)) same
map_at f (y ∷ xs) (suc p) x e = map_at f xs p x e

-- the codes of a tree are those of bodies
record IsCodeOf (code : Code) : Type 0 where
  pub body : Body
  pub children : List ℕ
  pub is : code_of body children ≡ code

in_both : {A : Type 0} (P : A → Type 0) (xs ys : List A) → ((k : ℕ) (x : A) → slice_get xs k ≡ Some x → P x) → ((k : ℕ) (x : A) → slice_get ys k ≡ Some x → P x) → (k : ℕ) (x : A) → slice_get (xs ++ ys) k ≡ Some x → P x
in_both P [] ys f g k x e = g k x e
in_both P (z ∷ xs) ys f g zero x e = f zero x e
in_both P (z ∷ xs) ys f g (suc k) x e = in_both P xs ys (λ j y h. f (suc j) y h) g k x e

first_or : (first : Code) (others : List Code) → IsCodeOf first → ((k : ℕ) (code : Code) → slice_get others k ≡ Some code → IsCodeOf code) → (k : ℕ) (code : Code) → slice_get (first ∷ others) k ≡ Some code → IsCodeOf code
first_or first others is f zero code e = let same : first ≡ code = cc in subst IsCodeOf same is
first_or first others is f (suc k) code e = f k code e

mutual
  in_tree : (number : ℕ) (tree : Tree) (k : ℕ) (code : Code) → slice_get (codes_from number tree) k ≡ Some code → IsCodeOf code
  in_tree number (node body trees) k code e =
      first_or (code_of body (numbers_from (suc number) trees)) (codes_of (suc number) trees) (record { body = body; children = numbers_from (suc number) trees; is = refl }) (in_trees (suc number) trees) k code e

  in_trees : (number : ℕ) (trees : Trees) (k : ℕ) (code : Code) → slice_get (codes_of number trees) k ≡ Some code → IsCodeOf code
  in_trees number no_more k code e = cc
  in_trees number (more tree trees) k code e = in_both IsCodeOf (codes_from number tree) (codes_of (number + size_of tree) trees) (in_tree number tree) (in_trees (number + size_of tree) trees) k code e

local_within : (most : ℕ) (rs : List Resolved) (p : ℕ) (r : Resolved) → slice_get rs p ≡ Some r → local_of r ≤ locals_of most rs
local_within most [] p r e = cc
local_within most (x ∷ rs) zero r e = let same : x ≡ r = cc in let n = ap local_of same in omega (arith, n)
local_within most (x ∷ rs) (suc p) r e = let h = local_within most rs p r e in omega (arith, h)

instr_within : (locals : ℕ) (instr : Instr) → local_of (plain instr) ≤ locals → InstrIsWithin locals instr
instr_within locals (instrs.Num ops.LoadFast n) le = omega (arith, le)
instr_within locals (instrs.Num ops.LoadFastN n) le = omega (arith, le)
instr_within locals (instrs.Num ops.StoreFast n) le = omega (arith, le)
instr_within locals (instrs.Num ops.StoreFastN n) le = omega (arith, le)
instr_within locals (instrs.Num ops.DeleteFast n) le = omega (arith, le)
instr_within locals instr le = tt

item_within : (locals size : ℕ) (r : Resolved) → local_of r ≤ locals → IsWithinLocals locals (item_of size r)
item_within locals size (plain instr) le = instr_within locals instr le
item_within locals size (named op text) le = tt
item_within locals size (object v) le = tt
item_within locals size (jump op target) le = tt
item_within locals size (unwind target byte) le = tt

body_within : (body : Body) (children : List ℕ) (p : ℕ) (line : Line) → slice_get (code_of body children).lines p ≡ Some line → IsWithinLocals (code_of body children).locals line.item
body_within body children p line e =
    let size = length body.lines in
    let l = mapped_at (line_of size) body.lines p line e in
    let at = map_at (λ (z : ResolvedLine). z.item) body.lines p l.0 l.1 in
    subst (λ (z : Line). IsWithinLocals (code_of body children).locals z.item) l.2
    (item_within (code_of body children).locals size l.0.item (local_within (length body.args) (instrs_of body) p l.0.item at))

pub within : (tree : ResolvedModule) (number position : ℕ) (code : Code) (line : Line) → slice_get (module_of tree).codes number ≡ Some code → slice_get code.lines position ≡ Some line → IsWithinLocals code.locals line.item
within tree number position code line e at =
    let c = in_tree 0 tree.code number code e in
    subst (λ (z : Code). slice_get z.lines position ≡ Some line → IsWithinLocals z.locals line.item) c.is (body_within c.body c.children position line) at
