-- A code's bytes keep the rules exactly where its part of the tree does.
use Rattle.std.proofs.Common.{◌≡◌, ℕ, zero, suc, ◌+◌, ◌<◌, ◌≤◌, max, List, [], ◌∷◌, length, map, Option, Some, None, refl, sym, ap, ap₂, ◌∙◌, subst, arith, zero-le, slice_get, option_map, option_and_then, unwrap_or, inl, inr}
use Rattle.std.proofs.lemmas.List.{length-map}
use Rattle.std.proofs.lemmas.Option.{slice_get-map, slice_get_past, slice_get_cases}
use Rattle.bc_progress.specs.mpy_base.declared.limits.TheConstants.{MAX_ITEMS}
use Rattle.bc_progress.specs.bc_ops.declared.instr.Op.{Op}
use Rattle.bc_progress.specs.bc_ops.declared.instr.Op.TheVariants as ops
use Rattle.bc_progress.specs.bc_ops.declared.instr.Instr.TheVariants as instrs
use Rattle.bc_progress.specs.bc_ops.declared.listing.Target.TheVariants.{Position, Offset}
use Rattle.bc_progress.specs.bc_ops.declared.listing.Item as listings
use Rattle.bc_progress.specs.bc_ops.declared.listing.Item.TheVariants as listed
use Rattle.bc_progress.specs.bc_flow.Action.{action, instr_action, op_action}
use Rattle.bc_progress.specs.bc_flow.Code.{Code, locals, item_locals, named, LeavesCode}
use Rattle.bc_progress.specs.bc_flow.Verified.{Verified}
use Rattle.bc_verify.specs.mpy_tree.declared.module.Constant.{Constant}
use Rattle.bc_verify.specs.mpy_tree.Raw.{Module, text_of}
use Rattle.bc_verify.specs.mpy_tree.Resolved as trees
use Rattle.bc_verify.specs.mpy_tree.Resolved.{Resolved, instrs_of, name_at, named_at, object_at, resolved_instr, resolved}
use Rattle.bc_verify.specs.mpy_tree.Values.{value_of}
use Rattle.bc_progress.specs.bc_machine.Library.{item_of, local_of, locals_of}
use Rattle.bc_verify.specs.declared.fault.Rule.{Rule}
use Rattle.bc_verify.specs.declared.fault.Rule.TheVariants as rules
use Rattle.bc_verify.specs.Body.{Body}
use Rattle.bc_verify.specs.Body as bytes
use Rattle.bc_verify.specs.Rules.{Breaks, IsMissing, KeepsAll}
use Rattle.bc_resolved.specs.Known.{HasTexts}
use Rattle.bc_progress.specs.Plans.{action_of}
use Rattle.bc_resolved.specs.Operands.{IsInside, IsThere, local_in, named_in, Keeps}
use Rattle.bc_resolved.specs.Verified.{flow_of, IsVerifiedBody}

-- an operation that names a text does the same whatever its number is: each that the bytes can spell is one
abbrev pub IsRegular : listings.Item → Type 0
IsRegular (listed.Plain (instrs.Name op n)) = op_action op n ≡ op_action op 0
IsRegular item = Unit {0}

named_action : (size : ℕ) (op : Op) (n : ℕ) (o : Option (List ℕ)) → op_action op n ≡ op_action op 0 → op_action op n ≡ action_of (item_of size (unwrap_or (option_map (trees.named op) o) (trees.plain (instrs.Name op n))))
unfolding instr_action
named_action size op n None h = refl
named_action size op n (Some t) h = h

-- the instruction that an object is loaded by
abbrev made : Constant → Resolved
made c = trees.object (value_of c)

object_action : (size n : ℕ) (o : Option Constant) → op_action ops.LoadConstObj n ≡ action_of (item_of size (unwrap_or (option_map made o) (trees.plain (instrs.Num ops.LoadConstObj n))))
unfolding instr_action op_action
object_action size n None = refl
object_action size n (Some c) = refl

action_same : (m : Module) (size : ℕ) (item : listings.Item) → IsRegular item → action size item ≡ action_of (item_of size (resolved m item))
unfolding action instr_action
action_same m size (listed.Plain (instrs.Name op n)) h = named_action size op n (name_at m n) h
action_same m size (listed.Plain (instrs.Num ops.LoadConstObj n)) h = object_action size n (slice_get m.objects n)
action_same m size (listed.Plain instr) h = refl
action_same m size (listed.Jump op (Position p)) h = refl
action_same m size (listed.Jump op (Offset z)) h = refl
action_same m size (listed.Unwind (Position p) b) h = refl
action_same m size (listed.Unwind (Offset z) b) h = refl

-- the machine's item of an unresolved number
named_local : (size : ℕ) (op : Op) (n : ℕ) (o : Option (List ℕ)) → 0 ≡ local_in (item_of size (unwrap_or (option_map (trees.named op) o) (trees.plain (instrs.Name op n))))
named_local size op n None = refl
named_local size op n (Some t) = refl

object_local : (size n : ℕ) (o : Option Constant) → 0 ≡ local_in (item_of size (unwrap_or (option_map made o) (trees.plain (instrs.Num ops.LoadConstObj n))))
object_local size n None = refl
object_local size n (Some t) = refl

one_more : (n : ℕ) → n + 1 ≡ suc n
one_more n = omega arith

local_same : (m : Module) (size : ℕ) (item : listings.Item) → item_locals item ≡ local_in (item_of size (resolved m item))
unfolding item_locals
local_same m size (listed.Plain (instrs.Name op n)) = named_local size op n (name_at m n)
local_same m size (listed.Plain (instrs.Num ops.LoadConstObj n)) = object_local size n (slice_get m.objects n)
local_same m size (listed.Plain (instrs.Num ops.LoadFast n)) = one_more n
local_same m size (listed.Plain (instrs.Num ops.StoreFast n)) = one_more n
local_same m size (listed.Plain (instrs.Num ops.LoadFastN n)) = one_more n
local_same m size (listed.Plain (instrs.Num ops.StoreFastN n)) = one_more n
local_same m size (listed.Plain (instrs.Num ops.DeleteFast n)) = one_more n
local_same m size (listed.Plain instr) = refl
local_same m size (listed.Jump op t) = refl
local_same m size (listed.Unwind t b) = refl

named_few : (size : ℕ) (op : Op) (n : ℕ) (o : Option (List ℕ)) → 0 ≡ named_in (item_of size (unwrap_or (option_map (trees.named op) o) (trees.plain (instrs.Name op n))))
unfolding named
named_few size op n None = refl
named_few size op n (Some t) = refl

object_few : (size n : ℕ) (o : Option Constant) → 0 ≡ named_in (item_of size (unwrap_or (option_map made o) (trees.plain (instrs.Num ops.LoadConstObj n))))
unfolding named
object_few size n None = refl
object_few size n (Some t) = refl

few_same : (m : Module) (size : ℕ) (item : listings.Item) → named item ≡ named_in (item_of size (resolved m item))
unfolding named
few_same m size (listed.Plain (instrs.Name op n)) = named_few size op n (name_at m n)
few_same m size (listed.Plain (instrs.Num ops.LoadConstObj n)) = object_few size n (slice_get m.objects n)
few_same m size (listed.Plain instr) = refl
few_same m size (listed.Jump op t) = refl
few_same m size (listed.Unwind t b) = refl

named_inside : (size : ℕ) (op : Op) (n : ℕ) (o : Option (List ℕ)) → IsInside size (item_of size (unwrap_or (option_map (trees.named op) o) (trees.plain (instrs.Name op n))))
named_inside size op n None = tt
named_inside size op n (Some t) = tt

object_inside : (size n : ℕ) (o : Option Constant) → IsInside size (item_of size (unwrap_or (option_map made o) (trees.plain (instrs.Num ops.LoadConstObj n))))
object_inside size n None = tt
object_inside size n (Some c) = tt

not_past : (n m : ℕ) → (m ≤ n → ⊥) → n < m
not_past n zero h = absurd (h zero-le)
not_past zero (suc m) h = omega arith
not_past (suc n) (suc m) h = let r = not_past n m (λ a. h (omega (arith, a))) in omega (arith, r)

inside_to : (m : Module) (size : ℕ) (item : listings.Item) → (LeavesCode size item → ⊥) → IsInside size (item_of size (resolved m item))
inside_to m size (listed.Plain (instrs.Name op n)) h = named_inside size op n (name_at m n)
inside_to m size (listed.Plain (instrs.Num ops.LoadConstObj n)) h = object_inside size n (slice_get m.objects n)
inside_to m size (listed.Plain instr) h = tt
inside_to m size (listed.Jump op (Position p)) h = not_past p size h
inside_to m size (listed.Jump op (Offset z)) h = absurd (h tt)
inside_to m size (listed.Unwind (Position p) b) h = not_past p size h
inside_to m size (listed.Unwind (Offset z) b) h = absurd (h tt)

inside_from : (m : Module) (size : ℕ) (item : listings.Item) → IsInside size (item_of size (resolved m item)) → LeavesCode size item → ⊥
inside_from m size (listed.Plain instr) h l = l
inside_from m size (listed.Jump op (Position p)) h l = absurd (omega (arith, h, l))
inside_from m size (listed.Jump op (Offset z)) h l = absurd (omega (arith, h))
inside_from m size (listed.Unwind (Position p) b) h l = absurd (omega (arith, h, l))
inside_from m size (listed.Unwind (Offset z) b) h l = absurd (omega (arith, h))

object_there : (m : Module) (n : ℕ) → n < length m.objects → (c : Constant) × (slice_get m.objects n ≡ Some c)
object_there m n h = elim ((slice_get_cases m.objects n).1) [ inl a ↦ (a.0, a.2) | inr b ↦ (let l = b.0 in absurd (omega (arith, h, l))) ]

there_to : (m : Module) (size children : ℕ) (item : listings.Item) → HasTexts m → (IsMissing m children item → ⊥) → IsThere children (item_of size (resolved m item))
there_to m size children (listed.Plain (instrs.Name op n)) texts h =
    let t = texts n (not_past n (length m.qstrs) h) in
    subst (λ o. IsThere children (item_of size (unwrap_or (option_map (trees.named op) o) (trees.plain (instrs.Name op n))))) (sym t.1) tt
there_to m size children (listed.Plain (instrs.Num ops.LoadConstObj n)) texts h =
    let t = object_there m n (not_past n (length m.objects) h) in
    subst (λ o. IsThere children (item_of size (unwrap_or (option_map made o) (trees.plain (instrs.Num ops.LoadConstObj n))))) (sym t.1) tt
there_to m size children (listed.Plain (instrs.Num ops.MakeFunction n)) texts h = not_past n children h
there_to m size children (listed.Plain (instrs.Num ops.MakeFunctionDefargs n)) texts h = not_past n children h
there_to m size children (listed.Plain instr) texts h = tt
there_to m size children (listed.Jump op t) texts h = tt
there_to m size children (listed.Unwind t b) texts h = tt

there_from : (m : Module) (size children : ℕ) (item : listings.Item) → IsThere children (item_of size (resolved m item)) → IsMissing m children item → ⊥
there_from m size children (listed.Plain (instrs.Name op n)) h l =
    subst (λ o. IsThere children (item_of size (unwrap_or (option_map (trees.named op) o) (trees.plain (instrs.Name op n))))) (ap (λ z. option_and_then text_of z) (slice_get_past m.qstrs n l)) h
there_from m size children (listed.Plain (instrs.Num ops.LoadConstObj n)) h l =
    subst (λ o. IsThere children (item_of size (unwrap_or (option_map made o) (trees.plain (instrs.Num ops.LoadConstObj n))))) (slice_get_past m.objects n l) h
there_from m size children (listed.Plain (instrs.Num ops.MakeFunction n)) h l = absurd (omega (arith, h, l))
there_from m size children (listed.Plain (instrs.Num ops.MakeFunctionDefargs n)) h l = absurd (omega (arith, h, l))
there_from m size children (listed.Plain instr) h l = l
there_from m size children (listed.Jump op t) h l = l
there_from m size children (listed.Unwind t b) h l = l

-- the rules on one instruction
pub keeps_to : (m : Module) (children : ℕ) (body : Body) (item : listings.Item) → HasTexts m → ((rule : Rule) → Breaks m children body rule item → ⊥) → Keeps (length body.items) body.n_state children (item_of (length body.items) (resolved m item))
keeps_to m children body item texts h =
    let size = length body.items in
    let a = not_past_le (item_locals item) body.n_state (h rules.Local) in let b = not_past_le (named item) MAX_ITEMS (h rules.State) in
    record {
      target = inside_to m size item (h rules.Jump);
      local = subst (λ z. z ≤ body.n_state) (local_same m size item) a;
      few = subst (λ z. z ≤ MAX_ITEMS) (few_same m size item) b;
      there = there_to m size children item texts (h rules.Names);
    }
  where
    not_past_le : (n k : ℕ) → (k < n → ⊥) → n ≤ k
    not_past_le zero k h = zero-le
    not_past_le (suc n) zero h = absurd (h (omega arith))
    not_past_le (suc n) (suc k) h = let r = not_past_le n k (λ a. h (omega (arith, a))) in omega (arith, r)

pub keeps_from : (m : Module) (children : ℕ) (body : Body) (item : listings.Item) → Keeps (length body.items) body.n_state children (item_of (length body.items) (resolved m item)) → (rule : Rule) → Breaks m children body rule item → ⊥
keeps_from m children body item k rules.Jump b = inside_from m (length body.items) item k.target b
keeps_from m children body item k rules.Local b = let a = subst (λ z. z ≤ body.n_state) (sym (local_same m (length body.items) item)) k.local in absurd (omega (arith, a, b))
keeps_from m children body item k rules.Names b = there_from m (length body.items) children item k.there b
keeps_from m children body item k rules.State b = let a = subst (λ z. z ≤ MAX_ITEMS) (sym (few_same m (length body.items) item)) k.few in absurd (omega (arith, a, b))
keeps_from m children body item k rules.Height b = b
keeps_from m children body item k rules.Handlers b = b
keeps_from m children body item k rules.Falls b = b

-- the flow
abbrev pub AllRegular : List listings.Item → Type 0
AllRegular items = (p : ℕ) (item : listings.Item) → slice_get items p ≡ Some item → IsRegular item

actions_same : (m : Module) (size : ℕ) (items : List listings.Item) → AllRegular items → map (action size) items ≡ map (λ r. action_of (item_of size r)) (map (resolved m) items)
actions_same m size [] h = refl
actions_same m size (item ∷ items) h = ap₂ (λ a b. a ∷ b) (action_same m size item (h 0 item refl)) (actions_same m size items (λ p. h (suc p)))

tree_local : (size : ℕ) (r : Resolved) → local_in (item_of size r) ≡ local_of r
tree_local size (trees.plain i) = refl
tree_local size (trees.named op t) = refl
tree_local size (trees.object c) = refl
tree_local size (trees.jump op t) = refl
tree_local size (trees.unwind t b) = refl

locals_same : (m : Module) (count : ℕ) (items : List listings.Item) → locals count items ≡ locals_of count (map (resolved m) items)
locals_same m count [] = refl
locals_same m count (item ∷ items) = ap₂ max (local_same m 0 item ∙ tree_local 0 (resolved m item)) (locals_same m count items)

-- a tree's code and what its bytes say
pub record Tells (m : Module) (body : Body) (tree : trees.Body) : Type 0 where
  pub instrs : instrs_of tree ≡ map (resolved m) body.items
  pub n_state : tree.n_state ≡ body.n_state
  pub n_exc : tree.n_exc ≡ body.n_exc
  pub args : length tree.args ≡ body.arguments

size_same : (m : Module) (body : Body) (tree : trees.Body) → Tells m body tree → length body.items ≡ length tree.lines
size_same m body tree t = sym (length-map body.items (resolved m)) ∙ sym (ap (λ z. length z) t.instrs) ∙ length-map tree.lines (λ (l : trees.ResolvedLine). l.item)

flow_same : (m : Module) (body : Body) (tree : trees.Body) → Tells m body tree → AllRegular body.items → bytes.flow_of body ≡ flow_of tree
flow_same m body tree t h =
    let size : length body.items ≡ length tree.lines = size_same m body tree t in
    let a : map (action (length body.items)) body.items ≡ map (λ r. action_of (item_of (length tree.lines) r)) (instrs_of tree) =
    actions_same m (length body.items) body.items h ∙ ap₂ (λ n rs. map (λ r. action_of (item_of n r)) rs) size (sym t.instrs) in
    let l : locals body.arguments body.items ≡ locals_of (length tree.args) (instrs_of tree) = locals_same m body.arguments body.items ∙ ap₂ locals_of (sym t.args) (sym t.instrs) in
    ap (λ z. let c : Code = record { actions = z; n_state = body.n_state; n_exc = body.n_exc; locals = locals body.arguments body.items } in c) a
    ∙ ap (λ z. let c : Code = record { actions = map (λ r. action_of (item_of (length tree.lines) r)) (instrs_of tree); n_state = body.n_state; n_exc = body.n_exc; locals = z } in c) l
    ∙ ap₂ (λ s e. let c : Code = record { actions = map (λ r. action_of (item_of (length tree.lines) r)) (instrs_of tree); n_state = s; n_exc = e; locals = locals_of (length tree.args) (instrs_of tree) } in c) (sym t.n_state) (sym t.n_exc)

-- the rules hold of the bytes exactly where they hold of the tree
pub tree_from_bytes : (m : Module) (children : ℕ) (body : Body) (tree : trees.Body) → Tells m body tree → AllRegular body.items → HasTexts m → KeepsAll m children body → Verified (bytes.flow_of body) → IsVerifiedBody children tree
tree_from_bytes m children body tree t h texts k v = record {
  instructions = λ p r e. (let b : option_map (resolved m) (slice_get body.items p) ≡ Some r = sym (slice_get-map (resolved m) body.items p) ∙ ap (λ z. slice_get z p) (sym t.instrs) ∙ e in
      by_item p r (slice_get body.items p) refl b);
  flow = subst Verified (flow_same m body tree t h) v;
}
  where
    size : length body.items ≡ length tree.lines
    size = size_same m body tree t

    by_item : (p : ℕ) (r : Resolved) (o : Option listings.Item) → slice_get body.items p ≡ o → option_map (resolved m) o ≡ Some r → Keeps (length tree.lines) tree.n_state children (item_of (length tree.lines) r)
    by_item p r None e b = absurd (cc b)
    by_item p r (Some item) e b =
        let a = keeps_to m children body item texts (λ rule. k p item rule e) in
        let same : resolved m item ≡ r = ap (λ o. unwrap_or o r) b in
        subst (λ z. Keeps (length tree.lines) tree.n_state children (item_of (length tree.lines) z)) same
        (subst (λ z. Keeps (length tree.lines) z children (item_of (length tree.lines) (resolved m item))) (sym t.n_state)
        (subst (λ z. Keeps z body.n_state children (item_of z (resolved m item))) size a))

pub bytes_from_tree : (m : Module) (children : ℕ) (body : Body) (tree : trees.Body) → Tells m body tree → AllRegular body.items → IsVerifiedBody children tree → KeepsAll m children body × Verified (bytes.flow_of body)
bytes_from_tree m children body tree t h v =
    let size : length tree.lines ≡ length body.items = sym (size_same m body tree t) in (
      (λ p item rule e b. (let a = v.instructions p (resolved m item) (ap (λ z. slice_get z p) t.instrs ∙ slice_get-map (resolved m) body.items p ∙ ap (option_map (resolved m)) e) in
          keeps_from m children body item (subst (λ z. Keeps z body.n_state children (item_of z (resolved m item))) size (subst (λ z. Keeps (length tree.lines) z children (item_of (length tree.lines) (resolved m item))) t.n_state a)) rule b)),
      subst Verified (sym (flow_same m body tree t h)) v.flow,
    )
