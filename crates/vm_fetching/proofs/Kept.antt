-- The rules that a row's code keeps, of the list of its instructions.
use Rattle.std.proofs.Common.{◌≡◌, Bool, true, false, ℕ, zero, suc, ◌<◌, ◌≤◌, List, [], ◌∷◌, Some, refl, sym, ap, subst, ◌∙◌, arith}
use Rattle.std.specs.Prelude.{slice_get, option_and_then, nat_lt}
use Rattle.std.proofs.lemmas.Bool.{ltb-true, ltb-false}
use Rattle.frame_moves.specs.bc_ops.declared.listing.Item.{Item}
use Rattle.frame_moves.specs.bc_ops.Listing.{Lists}
use Rattle.frame_moves.proofs.bc_ops_lemmas.Lists.{one_listing}
use Rattle.bc_rows.specs.bc_flow.Code.{item_locals, locals}
use Rattle.bc_rows.specs.mpy_tree.Raw.{Module}
use Rattle.bc_rows.specs.mpy_tree.Codes.{codes_of, IsPlaced}
use Rattle.bc_rows.proofs.mpy_tree_lemmas.Codes.{some_is, module_placed}
use Rattle.bc_rows.specs.bc_verify.declared.fault.Rule.{Rule}
use Rattle.bc_rows.specs.bc_verify.Body.{Body, Says}
use Rattle.bc_rows.specs.bc_verify.Rules.{Breaks, KeepsAll}
use Rattle.bc_rows.specs.bc_verify.Verified.{children_of}
use Rattle.bc_rows.specs.bc_library.Shelf.{Shelf, module_at}
use Rattle.frame_moves.specs.bc_labels.Positions.{CodeList, Listed}
use Rattle.bc_rows.specs.declared.row.Row.{Row}
use Rattle.bc_rows.proofs.Preludes.{SameParts, same_parts}
use Rattle.vm_fetching.specs.Fetches.{IsVerifiedRow}

-- the path of a row's code
pub row_path : (shelf : Shelf) (i : ℕ) (row : Row) (v : IsVerifiedRow shelf i row) → IsPlaced v.m v.is_row.code
row_path shelf i row v =
    module_placed v.m v.number v.is_row.code (sym (ap (option_and_then (λ (z : Module). slice_get (codes_of z) v.number)) v.there) ∙ v.is_row.there)

pub record Kept (m : Module) (row : Row) (l : CodeList) : Type 0 where
  pub children : ℕ
  pub body : Body
  pub items_are : body.items ≡ l.items
  pub keeps : KeepsAll m children body
  pub locals_fit : (p : ℕ) (item : Item) → slice_get l.items p ≡ Some item → item_locals item ≤ row.locals

local_fits : (count : ℕ) (items : List Item) (p : ℕ) (item : Item) → slice_get items p ≡ Some item → item_locals item ≤ locals count items
local_fits count [] p item e = cc
local_fits count (x ∷ items) zero item e = let same = ap item_locals (some_is x item e) in omega (arith, same)
local_fits count (x ∷ items) (suc p) item e = let h = local_fits count items p item e in omega (arith, h)

pub kept : (shelf : Shelf) (i : ℕ) (row : Row) (m : Module) (l : CodeList) → IsVerifiedRow shelf i row → module_at shelf i ≡ Some m → Listed row.instructions.now l → Kept m row l
kept shelf i row m l v there listed =
    let p = row_path shelf i row v in
    let c = v.is_verified v.is_row.code.path p.code p.there in
    let r = v.is_row.is_row in
    let same : v.m ≡ m = some_is v.m m (sym v.there ∙ there) in
    let n = v.is_row.code in
    let says : Says n.bytes c.body c.offsets = subst (λ z. Says z c.body c.offsets) (sym p.bytes) c.says in
    let parts : SameParts n.bytes says.prelude r.prelude says.begins r.begins = same_parts n.bytes says.prelude r.prelude says.begins r.begins in
    let lists : Lists row.instructions.now c.body.items c.offsets = subst (λ z. Lists z c.body.items c.offsets) (parts.instructions ∙ sym r.instructions) says.lists in
    let one = one_listing row.instructions.now c.body.items l.items c.offsets l.offsets lists listed in
    let other = one_listing row.instructions.now r.list.items l.items r.list.offsets l.offsets r.listed listed in
    record {
      children = children_of p.code;
      body = c.body;
      items_are = one.0;
      keeps = subst (λ (z : Module). KeepsAll z (children_of p.code) c.body) same c.instructions;
      locals_fit = λ q item at.
          (let h = local_fits r.prelude.args l.items q item at in
          let e = r.locals ∙ ap (locals r.prelude.args) other.0 in
          omega (arith, h, e));
    }

-- no instruction of the list breaks a rule
pub unbroken : (m : Module) (row : Row) (l : CodeList) (k : Kept m row l) (p : ℕ) (item : Item) (rule : Rule) → slice_get l.items p ≡ Some item → Breaks m k.children k.body rule item → ⊥
unbroken m row l k p item rule at b = k.keeps p item rule (subst (λ z. slice_get z p ≡ Some item) (sym k.items_are) at) b

pub unless : (n size : ℕ) → (size ≤ n → ⊥) → n < size
unless n size h = by (nat_lt n size) refl
  where
    by : (b : Bool) → nat_lt n size ≡ b → n < size
    by true e = ltb-true n size e
    by false e = absurd (h (let le = ltb-false n size e in omega (arith, le)))
