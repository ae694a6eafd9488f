-- A module in an image is verified, and resolves, as it does by itself.
use Rattle.std.proofs.Common.{◌≡◌, ℕ, zero, suc, ◌<◌, ◌≤◌, List, [], ◌∷◌, length, map, All, Option, Some, None, refl, sym, ap, ap₂, subst, ◌∙◌, arith}
use Rattle.std.specs.Prelude.{slice_get, option_and_then, option_map, unwrap_or}
use Rattle.std.specs.List.{AllByRecursion}
use Rattle.std.proofs.lemmas.List.{length-map}
use Rattle.std.proofs.lemmas.List.Elements.{All-from_recursion, recursion_from_All}
use Rattle.mpy_tree.specs.bc_ops.declared.instr.Op.{Op}
use Rattle.mpy_tree.specs.bc_ops.declared.instr.Op.TheVariants as ops
use Rattle.mpy_tree.specs.bc_ops.declared.instr.Instr.{Instr}
use Rattle.mpy_tree.specs.bc_ops.declared.instr.Instr.TheVariants as instrs
use Rattle.mpy_tree.specs.bc_ops.declared.listing.Item.{Item}
use Rattle.mpy_tree.specs.bc_ops.declared.listing.Item.TheVariants as listed
use Rattle.mpy_writer.specs.mpy_tree.declared.raw.Qstr.{Qstr}
use Rattle.mpy_writer.specs.mpy_tree.declared.raw.RawCode.{RawCode, out-RawCode}
use Rattle.mpy_writer.specs.mpy_tree.Raw as raws
use Rattle.mpy_writer.specs.mpy_tree.Raw.{Module}
use Rattle.mpy_writer.specs.mpy_tree.Resolved.{Body, IsBody, Resolved, ResolvedModule, ResolveCodes, Resolves, ResolvesCode, Tree, Trees, name_at, named_at, named, no_more, more, node, plain, resolved, resolved_instr}
use Rattle.image_open.specs.bc_verify.declared.fault.Rule.{Rule}
use Rattle.image_open.specs.bc_verify.declared.fault.Rule.TheVariants as rules
use Rattle.image_open.specs.bc_verify.Body as bodies
use Rattle.image_open.specs.bc_verify.Rules.{Breaks, IsMissing, KeepsAll}
use Rattle.image_open.specs.bc_verify.Verified.{AreVerified, IsVerified, IsVerifiedCode}
use Rattle.image_open.specs.image_grammar.declared.entry.Entry.{Entry}
use Rattle.image_freeze.specs.declared.named.Named.{Named}
use Rattle.image_freeze.specs.Frozen.{entries_of, frozen, frozen_qstr}
use Rattle.image_freeze.proofs.Pools.{same_text}

-- names
-- =====

same_at : (qstrs : List Qstr) (n : ℕ) → option_and_then raws.text_of (slice_get (map frozen_qstr qstrs) n) ≡ option_and_then raws.text_of (slice_get qstrs n)
same_at [] n = refl
same_at (q ∷ qstrs) zero = same_text q
same_at (q ∷ qstrs) (suc n) = same_at qstrs n

same_name : (m : Module) (n : ℕ) → name_at (frozen m) n ≡ name_at m n
same_name m n = same_at m.qstrs n

same_names : (m : Module) (indexes : List ℕ) → map (name_at (frozen m)) indexes ≡ map (name_at m) indexes
same_names m [] = refl
same_names m (n ∷ indexes) = ap₂ (λ (o : Option (List ℕ)) (os : List (Option (List ℕ))). o ∷ os) (same_name m n) (same_names m indexes)

-- instructions
-- ============

same_number : (m : Module) (op : Op) (n : ℕ) → resolved_instr (frozen m) (instrs.Num op n) ≡ resolved_instr m (instrs.Num op n)
same_number m ops.LoadConstObj n = refl
same_number m op n = refl

same_item : (m : Module) (item : Item) → resolved (frozen m) item ≡ resolved m item
same_item m (listed.Plain (instrs.Name op n)) = ap (λ (o : Option (List ℕ)). unwrap_or (option_map (named op) o) (plain (instrs.Name op n))) (same_name m n)
same_item m (listed.Plain (instrs.Num op n)) = same_number m op n
same_item m (listed.Plain (instrs.Plain op)) = refl
same_item m (listed.Plain (instrs.Int z)) = refl
same_item m (listed.Plain (instrs.Jump op offset wide)) = refl
same_item m (listed.Plain (instrs.Unwind offset wide byte)) = refl
same_item m (listed.Plain (instrs.Unary n)) = refl
same_item m (listed.Plain (instrs.Binary n)) = refl
same_item m (listed.Jump op target) = refl
same_item m (listed.Unwind target byte) = refl

same_items : (m : Module) (items : List Item) → map (resolved (frozen m)) items ≡ map (resolved m) items
same_items m [] = refl
same_items m (item ∷ items) = ap₂ (λ (r : Resolved) (rs : List Resolved). r ∷ rs) (same_item m item) (same_items m items)

-- codes
-- =====

same_body : (m : Module) (code : List ℕ) (body : Body) → IsBody m code body → IsBody (frozen m) code body
same_body m code body is = record {
  prelude = is.prelude;
  begins = is.begins;
  names = same_names m is.begins.indexes ∙ is.names;
  defaults = is.defaults;
  n_state = is.n_state;
  n_exc = is.n_exc;
  items = is.items;
  is_list = is.is_list;
  instrs = is.instrs ∙ sym (same_items m is.items);
  lines = is.lines;
}

mutual
  same_tree : (m : Module) (tree : Tree) (code : RawCode) → ResolvesCode m tree code → ResolvesCode (frozen m) tree code
  same_tree m (node body children) code h = (same_body m (out-RawCode code).bytes body h.0, same_trees m children (out-RawCode code).children h.1)

  same_trees : (m : Module) (trees : Trees) (codes : List RawCode) → ResolveCodes m trees codes → ResolveCodes (frozen m) trees codes
  same_trees m no_more codes h = h
  same_trees m (more tree trees) codes h = (h.0, h.1, h.2, same_tree m tree h.0 h.3, same_trees m trees h.1 h.4)

pub frozen_resolves : (m : Module) (tree : ResolvedModule) → Resolves m tree → Resolves (frozen m) tree
frozen_resolves m tree h = record { source = same_name m 0 ∙ h.source; code = same_tree m tree.code m.code h.code }

-- rules
-- =====

same_missing : (m : Module) (children : ℕ) (item : Item) → IsMissing (frozen m) children item → IsMissing m children item
same_missing m children (listed.Plain (instrs.Name op n)) h = omega (arith, h, length-map m.qstrs frozen_qstr)
same_missing m children (listed.Plain (instrs.Num ops.LoadConstObj n)) h = h
same_missing m children (listed.Plain (instrs.Num ops.MakeFunction n)) h = h
same_missing m children (listed.Plain (instrs.Num ops.MakeFunctionDefargs n)) h = h
same_missing m children item h = h

same_breaks : (m : Module) (children : ℕ) (body : bodies.Body) (rule : Rule) (item : Item) → Breaks (frozen m) children body rule item → Breaks m children body rule item
same_breaks m children body rules.Jump item h = h
same_breaks m children body rules.Local item h = h
same_breaks m children body rules.Names item h = same_missing m children item h
same_breaks m children body rules.State item h = h
same_breaks m children body rule item h = h

pub frozen_verified : (m : Module) → IsVerified m → IsVerified (frozen m)
frozen_verified m all = λ path code is.
    let v = all path code is in
    record {
      body = v.body;
      offsets = v.offsets;
      says = v.says;
      instructions = λ p item rule at broken. v.instructions p item rule at (same_breaks m _ v.body rule item broken);
      flow = v.flow;
    }

all_verified : (modules : List Named) → AllByRecursion (λ (m : Named). IsVerified m.held) modules → AllByRecursion (λ (e : Entry). IsVerified e.held) (entries_of modules)
all_verified [] all = tt
all_verified (m ∷ ms) all = (frozen_verified m.held all.0, all_verified ms all.1)

pub entries_verified : (modules : List Named) → All (λ (m : Named). IsVerified m.held) modules → All (λ (e : Entry). IsVerified e.held) (entries_of modules)
entries_verified modules all =
    All-from_recursion (λ (e : Entry). IsVerified e.held) (entries_of modules) (all_verified modules (recursion_from_All (λ (m : Named). IsVerified m.held) modules all))
