-- The names that a module imports are short.
use Rattle.std.proofs.Common.{◌≡◌, ℕ, ◌^◌, ◌<◌, List, [], ◌∷◌, ◌++◌, length, map, Option, Some, None, refl, sym, ap, subst, ◌∙◌, arith, slice_get, option_map, option_and_then, unwrap_or}
use Rattle.std.specs.List.{filter_map, cons_option}
use Rattle.bc_ops.specs.declared.instr.Op.{Op}
use Rattle.bc_ops.specs.declared.instr.Op.TheVariants as ops
use Rattle.bc_ops.specs.declared.instr.Instr.{Instr}
use Rattle.bc_ops.specs.declared.instr.Instr.TheVariants as instrs
use Rattle.bc_ops.specs.declared.listing.Item.{Item}
use Rattle.bc_ops.specs.declared.listing.Item.TheVariants as listed
use Rattle.mpy_reader.specs.mpy_tree.declared.module.Constant.{Constant}
use Rattle.mpy_reader.specs.mpy_tree.declared.raw.Qstr.{Qstr}
use Rattle.mpy_reader.specs.mpy_tree.declared.raw.Qstr.TheVariants.{Static, Own}
use Rattle.mpy_reader.specs.mpy_tree.declared.raw.RawCode.{RawCode, out-RawCode}
use Rattle.mpy_reader.specs.mpy_tree.File.{IsModule}
use Rattle.mpy_reader.specs.mpy_tree.Raw.{Module, text_of}
use Rattle.mpy_reader.specs.mpy_tree.Values.{value_of}
use Rattle.mpy_reader.specs.mpy_tree.Resolved.{plain, named, object, resolved, resolved_instr, name_at, Body, Tree, node, Trees, no_more, more, IsBody, ResolvesCode, ResolveCodes}
use Rattle.qstr_pool.specs.declared.table.TheConstants.{FIRST_OWN}
use Rattle.qstr_pool.specs.Pool.{Texts}
use Rattle.bc_library.specs.Fine.{Each, FineQstr}
use Rattle.bc_library.specs.Own.{IsOwnPool}
use Rattle.bc_library.proofs.Files.{fine_qstrs}
use Rattle.bc_library.proofs.Own.{plain_numbered}
use Rattle.bc_library.proofs.Pools.{below_first}
use Rattle.library_files.specs.Imports.{Imports, import_of, own_imports, imports_of, imports_of_all}
use Rattle.library_files.specs.Steps.{AreShort}

pub short_both : (some others : List (List ℕ)) → AreShort some → AreShort others → AreShort (some ++ others)
short_both [] others h k = k
short_both (name ∷ some) others h k = (h.0, short_both some others h.1 k)

same_name : (op : Op) (name other : List ℕ) → import_of (named op name) ≡ Some other → name ≡ other
same_name ops.ImportName name other e = cc
same_name op name other e = absurd cc

of_named : (op : Op) (n : ℕ) (o : Option (List ℕ)) (other : List ℕ) → import_of (unwrap_or (option_map (named op) o) (plain (instrs.Name op n))) ≡ Some other → o ≡ Some other
of_named op n None other e = absurd cc
of_named op n (Some name) other e = ap Some (same_name op name other e)

of_object : (n : ℕ) (o : Option Constant) (other : List ℕ) → import_of (unwrap_or (option_map (λ constant. object (value_of constant)) o) (plain (instrs.Num ops.LoadConstObj n))) ≡ Some other → ⊥
of_object n None other e = cc
of_object n (Some constant) other e = cc

of_number : (m : Module) (op : Op) (n : ℕ) (other : List ℕ) → import_of (resolved_instr m (instrs.Num op n)) ≡ Some other → ⊥
of_number m ops.LoadConstObj n other e = of_object n (slice_get m.objects n) other e
of_number m op n other e = cc

-- a name of a module's table
-- =========================

no_texts : Texts
no_texts = record { first = FIRST_OWN; texts = [] }

none_own : IsOwnPool no_texts
unfolding no_texts
none_own = record { first = refl; each = λ k x e. absurd cc }

text_short : (q : Qstr) (text : List ℕ) → FineQstr q → text_of q ≡ Some text → length text < 2 ^ 31
text_short (Static number) text fine e =
    let below : number < FIRST_OWN = omega (arith, fine.1) in
    (plain_numbered no_texts number text none_own (sym (below_first no_texts number below) ∙ e)).short
text_short (Own own) text fine e = let same : own ≡ text = cc in subst (λ z. length z < 2 ^ 31) same fine.short

table_short : (m : Module) (n : ℕ) (name : List ℕ) → Each FineQstr m.qstrs → (o : Option Qstr) → slice_get m.qstrs n ≡ o → option_and_then text_of o ≡ Some name → length name < 2 ^ 31
table_short m n name fine None there e = absurd cc
table_short m n name fine (Some q) there e = text_short q name (fine n q there) e

name_short : (m : Module) → IsModule m → (n : ℕ) (name : List ℕ) → name_at m n ≡ Some name → length name < 2 ^ 31
name_short m is n name e = table_short m n name (fine_qstrs m is) (slice_get m.qstrs n) refl e

-- the names that codes import
-- ===========================

module _ (m : Module) (short : (n : ℕ) (name : List ℕ) → name_at m n ≡ Some name → length name < 2 ^ 31) where
  of_instr : (instr : Instr) (name : List ℕ) → import_of (resolved_instr m instr) ≡ Some name → length name < 2 ^ 31
  of_instr (instrs.Name op n) name e = short n name (of_named op n (name_at m n) name e)
  of_instr (instrs.Num op n) name e = absurd (of_number m op n name e)
  of_instr instr name e = absurd cc

  of_item : (item : Item) (name : List ℕ) → import_of (resolved m item) ≡ Some name → length name < 2 ^ 31
  of_item (listed.Plain instr) name e = of_instr instr name e
  of_item (listed.Jump op target) name e = absurd cc
  of_item (listed.Unwind target byte) name e = absurd cc

  one_more : (o : Option (List ℕ)) (names : List (List ℕ)) → ((name : List ℕ) → o ≡ Some name → length name < 2 ^ 31) → AreShort names → AreShort (cons_option o names)
  one_more None names one h = h
  one_more (Some name) names one h = (one name refl, h)

  of_items : (items : List Item) → AreShort (filter_map import_of (map (resolved m) items))
  of_items [] = tt
  of_items (item ∷ items) = one_more (import_of (resolved m item)) (filter_map import_of (map (resolved m) items)) (of_item item) (of_items items)

  of_body : (bytes : List ℕ) (body : Body) → IsBody m bytes body → AreShort (own_imports body)
  of_body bytes body is = subst (λ z. AreShort (filter_map import_of z)) (sym is.instrs) (of_items is.items)

  mutual
    of_tree : (tree : Tree) (code : RawCode) → ResolvesCode m tree code → AreShort (imports_of tree)
    of_tree (node body trees) code is = short_both (own_imports body) (imports_of_all trees) (of_body (out-RawCode code).bytes body is.0) (of_trees trees (out-RawCode code).children is.1)

    of_trees : (trees : Trees) (codes : List RawCode) → ResolveCodes m trees codes → AreShort (imports_of_all trees)
    of_trees no_more codes is = tt
    of_trees (more tree trees) codes is = short_both (imports_of tree) (imports_of_all trees) (of_tree tree is.0 is.3) (of_trees trees is.1 is.4)

pub imports_short : (m : Module) (names : List (List ℕ)) → IsModule m → Imports m names → AreShort names
imports_short m names is imports = subst AreShort (sym imports.names_are) (of_tree m (name_short m is) imports.tree.code m.code imports.resolves.code)
