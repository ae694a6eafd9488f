-- Stores and deletions, by those of their parts.
use Rattle.std.proofs.Common.{◌≡◌, ℕ, suc, ◌+◌, List, [], ◌∷◌, length, map, refl, sym, ap, ◌∙◌, arith}
use Rattle.std.specs.Prelude.{max}
use Rattle.py_tree.specs.declared.expr.BinaryOp.{BinaryOp}
use Rattle.py_tree.specs.declared.expr.Expr as trees
use Rattle.py_tree.specs.declared.stmt.Target as aims
use Rattle.py_tree.specs.declared.stmt.Target.{roll-Target, out-Target, roll-out-Target}
use Rattle.py_tree.specs.declared.stmt.Target.TheVariants as aim
use Rattle.py_tree.specs.declared.stmt.Target.TheOpen.{Target-F}
use Rattle.py_tree.specs.declared.stmt.Target.TheFolds.{fold-roll-Target}
use Rattle.bc_scheme.specs.py_meaning.Tree.{Expr, Target, ToName, ToAttr, ToIndex, ToEach, target_count, Assign, Delete, Pass}
use Rattle.bc_scheme.specs.py_meaning.Plain.{plain_expr, target_step, plain_target, targets, from_targets, augmented}
use Rattle.bc_scheme.specs.Heights.{tall, tall_store, tall_stores, tall_assign, tall_delete, tall_deletes, tall_stmt}
use Rattle.emit_measures.proofs.Rows.{IsRow, many}

pub plain_ToName : (text : List ℕ) → plain_target (aim.Name text) ≡ ToName text
plain_ToName text = ap plain_target (sym (aim.rolls-Name text)) ∙ fold-roll-Target Target target_step (Target-F.Name text)

pub plain_ToAttr : (x : trees.Expr) (text : List ℕ) → plain_target (aim.Attr x text) ≡ ToAttr (plain_expr x) text
plain_ToAttr x text = ap plain_target (sym (aim.rolls-Attr x text)) ∙ fold-roll-Target Target target_step (Target-F.Attr x text)

pub plain_ToIndex : (x y : trees.Expr) → plain_target (aim.Index x y) ≡ ToIndex (plain_expr x) (plain_expr y)
plain_ToIndex x y = ap plain_target (sym (aim.rolls-Index x y)) ∙ fold-roll-Target Target target_step (Target-F.Index x y)

pub plain_ToEach : (ts : List aims.Target) → plain_target (aim.Unpack ts) ≡ from_targets (ToName []) ToEach (map plain_target ts)
plain_ToEach ts = ap plain_target (sym (aim.rolls-Unpack ts)) ∙ fold-roll-Target Target target_step (Target-F.Unpack ts)

-- ---- stores

counted : (t : Target) (ts : List aims.Target) → target_count (targets t (map plain_target ts)) ≡ suc (length ts)
counted t [] = refl
counted t (u ∷ us) = ap suc (counted (plain_target u) us)

pub none_stored : (ts : List aims.Target) → ts ≡ [] → plain_target (aim.Unpack ts) ≡ ToName []
none_stored ts e = plain_ToEach ts ∙ ap (λ z. from_targets (ToName []) ToEach (map plain_target z)) e

each_stored : (ts : List aims.Target) → (ts ≡ [] → ⊥) → tall_store (from_targets (ToName []) ToEach (map plain_target ts)) ≡ max (length ts) (from_targets 0 tall_stores (map plain_target ts))
each_stored [] h = absurd (h refl)
each_stored (t ∷ ts) h = ap (λ n. max n (tall_stores (targets (plain_target t) (map plain_target ts)))) (counted (plain_target t) ts)

pub tall_ToEach : (ts : List aims.Target) → (ts ≡ [] → ⊥) → tall_store (plain_target (aim.Unpack ts)) ≡ max (length ts) (from_targets 0 tall_stores (map plain_target ts))
tall_ToEach ts h = ap tall_store (plain_ToEach ts) ∙ each_stored ts h

pub tall_ToName : (text : List ℕ) → tall_store (plain_target (aim.Name text)) ≡ 1
tall_ToName text = ap tall_store (plain_ToName text)

pub tall_ToAttr : (x : trees.Expr) (text : List ℕ) → tall_store (plain_target (aim.Attr x text)) ≡ 1 + tall (plain_expr x)
tall_ToAttr x text = ap tall_store (plain_ToAttr x text)

by_index : (a b : ℕ) → max (1 + a) (2 + b) ≡ 1 + max a (1 + b)
by_index a b = omega arith

pub tall_ToIndex : (x y : trees.Expr) → tall_store (plain_target (aim.Index x y)) ≡ 1 + max (tall (plain_expr x)) (1 + tall (plain_expr y))
tall_ToIndex x y = ap tall_store (plain_ToIndex x y) ∙ by_index (tall (plain_expr x)) (tall (plain_expr y))

-- ---- deletions

pub gone_Name : (text : List ℕ) → tall_delete (plain_target (aim.Name text)) ≡ 0
gone_Name text = ap tall_delete (plain_ToName text)

pub gone_Attr : (x : trees.Expr) (text : List ℕ) → tall_delete (plain_target (aim.Attr x text)) ≡ 0
gone_Attr x text = ap tall_delete (plain_ToAttr x text)

pub gone_Index : (x y : trees.Expr) → tall_delete (plain_target (aim.Index x y)) ≡ max (max (tall (plain_expr x)) (1 + tall (plain_expr y))) 3
gone_Index x y = ap tall_delete (plain_ToIndex x y)

each_gone : (ts : List Target) → tall_delete (from_targets (ToName []) ToEach ts) ≡ 0
each_gone [] = refl
each_gone (t ∷ ts) = refl

pub gone_Each : (ts : List aims.Target) → tall_delete (plain_target (aim.Unpack ts)) ≡ 0
gone_Each ts = ap tall_delete (plain_ToEach ts) ∙ each_gone (map plain_target ts)

gone_by : (t : aims.Target) (f : Target-F aims.Target) → t ≡ roll-Target f → ((x y : trees.Expr) → t ≡ aim.Index x y → ⊥) → tall_delete (plain_target t) ≡ 0
gone_by t (Target-F.Name text) is h = ap (λ z. tall_delete (plain_target z)) (is ∙ aim.rolls-Name text) ∙ gone_Name text
gone_by t (Target-F.Attr x text) is h = ap (λ z. tall_delete (plain_target z)) (is ∙ aim.rolls-Attr x text) ∙ gone_Attr x text
gone_by t (Target-F.Index x y) is h = absurd (h x y (is ∙ aim.rolls-Index x y))
gone_by t (Target-F.Unpack ts) is h = ap (λ z. tall_delete (plain_target z)) (is ∙ aim.rolls-Unpack ts) ∙ gone_Each ts

-- the deletion of what is no item has no value
pub gone_other : (t : aims.Target) → ((x y : trees.Expr) → t ≡ aim.Index x y → ⊥) → tall_delete (plain_target t) ≡ 0
gone_other t h = gone_by t (out-Target t) (sym (roll-out-Target t)) h

-- ---- statements

pub deletes_tall : (level : ℕ) (ts : List Target) → tall_stmt level (from_targets Pass Delete ts) ≡ from_targets 0 tall_deletes ts
deletes_tall level [] = refl
deletes_tall level (t ∷ ts) = refl

pub no_assign : (level : ℕ) (e : Expr) (ts : List aims.Target) → ts ≡ [] → tall_stmt level (from_targets Pass (λ us. Assign us e) (map plain_target ts)) ≡ 0
no_assign level e [] h = refl
no_assign level e (t ∷ ts) h = cc

pub assign_tall : (level : ℕ) (e : Expr) (ts : List aims.Target) → (ts ≡ [] → ⊥) → tall_stmt level (from_targets Pass (λ us. Assign us e) (map plain_target ts)) ≡ max (tall e) (from_targets 0 tall_assign (map plain_target ts))
assign_tall level e [] h = absurd (h refl)
assign_tall level e (t ∷ ts) h = refl

module _ (level : ℕ) (op : BinaryOp) (e : Expr) where
  pub aug_Name : (text : List ℕ) → tall_stmt level (augmented (plain_target (aim.Name text)) op e) ≡ 1 + tall e
  aug_Name text = ap (λ z. tall_stmt level (augmented z op e)) (plain_ToName text)

  pub aug_Attr : (x : trees.Expr) (text : List ℕ) → tall_stmt level (augmented (plain_target (aim.Attr x text)) op e) ≡ max (tall (plain_expr x)) (2 + tall e)
  aug_Attr x text = ap (λ z. tall_stmt level (augmented z op e)) (plain_ToAttr x text)

  pub aug_Index : (x y : trees.Expr) → tall_stmt level (augmented (plain_target (aim.Index x y)) op e) ≡ max (max (tall (plain_expr x)) (1 + tall (plain_expr y))) (max 4 (3 + tall e))
  aug_Index x y = ap (λ z. tall_stmt level (augmented z op e)) (plain_ToIndex x y)

  pub aug_none : (ts : List aims.Target) → ts ≡ [] → tall_stmt level (augmented (plain_target (aim.Unpack ts)) op e) ≡ 1 + tall e
  aug_none ts h = ap (λ z. tall_stmt level (augmented z op e)) (none_stored ts h)

  aug_some : (ts : List aims.Target) → (ts ≡ [] → ⊥) → tall_stmt level (augmented (from_targets (ToName []) ToEach (map plain_target ts)) op e) ≡ 0
  aug_some [] h = absurd (h refl)
  aug_some (t ∷ ts) h = refl

  pub aug_Each : (ts : List aims.Target) → (ts ≡ [] → ⊥) → tall_stmt level (augmented (plain_target (aim.Unpack ts)) op e) ≡ 0
  aug_Each ts h = ap (λ z. tall_stmt level (augmented z op e)) (plain_ToEach ts) ∙ aug_some ts h

-- ---- rows

last_store : (s : ℕ) → s ≡ max (0 + s) 0
last_store s = omega arith

last_assign : (s : ℕ) → s ≡ max (max 0 (s + 0)) 0
last_assign s = omega arith

last_delete : (s : ℕ) → s ≡ max s 0
last_delete s = omega arith

abbrev pub stores_in : List aims.Target → ℕ → ℕ
stores_in ts n = from_targets 0 tall_stores (map plain_target ts)

stores_more : (t : aims.Target) (ts : List aims.Target) → stores_in (t ∷ ts) 0 ≡ max (length ts + tall_store (plain_target t)) (stores_in ts 0)
stores_more t [] = last_store (tall_store (plain_target t))
stores_more t (u ∷ us) = ap (λ n. max (n + tall_store (plain_target t)) (tall_stores (targets (plain_target u) (map plain_target us)))) (counted (plain_target u) us)

pub stores_row : IsRow stores_in (λ t ts n. length ts + tall_store (plain_target t))
stores_row = record { more = λ t ts n. (n, stores_more t ts) }

abbrev pub assigns_in : List aims.Target → ℕ → ℕ
assigns_in ts n = from_targets 0 tall_assign (map plain_target ts)

assigns_more : (t : aims.Target) (ts : List aims.Target) → assigns_in (t ∷ ts) 0 ≡ max (max (many 2 ts) (tall_store (plain_target t) + many 1 ts)) (assigns_in ts 0)
assigns_more t [] = last_assign (tall_store (plain_target t))
assigns_more t (u ∷ us) =
    let s = tall_store (plain_target t) in
    let e : 1 + s ≡ s + 1 = omega arith in
    ap (λ n. max (max 2 n) (tall_assign (targets (plain_target u) (map plain_target us)))) e

pub assigns_row : IsRow assigns_in (λ t ts n. max (many 2 ts) (tall_store (plain_target t) + many 1 ts))
assigns_row = record { more = λ t ts n. (n, assigns_more t ts) }

abbrev pub deletes_in : List aims.Target → ℕ → ℕ
deletes_in ts n = from_targets 0 tall_deletes (map plain_target ts)

deletes_more : (t : aims.Target) (ts : List aims.Target) → deletes_in (t ∷ ts) 0 ≡ max (tall_delete (plain_target t)) (deletes_in ts 0)
deletes_more t [] = last_delete (tall_delete (plain_target t))
deletes_more t (u ∷ us) = refl

pub deletes_row : IsRow deletes_in (λ t ts n. tall_delete (plain_target t))
deletes_row = record { more = λ t ts n. (n, deletes_more t ts) }
