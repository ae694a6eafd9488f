-- Stores and deletions, by those of their parts.
use Rattle.std.proofs.Common.{◌≡◌, ◌≤◌, ℕ, ◌+◌, ◌*◌, Bool, true, false, List, [], ◌∷◌, length, map, Option, Some, None, refl, ap, ◌∙◌, arith, if◌then◌else◌}
use Rattle.std.specs.Prelude.{nat_lt, position, bytes_eq}
use Rattle.py_tree.specs.declared.expr.BinaryOp.{BinaryOp}
use Rattle.py_tree.specs.declared.expr.Expr as trees
use Rattle.py_tree.specs.declared.stmt.Target as aims
use Rattle.py_tree.specs.declared.stmt.Target.TheVariants as aim
use Rattle.bc_scheme.specs.py_meaning.Tree.{Name, Expr, Target, ToName, ToEach, Assign, Delete, Pass}
use Rattle.bc_scheme.specs.py_meaning.Plain.{plain_expr, plain_target, targets, from_targets, augmented}
use Rattle.emit_measures.specs.Limits.{saturated}
use Rattle.emit_measures.proofs.Numbers.{told}
use Rattle.emit_measures.proofs.Rows.{top}
use Rattle.emit_measures.proofs.StoreHeights.{plain_ToName, plain_ToAttr, plain_ToIndex, plain_ToEach, none_stored}
use Rattle.emit_measures.specs.Lengths.{slot_length, name_length, expr_length, store_length, stores_length, assign_length, delete_length, deletes_length, stmt_length}
use Rattle.emit_measures.specs.Rows.{doubled_wide}
use Rattle.emit_measures.proofs.Sums.{IsSum}

chosen_few : (b : Bool) → (if b then 1 else 4) ≤ 4
chosen_few true = omega arith
chosen_few false = omega arith

slot_few : (o : Option ℕ) → slot_length o ≤ 4
slot_few (Some slot) = chosen_few (nat_lt slot 16)
slot_few None = omega arith

module _ (locals : List Name) where
  name_few : (name : Name) → name_length locals name ≤ 4
  name_few name = slot_few (position (bytes_eq name) locals)

  pub name_told : (name : Name) (n : ℕ) → n ≡ name_length locals name → n ≡ saturated (name_length locals name)
  name_told name n e = e ∙ told top (name_length locals name) (let h = name_few name in omega (arith, h))

  pub len_none : (ts : List aims.Target) → ts ≡ [] → store_length locals (plain_target (aim.Unpack ts)) ≡ name_length locals []
  len_none ts e = ap (store_length locals) (none_stored ts e)

  each_stored : (ts : List aims.Target) → (ts ≡ [] → ⊥) → store_length locals (from_targets (ToName []) ToEach (map plain_target ts)) ≡ from_targets 0 (stores_length locals) (map plain_target ts) + 4
  each_stored [] h = absurd (h refl)
  each_stored (t ∷ ts) h = refl

  pub len_each : (ts : List aims.Target) → (ts ≡ [] → ⊥) → store_length locals (plain_target (aim.Unpack ts)) ≡ from_targets 0 (stores_length locals) (map plain_target ts) + 4
  len_each ts h = ap (store_length locals) (plain_ToEach ts) ∙ each_stored ts h

  pub len_Name : (text : Name) → store_length locals (plain_target (aim.Name text)) ≡ name_length locals text
  len_Name text = ap (store_length locals) (plain_ToName text)

  pub len_Attr : (x : trees.Expr) (text : Name) → store_length locals (plain_target (aim.Attr x text)) ≡ expr_length locals (plain_expr x) + 4
  len_Attr x text = ap (store_length locals) (plain_ToAttr x text)

  pub len_Index : (x y : trees.Expr) → store_length locals (plain_target (aim.Index x y)) ≡ expr_length locals (plain_expr x) + expr_length locals (plain_expr y) + 1
  len_Index x y = ap (store_length locals) (plain_ToIndex x y)

  -- ---- deletions

  pub del_Name : (text : Name) → delete_length locals (plain_target (aim.Name text)) ≡ 4
  del_Name text = ap (delete_length locals) (plain_ToName text)

  pub del_Attr : (x : trees.Expr) (text : Name) → delete_length locals (plain_target (aim.Attr x text)) ≡ 0
  del_Attr x text = ap (delete_length locals) (plain_ToAttr x text)

  pub del_Index : (x y : trees.Expr) → delete_length locals (plain_target (aim.Index x y)) ≡ expr_length locals (plain_expr x) + expr_length locals (plain_expr y) + 3
  del_Index x y = ap (delete_length locals) (plain_ToIndex x y)

  pub del_none : (ts : List aims.Target) → ts ≡ [] → delete_length locals (plain_target (aim.Unpack ts)) ≡ 4
  del_none ts e = ap (delete_length locals) (none_stored ts e)

  each_deleted : (ts : List aims.Target) → (ts ≡ [] → ⊥) → delete_length locals (from_targets (ToName []) ToEach (map plain_target ts)) ≡ 0
  each_deleted [] h = absurd (h refl)
  each_deleted (t ∷ ts) h = refl

  pub del_each : (ts : List aims.Target) → (ts ≡ [] → ⊥) → delete_length locals (plain_target (aim.Unpack ts)) ≡ 0
  del_each ts h = ap (delete_length locals) (plain_ToEach ts) ∙ each_deleted ts h

  -- ---- rows

  abbrev pub stores_in : List aims.Target → ℕ → ℕ
  stores_in ts n = from_targets 0 (stores_length locals) (map plain_target ts)

  stores_more : (t : aims.Target) (ts : List aims.Target) → stores_in (t ∷ ts) 0 ≡ store_length locals (plain_target t) + stores_in ts 0
  stores_more t [] = let n = store_length locals (plain_target t) in omega arith
  stores_more t (u ∷ us) = refl

  pub stores_sum : IsSum stores_in (λ t ts n. store_length locals (plain_target t))
  stores_sum = record { more = λ t ts n. (n, stores_more t ts) }

  abbrev pub doubled_in : List aims.Target → ℕ → ℕ
  doubled_in ts n = doubled_wide locals ts

  pub doubled_sum : IsSum doubled_in (λ t ts n. store_length locals (plain_target t) + 1)
  doubled_sum = record { more = λ t ts n. (n, refl) }

  abbrev pub deletes_in : List aims.Target → ℕ → ℕ
  deletes_in ts n = from_targets 0 (deletes_length locals) (map plain_target ts)

  deletes_more : (t : aims.Target) (ts : List aims.Target) → deletes_in (t ∷ ts) 0 ≡ delete_length locals (plain_target t) + deletes_in ts 0
  deletes_more t [] = let n = delete_length locals (plain_target t) in omega arith
  deletes_more t (u ∷ us) = refl

  pub deletes_sum : IsSum deletes_in (λ t ts n. delete_length locals (plain_target t))
  deletes_sum = record { more = λ t ts n. (n, deletes_more t ts) }

  -- ---- statements

  assigned : (t : Target) (ts : List aims.Target) → assign_length locals (targets t (map plain_target ts)) ≡ store_length locals t + doubled_wide locals ts
  assigned t [] = let n = store_length locals t in omega arith
  assigned t (u ∷ us) = let h = assigned (plain_target u) us in omega (arith, h)

  module _ (level : ℕ) (held iterator : Bool) where
    pub no_assign : (e : Expr) (ts : List aims.Target) → length ts ≡ 0 → stmt_length locals level held iterator (from_targets Pass (λ us. Assign us e) (map plain_target ts)) ≡ 0
    no_assign e [] h = refl
    no_assign e (t ∷ ts) h = absurd (omega (arith, h))

    pub assign_is : (e : Expr) (all : List aims.Target) (t : aims.Target) (ts : List aims.Target) → all ≡ t ∷ ts
        → stmt_length locals level held iterator (from_targets Pass (λ us. Assign us e) (map plain_target all)) ≡ expr_length locals e + store_length locals (plain_target t) + doubled_wide locals ts + 0
    assign_is e all t ts h =
        ap (λ z. stmt_length locals level held iterator (from_targets Pass (λ us. Assign us e) (map plain_target z))) h
        ∙ (let k = assigned (plain_target t) ts in let x = expr_length locals e in omega (arith, k))

    pub deletes_is : (ts : List Target) → stmt_length locals level held iterator (from_targets Pass Delete ts) ≡ from_targets 0 (deletes_length locals) ts
    deletes_is [] = refl
    deletes_is (t ∷ ts) = refl

    module _ (op : BinaryOp) (e : Expr) where
      twice : (text : Name) → 2 * name_length locals text + expr_length locals e + 1 ≡ name_length locals text + name_length locals text + expr_length locals e + 1
      twice text = let n = name_length locals text in let x = expr_length locals e in omega arith

      pub aug_Name : (text : Name) → stmt_length locals level held iterator (augmented (plain_target (aim.Name text)) op e) ≡ name_length locals text + name_length locals text + expr_length locals e + 1
      aug_Name text = ap (λ z. stmt_length locals level held iterator (augmented z op e)) (plain_ToName text) ∙ twice text

      pub aug_Attr : (x : trees.Expr) (text : Name) → stmt_length locals level held iterator (augmented (plain_target (aim.Attr x text)) op e) ≡ expr_length locals (plain_expr x) + expr_length locals e + 11
      aug_Attr x text = ap (λ z. stmt_length locals level held iterator (augmented z op e)) (plain_ToAttr x text)

      pub aug_Index : (x y : trees.Expr) → stmt_length locals level held iterator (augmented (plain_target (aim.Index x y)) op e) ≡ expr_length locals (plain_expr x) + expr_length locals (plain_expr y) + expr_length locals e + 5
      aug_Index x y = ap (λ z. stmt_length locals level held iterator (augmented z op e)) (plain_ToIndex x y)

      pub aug_none : (ts : List aims.Target) → ts ≡ [] → stmt_length locals level held iterator (augmented (plain_target (aim.Unpack ts)) op e) ≡ name_length locals [] + name_length locals [] + expr_length locals e + 1
      aug_none ts h = ap (λ z. stmt_length locals level held iterator (augmented z op e)) (none_stored ts h) ∙ twice []

      aug_some : (ts : List aims.Target) → (ts ≡ [] → ⊥) → stmt_length locals level held iterator (augmented (from_targets (ToName []) ToEach (map plain_target ts)) op e) ≡ 0
      aug_some [] h = absurd (h refl)
      aug_some (t ∷ ts) h = refl

      pub aug_each : (ts : List aims.Target) → (ts ≡ [] → ⊥) → stmt_length locals level held iterator (augmented (plain_target (aim.Unpack ts)) op e) ≡ 0
      aug_each ts h = ap (λ z. stmt_length locals level held iterator (augmented z op e)) (plain_ToEach ts) ∙ aug_some ts h
