-- Stores, deletions and imports, from their patterns, with the names that they bind.
use Rattle.std.proofs.Common.{◌≡◌, inl, inr, ℕ, suc, ◌+◌, ◌*◌, Bool, true, false, not, ◌&&◌, cond, List, [], ◌∷◌, length, map, Option, Some, None, refl, sym, ap, ◌∙◌, arith, eq-eqb, if◌then◌else◌}
use Rattle.std.specs.Prelude.{nat_eq}
use Rattle.std.specs.List.{onto_first}
use Rattle.std.proofs.lemmas.Bool.Decides.{eqb_tells}
use Rattle.py_tree.specs.declared.stmt.Alias.{Alias}
use Rattle.bc_scheme.specs.py_effects.Modules.{parts_of, first_of}
use Rattle.bc_scheme.specs.py_scopes.Events.{first_part, bound_by}
use Rattle.bc_scheme.specs.py_meaning.Tree.{Name, Expr, Target, Targets}
use Rattle.bc_scheme.specs.py_meaning.Statements.{bound_name, from_name, read_parts}
use Rattle.bc_scheme.specs.py_meaning.Imported.{is_undotted}
use Rattle.bc_scheme.specs.py_meaning.Locals.{names_to, names_to_each}
use Rattle.bc_scheme.specs.Context.{Context}
use Rattle.bc_scheme.specs.Statements.{StandsT, to_name, to_attr, to_index, to_each, StandsTs, one_store, next_store, StandsA, one_assign, next_assign, StandsG, gone_name, gone_index, StandsGs, one_gone, next_gone, StandsR, no_part, part, StandsM, no_import, imported, StandsN, no_text, text, StandsF, no_name, taken}
use Rattle.emit_measures.specs.Named.{are_undotted}
use Rattle.emit_measures.specs.Lengths.{name_length, expr_length, store_length, stores_length, assign_length, delete_length, deletes_length, imports_length, taken_length}
use Rattle.emit_measures.proofs.Spans.{Spans, none_span, then_span, also_span, as_span, as_names, has_span, store_span, delete_span}
use Rattle.emit_measures.proofs.Exprs.{e_span}

-- ---- names of imports

both_true : (a b : Bool) → (a && b) ≡ true → (a ≡ true) × (b ≡ true)
both_true true b e = (refl, e)
both_true false b e = cc

not_true : (b : Bool) → not b ≡ true → b ≡ false
not_true true e = cc
not_true false e = refl

-- a name without dots is its own first part
whole_name : (name : Name) → is_undotted name ≡ true → first_part name ≡ name
whole_name [] e = refl
whole_name (byte ∷ bytes) e =
    let h = both_true (not (nat_eq byte 46)) (is_undotted bytes) e in
    ap (λ b. if b then [] else byte ∷ first_part bytes) (not_true (nat_eq byte 46) h.0) ∙ ap (λ (z : Name). byte ∷ z) (whole_name bytes h.1)

pub from_binds : (name : Name) (bound : Option Name) → is_undotted name ≡ true → from_name name bound ≡ bound_by (record { name = name; bound = bound })
from_binds name None e = sym (whole_name name e)
from_binds name (Some other) e = refl

same_test : (a b : ℕ) → nat_eq a b ≡ nat_eq b a
same_test a b =
    elim (eqb_tells a b) [
      | inl p ↦ p.0 ∙ sym (eq-eqb b a (sym p.1))
      | inr q ↦ q.0 ∙ sym (elim (eqb_tells b a) [ inl r ↦ absurd (q.1 (sym r.1)) | inr r ↦ r.0 ])
    ]

first_more : (byte : ℕ) (stops : Bool) (parts : List Name) (first : Name) (others : List Name) → parts ≡ first ∷ others
    → (more : List Name) × (cond stops ([] ∷ parts) (onto_first byte parts) ≡ (if stops then [] else byte ∷ first) ∷ more)
first_more byte true parts first others e = (parts, refl)
first_more byte false parts first others e = (others, ap (onto_first byte) e)

first_is : (name : Name) → (others : List Name) × (parts_of name ≡ first_part name ∷ others)
first_is [] = ([], refl)
first_is (byte ∷ bytes) =
    let more = first_is bytes in
    let h = first_more byte (nat_eq 46 byte) (parts_of bytes) (first_part bytes) more.0 more.1 in
    (h.0, h.1 ∙ ap (λ (b : Bool). (if b then [] else byte ∷ first_part bytes) ∷ h.0) (same_test 46 byte))

pub import_binds : (name : Name) (bound : Option Name) → bound_name name bound ≡ bound_by (record { name = name; bound = bound })
import_binds name None = ap first_of (first_is name).1
import_binds name (Some other) = refl

-- the names as texts are counted with those that are taken
pub taken_least : (c : Context) (aliases : List Alias) → (rest : ℕ) × (taken_length c.locals aliases ≡ 4 * length aliases + rest)
taken_least c [] = (0, refl)
taken_least c (a ∷ aliases) =
    let s = name_length c.locals (from_name a.name a.bound) in
    let more = taken_least c aliases in
    let e = more.1 in
    (s + 4 + more.0, let n = length aliases in let k = more.0 in omega (arith, e))

module _ (c : Context) (sure : Type 0) (line : ℕ) where
  abbrev E : Expr → ℕ
  E = expr_length c.locals

  mutual
    pub t_span : (p q : ℕ) (t : Target) → StandsT c line p t q → Spans c sure p q (store_length c.locals t) (names_to t)
    t_span p q t (to_name {n = n} h) = store_span c sure p line n h
    t_span p q t (to_attr {m = m} {e = e} u h) = also_span c sure (e_span c sure line p m e u) (has_span c sure m line _ 4 refl refl h)
    t_span p q t (to_index {m = m} {n = n} {a = a} {b = b} u v h) = also_span c sure (also_span c sure (e_span c sure line p m a u) (e_span c sure line m n b v)) (has_span c sure n line _ 1 refl refl h)
    t_span p q t (to_each {ts = ts} h u) =
        as_span c sure _ (let n = stores_length c.locals ts in omega arith) (then_span c sure (has_span c sure p line _ 4 refl refl h) (ts_span (suc p) q ts u))

    pub ts_span : (p q : ℕ) (ts : Targets) → StandsTs c line p ts q → Spans c sure p q (stores_length c.locals ts) (names_to_each ts)
    ts_span p q ts (one_store {t = t} u) = t_span p q t u
    ts_span p q ts (next_store {m = m} {t = t} {ts = others} u v) = then_span c sure (t_span p m t u) (ts_span m q others v)

  pub a_span : (p q : ℕ) (ts : Targets) → StandsA c line p ts q → Spans c sure p q (assign_length c.locals ts) (names_to_each ts)
  a_span p q ts (one_assign {t = t} u) = t_span p q t u
  a_span p q ts (next_assign {m = m} {t = t} {ts = others} h u v) =
      as_span c sure _ (let n = store_length c.locals t in let k = assign_length c.locals others in omega arith)
      (then_span c sure (then_span c sure (has_span c sure p line _ 1 refl refl h) (t_span (suc p) m t u)) (a_span m q others v))

  g_span : (p q : ℕ) (t : Target) → StandsG c line p t q → Spans c sure p q (delete_length c.locals t) (names_to t)
  g_span p q t (gone_name {n = n} h) = delete_span c sure p line n h
  g_span p q t (gone_index {m = m} {n = n} {a = a} {b = b} u v h1 h2 h3) =
      as_span c sure _ (let x = E a in let y = E b in omega arith)
      (also_span c sure (also_span c sure (also_span c sure (also_span c sure (e_span c sure line p m a u) (e_span c sure line m n b v)) (has_span c sure n line _ 1 refl refl h1)) (has_span c sure (suc n) line _ 1 refl refl h2)) (has_span c sure (suc (suc n)) line _ 1 refl refl h3))

  pub gs_span : (p q : ℕ) (ts : Targets) → StandsGs c line p ts q → Spans c sure p q (deletes_length c.locals ts) (names_to_each ts)
  gs_span p q ts (one_gone {t = t} u) = g_span p q t u
  gs_span p q ts (next_gone {m = m} {t = t} {ts = others} u v) = then_span c sure (g_span p m t u) (gs_span m q others v)

  -- ---- imports

  r_span : (p q : ℕ) (names : List Name) → StandsR c line p names q → Spans c sure p q (4 * length names) []
  r_span p q names no_part = none_span c sure p
  r_span p q names (part {ns = others} h u) =
      as_span c sure _ (let n = length others in omega arith) (also_span c sure (has_span c sure p line _ 4 refl refl h) (r_span (suc p) q others u))

  pub m_span : (p q : ℕ) (aliases : List Alias) → StandsM c line p aliases q → Spans c sure p q (imports_length c.locals aliases) (map bound_by aliases)
  m_span p q aliases no_import = none_span c sure p
  m_span p q aliases (imported {m = m} {a = a} {aliases = others} h1 h2 h3 u h4 v) =
      let parts = read_parts (parts_of a.name) a.bound in
      let name : Name = bound_name a.name a.bound in
      as_span c sure _ (let n = length parts in let s = name_length c.locals name in let k = imports_length c.locals others in omega arith)
      (then_span c sure (as_names c sure _ (λ k. ap (λ (z : Name). z ∷ []) (import_binds a.name a.bound))
      (then_span c sure (also_span c sure (also_span c sure (also_span c sure (has_span c sure p line _ 1 refl refl h1) (has_span c sure (suc p) line _ 1 refl refl h2)) (has_span c sure (suc (suc p)) line _ 4 refl refl h3)) (r_span (suc (suc (suc p))) m parts u))
      (store_span c sure m line name h4))) (m_span (suc m) q others v))

  pub n_span : (p q : ℕ) (aliases : List Alias) → StandsN c line p aliases q → Spans c sure p q (4 * length aliases) []
  n_span p q aliases no_text = none_span c sure p
  n_span p q aliases (text {aliases = others} h u) =
      as_span c sure _ (let n = length others in omega arith) (also_span c sure (has_span c sure p line _ 4 refl refl h) (n_span (suc p) q others u))

  pub f_span : (p q : ℕ) (aliases : List Alias) (rest : ℕ) → taken_length c.locals aliases ≡ 4 * length aliases + rest → (sure → are_undotted aliases ≡ true) → StandsF c line p aliases q → Spans c sure p q rest (map bound_by aliases)
  f_span p q aliases rest e t no_name = as_span c sure _ (omega (arith, e)) (none_span c sure p)
  f_span p q aliases rest e t (taken {a = a} {aliases = others} h1 h2 u) =
      let name : Name = from_name a.name a.bound in
      let more = taken_least c others in
      let f = more.1 in
      as_span c sure _ (let s = name_length c.locals name in let n = length others in let k = more.0 in omega (arith, e, f))
      (then_span c sure (as_names c sure _ (λ k. ap (λ (z : Name). z ∷ []) (from_binds a.name a.bound (both_true (is_undotted a.name) (are_undotted others) (t k)).0))
      (then_span c sure (has_span c sure p line _ 4 refl refl h1) (store_span c sure (suc p) line name h2))) (f_span (suc (suc p)) q others more.0 f (λ k. (both_true (is_undotted a.name) (are_undotted others) (t k)).1) u))
