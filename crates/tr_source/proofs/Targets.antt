-- Stores, deletions and imports.
use Rattle.std.proofs.Common.{◌≡◌, ℕ, zero, suc, ◌+◌, ◌≤◌, Bool, true, false, List, [], ◌∷◌, ◌++◌, length, map, replicate, Option, Some, None, refl, sym, ap, subst, arith, if◌then◌else◌, zero-le, length-append}
use Rattle.std.specs.Prelude.{nat_lt}
use Rattle.std.proofs.lemmas.List.{length-replicate}
use Rattle.emit_measures.specs.bc_scheme.bc_ops.declared.instr.Op.TheVariants as ops
use Rattle.bc_resolved.specs.bc_shapes.declared.kinds.Kind.{Kind}
use Rattle.bc_resolved.specs.bc_shapes.declared.kinds.Kind.TheVariants as kinds
use Rattle.bc_resolved.specs.bc_shapes.declared.kinds.Want.TheVariants as wants
use Rattle.bc_resolved.specs.bc_shapes.declared.shape.Entry.{Entry}
use Rattle.bc_resolved.specs.bc_shapes.Shape.{Belows, same, value, give_of, gives as given}
use Rattle.bc_resolved.proofs.bc_shapes_lemmas.Joins.{belows_refl}
use Rattle.bc_resolved.specs.bc_progress.bc_flow.Action.{Straight, instr_action, op_action}
use Rattle.py_meaning.specs.py_tree.declared.stmt.Alias.{Alias}
use Rattle.emit_measures.specs.bc_scheme.py_meaning.Tree.{Expr, Target, Targets, Only, Then, target_count}
use Rattle.emit_measures.specs.bc_scheme.bc_machine.Library.{Name, Item, Names}
use Rattle.emit_measures.specs.bc_scheme.Context.{Has, number, stores, deletes, store_by, delete_by, slot_of}
use Rattle.emit_measures.specs.bc_scheme.Expressions.{StandsE}
use Rattle.emit_measures.specs.bc_scheme.Statements.{StandsT, to_name, to_attr, to_index, to_each, StandsTs, one_store, next_store, StandsA, one_assign, next_assign, StandsG, gone_name, gone_index, StandsGs, one_gone, next_gone, StandsR, no_part, part, StandsM, no_import, imported, StandsN, no_text, text, StandsF, no_name, taken}
use Rattle.emit_measures.specs.bc_scheme.Heights.{tall, tall_store, tall_stores, tall_assign, tall_delete, tall_deletes, tall_import}
use Rattle.bc_resolved.specs.bc_progress.Plans.{action_of}
use Rattle.tr_source.specs.Widest.{widest, widest_store, widest_stores}
use Rattle.tr_source.proofs.Base.{Setting}
use Rattle.tr_source.proofs.Parts.{p_none}
use Rattle.tr_source.proofs.Steps.{Own, p_straight}
use Rattle.tr_source.proofs.Exprs.{slot_within, tall_pos, Over, seq, above, push, unary, e_part, to, rep_seam}

-- an instruction that takes a value, and one that takes nothing
pub record Does (g : Setting) (ws : ℕ) (item : Item) : Type 0 where
  pub action : action_of item ≡ Straight (replicate ws wants.Value) []
  pub own : Own g item

stores_local : (g : Setting) (b : Bool) (slot : ℕ) → suc slot ≤ length g.c.locals → Does g 1 (number (if b then ops.StoreFast else ops.StoreFastN) slot)
unfolding instr_action op_action
stores_local g true slot h = record { action = refl; own = (tt, h, tt, zero-le) }
stores_local g false slot h = record { action = refl; own = (tt, h, tt, zero-le) }

stores_global : (g : Setting) (b : Bool) (n : Name) → Does g 1 (Names (if b then ops.StoreName else ops.StoreGlobal) n)
unfolding op_action
stores_global g true n = record { action = refl; own = (tt, zero-le, tt, zero-le) }
stores_global g false n = record { action = refl; own = (tt, zero-le, tt, zero-le) }

stores_by : (g : Setting) (n : Name) (o : Option ℕ) → ((slot : ℕ) → o ≡ Some slot → suc slot ≤ length g.c.locals) → Does g 1 (store_by g.c n o)
stores_by g n (Some slot) h = stores_local g (nat_lt slot 16) slot (h slot refl)
stores_by g n None h = stores_global g g.c.is_module n

pub does_store : (g : Setting) (n : Name) → Does g 1 (stores g.c n)
does_store g n = stores_by g n (slot_of g.c n) (slot_within g n)

deletes_global : (g : Setting) (b : Bool) (n : Name) → Does g 0 (Names (if b then ops.DeleteName else ops.DeleteGlobal) n)
unfolding op_action
deletes_global g true n = record { action = refl; own = (tt, zero-le, tt, zero-le) }
deletes_global g false n = record { action = refl; own = (tt, zero-le, tt, zero-le) }

deletes_by : (g : Setting) (n : Name) (o : Option ℕ) → ((slot : ℕ) → o ≡ Some slot → suc slot ≤ length g.c.locals) → Does g 0 (delete_by g.c n o)
unfolding instr_action op_action
deletes_by g n (Some slot) h = record { action = refl; own = (tt, h slot refl, tt, zero-le) }
deletes_by g n None h = deletes_global g g.c.is_module n

pub does_delete : (g : Setting) (n : Name) → Does g 0 (deletes g.c n)
does_delete g n = deletes_by g n (slot_of g.c n) (slot_within g n)

pub count_pos : (ts : Targets) → 1 ≤ target_count ts
count_pos (Only t) = omega arith
count_pos (Then t ts) = omega arith

-- `n` new values over others
given_values : (ks : List Kind) (n : ℕ) → map (give_of ks) (given n []) ≡ replicate n kinds.Value
given_values ks zero = refl
given_values ks (suc n) = ap (λ z. kinds.Value ∷ z) (given_values ks n)

rep_over : (n : ℕ) (ks : List Kind) → length (replicate n kinds.Value ++ ks) ≡ n + length ks
rep_over n ks = let a : length (replicate n kinds.Value ++ ks) ≡ length (replicate n kinds.Value) + length ks = length-append (replicate n kinds.Value) ks in let b = length-replicate n kinds.Value in omega (arith, a, b)

module _ (g : Setting) (es : List Entry) (held : length es ≤ g.code.n_exc) where
  ex : (ks : List Kind) (line p q : ℕ) (e : Expr) → StandsE g.c line p e q → length ks + tall e ≤ g.top → widest e ≤ 255 → Over g es held ks p ks q (kinds.Value ∷ ks)
  ex ks line p q e s t n = e_part g es held ks line p q e s t n

  -- a value is stored
  pub stored : (ks : List Kind) (p line : ℕ) (item : Item) → Does g 1 item → Has g.c line p item → length ks + 1 ≤ g.top → Over g es held ks p (kinds.Value ∷ ks) (suc p) ks
  stored ks p line item d h t = p_straight g es p _ item h d.own _ _ d.action (kinds.Value ∷ []) ks ks refl (omega arith) (belows_refl ks) (omega (arith, t)) (omega (arith, t)) held

  mutual
    unfolding instr_action op_action

    pub t_part : (ks : List Kind) (line p q : ℕ) (t : Target) → StandsT g.c line p t q → length ks + tall_store t ≤ g.top → widest_store t ≤ 255 → Over g es held ks p (kinds.Value ∷ ks) q ks
    t_part ks line p q t (to_name {n = n} h) a b = stored ks p line _ (does_store g n) h a
    t_part ks line p q t (to_attr {m = m} {e = e} s h) a b =
        seq g es held (above g es held (kinds.Value ∷ []) ks (ex (kinds.Value ∷ ks) line p m e s (omega (arith, a)) b))
        (p_straight g es m _ _ h (tt, zero-le, tt, zero-le) _ _ refl (kinds.Value ∷ kinds.Value ∷ []) ks ks refl (omega arith) (belows_refl ks) (let r = tall_pos e in omega (arith, a, r)) (omega (arith, a)) held)
    t_part ks line p q t (to_index {m = m} {n = k} {a = x} {b = y} s u h) a b =
        let r = tall_pos y in
        seq g es held (seq g es held (above g es held (kinds.Value ∷ []) ks (ex (kinds.Value ∷ ks) line p m x s (omega (arith, a)) (omega (arith, b))))
        (above g es held (kinds.Value ∷ kinds.Value ∷ []) ks (ex (kinds.Value ∷ kinds.Value ∷ ks) line m k y u (omega (arith, a)) (omega (arith, b)))))
        (p_straight g es k _ _ h (tt, zero-le, tt, zero-le) _ _ refl (kinds.Value ∷ kinds.Value ∷ kinds.Value ∷ []) ks ks refl (omega arith) (belows_refl ks) (omega (arith, a, r)) (omega (arith, a)) held)
    t_part ks line p q t (to_each {ts = ts} h s) a b =
        let r = count_pos ts in let l = rep_over (target_count ts) ks in
        seq g es held
        (p_straight g es p _ _ h (tt, zero-le, tt, zero-le) _ _ refl (kinds.Value ∷ []) ks (replicate (target_count ts) kinds.Value ++ ks) refl (omega arith)
        (subst (λ z. Belows (z ++ ks) (replicate (target_count ts) kinds.Value ++ ks)) (sym (given_values (kinds.Value ∷ ks) (target_count ts))) (belows_refl _)) (omega (arith, a, r)) (omega (arith, l, a)) held)
        (ts_part ks line (suc p) q ts s (omega (arith, a)) b)

    pub ts_part : (ks : List Kind) (line p q : ℕ) (ts : Targets) → StandsTs g.c line p ts q → length ks + tall_stores ts ≤ g.top → widest_stores ts ≤ 255 → Over g es held ks p (replicate (target_count ts) kinds.Value ++ ks) q ks
    ts_part ks line p q ts (one_store {t = t} s) a b = t_part ks line p q t s a b
    ts_part ks line p q ts (next_store {m = m} {t = t} {ts = rest} s u) a b =
        let l = rep_over (target_count rest) ks in
        seq g es held (above g es held (replicate (target_count rest) kinds.Value) ks (t_part (replicate (target_count rest) kinds.Value ++ ks) line p m t s (omega (arith, l, a)) (omega (arith, b))))
        (ts_part ks line m q rest u (omega (arith, a)) (omega (arith, b)))

  pub a_part : (ks : List Kind) (line p q : ℕ) (ts : Targets) → StandsA g.c line p ts q → length ks + tall_assign ts ≤ g.top → widest_stores ts ≤ 255 → Over g es held ks p (kinds.Value ∷ ks) q ks
  unfolding instr_action op_action
  a_part ks line p q ts (one_assign {t = t} s) a b = t_part ks line p q t s a b
  a_part ks line p q ts (next_assign {m = m} {t = t} {ts = rest} h s u) a b =
      seq g es held (seq g es held (p_straight g es p _ _ h (tt, zero-le, tt, zero-le) _ _ refl (kinds.Value ∷ []) ks (kinds.Value ∷ kinds.Value ∷ ks) refl (omega arith) (belows_refl _) (omega (arith, a)) (omega (arith, a)) held)
      (above g es held (kinds.Value ∷ []) ks (t_part (kinds.Value ∷ ks) line (suc p) m t s (omega (arith, a)) (omega (arith, b)))))
      (a_part ks line m q rest u (omega (arith, a)) (omega (arith, b)))

  pub g_part : (ks : List Kind) (line p q : ℕ) (t : Target) → StandsG g.c line p t q → length ks + tall_delete t ≤ g.top → widest_store t ≤ 255 → Over g es held ks p ks q ks
  unfolding instr_action op_action
  g_part ks line p q t (gone_name {n = n} h) a b =
      let d = does_delete g n in p_straight g es p _ _ h d.own _ _ d.action [] ks ks refl zero-le (belows_refl ks) (omega (arith, a)) (omega (arith, a)) held
  g_part ks line p q t (gone_index {m = m} {n = k} {a = x} {b = y} s u h h1 h2) a b =
      seq g es held (seq g es held (seq g es held (seq g es held (ex ks line p m x s (omega (arith, a)) (omega (arith, b)))
      (above g es held (kinds.Value ∷ []) ks (ex (kinds.Value ∷ ks) line m k y u (omega (arith, a)) (omega (arith, b)))))
      (p_straight g es k _ _ h (tt, zero-le, tt, zero-le) _ _ refl (kinds.Value ∷ kinds.Value ∷ []) ks (kinds.Null ∷ kinds.Value ∷ kinds.Value ∷ ks) refl zero-le (belows_refl _) (omega (arith, a)) (omega (arith, a)) held))
      (p_straight g es (suc k) _ _ h1 (tt, zero-le, tt, zero-le) _ _ refl (kinds.Null ∷ kinds.Value ∷ kinds.Value ∷ []) ks (kinds.Value ∷ kinds.Value ∷ kinds.Null ∷ ks) refl (omega arith) (belows_refl _) (omega (arith, a)) (omega (arith, a)) held))
      (p_straight g es (suc (suc k)) _ _ h2 (tt, zero-le, tt, zero-le) _ _ refl (kinds.Value ∷ kinds.Value ∷ kinds.Null ∷ []) ks ks refl (omega arith) (belows_refl _) (omega (arith, a)) (omega (arith, a)) held)

  pub gs_part : (ks : List Kind) (line p q : ℕ) (ts : Targets) → StandsGs g.c line p ts q → length ks + tall_deletes ts ≤ g.top → widest_stores ts ≤ 255 → Over g es held ks p ks q ks
  gs_part ks line p q ts (one_gone {t = t} s) a b = g_part ks line p q t s a b
  gs_part ks line p q ts (next_gone {m = m} {t = t} {ts = rest} s u) a b =
      seq g es held (g_part ks line p m t s (omega (arith, a)) (omega (arith, b))) (gs_part ks line m q rest u (omega (arith, a)) (omega (arith, b)))

  -- imports
  r_part : (ks : List Kind) (line p q : ℕ) (ns : List Name) → StandsR g.c line p ns q → length ks + 1 ≤ g.top → Over g es held ks p (kinds.Value ∷ ks) q (kinds.Value ∷ ks)
  unfolding op_action
  r_part ks line p q ns no_part a = p_none g es _ p _
  r_part ks line p q ns (part {ns = rest} h s) a = seq g es held (unary g es held ks p line _ (tt, zero-le, tt, zero-le) refl h a) (r_part ks line (suc p) q rest s a)

  pub m_part : (ks : List Kind) (line p q : ℕ) (aliases : List Alias) → StandsM g.c line p aliases q → length ks + tall_import aliases ≤ g.top → length ks ≤ g.top → Over g es held ks p ks q ks
  unfolding instr_action op_action
  m_part ks line p q aliases no_import a t = p_none g es _ p _
  m_part ks line p q aliases (imported {m = m} {aliases = rest} h h1 h2 s h3 u) a t =
      seq g es held (seq g es held (seq g es held (seq g es held (seq g es held
      (push g es held ks p line _ (record { kind = kinds.Value; action = refl; below = same; own = (tt, zero-le, tt, zero-le) }) h (omega (arith, a)))
      (above g es held (kinds.Value ∷ []) ks (push g es held (kinds.Value ∷ ks) (suc p) line _ (record { kind = kinds.Either; action = refl; below = value; own = (tt, zero-le, tt, zero-le) }) h1 (omega (arith, a)))))
      (p_straight g es (suc (suc p)) _ _ h2 (tt, zero-le, tt, zero-le) _ _ refl (kinds.Value ∷ kinds.Value ∷ []) ks (kinds.Value ∷ ks) refl (omega arith) (belows_refl _) (omega (arith, a)) (omega (arith, a)) held))
      (r_part ks line (suc (suc (suc p))) m _ s (omega (arith, a))))
      (stored ks m line _ (does_store g _) h3 (omega (arith, a))))
      (m_part ks line (suc m) q rest u (import_less ks rest a) t)
    where
      import_less : (ks : List Kind) (rest : List Alias) → length ks + 2 ≤ g.top → length ks + tall_import rest ≤ g.top
      import_less ks [] h = omega (arith, h)
      import_less ks (x ∷ rest) h = h

  pub n_part : (line : ℕ) (ks : List Kind) (p q : ℕ) (aliases : List Alias) → StandsN g.c line p aliases q → length ks + length aliases ≤ g.top → Over g es held ks p ks q (replicate (length aliases) kinds.Value ++ ks)
  unfolding op_action
  n_part line ks p q aliases no_text a = p_none g es _ p _
  n_part line ks p q aliases (text {aliases = rest} h s) a =
      to g es held _ _ (rep_seam (length rest) ks)
      (seq g es held (push g es held ks p line _ (record { kind = kinds.Value; action = refl; below = same; own = (tt, zero-le, tt, zero-le) }) h (omega (arith, a)))
      (above g es held (kinds.Value ∷ []) ks (n_part line (kinds.Value ∷ ks) (suc p) q rest s (omega (arith, a)))))

  pub f_part : (ks : List Kind) (line p q : ℕ) (aliases : List Alias) → StandsF g.c line p aliases q → length ks + 1 + length aliases ≤ g.top → Over g es held ks p (kinds.Value ∷ ks) q (kinds.Value ∷ ks)
  unfolding op_action
  f_part ks line p q aliases no_name a = p_none g es _ p _
  f_part ks line p q aliases (taken {aliases = rest} h h1 s) a =
      seq g es held (seq g es held
      (p_straight g es p _ _ h (tt, zero-le, tt, zero-le) _ _ refl (kinds.Value ∷ []) ks (kinds.Value ∷ kinds.Value ∷ ks) refl (omega arith) (belows_refl _) (omega (arith, a)) (omega (arith, a)) held)
      (above g es held (kinds.Value ∷ []) ks (stored (kinds.Value ∷ ks) (suc p) line _ (does_store g _) h1 (omega (arith, a)))))
      (f_part ks line (suc (suc p)) q rest s (omega (arith, a)))
