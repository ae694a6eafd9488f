-- The code of stores, deletions and imports may be written.
use Rattle.std.proofs.Common.{◌≡◌, ℕ, suc, ◌≤◌, List, Some, refl, arith, slice_get}
use Rattle.emit_module.specs.bc_machine.bc_ops.Table.{form_of, name_form, number_form, jump_form, plain_form, short_form}
use Rattle.emit_module.specs.py_tree.declared.stmt.Alias.{Alias}
use Rattle.emit_module.specs.bc_machine.py_effects.Modules.{parts_of}
use Rattle.emit_module.specs.py_meaning.Tree.{Name, Target, Targets, target_count}
use Rattle.emit_module.specs.py_meaning.Statements.{bound_name, from_name, read_parts}
use Rattle.emit_module.specs.bc_machine.Library.{Line}
use Rattle.emit_module.specs.bc_scheme.Context.{Context}
use Rattle.emit_module.specs.bc_scheme.Statements.{StandsT, to_name, to_attr, to_index, to_each, StandsTs, one_store, next_store, StandsA, one_assign, next_assign, StandsG, gone_name, gone_index, StandsGs, one_gone, next_gone, StandsR, no_part, part, StandsM, no_import, imported, StandsN, no_text, text, StandsF, no_name, taken}
use Rattle.emit_module.specs.tr_source.Greatest.{greatest_store, greatest_stores}
use Rattle.emit_module.specs.tr_source.Spelled.{TargetSpelled, TargetsSpelled, AliasesSpelled, AllAscii}
use Rattle.mpy_compile.proofs.Wells.{Kept, stores_well, deletes_well, unpack_well}
use Rattle.mpy_compile.proofs.Names.{bound_ascii, from_ascii, parts_ascii}
use Rattle.mpy_compile.proofs.Exprs.{Own, on, nil, put, e_own, arguments, no_pairs}

abbrev pub most_store : Target → ℕ
most_store = greatest_store arguments no_pairs

abbrev pub most_stores : Targets → ℕ
most_stores = greatest_stores arguments no_pairs

module _ (c : Context) (size n_state children : ℕ) (state : n_state ≤ 4096) (few : children ≤ 65535) (kept : (p : ℕ) (l : Line) → slice_get c.lines p ≡ Some l → Kept size n_state children l.item) (line : ℕ) where
  abbrev In : (p q : ℕ) → Type 0
  In p q = Own c size n_state children state few kept line p q

  and_then : {p m q : ℕ} → In p m → In m q → In p q
  and_then s t = on c size n_state children state few kept line s t

  mutual
    unfolding form_of name_form number_form jump_form plain_form short_form

    pub t_own : (p q : ℕ) (t : Target) → TargetSpelled t → most_store t ≤ 255 → StandsT c line p t q → In p q
    t_own p q t s g (to_name {n = n} h) = put c size n_state children state few kept line p _ (stores_well size n_state children state few c n s) h
    t_own p q t s g (to_attr {m = m} {e = e} u h) = and_then (e_own c size n_state children state few kept line p m e s.0 g u) (put c size n_state children state few kept line m _ (λ k. (refl, s.1)) h)
    t_own p q t s g (to_index {m = m} {n = n} {a = a} {b = b} u v h) =
        and_then (and_then (e_own c size n_state children state few kept line p m a s.0 (omega (arith, g)) u) (e_own c size n_state children state few kept line m n b s.1 (omega (arith, g)) v)) (put c size n_state children state few kept line n _ (λ k. (tt, refl)) h)
    t_own p q t s g (to_each {ts = ts} h u) = and_then (put c size n_state children state few kept line p _ (unpack_well size n_state children state few (target_count ts)) h) (ts_own (suc p) q ts s g u)

    pub ts_own : (p q : ℕ) (ts : Targets) → TargetsSpelled ts → most_stores ts ≤ 255 → StandsTs c line p ts q → In p q
    ts_own p q ts s g (one_store {t = t} u) = t_own p q t s g u
    ts_own p q ts s g (next_store {m = m} {t = t} {ts = others} u v) = and_then (t_own p m t s.0 (omega (arith, g)) u) (ts_own m q others s.1 (omega (arith, g)) v)

  pub a_own : (p q : ℕ) (ts : Targets) → TargetsSpelled ts → most_stores ts ≤ 255 → StandsA c line p ts q → In p q
  unfolding form_of name_form number_form jump_form plain_form short_form
  a_own p q ts s g (one_assign {t = t} u) = t_own p q t s g u
  a_own p q ts s g (next_assign {m = m} {t = t} {ts = others} h u v) =
      and_then (and_then (put c size n_state children state few kept line p _ (λ k. (tt, refl)) h) (t_own (suc p) m t s.0 (omega (arith, g)) u)) (a_own m q others s.1 (omega (arith, g)) v)

  g_own : (p q : ℕ) (t : Target) → TargetSpelled t → most_store t ≤ 255 → StandsG c line p t q → In p q
  unfolding form_of name_form number_form jump_form plain_form short_form
  g_own p q t s g (gone_name {n = n} h) = put c size n_state children state few kept line p _ (deletes_well size n_state children state few c n s) h
  g_own p q t s g (gone_index {m = m} {n = n} {a = a} {b = b} u v h1 h2 h3) =
      and_then (and_then (and_then (and_then (e_own c size n_state children state few kept line p m a s.0 (omega (arith, g)) u) (e_own c size n_state children state few kept line m n b s.1 (omega (arith, g)) v))
      (put c size n_state children state few kept line n _ (λ k. (tt, refl)) h1)) (put c size n_state children state few kept line (suc n) _ (λ k. (tt, refl)) h2)) (put c size n_state children state few kept line (suc (suc n)) _ (λ k. (tt, refl)) h3)

  pub gs_own : (p q : ℕ) (ts : Targets) → TargetsSpelled ts → most_stores ts ≤ 255 → StandsGs c line p ts q → In p q
  gs_own p q ts s g (one_gone {t = t} u) = g_own p q t s g u
  gs_own p q ts s g (next_gone {m = m} {t = t} {ts = others} u v) = and_then (g_own p m t s.0 (omega (arith, g)) u) (gs_own m q others s.1 (omega (arith, g)) v)

  -- ---- imports

  r_own : (p q : ℕ) (names : List Name) → AllAscii names → StandsR c line p names q → In p q
  unfolding form_of name_form number_form jump_form plain_form short_form
  r_own p q names s no_part = nil c size n_state children state few kept line p
  r_own p q names s (part {ns = others} h u) = and_then (put c size n_state children state few kept line p _ (λ k. (refl, s.0)) h) (r_own (suc p) q others s.1 u)

  pub m_own : (p q : ℕ) (aliases : List Alias) → AliasesSpelled aliases → StandsM c line p aliases q → In p q
  unfolding form_of name_form number_form jump_form plain_form short_form
  m_own p q aliases s no_import = nil c size n_state children state few kept line p
  m_own p q aliases s (imported {m = m} {a = a} {aliases = others} h1 h2 h3 u h4 v) =
      and_then (and_then (and_then (and_then (and_then (put c size n_state children state few kept line p _ (λ k. (tt, omega arith)) h1) (put c size n_state children state few kept line (suc p) _ (λ k. (tt, refl)) h2))
      (put c size n_state children state few kept line (suc (suc p)) _ (λ k. (refl, s.0.0)) h3)) (r_own (suc (suc (suc p))) m (read_parts (parts_of a.name) a.bound) (parts_ascii a.name a.bound s.0.0) u))
      (put c size n_state children state few kept line m _ (stores_well size n_state children state few c (bound_name a.name a.bound) (bound_ascii a.name a.bound s.0.0 s.0.1)) h4)) (m_own (suc m) q others s.1 v)

  pub n_own : (p q : ℕ) (aliases : List Alias) → AliasesSpelled aliases → StandsN c line p aliases q → In p q
  unfolding form_of name_form number_form jump_form plain_form short_form
  n_own p q aliases s no_text = nil c size n_state children state few kept line p
  n_own p q aliases s (text {aliases = others} h u) = and_then (put c size n_state children state few kept line p _ (λ k. (refl, s.0.0)) h) (n_own (suc p) q others s.1 u)

  pub f_own : (p q : ℕ) (aliases : List Alias) → AliasesSpelled aliases → StandsF c line p aliases q → In p q
  unfolding form_of name_form number_form jump_form plain_form short_form
  f_own p q aliases s no_name = nil c size n_state children state few kept line p
  f_own p q aliases s (taken {a = a} {aliases = others} h1 h2 u) =
      and_then (and_then (put c size n_state children state few kept line p _ (λ k. (refl, s.0.0)) h1)
      (put c size n_state children state few kept line (suc p) _ (stores_well size n_state children state few c (from_name a.name a.bound) (from_ascii a.name a.bound s.0.0 s.0.1)) h2)) (f_own (suc (suc p)) q others s.1 u)
