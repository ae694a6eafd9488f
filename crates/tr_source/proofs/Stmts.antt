-- Statements and blocks.
use Rattle.std.proofs.Common.{ℕ, suc, ◌+◌, ◌≤◌, max, true, false, List, [], ◌∷◌, ◌++◌, length, drop, replicate, refl, ap, subst, arith, zero-le, append-nil}
use Rattle.std.proofs.lemmas.Option.{slice_get_within}
use Rattle.emit_measures.specs.bc_scheme.bc_ops.declared.instr.Op.TheVariants as ops
use Rattle.bc_resolved.specs.bc_shapes.declared.kinds.Kind.{Kind}
use Rattle.bc_resolved.specs.bc_shapes.declared.kinds.Kind.TheVariants as kinds
use Rattle.bc_resolved.specs.bc_shapes.declared.kinds.Give.TheVariants.{New}
use Rattle.bc_resolved.specs.bc_shapes.declared.shape.Entry.{Entry}
use Rattle.bc_resolved.specs.bc_shapes.Shape.{At, same, value, also}
use Rattle.bc_resolved.proofs.bc_shapes_lemmas.Joins.{belows_refl}
use Rattle.bc_resolved.specs.bc_progress.bc_flow.Action.{instr_action, op_action, jump_action}
use Rattle.emit_measures.specs.bc_scheme.py_meaning.Tree.{Exprs, NoExpr, More, count, Stmt, Block, Branches, Handlers, NoHandler, Any, On, OnAs}
use Rattle.emit_measures.specs.bc_scheme.Context.{plain, stores, deletes, in_place}
use Rattle.emit_measures.specs.bc_scheme.Statements.{Around, deeper, StandsDef, bare, with_defaults, StandsS, «do», assign, aug_name, aug_attr, aug_index, delete, pass, «break», «continue», return_none, «return», reraise, raise, no_assert, no_assert_with, assert, assert_with, «import», from, «if», «while», «for», «try», finally, try_finally, def, StandsB, no_stmt, stmt, StandsI, «else», last_branch, branch, StandsX, «except», StandsH, no_clause, any, on, on_as}
use Rattle.emit_measures.specs.bc_scheme.Heights.{tall, tall_defaults, tall_stmt, tall_block, tall_branches, tall_handlers, at_level, held, held_in, held_by, held_of}
use Rattle.tr_source.specs.Widest.{widest, widest_of, widest_stmt, widest_block, widest_branches, widest_handlers}
use Rattle.tr_source.proofs.Base.{Setting, Safe, shape, safe_more, length-more}
use Rattle.tr_source.proofs.Parts.{Part, p_none, p_seq, p_weak, p_calm, Is, p_end, p_start}
use Rattle.tr_source.proofs.Steps.{p_straight, p_branch, p_jump, p_return, p_raise, p_setup, p_pop, p_end_finally, waiting, active, iters, calm_waiting, calm_active}
use Rattle.tr_source.proofs.Exprs.{Pushes, pushes_name, pushes_constant, tall_pos, Over, above, push, unary, binary, gather, e_part, es_part, above_count}
use Rattle.tr_source.proofs.Exprs as exprs
use Rattle.tr_source.proofs.Targets.{does_store, does_delete, t_part, a_part, gs_part, m_part, n_part, f_part, stored}
use Rattle.tr_source.proofs.Blocks.{Loop, Inside, loop_deeper, loop_own, safe_waiting, safe_active, inside_deeper, inside_own, Within, SPart, j_part, finally_part}

pub tall_handlers_pos : (level : ℕ) (hs : Handlers) → 1 ≤ tall_handlers level hs
tall_handlers_pos level NoHandler = omega arith
tall_handlers_pos level (Any line b) = omega arith
tall_handlers_pos level (On line e b hs) = omega arith
tall_handlers_pos level (OnAs line e n b hs) = omega arith

defaults_pos : (ds : Exprs) → 1 ≤ tall_defaults ds
defaults_pos NoExpr = omega arith
defaults_pos (More e es) = omega arith

module _ (g : Setting) (few_entries : g.code.n_exc ≤ 127) where
  seq : {es : List Entry} {P : List At → Type 0} {p m q : ℕ} {x y z : At} → Part g es P p x m y → Part g es P m y q z → Part g es P p x q z
  seq {es = es} {P = P} {p = p} {m = m} {q = q} {x = x} {y = y} {z = z} a b = p_seq g es P p m q x y z a b

  -- what needs the raises alone
  S : (r : Around) (bs ks : List Kind) (es : List Entry) {p q : ℕ} {x y : At} → Part g es (λ w. Safe w ks es) p x q y → Part g es (Within g few_entries r bs ks es) p x q y
  S r bs ks es a = p_weak g es _ _ _ _ _ _ (λ w s. s.safe) a

  def_part : (ks : List Kind) (es : List Entry) (held : length es ≤ g.code.n_exc) (line n p q : ℕ) (ds : Exprs) → StandsDef g.c line n p ds q → length ks + tall_defaults ds ≤ g.top → widest_of ds ≤ 255 → Over g es held ks p ks q (kinds.Value ∷ ks)
  unfolding instr_action op_action
  def_part ks es held line n p q ds (bare {i = i} s h) t w = push g es held ks p line _ (record { kind = kinds.Value; action = refl; below = same; own = (tt, zero-le, slice_get_within g.c.children i n s, zero-le) }) h t
  def_part ks es held line n p q ds (with_defaults {m = m} {i = i} {e = e} {es = others} s u h h1 h2) t w =
      let c = above_count (length ks) 0 g.top (More e others) (omega (arith, t)) (omega (arith, t)) in
      seq (seq (seq (es_part g es held ks (length ks) 0 line p m (More e others) u (omega arith) (omega (arith, t)) w)
      (exprs.from g es held _ _ (ap (λ z. z ++ ks) (append-nil (replicate (count (More e others)) kinds.Value))) (gather g es held (count (More e others)) [] [] ks m line _ (tt, zero-le, tt, zero-le) refl refl zero-le refl h (omega (arith, c)) (omega (arith, t)))))
      (p_straight g es (suc m) _ _ h1 (tt, zero-le, tt, zero-le) _ _ refl (kinds.Value ∷ []) ks (kinds.Null ∷ kinds.Value ∷ ks) refl zero-le (belows_refl _) (omega (arith, t)) (omega (arith, t)) held))
      (p_straight g es (suc (suc m)) _ _ h2 (tt, zero-le, slice_get_within g.c.children i n s, zero-le) _ _ refl (kinds.Null ∷ kinds.Value ∷ []) ks (kinds.Value ∷ ks) refl (omega arith) (belows_refl _) (omega (arith, t)) (omega (arith, t)) held)

  mutual
    unfolding instr_action op_action jump_action

    pub s_part : (r : Around) (bs ks : List Kind) (es : List Entry) (line p q : ℕ) (s : Stmt) → StandsS g.c r line p s q → Loop r bs ks es → length ks + tall_stmt g.c.level s ≤ g.top → length es + held s ≤ g.code.n_exc → widest_stmt g.c.level s ≤ 255
        → SPart g few_entries r bs ks es p q
    s_part r bs ks es line p q s («do» {m = m} {e = e} u h) l t c n =
        let k = tall_pos e in let hd : length es ≤ g.code.n_exc = omega (arith, c) in
        S r bs ks es (seq (e_part g es hd ks line p m e u t n) (p_straight g es m _ _ h (tt, zero-le, tt, zero-le) _ _ refl (kinds.Value ∷ []) ks ks refl (omega arith) (belows_refl ks) (omega (arith, t, k)) (omega (arith, t)) hd))
    s_part r bs ks es line p q s (assign {m = m} {ts = ts} {e = e} u v) l t c n =
        let hd : length es ≤ g.code.n_exc = omega (arith, c) in
        S r bs ks es (seq (e_part g es hd ks line p m e u (omega (arith, t)) (omega (arith, n))) (a_part g es hd ks line m q ts v (omega (arith, t)) (omega (arith, n))))
    s_part r bs ks es line p q s (aug_name {m = m} {n = x} {op = op} {e = e} h u h1 h2) l t c n =
        let k = tall_pos e in let hd : length es ≤ g.code.n_exc = omega (arith, c) in
        S r bs ks es (seq (seq (seq (push g es hd ks p line _ (pushes_name g x) h (omega (arith, t)))
        (above g es hd (kinds.Value ∷ []) ks (e_part g es hd (kinds.Value ∷ ks) line (suc p) m e u (omega (arith, t)) n)))
        (binary g es hd ks m line (in_place op) (tt, zero-le, tt, zero-le) refl h1 (omega (arith, t, k))))
        (stored g es hd ks (suc m) line _ (does_store g x) h2 (omega (arith, t))))
    s_part r bs ks es line p q s (aug_attr {m = m} {n = m1} {o = o} {op = op} {e = e} u h h1 v h2 h3 h4) l t c n =
        let k = tall_pos e in let hd : length es ≤ g.code.n_exc = omega (arith, c) in
        S r bs ks es (seq (seq (seq (seq (seq (seq (e_part g es hd ks line p m o u (omega (arith, t)) (omega (arith, n)))
        (p_straight g es m _ _ h (tt, zero-le, tt, zero-le) _ _ refl (kinds.Value ∷ []) ks (kinds.Value ∷ kinds.Value ∷ ks) refl (omega arith) (belows_refl _) (omega (arith, t, k)) (omega (arith, t, k)) hd))
        (p_straight g es (suc m) _ _ h1 (tt, zero-le, tt, zero-le) _ _ refl (kinds.Value ∷ kinds.Value ∷ []) ks (kinds.Value ∷ kinds.Value ∷ ks) refl (omega arith) (belows_refl _) (omega (arith, t, k)) (omega (arith, t, k)) hd))
        (above g es hd (kinds.Value ∷ kinds.Value ∷ []) ks (e_part g es hd (kinds.Value ∷ kinds.Value ∷ ks) line (suc (suc m)) m1 e v (omega (arith, t)) (omega (arith, n)))))
        (above g es hd (kinds.Value ∷ []) ks (binary g es hd (kinds.Value ∷ ks) m1 line (in_place op) (tt, zero-le, tt, zero-le) refl h2 (omega (arith, t, k)))))
        (p_straight g es (suc m1) _ _ h3 (tt, zero-le, tt, zero-le) _ _ refl (kinds.Value ∷ kinds.Value ∷ []) ks (kinds.Value ∷ kinds.Value ∷ ks) refl (omega arith) (belows_refl _) (omega (arith, t, k)) (omega (arith, t, k)) hd))
        (p_straight g es (suc (suc m1)) _ _ h4 (tt, zero-le, tt, zero-le) _ _ refl (kinds.Value ∷ kinds.Value ∷ []) ks ks refl (omega arith) (belows_refl _) (omega (arith, t, k)) (omega (arith, t)) hd))
    s_part r bs ks es line p q s (aug_index {k = k0} {m = m} {n = m1} {o = o} {i = i} {op = op} {e = e} u v h h1 x h2 h3 h4) l t c n =
        let k = tall_pos e in let hd : length es ≤ g.code.n_exc = omega (arith, c) in
        S r bs ks es (seq (seq (seq (seq (seq (seq (seq (e_part g es hd ks line p k0 o u (omega (arith, t)) (omega (arith, n)))
        (above g es hd (kinds.Value ∷ []) ks (e_part g es hd (kinds.Value ∷ ks) line k0 m i v (omega (arith, t)) (omega (arith, n)))))
        (p_straight g es m _ _ h (tt, zero-le, tt, zero-le) _ _ refl (kinds.Value ∷ kinds.Value ∷ []) ks (kinds.Value ∷ kinds.Value ∷ kinds.Value ∷ kinds.Value ∷ ks) refl (omega arith) (belows_refl _) (omega (arith, t)) (omega (arith, t)) hd))
        (above g es hd (kinds.Value ∷ kinds.Value ∷ []) ks (binary g es hd (kinds.Value ∷ kinds.Value ∷ ks) (suc m) line _ (tt, zero-le, tt, zero-le) refl h1 (omega (arith, t)))))
        (above g es hd (kinds.Value ∷ kinds.Value ∷ kinds.Value ∷ []) ks (e_part g es hd (kinds.Value ∷ kinds.Value ∷ kinds.Value ∷ ks) line (suc (suc m)) m1 e x (omega (arith, t)) (omega (arith, n)))))
        (above g es hd (kinds.Value ∷ kinds.Value ∷ []) ks (binary g es hd (kinds.Value ∷ kinds.Value ∷ ks) m1 line (in_place op) (tt, zero-le, tt, zero-le) refl h2 (omega (arith, t)))))
        (p_straight g es (suc m1) _ _ h3 (tt, zero-le, tt, zero-le) _ _ refl (kinds.Value ∷ kinds.Value ∷ kinds.Value ∷ []) ks (kinds.Value ∷ kinds.Value ∷ kinds.Value ∷ ks) refl (omega arith) (belows_refl _) (omega (arith, t)) (omega (arith, t)) hd))
        (p_straight g es (suc (suc m1)) _ _ h4 (tt, zero-le, tt, zero-le) _ _ refl (kinds.Value ∷ kinds.Value ∷ kinds.Value ∷ []) ks ks refl (omega arith) (belows_refl _) (omega (arith, t)) (omega (arith, t)) hd))
    s_part r bs ks es line p q s (delete {ts = ts} u) l t c n = S r bs ks es (gs_part g es (omega (arith, c)) ks line p q ts u t n)
    s_part r bs ks es line p q s pass l t c n = p_none g es _ p _
    s_part r bs ks es line p q s («break» u) l t c n =
        p_weak g es _ _ _ _ _ _ (λ w s. (s.safe, s.outer, s.brk)) (j_part g few_entries ks bs es line r.brk r.count r.iterator p q u l.few l.inner l.low (omega (arith, t)) (omega (arith, c)) (shape ks es))
    s_part r bs ks es line p q s («continue» u) l t c n =
        p_weak g es _ _ _ _ _ _ (λ w s. (s.safe, safe_more w (iters r.iterator) bs (drop r.count es) s.outer, s.cont))
        (j_part g few_entries ks (iters r.iterator ++ bs) es line r.cont r.count false p q u l.few l.inner (let a = length-more (iters r.iterator) bs in let b = l.low in omega (arith, a, b)) (omega (arith, t)) (omega (arith, c)) (shape ks es))
    s_part r bs ks es line p q s (return_none h h1) l t c n =
        let hd : length es ≤ g.code.n_exc = omega (arith, c) in
        S r bs ks es (seq (push g es hd ks p line _ (record { kind = kinds.Either; action = refl; below = value; own = (tt, zero-le, tt, zero-le) }) h (omega (arith, t))) (p_return g es (suc p) _ h1 ks (shape ks es) (omega (arith, t)) hd))
    s_part r bs ks es line p q s («return» {m = m} {e = e} u h) l t c n =
        let k = tall_pos e in let hd : length es ≤ g.code.n_exc = omega (arith, c) in
        S r bs ks es (seq (e_part g es hd ks line p m e u t n) (p_return g es m _ h ks (shape ks es) (omega (arith, t, k)) hd))
    s_part r bs ks es line p q s (reraise h) l t c n = S r bs ks es (p_raise g es p _ _ h (tt, zero-le, tt, zero-le) 0 refl [] ks (shape ks es) refl zero-le (omega (arith, t)) (omega (arith, c)))
    s_part r bs ks es line p q s (raise {m = m} {e = e} u h) l t c n =
        let k = tall_pos e in let hd : length es ≤ g.code.n_exc = omega (arith, c) in
        S r bs ks es (seq (e_part g es hd ks line p m e u t n) (p_raise g es m _ _ h (tt, zero-le, tt, zero-le) 1 refl (kinds.Value ∷ []) ks (shape ks es) refl (omega arith) (omega (arith, t, k)) hd))
    s_part r bs ks es line p q s (no_assert z) l t c n = p_none g es _ p _
    s_part r bs ks es line p q s (no_assert_with z) l t c n = p_none g es _ p _
    s_part r bs ks es line p q s (assert {m = m} {e = e} z u h h1 h2) l t c n =
        let k = tall_pos e in let hd : length es ≤ g.code.n_exc = omega (arith, c) in
        let t1 : length ks + tall e ≤ g.top = subst (λ v. length ks + at_level v (tall e) ≤ g.top) z t in
        let n1 : widest e ≤ 255 = subst (λ v. at_level v (widest e) ≤ 255) z n in
        p_end g es (Within g few_entries r bs ks es) p q _ _ (seq (seq (seq
        (p_weak g es _ _ _ _ _ _ (λ w s. s.0.safe) (e_part g es hd ks line p m e u t1 n1))
        (p_weak g es _ _ _ _ _ _ (λ w s. (s.0.safe, s.1)) (p_branch g es m _ ops.PopJumpIfTrue q h _ _ _ refl (kinds.Value ∷ []) ks ks ks refl (omega arith) (belows_refl ks) (belows_refl ks) (omega (arith, t1, k)) (omega (arith, t1)) (omega (arith, t1)) hd)))
        (p_weak g es _ _ _ _ _ _ (λ w s. s.0.safe) (push g es hd ks (suc m) line _ (record { kind = kinds.Value; action = refl; below = same; own = (tt, zero-le, tt, zero-le) }) h1 (omega (arith, t1, k)))))
        (p_weak g es _ _ _ _ _ _ (λ w s. s.0.safe) (p_raise g es (suc (suc m)) _ _ h2 (tt, zero-le, tt, zero-le) 1 refl (kinds.Value ∷ []) ks (shape ks es) refl (omega arith) (omega (arith, t1, k)) hd)))
    s_part r bs ks es line p q s (assert_with {m = m} {n = m1} {e = e} {x = x} z u h h1 v h2 h3) l t c n =
        let k = tall_pos x in let hd : length es ≤ g.code.n_exc = omega (arith, c) in
        let t1 : length ks + max (tall e) (1 + tall x) ≤ g.top = subst (λ v. length ks + at_level v (max (tall e) (1 + tall x)) ≤ g.top) z t in
        let n1 : max (widest e) (widest x) ≤ 255 = subst (λ v. at_level v (max (widest e) (widest x)) ≤ 255) z n in
        p_end g es (Within g few_entries r bs ks es) p q _ _ (seq (seq (seq (seq (seq
        (p_weak g es _ _ _ _ _ _ (λ w s. s.0.safe) (e_part g es hd ks line p m e u (omega (arith, t1)) (omega (arith, n1))))
        (p_weak g es _ _ _ _ _ _ (λ w s. (s.0.safe, s.1)) (p_branch g es m _ ops.PopJumpIfTrue q h _ _ _ refl (kinds.Value ∷ []) ks ks ks refl (omega arith) (belows_refl ks) (belows_refl ks) (omega (arith, t1)) (omega (arith, t1)) (omega (arith, t1)) hd)))
        (p_weak g es _ _ _ _ _ _ (λ w s. s.0.safe) (push g es hd ks (suc m) line _ (record { kind = kinds.Value; action = refl; below = same; own = (tt, zero-le, tt, zero-le) }) h1 (omega (arith, t1)))))
        (p_weak g es _ _ _ _ _ _ (λ w s. safe_more w (kinds.Value ∷ []) ks es s.0.safe) (e_part g es hd (kinds.Value ∷ ks) line (suc (suc m)) m1 x v (omega (arith, t1)) (omega (arith, n1)))))
        (p_weak g es _ _ _ _ _ _ (λ w s. s.0.safe) (binary g es hd ks m1 line _ (tt, zero-le, tt, zero-le) refl h2 (omega (arith, t1, k)))))
        (p_weak g es _ _ _ _ _ _ (λ w s. s.0.safe) (p_raise g es (suc m1) _ _ h3 (tt, zero-le, tt, zero-le) 1 refl (kinds.Value ∷ []) ks (shape ks es) refl (omega arith) (omega (arith, t1)) hd)))
    s_part r bs ks es line p q s («import» u) l t c n = S r bs ks es (m_part g es (omega (arith, c)) ks line p q _ u t (omega (arith, t)))
    s_part r bs ks es line p q s (from {m = m} {n = m1} {aliases = aliases} h u h1 h2 v h3) l t c n =
        let hd : length es ≤ g.code.n_exc = omega (arith, c) in
        S r bs ks es (seq (seq (seq (seq (seq
        (push g es hd ks p line _ (record { kind = kinds.Value; action = refl; below = same; own = (tt, zero-le, tt, zero-le) }) h (omega (arith, t)))
        (above g es hd (kinds.Value ∷ []) ks (n_part g es hd line (kinds.Value ∷ ks) (suc p) m aliases u (omega (arith, t)))))
        (above g es hd (kinds.Value ∷ []) ks (exprs.from g es hd _ _ (ap (λ z. z ++ (kinds.Value ∷ ks)) (append-nil (replicate (length aliases) kinds.Value))) (gather g es hd (length aliases) [] [] (kinds.Value ∷ ks) m line _ (tt, zero-le, tt, zero-le) refl refl zero-le refl h1 (omega (arith, t)) (omega (arith, t))))))
        (p_straight g es (suc m) _ _ h2 (tt, zero-le, tt, zero-le) _ _ refl (kinds.Value ∷ kinds.Value ∷ []) ks (kinds.Value ∷ ks) refl (omega arith) (belows_refl _) (omega (arith, t)) (omega (arith, t)) hd))
        (f_part g es hd ks line (suc (suc m)) m1 aliases v (omega (arith, t))))
        (p_straight g es m1 _ _ h3 (tt, zero-le, tt, zero-le) _ _ refl (kinds.Value ∷ []) ks ks refl (omega arith) (belows_refl _) (omega (arith, t)) (omega (arith, t)) hd))
    s_part r bs ks es line p q s («if» u) l t c n = p_end g es _ p q _ _ (i_part r bs ks es q p q _ u l t c n)
    s_part r bs ks es line p q s («while» {m = m} {j = j} {e = e} {b = b} {rest = rest} u h v h1 x) l t c n =
        let k = tall_pos e in let hd : length es ≤ g.code.n_exc = omega (arith, c) in
        let body = b_part (record { brk = q; cont = p; count = 0; iterator = false }) ks ks es (suc m) j b v (loop_own q p false ks es l.top) (omega (arith, t)) (omega (arith, c)) (omega (arith, n)) in
        p_end g es (Within g few_entries r bs ks es) p q _ _ (p_start g es _ p q _ _
        (seq (p_end g es _ p (suc j) (shape ks es) (shape ks es) (seq (seq (seq
        (p_weak g es _ _ _ _ _ _ (λ w s. s.0.0.0.safe) (e_part g es hd ks line p m e u (omega (arith, t)) (omega (arith, n))))
        (p_weak g es _ _ _ _ _ _ (λ w s. (s.0.0.0.safe, s.1)) (p_branch g es m _ ops.PopJumpIfFalse (suc j) h _ _ _ refl (kinds.Value ∷ []) ks ks ks refl (omega arith) (belows_refl ks) (belows_refl ks) (omega (arith, t, k)) (omega (arith, t)) (omega (arith, t)) hd)))
        (p_weak g es _ _ _ _ _ _ (λ w s. inside_own g w q p false ks es s.0.0.0.safe s.0.0.1 s.0.1) body))
        (p_weak g es _ _ _ _ _ _ (λ w s. (s.0.0.0.safe, s.0.1)) (p_jump g es j _ p h1 ks (shape ks es) (omega (arith, t)) hd))))
        (p_weak g es _ _ _ _ _ _ (λ w s. s.0.0) (b_part r bs ks es (suc j) q rest x l (omega (arith, t)) (omega (arith, c)) (omega (arith, n))))))
    s_part r bs ks es line p q s («for» {m = m} {n = m1} {j = j} {t = target} {e = e} {b = b} {rest = rest} u h h1 v x h2 y) l t c n =
        let k = tall_pos e in let hd : length es ≤ g.code.n_exc = omega (arith, c) in
        let its = kinds.Iter4 ∷ kinds.Iter3 ∷ kinds.Iter2 ∷ kinds.Iter1 ∷ ks in
        let body = b_part (record { brk = q; cont = suc m; count = 0; iterator = true }) ks its es m1 j b x (loop_own q (suc m) true ks es l.top) (omega (arith, t)) (omega (arith, c)) (omega (arith, n)) in
        p_end g es (Within g few_entries r bs ks es) p q _ _ (seq (seq
        (p_weak g es _ _ _ _ _ _ (λ w s. s.0.safe) (e_part g es hd ks line p m e u (omega (arith, t)) (omega (arith, n))))
        (p_weak g es _ _ _ _ _ _ (λ w s. s.0.safe) (p_straight g es m _ _ h (tt, zero-le, tt, zero-le) _ _ refl (kinds.Value ∷ []) ks its refl (omega arith) (belows_refl _) (omega (arith, t)) (omega (arith, t)) hd)))
        (p_start g es _ (suc m) q _ _
        (seq (p_end g es _ (suc m) (suc j) (shape its es) (shape ks es) (seq (seq (seq
        (p_weak g es _ _ _ _ _ _ (λ w s. (s.0.0.0.safe, s.1)) (p_branch g es (suc m) _ ops.ForIter (suc j) h1 _ _ _ refl (iters true) ks (kinds.Value ∷ its) ks refl (omega arith) (belows_refl _) (belows_refl ks) (omega (arith, t)) (omega (arith, t)) (omega (arith, t)) hd))
        (p_weak g es _ _ _ _ _ _ (λ w s. safe_more w (iters true) ks es s.0.0.0.safe) (t_part g es hd its line (suc (suc m)) m1 target v (omega (arith, t)) (omega (arith, n)))))
        (p_weak g es _ _ _ _ _ _ (λ w s. inside_own g w q (suc m) true ks es s.0.0.0.safe s.0.0.1 s.0.1) body))
        (p_weak g es _ _ _ _ _ _ (λ w s. (safe_more w (iters true) ks es s.0.0.0.safe, s.0.1)) (p_jump g es j _ (suc m) h2 its (shape ks es) (omega (arith, t)) hd))))
        (p_weak g es _ _ _ _ _ _ (λ w s. s.0.0) (b_part r bs ks es (suc j) q rest y l (omega (arith, t)) (omega (arith, c)) (omega (arith, n)))))))
    s_part r bs ks es line p q s («try» u) l t c n = x_part r bs ks es line p q _ _ _ u l t c n
    s_part r bs ks es line p q s (finally {j = j} {k = k} {b = b} {last = last} h u h1 v h2) l t c n =
        finally_part g few_entries r bs ks es p j k _ _ _ h h1 h2 (omega (arith, t)) (omega (arith, c))
        (b_part (deeper r) bs ks (waiting (suc j) true ks ∷ es) (suc p) j b u (loop_deeper r bs [] ks _ es refl l) (omega (arith, t)) (omega (arith, c)) (omega (arith, n)))
        (b_part (deeper r) bs (kinds.Cause ∷ ks) (active (suc j) true ks ∷ es) (suc j) k last v (loop_deeper r bs (kinds.Cause ∷ []) ks _ es refl l) (omega (arith, t)) (omega (arith, c)) (omega (arith, n)))
    s_part r bs ks es line p q s (try_finally {j = j} {k = k} {b = b} {rest = rest} {last = last} {hs = hs} h u h1 v h2) l t c n =
        finally_part g few_entries r bs ks es p j k _ _ _ h h1 h2 (omega (arith, t)) (omega (arith, c))
        (x_part (deeper r) bs ks (waiting (suc j) true ks ∷ es) line (suc p) j b hs rest u (loop_deeper r bs [] ks _ es refl l) (omega (arith, t)) (omega (arith, c)) (omega (arith, n)))
        (b_part (deeper r) bs (kinds.Cause ∷ ks) (active (suc j) true ks ∷ es) (suc j) k last v (loop_deeper r bs (kinds.Cause ∷ []) ks _ es refl l) (omega (arith, t)) (omega (arith, c)) (omega (arith, n)))
    s_part r bs ks es line p q s (def {m = m} {n = number_of} {x = x} {ds = ds} _ u h) l t c n =
        let hd : length es ≤ g.code.n_exc = omega (arith, c) in
        S r bs ks es (seq (def_part ks es hd line _ p m ds u t n) (stored g es hd ks m line _ (does_store g x) h (let a = defaults_pos ds in omega (arith, a, t))))

    pub b_part : (r : Around) (bs ks : List Kind) (es : List Entry) (p q : ℕ) (b : Block) → StandsB g.c r p b q → Loop r bs ks es → length ks + tall_block g.c.level b ≤ g.top → length es + held_in b ≤ g.code.n_exc → widest_block g.c.level b ≤ 255
        → SPart g few_entries r bs ks es p q
    b_part r bs ks es p q b no_stmt l t c n = p_none g es _ p _
    b_part r bs ks es p q b (stmt {m = m} {line = line} {s = s} {b = rest} u v) l t c n =
        seq (s_part r bs ks es line p m s u l (omega (arith, t)) (omega (arith, c)) (omega (arith, n))) (b_part r bs ks es m q rest v l (omega (arith, t)) (omega (arith, c)) (omega (arith, n)))

    pub i_part : (r : Around) (bs ks : List Kind) (es : List Entry) (end p q : ℕ) (branches : Branches) → StandsI g.c r end p branches q → Loop r bs ks es → length ks + tall_branches g.c.level branches ≤ g.top → length es + held_by branches ≤ g.code.n_exc
        → widest_branches g.c.level branches ≤ 255 → Part g es (λ w. Inside g w r bs ks es × Is g w end (shape ks es) es) p (shape ks es) q (shape ks es)
    i_part r bs ks es end p q branches («else» {b = b} u) l t c n = p_weak g es _ _ _ _ _ _ (λ w s. s.0) (b_part r bs ks es p q b u l t c n)
    i_part r bs ks es end p q branches (last_branch {m = m} {e = e} {b = b} u h v) l t c n =
        let k = tall_pos e in let hd : length es ≤ g.code.n_exc = omega (arith, c) in
        p_end g es _ p q (shape ks es) (shape ks es) (seq (seq
        (p_weak g es _ _ _ _ _ _ (λ w s. s.0.0.safe) (e_part g es hd ks _ p m e u (omega (arith, t)) (omega (arith, n))))
        (p_weak g es _ _ _ _ _ _ (λ w s. (s.0.0.safe, s.1)) (p_branch g es m _ ops.PopJumpIfFalse q h _ _ _ refl (kinds.Value ∷ []) ks ks ks refl (omega arith) (belows_refl ks) (belows_refl ks) (omega (arith, t, k)) (omega (arith, t)) (omega (arith, t)) hd)))
        (p_weak g es _ _ _ _ _ _ (λ w s. s.0.0) (b_part r bs ks es (suc m) q b v l (omega (arith, t)) (omega (arith, c)) (omega (arith, n)))))
    i_part r bs ks es end p q branches (branch {m = m} {j = j} {e = e} {b = b} {bs = others} o u h v h1 x) l t c n =
        let k = tall_pos e in let hd : length es ≤ g.code.n_exc = omega (arith, c) in
        seq (p_end g es _ p (suc j) (shape ks es) (shape ks es) (seq (seq (seq
        (p_weak g es _ _ _ _ _ _ (λ w s. s.0.0.safe) (e_part g es hd ks _ p m e u (omega (arith, t)) (omega (arith, n))))
        (p_weak g es _ _ _ _ _ _ (λ w s. (s.0.0.safe, s.1)) (p_branch g es m _ ops.PopJumpIfFalse (suc j) h _ _ _ refl (kinds.Value ∷ []) ks ks ks refl (omega arith) (belows_refl ks) (belows_refl ks) (omega (arith, t, k)) (omega (arith, t)) (omega (arith, t)) hd)))
        (p_weak g es _ _ _ _ _ _ (λ w s. s.0.0) (b_part r bs ks es (suc m) j b v l (omega (arith, t)) (omega (arith, c)) (omega (arith, n)))))
        (p_weak g es _ _ _ _ _ _ (λ w s. (s.0.0.safe, s.0.1)) (p_jump g es j _ end h1 ks (shape ks es) (omega (arith, t)) hd))))
        (i_part r bs ks es end (suc j) q others x l (omega (arith, t)) (omega (arith, c)) (omega (arith, n)))

    pub x_part : (r : Around) (bs ks : List Kind) (es : List Entry) (line p q : ℕ) (b : Block) (hs : Handlers) (rest : Block) → StandsX g.c r line p b hs rest q → Loop r bs ks es
        → length ks + max (tall_block g.c.level b) (max (tall_handlers g.c.level hs) (tall_block g.c.level rest)) ≤ g.top → length es + max (1 + max (held_in b) (held_of hs)) (held_in rest) ≤ g.code.n_exc
        → max (widest_block g.c.level b) (max (widest_handlers g.c.level hs) (widest_block g.c.level rest)) ≤ 255 → SPart g few_entries r bs ks es p q
    x_part r bs ks es line p q b hs rest («except» {j = j} {k = k} h u h1 v h2 x) l t c n =
        let hp = tall_handlers_pos g.c.level hs in
        let e = waiting (suc j) false ks in let f = active (suc j) false ks in
        let body = b_part (deeper r) bs ks (e ∷ es) (suc p) j b u (loop_deeper r bs [] ks e es refl l) (omega (arith, t)) (omega (arith, c)) (omega (arith, n)) in
        let lj = body.le in
        p_end g es (Within g few_entries r bs ks es) p q _ _ (seq
        (p_end g es _ p (suc k) (shape ks es) (shape ks es) (seq (seq
        (p_end g es _ p (suc j) (shape ks es) (shape (kinds.Either ∷ ks) (f ∷ es)) (seq (seq
        (p_weak g es _ _ _ _ _ _ (λ w s. (s.0.0.0.safe, s.1)) (p_setup g es p _ (suc j) ops.SetupExcept false h refl (omega (arith, lj)) ks (omega (arith, t)) (omega (arith, c)) (shape (kinds.Either ∷ ks) (f ∷ es))))
        (p_weak g es _ _ _ _ _ _ (λ w s. inside_deeper g w r bs ks [] e es (safe_waiting g w (suc j) false ks es s.0.0.0.safe s.1) s.0.0.0)
        (p_calm g es (e ∷ es) _ _ _ _ _ (λ z a d y. calm_waiting g z (suc j) false ks es (omega (arith, d)) y) body)))
        (p_weak g es _ _ _ _ _ _ (λ w s. (safe_waiting g w (suc j) false ks es s.0.0.0.safe s.1, s.0.1)) (p_pop g es es j _ (suc k) e h1 refl ks refl (shape (kinds.Either ∷ ks) (f ∷ es)) (omega (arith, t)) (omega (arith, c))))))
        (p_weak g es _ _ _ _ _ _ (λ w s. (inside_deeper g w r bs ks [] f es (safe_active w (suc j) false [] ks es s.0.0.safe) s.0.0, s.0.1))
        (p_calm g es (f ∷ es) _ _ _ _ _ (λ z a d y. calm_active g z (suc j) false ks es a y)
        (h_part (deeper r) bs ks es (suc j) q (suc j) k hs v (loop_deeper r bs [] ks f es refl l) (omega (arith, t)) (omega (arith, c)) (omega (arith, n))))))
        (p_weak g es _ _ _ _ _ _ (λ w s. safe_active w (suc j) false [] ks es s.0.0.safe) (p_end_finally g es k _ f h2 kinds.Either refl refl ks refl (omega (arith, t, hp)) (omega (arith, c))))))
        (p_weak g es _ _ _ _ _ _ (λ w s. s.0) (b_part r bs ks es (suc k) q rest x l (omega (arith, t)) (omega (arith, c)) (omega (arith, n)))))

    pub h_part : (r : Around) (bs ks : List Kind) (es : List Entry) (h0 end p q : ℕ) (hs : Handlers) → StandsH g.c r end p hs q → Loop r bs ks (active h0 false ks ∷ es) → length ks + tall_handlers g.c.level hs ≤ g.top
        → suc (length es) + held_of hs ≤ g.code.n_exc → widest_handlers g.c.level hs ≤ 255
        → Part g (active h0 false ks ∷ es) (λ w. Inside g w r bs ks (active h0 false ks ∷ es) × Is g w end (shape ks es) es) p (shape (kinds.Either ∷ ks) (active h0 false ks ∷ es)) q (shape (kinds.Either ∷ ks) (active h0 false ks ∷ es))
    h_part r bs ks es h0 end p q hs no_clause l t c n = p_none g _ _ p _
    h_part r bs ks es h0 end p q hs (any {m = m} {b = b} h u h1) l t c n =
        let f = active h0 false ks in let hd : suc (length es) ≤ g.code.n_exc = omega (arith, c) in
        seq (seq
        (p_weak g (f ∷ es) _ _ _ _ _ _ (λ w s. s.0.safe) (p_straight g (f ∷ es) p _ _ h (tt, zero-le, tt, zero-le) _ _ refl (kinds.Either ∷ []) ks ks refl (omega arith) (belows_refl _) (omega (arith, t)) (omega (arith, t)) hd))
        (p_weak g (f ∷ es) _ _ _ _ _ _ (λ w s. s.0) (b_part r bs ks (f ∷ es) (suc p) m b u l (omega (arith, t)) (omega (arith, c)) n)))
        (p_weak g (f ∷ es) _ _ _ _ _ _ (λ w s. (s.0.safe, s.1)) (p_pop g (f ∷ es) es m _ end f h1 refl ks refl (shape (kinds.Either ∷ ks) (f ∷ es)) (omega (arith, t)) hd))
    h_part r bs ks es h0 end p q hs (on {m = m} {j = j} {e = e} {b = b} {hs = others} h u h1 h2 h3 v h4 x) l t c n =
        let f = active h0 false ks in let hd : suc (length es) ≤ g.code.n_exc = omega (arith, c) in let k = tall_pos e in
        seq (p_end g (f ∷ es) _ p (suc j) (shape (kinds.Either ∷ ks) (f ∷ es)) (shape (kinds.Either ∷ ks) (f ∷ es)) (seq (seq (seq (seq (seq (seq
        (p_weak g (f ∷ es) _ _ _ _ _ _ (λ w s. s.0.0.safe) (p_straight g (f ∷ es) p _ _ h (tt, zero-le, tt, zero-le) _ _ refl (kinds.Either ∷ []) ks (kinds.Either ∷ kinds.Either ∷ ks) refl (omega arith) (belows_refl _) (omega (arith, t)) (omega (arith, t)) hd))
        (p_weak g (f ∷ es) _ _ _ _ _ _ (λ w s. safe_more w (kinds.Either ∷ kinds.Either ∷ []) ks (f ∷ es) s.0.0.safe) (e_part g (f ∷ es) hd (kinds.Either ∷ kinds.Either ∷ ks) _ (suc p) m e u (omega (arith, t)) (omega (arith, n)))))
        (p_weak g (f ∷ es) _ _ _ _ _ _ (λ w s. safe_more w (kinds.Either ∷ []) ks (f ∷ es) s.0.0.safe) (p_straight g (f ∷ es) m _ _ h1 (tt, zero-le, tt, zero-le) _ _ refl (kinds.Value ∷ kinds.Either ∷ []) (kinds.Either ∷ ks) (kinds.Value ∷ kinds.Either ∷ ks) refl (omega arith) (belows_refl _) (omega (arith, t, k)) (omega (arith, t)) hd)))
        (p_weak g (f ∷ es) _ _ _ _ _ _ (λ w s. (safe_more w (kinds.Either ∷ []) ks (f ∷ es) s.0.0.safe, s.1)) (p_branch g (f ∷ es) (suc m) _ ops.PopJumpIfFalse (suc j) h2 _ _ _ refl (kinds.Value ∷ []) (kinds.Either ∷ ks) (kinds.Either ∷ ks) (kinds.Either ∷ ks) refl (omega arith) (belows_refl _) (belows_refl _) (omega (arith, t)) (omega (arith, t)) (omega (arith, t)) hd)))
        (p_weak g (f ∷ es) _ _ _ _ _ _ (λ w s. s.0.0.safe) (p_straight g (f ∷ es) (suc (suc m)) _ _ h3 (tt, zero-le, tt, zero-le) _ _ refl (kinds.Either ∷ []) ks ks refl (omega arith) (belows_refl _) (omega (arith, t)) (omega (arith, t)) hd)))
        (p_weak g (f ∷ es) _ _ _ _ _ _ (λ w s. s.0.0) (b_part r bs ks (f ∷ es) (suc (suc (suc m))) j b v l (omega (arith, t)) (omega (arith, c)) (omega (arith, n)))))
        (p_weak g (f ∷ es) _ _ _ _ _ _ (λ w s. (s.0.0.safe, s.0.1)) (p_pop g (f ∷ es) es j _ end f h4 refl ks refl (shape (kinds.Either ∷ ks) (f ∷ es)) (omega (arith, t)) hd))))
        (h_part r bs ks es h0 end (suc j) q others x l (omega (arith, t)) (omega (arith, c)) (omega (arith, n)))
    h_part r bs ks es h0 end p q hs (on_as {m = m} {j = j} {e = e} {x = x} {b = b} {hs = others} h u h1 h2 h3 h4 v h5 h6 h7 h8 h9 h10 y) l t c n =
        let f = active h0 false ks in let hd : suc (length es) ≤ g.code.n_exc = omega (arith, c) in let k = tall_pos e in
        let fs = active (suc j) true ks ∷ f ∷ es in let hd2 : suc (suc (length es)) ≤ g.code.n_exc = omega (arith, c) in
        let d1 = does_store g x in let d2 = does_delete g x in
        let behind = suc (suc (suc (suc (suc (suc j))))) in
        let last = p_weak g fs _ (Within g few_entries (deeper r) bs (kinds.Cause ∷ ks) fs) _ _ _ _ (λ w s. s.safe) (seq (seq
        (p_straight g fs (suc j) _ (plain ops.LoadConstNone) h6 (tt, zero-le, tt, zero-le) [] (New kinds.Either ∷ []) refl [] (kinds.Cause ∷ ks) (kinds.Value ∷ kinds.Cause ∷ ks) refl zero-le (also value (belows_refl _)) (omega (arith, t)) (omega (arith, t, k)) hd2)
        (p_straight g fs (suc (suc j)) _ (stores g.c x) h7 d1.own _ _ d1.action (kinds.Value ∷ []) (kinds.Cause ∷ ks) (kinds.Cause ∷ ks) refl (omega arith) (belows_refl _) (omega (arith, t, k)) (omega (arith, t)) hd2))
        (p_straight g fs (suc (suc (suc j))) _ (deletes g.c x) h8 d2.own _ _ d2.action [] (kinds.Cause ∷ ks) (kinds.Cause ∷ ks) refl zero-le (belows_refl _) (omega (arith, t)) (omega (arith, t)) hd2)) in
        seq (p_end g (f ∷ es) _ p behind (shape (kinds.Either ∷ ks) (f ∷ es)) (shape (kinds.Either ∷ ks) (f ∷ es)) (seq (seq (seq (seq (seq (seq
        (p_weak g (f ∷ es) _ _ _ _ _ _ (λ w s. s.0.0.safe) (p_straight g (f ∷ es) p _ _ h (tt, zero-le, tt, zero-le) _ _ refl (kinds.Either ∷ []) ks (kinds.Either ∷ kinds.Either ∷ ks) refl (omega arith) (belows_refl _) (omega (arith, t)) (omega (arith, t)) hd))
        (p_weak g (f ∷ es) _ _ _ _ _ _ (λ w s. safe_more w (kinds.Either ∷ kinds.Either ∷ []) ks (f ∷ es) s.0.0.safe) (e_part g (f ∷ es) hd (kinds.Either ∷ kinds.Either ∷ ks) _ (suc p) m e u (omega (arith, t)) (omega (arith, n)))))
        (p_weak g (f ∷ es) _ _ _ _ _ _ (λ w s. safe_more w (kinds.Either ∷ []) ks (f ∷ es) s.0.0.safe) (p_straight g (f ∷ es) m _ _ h1 (tt, zero-le, tt, zero-le) _ _ refl (kinds.Value ∷ kinds.Either ∷ []) (kinds.Either ∷ ks) (kinds.Value ∷ kinds.Either ∷ ks) refl (omega arith) (belows_refl _) (omega (arith, t, k)) (omega (arith, t)) hd)))
        (p_weak g (f ∷ es) _ _ _ _ _ _ (λ w s. (safe_more w (kinds.Either ∷ []) ks (f ∷ es) s.0.0.safe, s.1)) (p_branch g (f ∷ es) (suc m) _ ops.PopJumpIfFalse behind h2 _ _ _ refl (kinds.Value ∷ []) (kinds.Either ∷ ks) (kinds.Either ∷ ks) (kinds.Either ∷ ks) refl (omega arith) (belows_refl _) (belows_refl _) (omega (arith, t)) (omega (arith, t)) (omega (arith, t)) hd)))
        (p_weak g (f ∷ es) _ _ _ _ _ _ (λ w s. s.0.0.safe) (p_straight g (f ∷ es) (suc (suc m)) _ _ h3 d1.own _ _ d1.action (kinds.Either ∷ []) ks ks refl (omega arith) (belows_refl _) (omega (arith, t)) (omega (arith, t)) hd)))
        (p_weak g (f ∷ es) _ _ _ _ _ _ (λ w s. s.0.0) (finally_part g few_entries r bs ks (f ∷ es) (suc (suc (suc m))) j (suc (suc (suc (suc j)))) _ _ _ h4 h5 h9 (omega (arith, t)) hd2
        (b_part (deeper r) bs ks (waiting (suc j) true ks ∷ f ∷ es) (suc (suc (suc (suc m)))) j b v (loop_deeper r bs [] ks _ (f ∷ es) refl l) (omega (arith, t)) (omega (arith, c)) (omega (arith, n))) last)))
        (p_weak g (f ∷ es) _ _ _ _ _ _ (λ w s. (s.0.0.safe, s.0.1)) (p_pop g (f ∷ es) es (suc (suc (suc (suc (suc j))))) _ end f h10 refl ks refl (shape (kinds.Either ∷ ks) (f ∷ es)) (omega (arith, t)) hd))))
        (h_part r bs ks es h0 end behind q others y l (omega (arith, t)) (omega (arith, c)) (omega (arith, n)))
