-- A tree has one code at most: two derivations end at the same positions, and say the same lines.
use Rattle.std.proofs.Common.{◌≡◌, ℕ, suc, ◌+◌, Bool, true, false, List, Some, refl, sym, ap, ap₂, ◌∙◌, arith, slice_get}
use Rattle.std.proofs.lemmas.Bool.{false≢true, true≢false}
use Rattle.emit_measures.specs.bc_scheme.bc_ops.declared.instr.Op.{Op}
use Rattle.emit_measures.specs.bc_scheme.bc_ops.declared.instr.Op.TheVariants as ops
use Rattle.py_meaning.specs.py_tree.declared.expr.CompareOp.{CompareOp}
use Rattle.py_meaning.specs.py_tree.declared.stmt.Alias.{Alias}
use Rattle.emit_measures.specs.bc_scheme.py_meaning.Tree.{Name, Expr, Exprs, Links, Pairs, Keys, Target, Targets, Stmt, Block, Branches, Handlers}
use Rattle.emit_measures.specs.bc_scheme.bc_machine.Library.{Item, Line, Code, Jumps, Unwinds}
use Rattle.emit_measures.specs.bc_scheme.Context.{Context, Behind, number}
use Rattle.emit_measures.specs.bc_scheme.Expressions.{StandsC, StandsE, StandsEs, StandsO, StandsL, StandsD, StandsK, straight, negated, literal, name, one, «not», two, «and», «or», compare, chain, cond, tuple, items, dict, attr, index, call, method, no_expr, next, no_operand, operand, last, link, no_pair, pair, no_key, key}
use Rattle.emit_measures.specs.bc_scheme.Statements.{Around, deeper, top_bit, StandsT, StandsTs, StandsA, StandsG, StandsGs, StandsR, StandsM, StandsN, StandsF, StandsJ, StandsDef, StandsS, StandsB, StandsI, StandsX, StandsH, to_name, to_attr, to_index, to_each, one_store, next_store, one_assign, next_assign, gone_name, gone_index, one_gone, next_gone, no_part, part, no_import, imported, no_text, text, no_name, taken, jumped, popped, unwound, bare, with_defaults, «do», assign, aug_name, aug_attr, aug_index, delete, pass, «break», «continue», return_none, «return», reraise, raise, no_assert, no_assert_with, assert, assert_with, «import», from, «if», «while», «for», «try», finally, try_finally, def, no_stmt, stmt, «else», last_branch, branch, «except», no_clause, any, on, on_as}
use Rattle.tr_source.proofs.Same.{other, Distinct, own_path}
use Rattle.tr_source.proofs.Same as same

module _ (c : Context) (ls : List Line) (cs : List Code) (distinct : Distinct c) where
  abbrev Same : ℕ → Type 0
  Same n = same.Same c ls cs distinct n

  same_has : {n p p2 : ℕ} {item item2 : Item} → p2 ≡ p → Same p → item2 ≡ item → slice_get c.lines p ≡ Some (record { item = item; line = n }) → slice_get ls p2 ≡ Some (record { item = item2; line = n }) → Same (suc p)
  same_has ep sp e h u = same.same_has c ls cs distinct ep sp e h u

  same_behind : {p p2 : ℕ} {item item2 : Item} → p2 ≡ p → Same p → item2 ≡ item → Behind c p item → Behind (other c ls cs) p2 item2 → Same (suc p)
  same_behind ep sp e h u = same.same_behind c ls cs distinct ep sp e h u

  pub end_c : {line p p2 q q2 : ℕ} {x1 : CompareOp} → p2 ≡ p → StandsC c line p x1 q → StandsC (other c ls cs) line p2 x1 q2 → q2 ≡ q
  end_c ep (straight d0 d1) (straight u0 u1) = (ap suc ep)
  end_c ep (negated d0 d1 d2) (negated u0 u1 u2) = (ap suc (ap suc ep))
  end_c ep (straight a _) (negated b _ _) = absurd (false≢true (sym a ∙ b))
  end_c ep (negated a _ _) (straight b _) = absurd (false≢true (sym b ∙ a))

  mutual
    pub end_e : {line p p2 q q2 : ℕ} {x1 : Expr} → p2 ≡ p → StandsE c line p x1 q → StandsE (other c ls cs) line p2 x1 q2 → q2 ≡ q
    end_e ep (literal d0) (literal u0) = (ap suc ep)
    end_e ep (name d0) (name u0) = (ap suc ep)
    end_e ep (one d0 d1) (one u0 u1) = let e_m = end_e ep d0 u0 in (ap suc e_m)
    end_e ep («not» d0 d1) («not» u0 u1) = let e_m = end_e ep d0 u0 in (ap suc e_m)
    end_e ep (two d0 d1 d2) (two u0 u1 u2) = let e_m = end_e ep d0 u0 in let e_n = end_e e_m d1 u1 in (ap suc e_n)
    end_e ep («and» d0 d1) («and» u0 u1) = let e_m = end_e ep d0 u0 in let e_q = end_o e_m d1 u1 in e_q
    end_e ep («or» d0 d1) («or» u0 u1) = let e_m = end_e ep d0 u0 in let e_q = end_o e_m d1 u1 in e_q
    end_e ep (compare d0 d1 d2) (compare u0 u1 u2) = let e_m = end_e ep d0 u0 in let e_n = end_e e_m d1 u1 in let e_q = end_c e_n d2 u2 in e_q
    end_e ep (chain d0 d1 d2 d3 d4) (chain u0 u1 u2 u3 u4) = let e_m = end_e ep d0 u0 in let e_n = end_l e_m d1 u1 in (ap suc (ap suc (ap suc e_n)))
    end_e ep (cond d0 d1 d2 d3 d4) (cond u0 u1 u2 u3 u4) = let e_m = end_e ep d0 u0 in let e_n = end_e (ap suc e_m) d2 u2 in let e_q = end_e (ap suc e_n) d4 u4 in e_q
    end_e ep (tuple d0 d1) (tuple u0 u1) = let e_m = end_es ep d0 u0 in (ap suc e_m)
    end_e ep (items d0 d1) (items u0 u1) = let e_m = end_es ep d0 u0 in (ap suc e_m)
    end_e ep (dict d0 d1) (dict u0 u1) = let e_q = end_d (ap suc ep) d1 u1 in e_q
    end_e ep (attr d0 d1) (attr u0 u1) = let e_m = end_e ep d0 u0 in (ap suc e_m)
    end_e ep (index d0 d1 d2) (index u0 u1 u2) = let e_m = end_e ep d0 u0 in let e_n = end_e e_m d1 u1 in (ap suc e_n)
    end_e ep (call _ d0 d1 d2 d3) (call _ u0 u1 u2 u3) = let e_m = end_e ep d0 u0 in let e_n = end_es e_m d1 u1 in let e_k = end_k e_n d2 u2 in (ap suc e_k)
    end_e ep (method _ d0 d1 d2 d3 d4) (method _ u0 u1 u2 u3 u4) = let e_m = end_e ep d0 u0 in let e_n = end_es (ap suc e_m) d2 u2 in let e_k = end_k e_n d3 u3 in (ap suc e_k)

    pub end_es : {line p p2 q q2 : ℕ} {x1 : Exprs} → p2 ≡ p → StandsEs c line p x1 q → StandsEs (other c ls cs) line p2 x1 q2 → q2 ≡ q
    end_es ep no_expr no_expr = ep
    end_es ep (next d0 d1) (next u0 u1) = let e_m = end_e ep d0 u0 in let e_q = end_es e_m d1 u1 in e_q

    pub end_o : {line l l2 p p2 q q2 : ℕ} {x1 : Op} {x2 : Exprs} → p2 ≡ p → StandsO c line x1 l p x2 q → StandsO (other c ls cs) line x1 l2 p2 x2 q2 → q2 ≡ q
    end_o ep no_operand no_operand = ep
    end_o ep (operand {op = op} d0 d1 d2) (operand u0 u1 u2) = let e_m = end_e (ap suc ep) d1 u1 in let e_q = end_o e_m d2 u2 in e_q

    pub end_l : {line l l2 p p2 q q2 : ℕ} {x1 : Links} → p2 ≡ p → StandsL c line l p x1 q → StandsL (other c ls cs) line l2 p2 x1 q2 → q2 ≡ q
    end_l ep (last d0 d1) (last u0 u1) = let e_m = end_e ep d0 u0 in let e_q = end_c e_m d1 u1 in e_q
    end_l ep (link d0 d1 d2 d3 d4 d5) (link u0 u1 u2 u3 u4 u5) = let e_m = end_e ep d0 u0 in let e_n = end_c (ap suc (ap suc e_m)) d3 u3 in let e_q = end_l (ap suc e_n) d5 u5 in e_q

    pub end_d : {line p p2 q q2 : ℕ} {x1 : Pairs} → p2 ≡ p → StandsD c line p x1 q → StandsD (other c ls cs) line p2 x1 q2 → q2 ≡ q
    end_d ep no_pair no_pair = ep
    end_d ep (pair d0 d1 d2 d3) (pair u0 u1 u2 u3) = let e_m = end_e ep d0 u0 in let e_n = end_e e_m d1 u1 in let e_q = end_d (ap suc e_n) d3 u3 in e_q

    pub end_k : {line p p2 q q2 : ℕ} {x1 : Keys} → p2 ≡ p → StandsK c line p x1 q → StandsK (other c ls cs) line p2 x1 q2 → q2 ≡ q
    end_k ep no_key no_key = ep
    end_k ep (key d0 d1 d2) (key u0 u1 u2) = let e_m = end_e (ap suc ep) d1 u1 in let e_q = end_k e_m d2 u2 in e_q

  mutual
    pub end_t : {line p p2 q q2 : ℕ} {x1 : Target} → p2 ≡ p → StandsT c line p x1 q → StandsT (other c ls cs) line p2 x1 q2 → q2 ≡ q
    end_t ep (to_name d0) (to_name u0) = (ap suc ep)
    end_t ep (to_attr d0 d1) (to_attr u0 u1) = let e_m = end_e ep d0 u0 in (ap suc e_m)
    end_t ep (to_index d0 d1 d2) (to_index u0 u1 u2) = let e_m = end_e ep d0 u0 in let e_n = end_e e_m d1 u1 in (ap suc e_n)
    end_t ep (to_each d0 d1) (to_each u0 u1) = let e_q = end_ts (ap suc ep) d1 u1 in e_q

    pub end_ts : {line p p2 q q2 : ℕ} {x1 : Targets} → p2 ≡ p → StandsTs c line p x1 q → StandsTs (other c ls cs) line p2 x1 q2 → q2 ≡ q
    end_ts ep (one_store d0) (one_store u0) = let e_q = end_t ep d0 u0 in e_q
    end_ts ep (next_store d0 d1) (next_store u0 u1) = let e_m = end_t ep d0 u0 in let e_q = end_ts e_m d1 u1 in e_q

  pub end_a : {line p p2 q q2 : ℕ} {x1 : Targets} → p2 ≡ p → StandsA c line p x1 q → StandsA (other c ls cs) line p2 x1 q2 → q2 ≡ q
  end_a ep (one_assign d0) (one_assign u0) = let e_q = end_t ep d0 u0 in e_q
  end_a ep (next_assign d0 d1 d2) (next_assign u0 u1 u2) = let e_m = end_t (ap suc ep) d1 u1 in let e_q = end_a e_m d2 u2 in e_q

  pub end_g : {line p p2 q q2 : ℕ} {x1 : Target} → p2 ≡ p → StandsG c line p x1 q → StandsG (other c ls cs) line p2 x1 q2 → q2 ≡ q
  end_g ep (gone_name d0) (gone_name u0) = (ap suc ep)
  end_g ep (gone_index d0 d1 d2 d3 d4) (gone_index u0 u1 u2 u3 u4) = let e_m = end_e ep d0 u0 in let e_n = end_e e_m d1 u1 in (ap suc (ap suc (ap suc e_n)))

  pub end_gs : {line p p2 q q2 : ℕ} {x1 : Targets} → p2 ≡ p → StandsGs c line p x1 q → StandsGs (other c ls cs) line p2 x1 q2 → q2 ≡ q
  end_gs ep (one_gone d0) (one_gone u0) = let e_q = end_g ep d0 u0 in e_q
  end_gs ep (next_gone d0 d1) (next_gone u0 u1) = let e_m = end_g ep d0 u0 in let e_q = end_gs e_m d1 u1 in e_q

  pub end_r : {line p p2 q q2 : ℕ} {x1 : List Name} → p2 ≡ p → StandsR c line p x1 q → StandsR (other c ls cs) line p2 x1 q2 → q2 ≡ q
  end_r ep no_part no_part = ep
  end_r ep (part d0 d1) (part u0 u1) = let e_q = end_r (ap suc ep) d1 u1 in e_q

  pub end_m : {line p p2 q q2 : ℕ} {x1 : List Alias} → p2 ≡ p → StandsM c line p x1 q → StandsM (other c ls cs) line p2 x1 q2 → q2 ≡ q
  end_m ep no_import no_import = ep
  end_m ep (imported d0 d1 d2 d3 d4 d5) (imported u0 u1 u2 u3 u4 u5) = let e_m = end_r (ap suc (ap suc (ap suc ep))) d3 u3 in let e_q = end_m (ap suc e_m) d5 u5 in e_q

  pub end_n : {line p p2 q q2 : ℕ} {x1 : List Alias} → p2 ≡ p → StandsN c line p x1 q → StandsN (other c ls cs) line p2 x1 q2 → q2 ≡ q
  end_n ep no_text no_text = ep
  end_n ep (text d0 d1) (text u0 u1) = let e_q = end_n (ap suc ep) d1 u1 in e_q

  pub end_f : {line p p2 q q2 : ℕ} {x1 : List Alias} → p2 ≡ p → StandsF c line p x1 q → StandsF (other c ls cs) line p2 x1 q2 → q2 ≡ q
  end_f ep no_name no_name = ep
  end_f ep (taken d0 d1 d2) (taken u0 u1 u2) = let e_q = end_f (ap suc (ap suc ep)) d2 u2 in e_q

  pub end_j : {line t t2 k k2 p p2 q q2 : ℕ} {it it2 : Bool} → k2 ≡ k → it2 ≡ it → p2 ≡ p → StandsJ c line t k it p q → StandsJ (other c ls cs) line t2 k2 it2 p2 q2 → q2 ≡ q
  end_j ek ei ep (jumped h) (jumped h1) = ap suc ep
  end_j ek ei ep (jumped h) (popped h1 h2 h3 h4 h5) = absurd (true≢false ei)
  end_j ek ei ep (jumped h) (unwound _ h1) = absurd (omega (arith, ek))
  end_j ek ei ep (popped h h2 h3 h4 h5) (jumped h1) = absurd (false≢true ei)
  end_j ek ei ep (popped h h2 h3 h4 h5) (popped h1 h7 h8 h9 h10) = ap suc (ap suc (ap suc (ap suc (ap suc ep))))
  end_j ek ei ep (popped h h2 h3 h4 h5) (unwound _ h1) = absurd (omega (arith, ek))
  end_j ek ei ep (unwound _ h) (jumped h1) = absurd (omega (arith, ek))
  end_j ek ei ep (unwound _ h) (popped h1 h2 h3 h4 h5) = absurd (omega (arith, ek))
  end_j ek ei ep (unwound _ h) (unwound _ h1) = ap suc ep

  pub end_def : {line number p p2 q q2 : ℕ} {x1 : Exprs} → p2 ≡ p → StandsDef c line number p x1 q → StandsDef (other c ls cs) line number p2 x1 q2 → q2 ≡ q
  end_def ep (bare d0 d1) (bare u0 u1) = (ap suc ep)
  end_def ep (with_defaults d0 d1 d2 d3 d4) (with_defaults u0 u1 u2 u3 u4) = let e_m = end_es ep d1 u1 in (ap suc (ap suc (ap suc e_m)))

  mutual
    pub end_s : {p p2 q q2 : ℕ} {a a2 : Around} {x1 : ℕ} {x2 : Stmt} → a2.count ≡ a.count → a2.iterator ≡ a.iterator → p2 ≡ p → StandsS c a x1 p x2 q → StandsS (other c ls cs) a2 x1 p2 x2 q2 → q2 ≡ q
    end_s ec ei ep («do» d0 d1) («do» u0 u1) = let e_m = end_e ep d0 u0 in (ap suc e_m)
    end_s ec ei ep (assign d0 d1) (assign u0 u1) = let e_m = end_e ep d0 u0 in let e_q = end_a e_m d1 u1 in e_q
    end_s ec ei ep (aug_name d0 d1 d2 d3) (aug_name u0 u1 u2 u3) = let e_m = end_e (ap suc ep) d1 u1 in (ap suc (ap suc e_m))
    end_s ec ei ep (aug_attr d0 d1 d2 d3 d4 d5 d6) (aug_attr u0 u1 u2 u3 u4 u5 u6) = let e_m = end_e ep d0 u0 in let e_n = end_e (ap suc (ap suc e_m)) d3 u3 in (ap suc (ap suc (ap suc e_n)))
    end_s ec ei ep (aug_index d0 d1 d2 d3 d4 d5 d6 d7) (aug_index u0 u1 u2 u3 u4 u5 u6 u7) = let e_k = end_e ep d0 u0 in let e_m = end_e e_k d1 u1 in let e_n = end_e (ap suc (ap suc e_m)) d4 u4 in (ap suc (ap suc (ap suc e_n)))
    end_s ec ei ep (delete d0) (delete u0) = let e_q = end_gs ep d0 u0 in e_q
    end_s ec ei ep pass pass = ep
    end_s ec ei ep («break» d0) («break» u0) = let eq = end_j ec ei ep d0 u0 in eq
    end_s ec ei ep («continue» d0) («continue» u0) = let eq = end_j ec refl ep d0 u0 in eq
    end_s ec ei ep (return_none d0 d1) (return_none u0 u1) = (ap suc (ap suc ep))
    end_s ec ei ep («return» d0 d1) («return» u0 u1) = let e_m = end_e ep d0 u0 in (ap suc e_m)
    end_s ec ei ep (reraise d0) (reraise u0) = (ap suc ep)
    end_s ec ei ep (raise d0 d1) (raise u0 u1) = let e_m = end_e ep d0 u0 in (ap suc e_m)
    end_s ec ei ep (no_assert d0) (no_assert u0) = ep
    end_s ec ei ep (no_assert_with d0) (no_assert_with u0) = ep
    end_s ec ei ep (assert d0 d1 d2 d3 d4) (assert u0 u1 u2 u3 u4) = let e_m = end_e ep d1 u1 in (ap suc (ap suc (ap suc e_m)))
    end_s ec ei ep (assert_with d0 d1 d2 d3 d4 d5 d6) (assert_with u0 u1 u2 u3 u4 u5 u6) = let e_m = end_e ep d1 u1 in let e_n = end_e (ap suc (ap suc e_m)) d4 u4 in (ap suc (ap suc e_n))
    end_s ec ei ep («import» d0) («import» u0) = let e_q = end_m ep d0 u0 in e_q
    end_s ec ei ep (from d0 d1 d2 d3 d4 d5) (from u0 u1 u2 u3 u4 u5) = let e_m = end_n (ap suc ep) d1 u1 in let e_n = end_f (ap suc (ap suc e_m)) d4 u4 in (ap suc e_n)
    end_s ec ei ep («if» d0) («if» u0) = let e_q = end_i ec ei ep d0 u0 in e_q
    end_s ec ei ep («while» d0 d1 d2 d3 d4) («while» u0 u1 u2 u3 u4) = let e_m = end_e ep d0 u0 in let e_j = end_b refl refl (ap suc e_m) d2 u2 in let e_q = end_b ec ei (ap suc e_j) d4 u4 in e_q
    end_s ec ei ep («for» d0 d1 d2 d3 d4 d5 d6) («for» u0 u1 u2 u3 u4 u5 u6) = let e_m = end_e ep d0 u0 in let e_n = end_t (ap suc (ap suc e_m)) d3 u3 in let e_j = end_b refl refl e_n d4 u4 in let e_q = end_b ec ei (ap suc e_j) d6 u6 in e_q
    end_s ec ei ep («try» d0) («try» u0) = let e_q = end_x ec ei ep d0 u0 in e_q
    end_s ec ei ep (finally d0 d1 d2 d3 d4) (finally u0 u1 u2 u3 u4) = let e_j = end_b (ap suc ec) ei (ap suc ep) d1 u1 in let e_k = end_b (ap suc ec) ei (ap suc e_j) d3 u3 in (ap suc e_k)
    end_s ec ei ep (try_finally d0 d1 d2 d3 d4) (try_finally u0 u1 u2 u3 u4) = let e_j = end_x (ap suc ec) ei (ap suc ep) d1 u1 in let e_k = end_b (ap suc ec) ei (ap suc e_j) d3 u3 in (ap suc e_k)
    end_s ec ei ep (def _ d0 d1) (def _ u0 u1) = let e_m = end_def ep d0 u0 in (ap suc e_m)
    end_s ec ei ep (no_assert a) (assert b _ _ _ _) = absurd (omega (arith, a, b))
    end_s ec ei ep (assert a _ _ _ _) (no_assert b) = absurd (omega (arith, a, b))
    end_s ec ei ep (no_assert_with a) (assert_with b _ _ _ _ _ _) = absurd (omega (arith, a, b))
    end_s ec ei ep (assert_with a _ _ _ _ _ _) (no_assert_with b) = absurd (omega (arith, a, b))

    pub end_b : {p p2 q q2 : ℕ} {a a2 : Around} {x1 : Block} → a2.count ≡ a.count → a2.iterator ≡ a.iterator → p2 ≡ p → StandsB c a p x1 q → StandsB (other c ls cs) a2 p2 x1 q2 → q2 ≡ q
    end_b ec ei ep no_stmt no_stmt = ep
    end_b ec ei ep (stmt d0 d1) (stmt u0 u1) = let e_m = end_s ec ei ep d0 u0 in let e_q = end_b ec ei e_m d1 u1 in e_q

    pub end_i : {l l2 p p2 q q2 : ℕ} {a a2 : Around} {x1 : Branches} → a2.count ≡ a.count → a2.iterator ≡ a.iterator → p2 ≡ p → StandsI c a l p x1 q → StandsI (other c ls cs) a2 l2 p2 x1 q2 → q2 ≡ q
    end_i ec ei ep («else» d0) («else» u0) = let e_q = end_b ec ei ep d0 u0 in e_q
    end_i ec ei ep (last_branch d0 d1 d2) (last_branch u0 u1 u2) = let e_m = end_e ep d0 u0 in let e_q = end_b ec ei (ap suc e_m) d2 u2 in e_q
    end_i ec ei ep (branch d0 d1 d2 d3 d4 d5) (branch u0 u1 u2 u3 u4 u5) = let e_m = end_e ep d1 u1 in let e_j = end_b ec ei (ap suc e_m) d3 u3 in let e_q = end_i ec ei (ap suc e_j) d5 u5 in e_q
    end_i ec ei ep (last_branch _ _ _) (branch b _ _ _ _ _) = absurd (true≢false b)
    end_i ec ei ep (branch b _ _ _ _ _) (last_branch _ _ _) = absurd (true≢false b)

    pub end_x : {p p2 q q2 : ℕ} {a a2 : Around} {x1 : ℕ} {x2 : Block} {x3 : Handlers} {x4 : Block} → a2.count ≡ a.count → a2.iterator ≡ a.iterator → p2 ≡ p → StandsX c a x1 p x2 x3 x4 q → StandsX (other c ls cs) a2 x1 p2 x2 x3 x4 q2 → q2 ≡ q
    end_x ec ei ep («except» d0 d1 d2 d3 d4 d5) («except» u0 u1 u2 u3 u4 u5) = let e_j = end_b (ap suc ec) ei (ap suc ep) d1 u1 in let e_k = end_h (ap suc ec) ei (ap suc e_j) d3 u3 in let e_q = end_b ec ei (ap suc e_k) d5 u5 in e_q

    pub end_h : {l l2 p p2 q q2 : ℕ} {a a2 : Around} {x1 : Handlers} → a2.count ≡ a.count → a2.iterator ≡ a.iterator → p2 ≡ p → StandsH c a l p x1 q → StandsH (other c ls cs) a2 l2 p2 x1 q2 → q2 ≡ q
    end_h ec ei ep no_clause no_clause = ep
    end_h ec ei ep (any d0 d1 d2) (any u0 u1 u2) = let e_m = end_b ec ei (ap suc ep) d1 u1 in (ap suc e_m)
    end_h ec ei ep (on d0 d1 d2 d3 d4 d5 d6 d7) (on u0 u1 u2 u3 u4 u5 u6 u7) = let e_m = end_e (ap suc ep) d1 u1 in let e_j = end_b ec ei (ap suc (ap suc (ap suc e_m))) d5 u5 in let e_q = end_h ec ei (ap suc e_j) d7 u7 in e_q
    end_h ec ei ep (on_as d0 d1 d2 d3 d4 d5 d6 d7 d8 d9 d10 d11 d12 d13) (on_as u0 u1 u2 u3 u4 u5 u6 u7 u8 u9 u10 u11 u12 u13) = let e_m = end_e (ap suc ep) d1 u1 in let e_j = end_b (ap suc ec) ei (ap suc (ap suc (ap suc (ap suc e_m)))) d6 u6 in let e_q = end_h ec ei (ap suc (ap suc (ap suc (ap suc (ap suc (ap suc e_j)))))) d13 u13 in e_q

  pub same_c : {line p p2 q q2 : ℕ} {x1 : CompareOp} → p2 ≡ p → Same p → StandsC c line p x1 q → StandsC (other c ls cs) line p2 x1 q2 → Same q
  same_c ep sp (straight d0 d1) (straight u0 u1) = let s1 = same_has ep sp refl d1 u1 in s1
  same_c ep sp (negated d0 d1 d2) (negated u0 u1 u2) = let s1 = same_has ep sp refl d1 u1 in let s2 = same_has (ap suc ep) s1 refl d2 u2 in s2
  same_c ep sp (straight a _) (negated b _ _) = absurd (false≢true (sym a ∙ b))
  same_c ep sp (negated a _ _) (straight b _) = absurd (false≢true (sym b ∙ a))

  mutual
    pub same_e : {line p p2 q q2 : ℕ} {x1 : Expr} → p2 ≡ p → Same p → StandsE c line p x1 q → StandsE (other c ls cs) line p2 x1 q2 → Same q
    same_e ep sp (literal d0) (literal u0) = let s1 = same_has ep sp refl d0 u0 in s1
    same_e ep sp (name d0) (name u0) = let s1 = same_has ep sp refl d0 u0 in s1
    same_e ep sp (one d0 d1) (one u0 u1) = let e_m = end_e ep d0 u0 in let s1 = same_e ep sp d0 u0 in let s2 = same_has e_m s1 refl d1 u1 in s2
    same_e ep sp («not» d0 d1) («not» u0 u1) = let e_m = end_e ep d0 u0 in let s1 = same_e ep sp d0 u0 in let s2 = same_has e_m s1 refl d1 u1 in s2
    same_e ep sp (two d0 d1 d2) (two u0 u1 u2) = let e_m = end_e ep d0 u0 in let e_n = end_e e_m d1 u1 in let s1 = same_e ep sp d0 u0 in let s2 = same_e e_m s1 d1 u1 in let s3 = same_has e_n s2 refl d2 u2 in s3
    same_e ep sp («and» d0 d1) («and» u0 u1) = let e_m = end_e ep d0 u0 in let e_q = end_o e_m d1 u1 in let s1 = same_e ep sp d0 u0 in let s2 = same_o e_q e_m s1 d1 u1 in s2
    same_e ep sp («or» d0 d1) («or» u0 u1) = let e_m = end_e ep d0 u0 in let e_q = end_o e_m d1 u1 in let s1 = same_e ep sp d0 u0 in let s2 = same_o e_q e_m s1 d1 u1 in s2
    same_e ep sp (compare d0 d1 d2) (compare u0 u1 u2) = let e_m = end_e ep d0 u0 in let e_n = end_e e_m d1 u1 in let e_q = end_c e_n d2 u2 in let s1 = same_e ep sp d0 u0 in let s2 = same_e e_m s1 d1 u1 in let s3 = same_c e_n s2 d2 u2 in s3
    same_e ep sp (chain d0 d1 d2 d3 d4) (chain u0 u1 u2 u3 u4) = let e_m = end_e ep d0 u0 in let e_n = end_l e_m d1 u1 in let s1 = same_e ep sp d0 u0 in let s2 = same_l (ap suc e_n) e_m s1 d1 u1 in let s3 = same_has e_n s2 (ap (Jumps ops.Jump) (ap suc (ap suc (ap suc e_n)))) d2 u2 in let s4 = same_has (ap suc e_n) s3 refl d3 u3 in let s5 = same_has (ap suc (ap suc e_n)) s4 refl d4 u4 in s5
    same_e ep sp (cond d0 d1 d2 d3 d4) (cond u0 u1 u2 u3 u4) = let e_m = end_e ep d0 u0 in let e_n = end_e (ap suc e_m) d2 u2 in let e_q = end_e (ap suc e_n) d4 u4 in let s1 = same_e ep sp d0 u0 in let s2 = same_has e_m s1 (ap (Jumps ops.PopJumpIfFalse) (ap suc e_n)) d1 u1 in let s3 = same_e (ap suc e_m) s2 d2 u2 in let s4 = same_has e_n s3 (ap (Jumps ops.Jump) e_q) d3 u3 in let s5 = same_e (ap suc e_n) s4 d4 u4 in s5
    same_e ep sp (tuple d0 d1) (tuple u0 u1) = let e_m = end_es ep d0 u0 in let s1 = same_es ep sp d0 u0 in let s2 = same_has e_m s1 refl d1 u1 in s2
    same_e ep sp (items d0 d1) (items u0 u1) = let e_m = end_es ep d0 u0 in let s1 = same_es ep sp d0 u0 in let s2 = same_has e_m s1 refl d1 u1 in s2
    same_e ep sp (dict d0 d1) (dict u0 u1) = let e_q = end_d (ap suc ep) d1 u1 in let s1 = same_has ep sp refl d0 u0 in let s2 = same_d (ap suc ep) s1 d1 u1 in s2
    same_e ep sp (attr d0 d1) (attr u0 u1) = let e_m = end_e ep d0 u0 in let s1 = same_e ep sp d0 u0 in let s2 = same_has e_m s1 refl d1 u1 in s2
    same_e ep sp (index d0 d1 d2) (index u0 u1 u2) = let e_m = end_e ep d0 u0 in let e_n = end_e e_m d1 u1 in let s1 = same_e ep sp d0 u0 in let s2 = same_e e_m s1 d1 u1 in let s3 = same_has e_n s2 refl d2 u2 in s3
    same_e ep sp (call _ d0 d1 d2 d3) (call _ u0 u1 u2 u3) = let e_m = end_e ep d0 u0 in let e_n = end_es e_m d1 u1 in let e_k = end_k e_n d2 u2 in let s1 = same_e ep sp d0 u0 in let s2 = same_es e_m s1 d1 u1 in let s3 = same_k e_n s2 d2 u2 in let s4 = same_has e_k s3 refl d3 u3 in s4
    same_e ep sp (method _ d0 d1 d2 d3 d4) (method _ u0 u1 u2 u3 u4) = let e_m = end_e ep d0 u0 in let e_n = end_es (ap suc e_m) d2 u2 in let e_k = end_k e_n d3 u3 in let s1 = same_e ep sp d0 u0 in let s2 = same_has e_m s1 refl d1 u1 in let s3 = same_es (ap suc e_m) s2 d2 u2 in let s4 = same_k e_n s3 d3 u3 in let s5 = same_has e_k s4 refl d4 u4 in s5

    pub same_es : {line p p2 q q2 : ℕ} {x1 : Exprs} → p2 ≡ p → Same p → StandsEs c line p x1 q → StandsEs (other c ls cs) line p2 x1 q2 → Same q
    same_es ep sp no_expr no_expr = sp
    same_es ep sp (next d0 d1) (next u0 u1) = let e_m = end_e ep d0 u0 in let e_q = end_es e_m d1 u1 in let s1 = same_e ep sp d0 u0 in let s2 = same_es e_m s1 d1 u1 in s2

    pub same_o : {line l l2 p p2 q q2 : ℕ} {x1 : Op} {x2 : Exprs} → l2 ≡ l → p2 ≡ p → Same p → StandsO c line x1 l p x2 q → StandsO (other c ls cs) line x1 l2 p2 x2 q2 → Same q
    same_o el ep sp no_operand no_operand = sp
    same_o el ep sp (operand {op = op} d0 d1 d2) (operand u0 u1 u2) = let e_m = end_e (ap suc ep) d1 u1 in let e_q = end_o e_m d2 u2 in let s1 = same_has ep sp (ap (Jumps op) el) d0 u0 in let s2 = same_e (ap suc ep) s1 d1 u1 in let s3 = same_o el e_m s2 d2 u2 in s3

    pub same_l : {line l l2 p p2 q q2 : ℕ} {x1 : Links} → l2 ≡ l → p2 ≡ p → Same p → StandsL c line l p x1 q → StandsL (other c ls cs) line l2 p2 x1 q2 → Same q
    same_l el ep sp (last d0 d1) (last u0 u1) = let e_m = end_e ep d0 u0 in let e_q = end_c e_m d1 u1 in let s1 = same_e ep sp d0 u0 in let s2 = same_c e_m s1 d1 u1 in s2
    same_l el ep sp (link d0 d1 d2 d3 d4 d5) (link u0 u1 u2 u3 u4 u5) = let e_m = end_e ep d0 u0 in let e_n = end_c (ap suc (ap suc e_m)) d3 u3 in let e_q = end_l (ap suc e_n) d5 u5 in let s1 = same_e ep sp d0 u0 in let s2 = same_has e_m s1 refl d1 u1 in let s3 = same_has (ap suc e_m) s2 refl d2 u2 in let s4 = same_c (ap suc (ap suc e_m)) s3 d3 u3 in let s5 = same_has e_n s4 (ap (Jumps ops.JumpIfFalseOrPop) el) d4 u4 in let s6 = same_l el (ap suc e_n) s5 d5 u5 in s6

    pub same_d : {line p p2 q q2 : ℕ} {x1 : Pairs} → p2 ≡ p → Same p → StandsD c line p x1 q → StandsD (other c ls cs) line p2 x1 q2 → Same q
    same_d ep sp no_pair no_pair = sp
    same_d ep sp (pair d0 d1 d2 d3) (pair u0 u1 u2 u3) = let e_m = end_e ep d0 u0 in let e_n = end_e e_m d1 u1 in let e_q = end_d (ap suc e_n) d3 u3 in let s1 = same_e ep sp d0 u0 in let s2 = same_e e_m s1 d1 u1 in let s3 = same_has e_n s2 refl d2 u2 in let s4 = same_d (ap suc e_n) s3 d3 u3 in s4

    pub same_k : {line p p2 q q2 : ℕ} {x1 : Keys} → p2 ≡ p → Same p → StandsK c line p x1 q → StandsK (other c ls cs) line p2 x1 q2 → Same q
    same_k ep sp no_key no_key = sp
    same_k ep sp (key d0 d1 d2) (key u0 u1 u2) = let e_m = end_e (ap suc ep) d1 u1 in let e_q = end_k e_m d2 u2 in let s1 = same_has ep sp refl d0 u0 in let s2 = same_e (ap suc ep) s1 d1 u1 in let s3 = same_k e_m s2 d2 u2 in s3

  mutual
    pub same_t : {line p p2 q q2 : ℕ} {x1 : Target} → p2 ≡ p → Same p → StandsT c line p x1 q → StandsT (other c ls cs) line p2 x1 q2 → Same q
    same_t ep sp (to_name d0) (to_name u0) = let s1 = same_has ep sp refl d0 u0 in s1
    same_t ep sp (to_attr d0 d1) (to_attr u0 u1) = let e_m = end_e ep d0 u0 in let s1 = same_e ep sp d0 u0 in let s2 = same_has e_m s1 refl d1 u1 in s2
    same_t ep sp (to_index d0 d1 d2) (to_index u0 u1 u2) = let e_m = end_e ep d0 u0 in let e_n = end_e e_m d1 u1 in let s1 = same_e ep sp d0 u0 in let s2 = same_e e_m s1 d1 u1 in let s3 = same_has e_n s2 refl d2 u2 in s3
    same_t ep sp (to_each d0 d1) (to_each u0 u1) = let e_q = end_ts (ap suc ep) d1 u1 in let s1 = same_has ep sp refl d0 u0 in let s2 = same_ts (ap suc ep) s1 d1 u1 in s2

    pub same_ts : {line p p2 q q2 : ℕ} {x1 : Targets} → p2 ≡ p → Same p → StandsTs c line p x1 q → StandsTs (other c ls cs) line p2 x1 q2 → Same q
    same_ts ep sp (one_store d0) (one_store u0) = let e_q = end_t ep d0 u0 in let s1 = same_t ep sp d0 u0 in s1
    same_ts ep sp (next_store d0 d1) (next_store u0 u1) = let e_m = end_t ep d0 u0 in let e_q = end_ts e_m d1 u1 in let s1 = same_t ep sp d0 u0 in let s2 = same_ts e_m s1 d1 u1 in s2

  pub same_a : {line p p2 q q2 : ℕ} {x1 : Targets} → p2 ≡ p → Same p → StandsA c line p x1 q → StandsA (other c ls cs) line p2 x1 q2 → Same q
  same_a ep sp (one_assign d0) (one_assign u0) = let e_q = end_t ep d0 u0 in let s1 = same_t ep sp d0 u0 in s1
  same_a ep sp (next_assign d0 d1 d2) (next_assign u0 u1 u2) = let e_m = end_t (ap suc ep) d1 u1 in let e_q = end_a e_m d2 u2 in let s1 = same_has ep sp refl d0 u0 in let s2 = same_t (ap suc ep) s1 d1 u1 in let s3 = same_a e_m s2 d2 u2 in s3

  pub same_g : {line p p2 q q2 : ℕ} {x1 : Target} → p2 ≡ p → Same p → StandsG c line p x1 q → StandsG (other c ls cs) line p2 x1 q2 → Same q
  same_g ep sp (gone_name d0) (gone_name u0) = let s1 = same_has ep sp refl d0 u0 in s1
  same_g ep sp (gone_index d0 d1 d2 d3 d4) (gone_index u0 u1 u2 u3 u4) = let e_m = end_e ep d0 u0 in let e_n = end_e e_m d1 u1 in let s1 = same_e ep sp d0 u0 in let s2 = same_e e_m s1 d1 u1 in let s3 = same_has e_n s2 refl d2 u2 in let s4 = same_has (ap suc e_n) s3 refl d3 u3 in let s5 = same_has (ap suc (ap suc e_n)) s4 refl d4 u4 in s5

  pub same_gs : {line p p2 q q2 : ℕ} {x1 : Targets} → p2 ≡ p → Same p → StandsGs c line p x1 q → StandsGs (other c ls cs) line p2 x1 q2 → Same q
  same_gs ep sp (one_gone d0) (one_gone u0) = let e_q = end_g ep d0 u0 in let s1 = same_g ep sp d0 u0 in s1
  same_gs ep sp (next_gone d0 d1) (next_gone u0 u1) = let e_m = end_g ep d0 u0 in let e_q = end_gs e_m d1 u1 in let s1 = same_g ep sp d0 u0 in let s2 = same_gs e_m s1 d1 u1 in s2

  pub same_r : {line p p2 q q2 : ℕ} {x1 : List Name} → p2 ≡ p → Same p → StandsR c line p x1 q → StandsR (other c ls cs) line p2 x1 q2 → Same q
  same_r ep sp no_part no_part = sp
  same_r ep sp (part d0 d1) (part u0 u1) = let e_q = end_r (ap suc ep) d1 u1 in let s1 = same_has ep sp refl d0 u0 in let s2 = same_r (ap suc ep) s1 d1 u1 in s2

  pub same_m : {line p p2 q q2 : ℕ} {x1 : List Alias} → p2 ≡ p → Same p → StandsM c line p x1 q → StandsM (other c ls cs) line p2 x1 q2 → Same q
  same_m ep sp no_import no_import = sp
  same_m ep sp (imported d0 d1 d2 d3 d4 d5) (imported u0 u1 u2 u3 u4 u5) = let e_m = end_r (ap suc (ap suc (ap suc ep))) d3 u3 in let e_q = end_m (ap suc e_m) d5 u5 in let s1 = same_has ep sp refl d0 u0 in let s2 = same_has (ap suc ep) s1 refl d1 u1 in let s3 = same_has (ap suc (ap suc ep)) s2 refl d2 u2 in let s4 = same_r (ap suc (ap suc (ap suc ep))) s3 d3 u3 in let s5 = same_has e_m s4 refl d4 u4 in let s6 = same_m (ap suc e_m) s5 d5 u5 in s6

  pub same_n : {line p p2 q q2 : ℕ} {x1 : List Alias} → p2 ≡ p → Same p → StandsN c line p x1 q → StandsN (other c ls cs) line p2 x1 q2 → Same q
  same_n ep sp no_text no_text = sp
  same_n ep sp (text d0 d1) (text u0 u1) = let e_q = end_n (ap suc ep) d1 u1 in let s1 = same_has ep sp refl d0 u0 in let s2 = same_n (ap suc ep) s1 d1 u1 in s2

  pub same_f : {line p p2 q q2 : ℕ} {x1 : List Alias} → p2 ≡ p → Same p → StandsF c line p x1 q → StandsF (other c ls cs) line p2 x1 q2 → Same q
  same_f ep sp no_name no_name = sp
  same_f ep sp (taken d0 d1 d2) (taken u0 u1 u2) = let e_q = end_f (ap suc (ap suc ep)) d2 u2 in let s1 = same_has ep sp refl d0 u0 in let s2 = same_has (ap suc ep) s1 refl d1 u1 in let s3 = same_f (ap suc (ap suc ep)) s2 d2 u2 in s3

  pub same_j : {line t t2 k k2 p p2 q q2 : ℕ} {it it2 : Bool} → t2 ≡ t → k2 ≡ k → it2 ≡ it → p2 ≡ p → Same p → StandsJ c line t k it p q → StandsJ (other c ls cs) line t2 k2 it2 p2 q2 → Same q
  same_j et ek ei ep sp (jumped h) (jumped h1) = same_has ep sp (ap (Jumps ops.Jump) et) h h1
  same_j et ek ei ep sp (jumped h) (popped h1 h2 h3 h4 h5) = absurd (true≢false ei)
  same_j et ek ei ep sp (jumped h) (unwound _ h1) = absurd (omega (arith, ek))
  same_j et ek ei ep sp (popped h h2 h3 h4 h5) (jumped h1) = absurd (false≢true ei)
  same_j et ek ei ep sp (popped h h2 h3 h4 h5) (popped h1 h7 h8 h9 h10) =
      let s1 = same_has ep sp refl h h1 in let s2 = same_has (ap suc ep) s1 refl h2 h7 in let s3 = same_has (ap suc (ap suc ep)) s2 refl h3 h8 in let s4 = same_has (ap suc (ap suc (ap suc ep))) s3 refl h4 h9 in
      same_has (ap suc (ap suc (ap suc (ap suc ep)))) s4 (ap (Jumps ops.Jump) et) h5 h10
  same_j et ek ei ep sp (popped h h2 h3 h4 h5) (unwound _ h1) = absurd (omega (arith, ek))
  same_j et ek ei ep sp (unwound _ h) (jumped h1) = absurd (omega (arith, ek))
  same_j et ek ei ep sp (unwound _ h) (popped h1 h2 h3 h4 h5) = absurd (omega (arith, ek))
  same_j et ek ei ep sp (unwound _ h) (unwound _ h1) = same_has ep sp (ap₂ Unwinds et (ap₂ (λ n b. n + top_bit b) ek ei)) h h1

  pub same_def : {line number p p2 q q2 : ℕ} {x1 : Exprs} → p2 ≡ p → Same p → StandsDef c line number p x1 q → StandsDef (other c ls cs) line number p2 x1 q2 → Same q
  same_def ep sp (bare d0 d1) (bare u0 u1) = let s1 = same_has ep sp (ap (number ops.MakeFunction) (distinct _ _ _ d0 u0)) d1 u1 in s1
  same_def ep sp (with_defaults d0 d1 d2 d3 d4) (with_defaults u0 u1 u2 u3 u4) = let e_m = end_es ep d1 u1 in let s1 = same_es ep sp d1 u1 in let s2 = same_has e_m s1 refl d2 u2 in let s3 = same_has (ap suc e_m) s2 refl d3 u3 in let s4 = same_has (ap suc (ap suc e_m)) s3 (ap (number ops.MakeFunctionDefargs) (distinct _ _ _ d0 u0)) d4 u4 in s4

  mutual
    pub same_s : {p p2 q q2 : ℕ} {a a2 : Around} {x1 : ℕ} {x2 : Stmt} → a2 ≡ a → p2 ≡ p → Same p → StandsS c a x1 p x2 q → StandsS (other c ls cs) a2 x1 p2 x2 q2 → Same q
    same_s ea ep sp («do» d0 d1) («do» u0 u1) = let e_m = end_e ep d0 u0 in let s1 = same_e ep sp d0 u0 in let s2 = same_has e_m s1 refl d1 u1 in s2
    same_s ea ep sp (assign d0 d1) (assign u0 u1) = let e_m = end_e ep d0 u0 in let e_q = end_a e_m d1 u1 in let s1 = same_e ep sp d0 u0 in let s2 = same_a e_m s1 d1 u1 in s2
    same_s ea ep sp (aug_name d0 d1 d2 d3) (aug_name u0 u1 u2 u3) = let e_m = end_e (ap suc ep) d1 u1 in let s1 = same_has ep sp refl d0 u0 in let s2 = same_e (ap suc ep) s1 d1 u1 in let s3 = same_has e_m s2 refl d2 u2 in let s4 = same_has (ap suc e_m) s3 refl d3 u3 in s4
    same_s ea ep sp (aug_attr d0 d1 d2 d3 d4 d5 d6) (aug_attr u0 u1 u2 u3 u4 u5 u6) = let e_m = end_e ep d0 u0 in let e_n = end_e (ap suc (ap suc e_m)) d3 u3 in let s1 = same_e ep sp d0 u0 in let s2 = same_has e_m s1 refl d1 u1 in let s3 = same_has (ap suc e_m) s2 refl d2 u2 in let s4 = same_e (ap suc (ap suc e_m)) s3 d3 u3 in let s5 = same_has e_n s4 refl d4 u4 in let s6 = same_has (ap suc e_n) s5 refl d5 u5 in let s7 = same_has (ap suc (ap suc e_n)) s6 refl d6 u6 in s7
    same_s ea ep sp (aug_index d0 d1 d2 d3 d4 d5 d6 d7) (aug_index u0 u1 u2 u3 u4 u5 u6 u7) = let e_k = end_e ep d0 u0 in let e_m = end_e e_k d1 u1 in let e_n = end_e (ap suc (ap suc e_m)) d4 u4 in let s1 = same_e ep sp d0 u0 in let s2 = same_e e_k s1 d1 u1 in let s3 = same_has e_m s2 refl d2 u2 in let s4 = same_has (ap suc e_m) s3 refl d3 u3 in let s5 = same_e (ap suc (ap suc e_m)) s4 d4 u4 in let s6 = same_has e_n s5 refl d5 u5 in let s7 = same_has (ap suc e_n) s6 refl d6 u6 in let s8 = same_has (ap suc (ap suc e_n)) s7 refl d7 u7 in s8
    same_s ea ep sp (delete d0) (delete u0) = let e_q = end_gs ep d0 u0 in let s1 = same_gs ep sp d0 u0 in s1
    same_s ea ep sp pass pass = sp
    same_s ea ep sp («break» d0) («break» u0) = let eq = end_j (ap (λ (z : Around). z.count) ea) (ap (λ (z : Around). z.iterator) ea) ep d0 u0 in let s1 = same_j (ap (λ (z : Around). z.brk) ea) (ap (λ (z : Around). z.count) ea) (ap (λ (z : Around). z.iterator) ea) ep sp d0 u0 in s1
    same_s ea ep sp («continue» d0) («continue» u0) = let eq = end_j (ap (λ (z : Around). z.count) ea) refl ep d0 u0 in let s1 = same_j (ap (λ (z : Around). z.cont) ea) (ap (λ (z : Around). z.count) ea) refl ep sp d0 u0 in s1
    same_s ea ep sp (return_none d0 d1) (return_none u0 u1) = let s1 = same_has ep sp refl d0 u0 in let s2 = same_has (ap suc ep) s1 refl d1 u1 in s2
    same_s ea ep sp («return» d0 d1) («return» u0 u1) = let e_m = end_e ep d0 u0 in let s1 = same_e ep sp d0 u0 in let s2 = same_has e_m s1 refl d1 u1 in s2
    same_s ea ep sp (reraise d0) (reraise u0) = let s1 = same_has ep sp refl d0 u0 in s1
    same_s ea ep sp (raise d0 d1) (raise u0 u1) = let e_m = end_e ep d0 u0 in let s1 = same_e ep sp d0 u0 in let s2 = same_has e_m s1 refl d1 u1 in s2
    same_s ea ep sp (no_assert d0) (no_assert u0) = sp
    same_s ea ep sp (no_assert_with d0) (no_assert_with u0) = sp
    same_s ea ep sp (assert d0 d1 d2 d3 d4) (assert u0 u1 u2 u3 u4) = let e_m = end_e ep d1 u1 in let s1 = same_e ep sp d1 u1 in let s2 = same_has e_m s1 (ap (Jumps ops.PopJumpIfTrue) (ap suc (ap suc (ap suc e_m)))) d2 u2 in let s3 = same_has (ap suc e_m) s2 refl d3 u3 in let s4 = same_has (ap suc (ap suc e_m)) s3 refl d4 u4 in s4
    same_s ea ep sp (assert_with d0 d1 d2 d3 d4 d5 d6) (assert_with u0 u1 u2 u3 u4 u5 u6) = let e_m = end_e ep d1 u1 in let e_n = end_e (ap suc (ap suc e_m)) d4 u4 in let s1 = same_e ep sp d1 u1 in let s2 = same_has e_m s1 (ap (Jumps ops.PopJumpIfTrue) (ap suc (ap suc e_n))) d2 u2 in let s3 = same_has (ap suc e_m) s2 refl d3 u3 in let s4 = same_e (ap suc (ap suc e_m)) s3 d4 u4 in let s5 = same_has e_n s4 refl d5 u5 in let s6 = same_has (ap suc e_n) s5 refl d6 u6 in s6
    same_s ea ep sp («import» d0) («import» u0) = let e_q = end_m ep d0 u0 in let s1 = same_m ep sp d0 u0 in s1
    same_s ea ep sp (from d0 d1 d2 d3 d4 d5) (from u0 u1 u2 u3 u4 u5) = let e_m = end_n (ap suc ep) d1 u1 in let e_n = end_f (ap suc (ap suc e_m)) d4 u4 in let s1 = same_has ep sp refl d0 u0 in let s2 = same_n (ap suc ep) s1 d1 u1 in let s3 = same_has e_m s2 refl d2 u2 in let s4 = same_has (ap suc e_m) s3 refl d3 u3 in let s5 = same_f (ap suc (ap suc e_m)) s4 d4 u4 in let s6 = same_has e_n s5 refl d5 u5 in s6
    same_s ea ep sp («if» d0) («if» u0) = let e_q = end_i (ap (λ (z : Around). z.count) ea) (ap (λ (z : Around). z.iterator) ea) ep d0 u0 in let s1 = same_i ea e_q ep sp d0 u0 in s1
    same_s ea ep sp («while» d0 d1 d2 d3 d4) («while» u0 u1 u2 u3 u4) = let e_m = end_e ep d0 u0 in let e_j = end_b refl refl (ap suc e_m) d2 u2 in let e_q = end_b (ap (λ (z : Around). z.count) ea) (ap (λ (z : Around). z.iterator) ea) (ap suc e_j) d4 u4 in let s1 = same_e ep sp d0 u0 in let s2 = same_has e_m s1 (ap (Jumps ops.PopJumpIfFalse) (ap suc e_j)) d1 u1 in let s3 = same_b (own_path false e_q ep) (ap suc e_m) s2 d2 u2 in let s4 = same_behind e_j s3 (ap (Jumps ops.Jump) ep) d3 u3 in let s5 = same_b ea (ap suc e_j) s4 d4 u4 in s5
    same_s ea ep sp («for» d0 d1 d2 d3 d4 d5 d6) («for» u0 u1 u2 u3 u4 u5 u6) = let e_m = end_e ep d0 u0 in let e_n = end_t (ap suc (ap suc e_m)) d3 u3 in let e_j = end_b refl refl e_n d4 u4 in let e_q = end_b (ap (λ (z : Around). z.count) ea) (ap (λ (z : Around). z.iterator) ea) (ap suc e_j) d6 u6 in let s1 = same_e ep sp d0 u0 in let s2 = same_has e_m s1 refl d1 u1 in let s3 = same_has (ap suc e_m) s2 (ap (Jumps ops.ForIter) (ap suc e_j)) d2 u2 in let s4 = same_t (ap suc (ap suc e_m)) s3 d3 u3 in let s5 = same_b (own_path true e_q (ap suc e_m)) e_n s4 d4 u4 in let s6 = same_behind e_j s5 (ap (Jumps ops.Jump) (ap suc e_m)) d5 u5 in let s7 = same_b ea (ap suc e_j) s6 d6 u6 in s7
    same_s ea ep sp («try» d0) («try» u0) = let e_q = end_x (ap (λ (z : Around). z.count) ea) (ap (λ (z : Around). z.iterator) ea) ep d0 u0 in let s1 = same_x ea ep sp d0 u0 in s1
    same_s ea ep sp (finally d0 d1 d2 d3 d4) (finally u0 u1 u2 u3 u4) = let e_j = end_b (ap suc (ap (λ (z : Around). z.count) ea)) (ap (λ (z : Around). z.iterator) ea) (ap suc ep) d1 u1 in let e_k = end_b (ap suc (ap (λ (z : Around). z.count) ea)) (ap (λ (z : Around). z.iterator) ea) (ap suc e_j) d3 u3 in let s1 = same_has ep sp (ap (Jumps ops.SetupFinally) (ap suc e_j)) d0 u0 in let s2 = same_b (ap deeper ea) (ap suc ep) s1 d1 u1 in let s3 = same_behind e_j s2 refl d2 u2 in let s4 = same_b (ap deeper ea) (ap suc e_j) s3 d3 u3 in let s5 = same_behind e_k s4 refl d4 u4 in s5
    same_s ea ep sp (try_finally d0 d1 d2 d3 d4) (try_finally u0 u1 u2 u3 u4) = let e_j = end_x (ap suc (ap (λ (z : Around). z.count) ea)) (ap (λ (z : Around). z.iterator) ea) (ap suc ep) d1 u1 in let e_k = end_b (ap suc (ap (λ (z : Around). z.count) ea)) (ap (λ (z : Around). z.iterator) ea) (ap suc e_j) d3 u3 in let s1 = same_has ep sp (ap (Jumps ops.SetupFinally) (ap suc e_j)) d0 u0 in let s2 = same_x (ap deeper ea) (ap suc ep) s1 d1 u1 in let s3 = same_behind e_j s2 refl d2 u2 in let s4 = same_b (ap deeper ea) (ap suc e_j) s3 d3 u3 in let s5 = same_behind e_k s4 refl d4 u4 in s5
    same_s ea ep sp (def _ d0 d1) (def _ u0 u1) = let e_m = end_def ep d0 u0 in let s1 = same_def ep sp d0 u0 in let s2 = same_has e_m s1 refl d1 u1 in s2
    same_s ea ep sp (no_assert a) (assert b _ _ _ _) = absurd (omega (arith, a, b))
    same_s ea ep sp (assert a _ _ _ _) (no_assert b) = absurd (omega (arith, a, b))
    same_s ea ep sp (no_assert_with a) (assert_with b _ _ _ _ _ _) = absurd (omega (arith, a, b))
    same_s ea ep sp (assert_with a _ _ _ _ _ _) (no_assert_with b) = absurd (omega (arith, a, b))

    pub same_b : {p p2 q q2 : ℕ} {a a2 : Around} {x1 : Block} → a2 ≡ a → p2 ≡ p → Same p → StandsB c a p x1 q → StandsB (other c ls cs) a2 p2 x1 q2 → Same q
    same_b ea ep sp no_stmt no_stmt = sp
    same_b ea ep sp (stmt d0 d1) (stmt u0 u1) = let e_m = end_s (ap (λ (z : Around). z.count) ea) (ap (λ (z : Around). z.iterator) ea) ep d0 u0 in let e_q = end_b (ap (λ (z : Around). z.count) ea) (ap (λ (z : Around). z.iterator) ea) e_m d1 u1 in let s1 = same_s ea ep sp d0 u0 in let s2 = same_b ea e_m s1 d1 u1 in s2

    pub same_i : {l l2 p p2 q q2 : ℕ} {a a2 : Around} {x1 : Branches} → a2 ≡ a → l2 ≡ l → p2 ≡ p → Same p → StandsI c a l p x1 q → StandsI (other c ls cs) a2 l2 p2 x1 q2 → Same q
    same_i ea el ep sp («else» d0) («else» u0) = let e_q = end_b (ap (λ (z : Around). z.count) ea) (ap (λ (z : Around). z.iterator) ea) ep d0 u0 in let s1 = same_b ea ep sp d0 u0 in s1
    same_i ea el ep sp (last_branch d0 d1 d2) (last_branch u0 u1 u2) = let e_m = end_e ep d0 u0 in let e_q = end_b (ap (λ (z : Around). z.count) ea) (ap (λ (z : Around). z.iterator) ea) (ap suc e_m) d2 u2 in let s1 = same_e ep sp d0 u0 in let s2 = same_has e_m s1 (ap (Jumps ops.PopJumpIfFalse) e_q) d1 u1 in let s3 = same_b ea (ap suc e_m) s2 d2 u2 in s3
    same_i ea el ep sp (branch d0 d1 d2 d3 d4 d5) (branch u0 u1 u2 u3 u4 u5) = let e_m = end_e ep d1 u1 in let e_j = end_b (ap (λ (z : Around). z.count) ea) (ap (λ (z : Around). z.iterator) ea) (ap suc e_m) d3 u3 in let e_q = end_i (ap (λ (z : Around). z.count) ea) (ap (λ (z : Around). z.iterator) ea) (ap suc e_j) d5 u5 in let s1 = same_e ep sp d1 u1 in let s2 = same_has e_m s1 (ap (Jumps ops.PopJumpIfFalse) (ap suc e_j)) d2 u2 in let s3 = same_b ea (ap suc e_m) s2 d3 u3 in let s4 = same_behind e_j s3 (ap (Jumps ops.Jump) el) d4 u4 in let s5 = same_i ea el (ap suc e_j) s4 d5 u5 in s5
    same_i ea el ep sp (last_branch _ _ _) (branch b _ _ _ _ _) = absurd (true≢false b)
    same_i ea el ep sp (branch b _ _ _ _ _) (last_branch _ _ _) = absurd (true≢false b)

    pub same_x : {p p2 q q2 : ℕ} {a a2 : Around} {x1 : ℕ} {x2 : Block} {x3 : Handlers} {x4 : Block} → a2 ≡ a → p2 ≡ p → Same p → StandsX c a x1 p x2 x3 x4 q → StandsX (other c ls cs) a2 x1 p2 x2 x3 x4 q2 → Same q
    same_x ea ep sp («except» d0 d1 d2 d3 d4 d5) («except» u0 u1 u2 u3 u4 u5) = let e_j = end_b (ap suc (ap (λ (z : Around). z.count) ea)) (ap (λ (z : Around). z.iterator) ea) (ap suc ep) d1 u1 in let e_k = end_h (ap suc (ap (λ (z : Around). z.count) ea)) (ap (λ (z : Around). z.iterator) ea) (ap suc e_j) d3 u3 in let e_q = end_b (ap (λ (z : Around). z.count) ea) (ap (λ (z : Around). z.iterator) ea) (ap suc e_k) d5 u5 in let s1 = same_has ep sp (ap (Jumps ops.SetupExcept) (ap suc e_j)) d0 u0 in let s2 = same_b (ap deeper ea) (ap suc ep) s1 d1 u1 in let s3 = same_behind e_j s2 (ap (Jumps ops.PopExceptJump) (ap suc e_k)) d2 u2 in let s4 = same_h (ap deeper ea) e_q (ap suc e_j) s3 d3 u3 in let s5 = same_behind e_k s4 refl d4 u4 in let s6 = same_b ea (ap suc e_k) s5 d5 u5 in s6

    pub same_h : {l l2 p p2 q q2 : ℕ} {a a2 : Around} {x1 : Handlers} → a2 ≡ a → l2 ≡ l → p2 ≡ p → Same p → StandsH c a l p x1 q → StandsH (other c ls cs) a2 l2 p2 x1 q2 → Same q
    same_h ea el ep sp no_clause no_clause = sp
    same_h ea el ep sp (any d0 d1 d2) (any u0 u1 u2) = let e_m = end_b (ap (λ (z : Around). z.count) ea) (ap (λ (z : Around). z.iterator) ea) (ap suc ep) d1 u1 in let s1 = same_has ep sp refl d0 u0 in let s2 = same_b ea (ap suc ep) s1 d1 u1 in let s3 = same_behind e_m s2 (ap (Jumps ops.PopExceptJump) el) d2 u2 in s3
    same_h ea el ep sp (on d0 d1 d2 d3 d4 d5 d6 d7) (on u0 u1 u2 u3 u4 u5 u6 u7) = let e_m = end_e (ap suc ep) d1 u1 in let e_j = end_b (ap (λ (z : Around). z.count) ea) (ap (λ (z : Around). z.iterator) ea) (ap suc (ap suc (ap suc e_m))) d5 u5 in let e_q = end_h (ap (λ (z : Around). z.count) ea) (ap (λ (z : Around). z.iterator) ea) (ap suc e_j) d7 u7 in let s1 = same_has ep sp refl d0 u0 in let s2 = same_e (ap suc ep) s1 d1 u1 in let s3 = same_has e_m s2 refl d2 u2 in let s4 = same_has (ap suc e_m) s3 (ap (Jumps ops.PopJumpIfFalse) (ap suc e_j)) d3 u3 in let s5 = same_has (ap suc (ap suc e_m)) s4 refl d4 u4 in let s6 = same_b ea (ap suc (ap suc (ap suc e_m))) s5 d5 u5 in let s7 = same_behind e_j s6 (ap (Jumps ops.PopExceptJump) el) d6 u6 in let s8 = same_h ea el (ap suc e_j) s7 d7 u7 in s8
    same_h ea el ep sp (on_as d0 d1 d2 d3 d4 d5 d6 d7 d8 d9 d10 d11 d12 d13) (on_as u0 u1 u2 u3 u4 u5 u6 u7 u8 u9 u10 u11 u12 u13) = let e_m = end_e (ap suc ep) d1 u1 in let e_j = end_b (ap suc (ap (λ (z : Around). z.count) ea)) (ap (λ (z : Around). z.iterator) ea) (ap suc (ap suc (ap suc (ap suc e_m)))) d6 u6 in let e_q = end_h (ap (λ (z : Around). z.count) ea) (ap (λ (z : Around). z.iterator) ea) (ap suc (ap suc (ap suc (ap suc (ap suc (ap suc e_j)))))) d13 u13 in let s1 = same_has ep sp refl d0 u0 in let s2 = same_e (ap suc ep) s1 d1 u1 in let s3 = same_has e_m s2 refl d2 u2 in let s4 = same_has (ap suc e_m) s3 (ap (Jumps ops.PopJumpIfFalse) (ap suc (ap suc (ap suc (ap suc (ap suc (ap suc e_j))))))) d3 u3 in let s5 = same_has (ap suc (ap suc e_m)) s4 refl d4 u4 in let s6 = same_has (ap suc (ap suc (ap suc e_m))) s5 (ap (Jumps ops.SetupFinally) (ap suc e_j)) d5 u5 in let s7 = same_b (ap deeper ea) (ap suc (ap suc (ap suc (ap suc e_m)))) s6 d6 u6 in let s8 = same_behind e_j s7 refl d7 u7 in let s9 = same_behind (ap suc e_j) s8 refl d8 u8 in let s10 = same_behind (ap suc (ap suc e_j)) s9 refl d9 u9 in let s11 = same_behind (ap suc (ap suc (ap suc e_j))) s10 refl d10 u10 in let s12 = same_behind (ap suc (ap suc (ap suc (ap suc e_j)))) s11 refl d11 u11 in let s13 = same_behind (ap suc (ap suc (ap suc (ap suc (ap suc e_j))))) s12 (ap (Jumps ops.PopExceptJump) el) d12 u12 in let s14 = same_h ea el (ap suc (ap suc (ap suc (ap suc (ap suc (ap suc e_j)))))) s13 d13 u13 in s14
