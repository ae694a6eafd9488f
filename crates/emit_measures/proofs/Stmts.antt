-- Statements and blocks, from their patterns, with the names that they bind.
use Rattle.std.proofs.Common.{◌≡◌, ℕ, zero, suc, ◌+◌, ◌*◌, Bool, true, false, List, [], ◌++◌, length, refl, sym, ap, ◌∙◌, arith, append-nil, append_assoc}
use Rattle.bc_scheme.specs.py_meaning.Tree.{Name, Expr, Exprs, Stmt, Block, Branches, Else, End, Handlers}
use Rattle.bc_scheme.specs.py_meaning.Tree as tree
use Rattle.bc_scheme.specs.py_meaning.Locals.{bound_in, bound_by_stmt, bound_by_branches, bound_by_handlers}
use Rattle.bc_scheme.specs.Context.{Context}
use Rattle.bc_scheme.specs.Heights.{at_level}
use Rattle.bc_scheme.specs.Statements.{Around, deeper, is_over, StandsJ, jumped, popped, unwound, StandsDef, bare, with_defaults, StandsS, «do», assign, aug_name, aug_attr, aug_index, delete, pass, «break», «continue», return_none, «return», reraise, raise, no_assert, no_assert_with, assert, assert_with, «import», from, «if», «while», «for», «try», finally, try_finally, def, StandsB, no_stmt, stmt, StandsI, «else», last_branch, branch, StandsX, «except», StandsH, no_clause, any, on, on_as}
use Rattle.emit_measures.specs.Named.{TakesUndotted, StmtTakesUndotted, BranchesTakeUndotted, HandlersTakeUndotted}
use Rattle.emit_measures.specs.Lengths.{exit_length, behind_length, name_length, expr_length, exprs_length, store_length, taken_length, defaults_length, stmt_length, block_length, branches_length, handlers_length}
use Rattle.emit_measures.proofs.Spans.{Spans, none_span, then_span, also_span, as_span, as_names, has_span, behind_span, load_span, store_span, store_behind, delete_behind}
use Rattle.emit_measures.proofs.Exprs.{e_span, es_span}
use Rattle.emit_measures.proofs.Targets.{t_span, a_span, gs_span, m_span, n_span, f_span, taken_least}

abbrev pub is_held : ℕ → Bool
is_held zero = false
is_held (suc n) = true

module _ (c : Context) (sure : Type 0) where
  abbrev E : Expr → ℕ
  E = expr_length c.locals

  j_span : (line target count : ℕ) (iterator : Bool) (p q : ℕ) → StandsJ c line target count iterator p q → Spans c sure p q (exit_length (is_held count) iterator) []
  j_span line target count iterator p q (jumped h) = has_span c sure p line _ 3 refl refl h
  j_span line target count iterator p q (popped h1 h2 h3 h4 h5) =
      also_span c sure (also_span c sure (also_span c sure (also_span c sure (has_span c sure p line _ 1 refl refl h1) (has_span c sure (suc p) line _ 1 refl refl h2)) (has_span c sure (suc (suc p)) line _ 1 refl refl h3)) (has_span c sure (suc (suc (suc p))) line _ 1 refl refl h4)) (has_span c sure (suc (suc (suc (suc p)))) line _ 3 refl refl h5)
  j_span line target count iterator p q (unwound few h) = has_span c sure p line _ 4 refl refl h

  d_span : (line number p q : ℕ) (ds : Exprs) → StandsDef c line number p ds q → Spans c sure p q (defaults_length c.locals ds) []
  d_span line number p q ds (bare s h) = has_span c sure p line _ 4 refl refl h
  d_span line number p q ds (with_defaults {m = m} {e = e} {es = es} s u h1 h2 h3) =
      as_span c sure _ (let n = exprs_length c.locals (tree.More e es) in omega arith)
      (also_span c sure (also_span c sure (also_span c sure (es_span c sure line p m (tree.More e es) u) (has_span c sure m line _ 4 refl refl h1)) (has_span c sure (suc m) line _ 1 refl refl h2)) (has_span c sure (suc (suc m)) line _ 4 refl refl h3))

  abbrev SOf : Around → Stmt → ℕ
  SOf a s = stmt_length c.locals c.level (is_held a.count) a.iterator s

  abbrev BOf : Around → Block → ℕ
  BOf a b = block_length c.locals c.level (is_held a.count) a.iterator b

  abbrev HOf : Around → Handlers → ℕ
  HOf a hs = handlers_length c.locals c.level (is_held a.count) a.iterator hs

  mutual
    pub s_span : (a : Around) (line p q : ℕ) (s : Stmt) → StandsS c a line p s q → (sure → StmtTakesUndotted s) → Spans c sure p q (SOf a s) (bound_by_stmt s)
    s_span a line p q s («do» {m = m} {e = e} u h) t = also_span c sure (e_span c sure line p m e u) (has_span c sure m line _ 1 refl refl h)
    s_span a line p q s (assign {m = m} {ts = ts} {e = e} u v) t = then_span c sure (e_span c sure line p m e u) (a_span c sure line m q ts v)
    s_span a line p q s (aug_name {m = m} {n = n} {e = e} h1 u h2 h3) t =
        as_span c sure _ (let x = name_length c.locals n in let y = E e in omega arith)
        (then_span c sure (also_span c sure (also_span c sure (load_span c sure p line n h1) (e_span c sure line (suc p) m e u)) (has_span c sure m line _ 1 refl refl h2)) (store_span c sure (suc m) line n h3))
    s_span a line p q s (aug_attr {m = m} {n = n} {o = o} {e = e} u h1 h2 v h3 h4 h5) t =
        as_span c sure _ (let x = E o in let y = E e in omega arith)
        (also_span c sure (also_span c sure (also_span c sure (also_span c sure (also_span c sure (also_span c sure (e_span c sure line p m o u) (has_span c sure m line _ 1 refl refl h1)) (has_span c sure (suc m) line _ 4 refl refl h2)) (e_span c sure line (suc (suc m)) n e v))
        (has_span c sure n line _ 1 refl refl h3)) (has_span c sure (suc n) line _ 1 refl refl h4)) (has_span c sure (suc (suc n)) line _ 4 refl refl h5))
    s_span a line p q s (aug_index {k = k} {m = m} {n = n} {o = o} {i = i} {e = e} u v h1 h2 w h3 h4 h5) t =
        as_span c sure _ (let x = E o in let y = E i in let z = E e in omega arith)
        (also_span c sure (also_span c sure (also_span c sure (also_span c sure (also_span c sure (also_span c sure (also_span c sure (e_span c sure line p k o u) (e_span c sure line k m i v)) (has_span c sure m line _ 1 refl refl h1)) (has_span c sure (suc m) line _ 1 refl refl h2)) (e_span c sure line (suc (suc m)) n e w))
        (has_span c sure n line _ 1 refl refl h3)) (has_span c sure (suc n) line _ 1 refl refl h4)) (has_span c sure (suc (suc n)) line _ 1 refl refl h5))
    s_span a line p q s (delete {ts = ts} u) t = gs_span c sure line p q ts u
    s_span a line p q s pass t = none_span c sure p
    s_span a line p q s («break» u) t = j_span line a.brk a.count a.iterator p q u
    s_span a line p q s («continue» u) t = j_span line a.cont a.count false p q u
    s_span a line p q s (return_none h1 h2) t = also_span c sure (has_span c sure p line _ 1 refl refl h1) (has_span c sure (suc p) line _ 1 refl refl h2)
    s_span a line p q s («return» {m = m} {e = e} u h) t = also_span c sure (e_span c sure line p m e u) (has_span c sure m line _ 1 refl refl h)
    s_span a line p q s (reraise h) t = has_span c sure p line _ 1 refl refl h
    s_span a line p q s (raise {m = m} {e = e} u h) t = also_span c sure (e_span c sure line p m e u) (has_span c sure m line _ 1 refl refl h)
    s_span a line p q s (no_assert {e = e} l) t = as_span c sure _ (sym (ap (λ n. at_level n (E e + 8)) l)) (none_span c sure p)
    s_span a line p q s (no_assert_with {e = e} {m = m} l) t = as_span c sure _ (sym (ap (λ n. at_level n (E e + E m + 12)) l)) (none_span c sure p)
    s_span a line p q s (assert {m = m} {e = e} l u h1 h2 h3) t =
        let x = E e in
        let sum : x + 3 + 4 + 1 ≡ x + 8 = omega arith in
        as_span c sure _ (sum ∙ sym (ap (λ n. at_level n (x + 8)) l))
        (also_span c sure (also_span c sure (also_span c sure (e_span c sure line p m e u) (has_span c sure m line _ 3 refl refl h1)) (has_span c sure (suc m) line _ 4 refl refl h2)) (has_span c sure (suc (suc m)) line _ 1 refl refl h3))
    s_span a line p q s (assert_with {m = m} {n = n} {e = e} {x = message} l u h1 h2 v h3 h4) t =
        let x = E e in
        let y = E message in
        let sum : x + 3 + 4 + y + 4 + 1 ≡ x + y + 12 = omega arith in
        as_span c sure _ (sum ∙ sym (ap (λ n. at_level n (x + y + 12)) l))
        (also_span c sure (also_span c sure (also_span c sure (also_span c sure (also_span c sure (e_span c sure line p m e u) (has_span c sure m line _ 3 refl refl h1)) (has_span c sure (suc m) line _ 4 refl refl h2)) (e_span c sure line (suc (suc m)) n message v)) (has_span c sure n line _ 4 refl refl h3)) (has_span c sure (suc n) line _ 1 refl refl h4))
    s_span a line p q s («import» {aliases = aliases} u) t = m_span c sure line p q aliases u
    s_span a line p q s (from {m = m} {n = n} {aliases = aliases} h1 u h2 h3 v h4) t =
        let least = taken_least c aliases in
        let taken : taken_length c.locals aliases ≡ 4 * length aliases + least.0 = least.1 in
        as_span c sure _ (let k = length aliases in let rest = least.0 in omega (arith, taken))
        (also_span c sure (then_span c sure (also_span c sure (also_span c sure (also_span c sure (has_span c sure p line _ 1 refl refl h1) (n_span c sure line (suc p) m aliases u)) (has_span c sure m line _ 4 refl refl h2)) (has_span c sure (suc m) line _ 4 refl refl h3))
        (f_span c sure line (suc (suc m)) n aliases least.0 least.1 t v)) (has_span c sure n line _ 1 refl refl h4))
    s_span a line p q s («if» {bs = bs} u) t = i_span a q p q bs u t
    s_span a line p q s («while» {m = m} {j = j} {e = e} {b = b} {rest = rest} u h1 v h2 w) t =
        as_span c sure _ (let x = E e in let y = block_length c.locals c.level false false b in let z = BOf a rest in omega arith)
        (then_span c sure (also_span c sure (then_span c sure (also_span c sure (e_span c sure line p m e u) (has_span c sure m line _ 3 refl refl h1)) (b_span _ (suc m) j b v (λ k. (t k).0))) (behind_span c sure j _ 3 refl refl h2)) (b_span a (suc j) q rest w (λ k. (t k).1)))
    s_span a line p q s («for» {m = m} {n = n} {j = j} {t = target} {e = e} {b = b} {rest = rest} u h1 h2 v w h3 x) t =
        as_span c sure _ (let k = E e in let l = store_length c.locals target in let y = block_length c.locals c.level false true b in let z = BOf a rest in omega arith)
        (then_span c sure (then_span c sure (also_span c sure (also_span c sure (e_span c sure line p m e u) (has_span c sure m line _ 1 refl refl h1)) (has_span c sure (suc m) line _ 3 refl refl h2)) (t_span c sure line (suc (suc m)) n target v))
        (then_span c sure (also_span c sure (b_span _ n j b w (λ k. (t k).0)) (behind_span c sure j _ 3 refl refl h3)) (b_span a (suc j) q rest x (λ k. (t k).1))))
    s_span a line p q s («try» {b = b} {rest = rest} {hs = hs} u) t = x_span a line p q b hs rest u (λ k. (t k).0) (λ k. (t k).1) (λ k. (t k).2)
    s_span a line p q s (finally {j = j} {k = k} {b = b} {last = last} h1 u h2 v h3) t =
        as_span c sure _ (let x = BOf (deeper a) b in let y = BOf (deeper a) last in omega arith)
        (also_span c sure (then_span c sure (also_span c sure (then_span c sure (has_span c sure p line _ 3 refl refl h1) (b_span (deeper a) (suc p) j b u (λ k. (t k).0))) (behind_span c sure j _ 1 refl refl h2)) (b_span (deeper a) (suc j) k last v (λ k. (t k).1))) (behind_span c sure k _ 1 refl refl h3))
    s_span a line p q s (try_finally {j = j} {k = k} {b = b} {rest = rest} {last = last} {hs = hs} h1 u h2 v h3) t =
        let own : List Name = bound_in b in
        let caught : List Name = bound_by_handlers hs in
        let behind : List Name = bound_in rest in
        let ended : List Name = bound_in last in
        let same : (own ++ (caught ++ behind)) ++ ended ≡ own ++ (caught ++ (behind ++ ended)) = append_assoc own (caught ++ behind) ended ∙ ap (λ (z : List Name). own ++ z) (append_assoc caught behind ended) in
        as_names c sure _ (λ k. same)
        (as_span c sure _ (let x = BOf (deeper a) b in let y = HOf (deeper a) hs in let z = BOf (deeper a) rest in let w = BOf (deeper a) last in omega arith)
        (also_span c sure (then_span c sure (also_span c sure (then_span c sure (has_span c sure p line _ 3 refl refl h1) (x_span (deeper a) line (suc p) j b hs rest u (λ k. (t k).0) (λ k. (t k).1) (λ k. (t k).2))) (behind_span c sure j _ 1 refl refl h2)) (b_span (deeper a) (suc j) k last v (λ k. (t k).3))) (behind_span c sure k _ 1 refl refl h3)))
    s_span a line p q s (def {m = m} {n = n} {x = x} {ds = ds} child u h) t = then_span c sure (d_span line (c.base + n) p m ds u) (store_span c sure m line x h)

    pub b_span : (a : Around) (p q : ℕ) (b : Block) → StandsB c a p b q → (sure → TakesUndotted b) → Spans c sure p q (BOf a b) (bound_in b)
    b_span a p q b no_stmt t = none_span c sure p
    b_span a p q b (stmt {m = m} {line = line} {s = s} {b = others} u v) t = then_span c sure (s_span a line p m s u (λ k. (t k).0)) (b_span a m q others v (λ k. (t k).1))

    i_span : (a : Around) (end p q : ℕ) (bs : Branches) → StandsI c a end p bs q → (sure → BranchesTakeUndotted bs) → Spans c sure p q (branches_length c.locals c.level (is_held a.count) a.iterator bs) (bound_by_branches bs)
    i_span a end p q bs («else» {b = b} u) t = b_span a p q b u t
    i_span a end p q bs (last_branch {m = m} {own = own} {e = e} {b = b} u h v) t =
        as_names c sure _ (λ k. sym (append-nil (bound_in b)))
        (as_span c sure _ (let x = E e in let y = BOf a b in omega arith) (then_span c sure (also_span c sure (e_span c sure own p m e u) (has_span c sure m own _ 3 refl refl h)) (b_span a (suc m) q b v (λ k. (t k).0))))
    i_span a end p q bs (branch {m = m} {j = j} {own = own} {e = e} {b = b} {bs = others} over u h1 v h2 w) t =
        let jump : behind_length (is_over others) ≡ 3 = ap behind_length over in
        as_span c sure _ (let x = E e in let y = BOf a b in let z = branches_length c.locals c.level (is_held a.count) a.iterator others in omega (arith, jump))
        (then_span c sure (also_span c sure (then_span c sure (also_span c sure (e_span c sure own p m e u) (has_span c sure m own _ 3 refl refl h1)) (b_span a (suc m) j b v (λ k. (t k).0))) (behind_span c sure j _ 3 refl refl h2)) (i_span a end (suc j) q others w (λ k. (t k).1)))

    x_span : (a : Around) (line p q : ℕ) (b : Block) (hs : Handlers) (rest : Block) → StandsX c a line p b hs rest q → (sure → TakesUndotted b) → (sure → HandlersTakeUndotted hs) → (sure → TakesUndotted rest)
        → Spans c sure p q (BOf (deeper a) b + HOf (deeper a) hs + BOf a rest + 7) (bound_in b ++ (bound_by_handlers hs ++ bound_in rest))
    x_span a line p q b hs rest («except» {j = j} {k = k} h1 u h2 v h3 w) t t1 t2 =
        as_span c sure _ (let x = BOf (deeper a) b in let y = HOf (deeper a) hs in let z = BOf a rest in omega arith)
        (then_span c sure (also_span c sure (then_span c sure (has_span c sure p line _ 3 refl refl h1) (b_span (deeper a) (suc p) j b u t)) (behind_span c sure j _ 3 refl refl h2))
        (then_span c sure (also_span c sure (h_span (deeper a) q (suc j) k hs v t1) (behind_span c sure k _ 1 refl refl h3)) (b_span a (suc k) q rest w t2)))

    h_span : (a : Around) (end p q : ℕ) (hs : Handlers) → StandsH c a end p hs q → (sure → HandlersTakeUndotted hs) → Spans c sure p q (HOf a hs) (bound_by_handlers hs)
    h_span a end p q hs no_clause t = none_span c sure p
    h_span a end p q hs (any {m = m} {own = own} {b = b} h1 u h2) t =
        as_span c sure _ (let x = BOf a b in omega arith) (also_span c sure (then_span c sure (has_span c sure p own _ 1 refl refl h1) (b_span a (suc p) m b u t)) (behind_span c sure m _ 3 refl refl h2))
    h_span a end p q hs (on {m = m} {j = j} {own = own} {e = e} {b = b} {hs = others} h1 u h2 h3 h4 v h5 w) t =
        as_span c sure _ (let x = E e in let y = BOf a b in let z = HOf a others in omega arith)
        (then_span c sure (also_span c sure (then_span c sure (also_span c sure (also_span c sure (also_span c sure (also_span c sure (has_span c sure p own _ 1 refl refl h1) (e_span c sure own (suc p) m e u)) (has_span c sure m own _ 1 refl refl h2)) (has_span c sure (suc m) own _ 3 refl refl h3)) (has_span c sure (suc (suc m)) own _ 1 refl refl h4))
        (b_span a (suc (suc (suc m))) j b v (λ k. (t k).0))) (behind_span c sure j _ 3 refl refl h5)) (h_span a end (suc j) q others w (λ k. (t k).1)))
    h_span a end p q hs (on_as {m = m} {j = j} {own = own} {e = e} {x = x} {b = b} {hs = others} h1 u h2 h3 h4 h5 v h6 h7 h8 h9 h10 h11 w) t =
        as_span c sure _ (let n = name_length c.locals x in let k = E e in let y = BOf (deeper a) b in let z = HOf a others in omega arith)
        (then_span c sure (also_span c sure (then_span c sure (also_span c sure (also_span c sure (also_span c sure (has_span c sure p own _ 1 refl refl h1) (e_span c sure own (suc p) m e u)) (has_span c sure m own _ 1 refl refl h2)) (has_span c sure (suc m) own _ 3 refl refl h3)) (store_span c sure (suc (suc m)) own x h4))
        (has_span c sure (suc (suc (suc m))) own _ 3 refl refl h5))
        (then_span c sure (also_span c sure (also_span c sure (also_span c sure (also_span c sure (also_span c sure (also_span c sure (b_span (deeper a) (suc (suc (suc (suc m)))) j b v (λ k. (t k).0)) (behind_span c sure j _ 1 refl refl h6)) (behind_span c sure (suc j) _ 1 refl refl h7)) (store_behind c sure (suc (suc j)) x h8))
        (delete_behind c sure (suc (suc (suc j))) x h9)) (behind_span c sure (suc (suc (suc (suc j)))) _ 1 refl refl h10)) (behind_span c sure (suc (suc (suc (suc (suc j))))) _ 3 refl refl h11)) (h_span a end (suc (suc (suc (suc (suc (suc j)))))) q others w (λ k. (t k).1))))
