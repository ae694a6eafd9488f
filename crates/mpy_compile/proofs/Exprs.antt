-- The code of expressions may be written.
use Rattle.std.proofs.Common.{◌≡◌, ℕ, suc, ◌<◌, ◌≤◌, Some, refl, arith, slice_get}
use Rattle.std.specs.Prelude.{max}
use Rattle.emit_module.specs.bc_machine.bc_ops.declared.instr.Op.{Op}
use Rattle.emit_module.specs.bc_machine.bc_ops.declared.instr.Op.TheVariants as ops
use Rattle.emit_module.specs.py_tree.declared.expr.CompareOp.{CompareOp}
use Rattle.emit_module.specs.py_meaning.Tree.{Expr, Exprs, Links, Pairs, Keys, count, pair_count, key_count}
use Rattle.emit_module.specs.py_meaning.Tree as tree
use Rattle.emit_module.specs.bc_machine.Library.{Item, Jumps, Line}
use Rattle.emit_module.specs.bc_labels.Labels.{HasOffset}
use Rattle.emit_module.specs.bc_machine.bc_ops.Table.{code_of, form_of, name_form, number_form, jump_form, plain_form, short_form}
use Rattle.emit_module.specs.bc_scheme.Context.{Context, Has, constant}
use Rattle.emit_module.specs.bc_scheme.Expressions.{StandsC, straight, negated, StandsE, literal, name, one, «not», two, «and», «or», compare, chain, cond, tuple, items, dict, attr, index, call, method, StandsEs, no_expr, next, StandsO, no_operand, operand, StandsL, last, link, StandsD, no_pair, pair, StandsK, no_key, key}
use Rattle.emit_module.specs.tr_source.Greatest.{greatest, greatest_of, greatest_links, greatest_pairs, greatest_keys}
use Rattle.emit_module.specs.tr_source.Spelled.{IsSpelled, AreSpelled, LinksSpelled, PairsSpelled, KeysSpelled}
use Rattle.mpy_compile.proofs.Wells.{Kept, IsPut, loads_well, constant_well, unary_well, comparing_well, binary_well, tuple_well, list_well, dict_well, call_well, method_well}
use Rattle.mpy_compile.proofs.Regions.{Region, empty, joined, has, has_ahead}

abbrev pub arguments : Exprs → Keys → ℕ
arguments args keys = max (count args) (key_count keys)

abbrev pub no_pairs : Pairs → ℕ
no_pairs pairs = 0

-- the most arguments of a call in it
abbrev pub most : Expr → ℕ
most = greatest arguments no_pairs

abbrev pub most_of : Exprs → ℕ
most_of = greatest_of arguments no_pairs

abbrev most_links : Links → ℕ
most_links = greatest_links arguments no_pairs

abbrev most_pairs : Pairs → ℕ
most_pairs = greatest_pairs arguments no_pairs

abbrev most_keys : Keys → ℕ
most_keys = greatest_keys arguments no_pairs

module _ (c : Context) (size n_state children : ℕ) (state : n_state ≤ 4096) (few : children ≤ 65535) (kept : (p : ℕ) (l : Line) → slice_get c.lines p ≡ Some l → Kept size n_state children l.item) (line : ℕ) where
  -- in one line
  abbrev pub Own : (p q : ℕ) → Type 0
  Own p q = Region c size n_state children kept p q line line

  pub on : {p m q : ℕ} → Own p m → Own m q → Own p q
  on s t = joined c size n_state children kept s t

  pub nil : (p : ℕ) → Own p p
  nil p = empty c size n_state children kept p line line (let n = line in omega arith)

  pub put : (p : ℕ) (item : Item) → (Kept size n_state children item → IsPut item) → Has c line p item → Own p (suc p)
  put p item w h = has c size n_state children kept p line item w h

  pub ahead : (p : ℕ) (op : Op) (target : ℕ) → HasOffset (form_of (code_of op)) op → p < target → Has c line p (Jumps op target) → Own p (suc p)
  ahead p op target jumps forward h = has_ahead c size n_state children kept p line op target jumps forward h

  comparison : (p q : ℕ) (op : CompareOp) → StandsC c line p op q → Own p q
  unfolding form_of name_form number_form jump_form plain_form short_form
  comparison p q op (straight n h) = put p _ (λ k. comparing_well size n_state children state few op) h
  comparison p q op (negated n h1 h2) = on (put p _ (λ k. comparing_well size n_state children state few op) h1) (put (suc p) _ (λ k. (tt, omega arith)) h2)

  mutual
    unfolding form_of name_form number_form jump_form plain_form short_form

    pub e_own : (p q : ℕ) (e : Expr) → IsSpelled e → most e ≤ 255 → StandsE c line p e q → Own p q
    e_own p q e s g (literal {v = v} h) = put p (constant v) (λ k. constant_well size n_state children state few v s) h
    e_own p q e s g (name {n = n} h) = put p _ (loads_well size n_state children state few c n s) h
    e_own p q e s g (one {m = m} {op = op} {e = x} u h) = on (e_own p m x s g u) (put m _ (λ k. unary_well size n_state children state few op) h)
    e_own p q e s g («not» {m = m} {e = x} u h) = on (e_own p m x s g u) (put m _ (λ k. (tt, omega arith)) h)
    e_own p q e s g (two {m = m} {n = n} {op = op} {a = a} {b = b} u v h) =
        on (on (e_own p m a s.0 (omega (arith, g)) u) (e_own m n b s.1 (omega (arith, g)) v)) (put n _ (λ k. binary_well size n_state children state few op) h)
    e_own p q e s g («and» {m = m} {e = x} {es = es} u v) = on (e_own p m x s.0 (omega (arith, g)) u) (o_own ops.JumpIfFalseOrPop refl q m q es s.1 (omega (arith, g)) (omega arith) v)
    e_own p q e s g («or» {m = m} {e = x} {es = es} u v) = on (e_own p m x s.0 (omega (arith, g)) u) (o_own ops.JumpIfTrueOrPop refl q m q es s.1 (omega (arith, g)) (omega arith) v)
    e_own p q e s g (compare {m = m} {n = n} {op = op} {a = a} {b = b} u v k) = on (on (e_own p m a s.0 (omega (arith, g)) u) (e_own m n b s.1 (omega (arith, g)) v)) (comparison n q op k)
    e_own p q e s g (chain {m = m} {n = n} {op = op} {a = a} {b = b} {links = links} u v h1 h2 h3) =
        on (on (on (on (e_own p m a s.0 (omega (arith, g)) u) (l_own (suc n) m n (tree.Link op b links) s.1 (omega (arith, g)) (omega arith) v)) (put n _ (λ k. (refl, refl)) h1)) (put (suc n) _ (λ k. (tt, refl)) h2)) (put (suc (suc n)) _ (λ k. (tt, refl)) h3)
    e_own p q e s g (cond {m = m} {n = n} {test = test} {a = a} {b = b} u h1 v h2 w) =
        on (on (on (on (e_own p m test s.0 (omega (arith, g)) u) (put m _ (λ k. (refl, refl)) h1)) (e_own (suc m) n a s.1 (omega (arith, g)) v)) (put n _ (λ k. (refl, refl)) h2)) (e_own (suc n) q b s.2 (omega (arith, g)) w)
    e_own p q e s g (tuple {m = m} {es = es} u h) = on (es_own p m es s g u) (put m _ (tuple_well size n_state children state few (count es)) h)
    e_own p q e s g (items {m = m} {es = es} u h) = on (es_own p m es s g u) (put m _ (list_well size n_state children state few (count es)) h)
    e_own p q e s g (dict {pairs = pairs} h u) = on (put p _ (dict_well size n_state children state few (pair_count pairs)) h) (d_own (suc p) q pairs s (omega (arith, g)) u)
    e_own p q e s g (attr {m = m} {e = x} u h) = on (e_own p m x s.0 g u) (put m _ (λ k. (refl, s.1)) h)
    e_own p q e s g (index {m = m} {n = n} {a = a} {b = b} u v h) = on (on (e_own p m a s.0 (omega (arith, g)) u) (e_own m n b s.1 (omega (arith, g)) v)) (put n _ (λ k. (tt, refl)) h)
    e_own p q e s g (call {m = m} {n = n} {k = k} {f = f} {args = args} {keys = keys} below u v w h) =
        on (on (on (e_own p m f s.0 (omega (arith, g)) u) (es_own m n args s.1 (omega (arith, g)) v)) (k_own n k keys s.2 (omega (arith, g)) w))
        (put k _ (λ l. call_well size n_state children state few (count args) (key_count keys) (omega (arith, g)) (omega (arith, g))) h)
    e_own p q e s g (method {m = m} {n = n} {k = k} {e = x} {args = args} {keys = keys} below u h1 v w h2) =
        on (on (on (on (e_own p m x s.0 (omega (arith, g)) u) (put m _ (λ l. (refl, s.1)) h1)) (es_own (suc m) n args s.2 (omega (arith, g)) v)) (k_own n k keys s.3 (omega (arith, g)) w))
        (put k _ (λ l. method_well size n_state children state few (count args) (key_count keys) (omega (arith, g)) (omega (arith, g))) h2)

    pub es_own : (p q : ℕ) (es : Exprs) → AreSpelled es → most_of es ≤ 255 → StandsEs c line p es q → Own p q
    es_own p q es s g no_expr = nil p
    es_own p q es s g (next {m = m} {e = e} {es = others} u v) = on (e_own p m e s.0 (omega (arith, g)) u) (es_own m q others s.1 (omega (arith, g)) v)

    o_own : (op : Op) → HasOffset (form_of (code_of op)) op → (end p q : ℕ) (es : Exprs) → AreSpelled es → most_of es ≤ 255 → q ≤ end → StandsO c line op end p es q → Own p q
    o_own op jumps end p q es s g le no_operand = nil p
    o_own op jumps end p q es s g le (operand {m = m} {e = e} {es = others} h u v) =
        let first = e_own (suc p) m e s.0 (omega (arith, g)) u in
        let rest = o_own op jumps end m q others s.1 (omega (arith, g)) le v in
        let x = first.rises in
        let y = rest.rises in
        on (on (ahead p op end jumps (omega (arith, x, y, le)) h) first) rest

    l_own : (fail p q : ℕ) (links : Links) → LinksSpelled links → most_links links ≤ 255 → q ≤ fail → StandsL c line fail p links q → Own p q
    l_own fail p q links s g le (last {m = m} {op = op} {e = e} u k) = on (e_own p m e s g u) (comparison m q op k)
    l_own fail p q links s g le (link {m = m} {n = n} {op = op} {e = e} {links = others} u h1 h2 k h3 v) =
        let rest = l_own fail (suc n) q others s.1 (omega (arith, g)) le v in
        let x = rest.rises in
        on (on (on (on (on (e_own p m e s.0 (omega (arith, g)) u) (put m _ (λ l. (tt, refl)) h1)) (put (suc m) _ (λ l. (tt, refl)) h2)) (comparison (suc (suc m)) n op k)) (ahead n ops.JumpIfFalseOrPop fail refl (omega (arith, x, le)) h3)) rest

    d_own : (p q : ℕ) (pairs : Pairs) → PairsSpelled pairs → most_pairs pairs ≤ 255 → StandsD c line p pairs q → Own p q
    d_own p q pairs s g no_pair = nil p
    d_own p q pairs s g (pair {m = m} {n = n} {k = k} {v = v} {pairs = others} u w h x) =
        on (on (on (e_own p m v s.1 (omega (arith, g)) u) (e_own m n k s.0 (omega (arith, g)) w)) (put n _ (λ l. (tt, refl)) h)) (d_own (suc n) q others s.2 (omega (arith, g)) x)

    k_own : (p q : ℕ) (keys : Keys) → KeysSpelled keys → most_keys keys ≤ 255 → StandsK c line p keys q → Own p q
    k_own p q keys s g no_key = nil p
    k_own p q keys s g (key {m = m} {e = e} {keys = others} h u v) = on (on (put p _ (λ l. (refl, s.0)) h) (e_own (suc p) m e s.1 (omega (arith, g)) u)) (k_own m q others s.2 (omega (arith, g)) v)
