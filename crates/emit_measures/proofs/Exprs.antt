-- Expressions, from their patterns.
use Rattle.std.proofs.Common.{◌≡◌, ℕ, suc, ◌+◌, Bool, true, false, [], refl, arith, if◌then◌else◌, sym, ap}
use Rattle.std.specs.Prelude.{length, nat_le}
use Rattle.mpy_base.specs.Val.{Val, Nil, Truth, Int, Str}
use Rattle.bc_scheme.specs.bc_ops.declared.instr.Op.{Op}
use Rattle.bc_scheme.specs.bc_ops.declared.instr.Op.TheVariants as ops
use Rattle.py_tree.specs.declared.expr.CompareOp.{CompareOp}
use Rattle.bc_scheme.specs.py_meaning.Tree.{Name, Expr, Exprs, Links, Pairs, Keys}
use Rattle.bc_scheme.specs.py_meaning.Tree as tree
use Rattle.bc_scheme.specs.bc_machine.Library.{Names, Loads}
use Rattle.bc_scheme.specs.Context.{Context, is_negated, constant}
use Rattle.bc_scheme.specs.Expressions.{StandsC, straight, negated, StandsE, literal, name, one, «not», two, «and», «or», compare, chain, cond, tuple, items, dict, attr, index, call, method, StandsEs, no_expr, next, StandsO, no_operand, operand, StandsL, last, link, StandsD, no_pair, pair, StandsK, no_key, key}
use Rattle.emit_measures.specs.Wide.{wide_item}
use Rattle.emit_measures.specs.Named.{local_in}
use Rattle.emit_measures.specs.Lengths.{comparison_length, constant_length, expr_length, exprs_length, operands_length, links_length, pairs_length, keys_length}
use Rattle.emit_measures.proofs.Spans.{Spans, none_span, also_span, as_span, has_span, load_span}

str_wide : (b : Bool) (text : Name) (v : Val) → wide_item (if b then Names ops.LoadConstString text else Loads v) ≡ 4
str_wide true text v = refl
str_wide false text v = refl

str_local : (b : Bool) (text : Name) (v : Val) → local_in (if b then Names ops.LoadConstString text else Loads v) ≡ 0
str_local true text v = refl
str_local false text v = refl

constant_wide : (v : Val) → wide_item (constant v) ≡ constant_length v
constant_wide Nil = refl
constant_wide (Truth true) = refl
constant_wide (Truth false) = refl
constant_wide (Int z) = refl
constant_wide (Str text) = str_wide (nat_le (length text) 10) text (Str text)
constant_wide v = refl

constant_local : (v : Val) → local_in (constant v) ≡ 0
constant_local Nil = refl
constant_local (Truth true) = refl
constant_local (Truth false) = refl
constant_local (Int z) = refl
constant_local (Str text) = str_local (nat_le (length text) 10) text (Str text)
constant_local v = refl

straight_is : (op : CompareOp) → is_negated op ≡ false → 1 ≡ comparison_length op
straight_is op e = sym (ap (λ b. if b then 2 else 1) e)

negated_is : (op : CompareOp) → is_negated op ≡ true → 2 ≡ comparison_length op
negated_is op e = sym (ap (λ b. if b then 2 else 1) e)

module _ (c : Context) (sure : Type 0) (line : ℕ) where
  -- parts, one behind another
  then2 : {p m q a b : ℕ} → Spans c sure p m a [] → Spans c sure m q b [] → Spans c sure p q (a + b) []
  then2 s t = also_span c sure s t

  comparison : (p q : ℕ) (op : CompareOp) → StandsC c line p op q → Spans c sure p q (comparison_length op) []
  comparison p q op (straight n h) = as_span c sure _ (straight_is op n) (has_span c sure p line _ 1 refl refl h)
  comparison p q op (negated n h1 h2) = as_span c sure _ (negated_is op n) (then2 (has_span c sure p line _ 1 refl refl h1) (has_span c sure (suc p) line _ 1 refl refl h2))

  abbrev E : Expr → ℕ
  E = expr_length c.locals

  mutual
    pub e_span : (p q : ℕ) (e : Expr) → StandsE c line p e q → Spans c sure p q (expr_length c.locals e) []
    e_span p q e (literal {v = v} h) = has_span c sure p line (constant v) (constant_length v) (constant_wide v) (constant_local v) h
    e_span p q e (name {n = n} h) = load_span c sure p line n h
    e_span p q e (one {m = m} {e = x} u h) = then2 (e_span p m x u) (has_span c sure m line _ 1 refl refl h)
    e_span p q e («not» {m = m} {e = x} u h) = then2 (e_span p m x u) (has_span c sure m line _ 1 refl refl h)
    e_span p q e (two {m = m} {n = n} {a = a} {b = b} u v h) = then2 (then2 (e_span p m a u) (e_span m n b v)) (has_span c sure n line _ 1 refl refl h)
    e_span p q e («and» {m = m} {e = x} {es = es} u v) = then2 (e_span p m x u) (o_span ops.JumpIfFalseOrPop q m q es v)
    e_span p q e («or» {m = m} {e = x} {es = es} u v) = then2 (e_span p m x u) (o_span ops.JumpIfTrueOrPop q m q es v)
    e_span p q e (compare {m = m} {n = n} {op = op} {a = a} {b = b} u v k) =
        as_span c sure _ (let x = E a in let y = E b in let z = comparison_length op in omega arith) (then2 (then2 (e_span p m a u) (e_span m n b v)) (comparison n q op k))
    e_span p q e (chain {m = m} {n = n} {op = op} {a = a} {b = b} {links = links} u v h1 h2 h3) =
        as_span c sure _ (let x = E a in let y = E b in let z = comparison_length op in let w = links_length c.locals links in omega arith)
        (then2 (then2 (then2 (then2 (e_span p m a u) (l_span (suc n) m n (tree.Link op b links) v)) (has_span c sure n line _ 3 refl refl h1)) (has_span c sure (suc n) line _ 1 refl refl h2)) (has_span c sure (suc (suc n)) line _ 1 refl refl h3))
    e_span p q e (cond {m = m} {n = n} {test = test} {a = a} {b = b} u h1 v h2 w) =
        as_span c sure _ (let x = E test in let y = E a in let z = E b in omega arith)
        (then2 (then2 (then2 (then2 (e_span p m test u) (has_span c sure m line _ 3 refl refl h1)) (e_span (suc m) n a v)) (has_span c sure n line _ 3 refl refl h2)) (e_span (suc n) q b w))
    e_span p q e (tuple {m = m} {es = es} u h) = then2 (es_span p m es u) (has_span c sure m line _ 4 refl refl h)
    e_span p q e (items {m = m} {es = es} u h) = then2 (es_span p m es u) (has_span c sure m line _ 4 refl refl h)
    e_span p q e (dict {pairs = pairs} h u) =
        as_span c sure _ (let x = pairs_length c.locals pairs in omega arith) (then2 (has_span c sure p line _ 4 refl refl h) (d_span (suc p) q pairs u))
    e_span p q e (attr {m = m} {e = x} u h) = then2 (e_span p m x u) (has_span c sure m line _ 4 refl refl h)
    e_span p q e (index {m = m} {n = n} {a = a} {b = b} u v h) = then2 (then2 (e_span p m a u) (e_span m n b v)) (has_span c sure n line _ 1 refl refl h)
    e_span p q e (call {m = m} {n = n} {k = k} {f = f} {args = args} {keys = keys} few u v w h) =
        then2 (then2 (then2 (e_span p m f u) (es_span m n args v)) (k_span n k keys w)) (has_span c sure k line _ 4 refl refl h)
    e_span p q e (method {m = m} {n = n} {k = k} {e = x} {args = args} {keys = keys} few u h1 v w h2) =
        as_span c sure _ (let r = E x in let y = exprs_length c.locals args in let z = keys_length c.locals keys in omega arith)
        (then2 (then2 (then2 (then2 (e_span p m x u) (has_span c sure m line _ 4 refl refl h1)) (es_span (suc m) n args v)) (k_span n k keys w)) (has_span c sure k line _ 4 refl refl h2))

    pub es_span : (p q : ℕ) (es : Exprs) → StandsEs c line p es q → Spans c sure p q (exprs_length c.locals es) []
    es_span p q es no_expr = none_span c sure p
    es_span p q es (next {m = m} {e = e} {es = others} u v) = then2 (e_span p m e u) (es_span m q others v)

    o_span : (op : Op) (end p q : ℕ) (es : Exprs) → StandsO c line op end p es q → Spans c sure p q (operands_length c.locals es) []
    o_span op end p q es no_operand = none_span c sure p
    o_span op end p q es (operand {m = m} {e = e} {es = others} h u v) =
        as_span c sure _ (let x = E e in let y = operands_length c.locals others in omega arith)
        (then2 (then2 (has_span c sure p line _ 3 refl refl h) (e_span (suc p) m e u)) (o_span op end m q others v))

    l_span : (fail p q : ℕ) (links : Links) → StandsL c line fail p links q → Spans c sure p q (links_length c.locals links) []
    l_span fail p q links (last {m = m} {op = op} {e = e} u k) = then2 (e_span p m e u) (comparison m q op k)
    l_span fail p q links (link {m = m} {n = n} {op = op} {e = e} {links = others} u h1 h2 k h3 v) =
        as_span c sure _ (let x = E e in let y = links_length c.locals others in let z = comparison_length op in omega arith)
        (then2 (then2 (then2 (then2 (then2 (e_span p m e u) (has_span c sure m line _ 1 refl refl h1)) (has_span c sure (suc m) line _ 1 refl refl h2)) (comparison (suc (suc m)) n op k)) (has_span c sure n line _ 3 refl refl h3)) (l_span fail (suc n) q others v))

    d_span : (p q : ℕ) (pairs : Pairs) → StandsD c line p pairs q → Spans c sure p q (pairs_length c.locals pairs) []
    d_span p q pairs no_pair = none_span c sure p
    d_span p q pairs (pair {m = m} {n = n} {k = k} {v = v} {pairs = others} u w h x) =
        then2 (then2 (then2 (e_span p m v u) (e_span m n k w)) (has_span c sure n line _ 1 refl refl h)) (d_span (suc n) q others x)

    k_span : (p q : ℕ) (keys : Keys) → StandsK c line p keys q → Spans c sure p q (keys_length c.locals keys) []
    k_span p q keys no_key = none_span c sure p
    k_span p q keys (key {m = m} {e = e} {keys = others} h u v) =
        as_span c sure _ (let x = E e in let y = keys_length c.locals others in omega arith)
        (then2 (then2 (has_span c sure p line _ 4 refl refl h) (e_span (suc p) m e u)) (k_span m q others v))
