-- How many turns expressions take at most without a step, and that code goes up.
use Rattle.std.proofs.Common.{ℕ, suc, ◌+◌, ◌≤◌, arith}
use Rattle.bc_scheme.specs.bc_ops.declared.instr.Op.{Op}
use Rattle.bc_scheme.specs.py_tree.declared.expr.CompareOp.{CompareOp}
use Rattle.bc_scheme.specs.py_meaning.Tree.{Expr, Constant, Named, Unary, Not, Binary, And, Or, Compare, Cond, TupleOf, ListOf, DictOf, Attr, Index, Call, Method, Exprs, NoExpr, More, Links, Last, Link, Pairs, NoPair, Pair, Keys, NoKey, Key}
use Rattle.bc_scheme.specs.Context.{Context}
use Rattle.bc_scheme.specs.Expressions.{StandsC, straight, negated, StandsE, literal, name, one, «not», two, «and», «or», compare, chain, cond, tuple, items, dict, attr, index, call, method, StandsEs, no_expr, next, StandsO, no_operand, operand, StandsL, last, link, StandsD, no_pair, pair, StandsK, no_key, key}

abbrev mutual
  pub esize : Expr → ℕ
  esize (Constant v) = 1
  esize (Named n) = 1
  esize (Unary op e) = suc (esize e)
  esize (Not e) = suc (esize e)
  esize (Binary op a b) = suc (esize a + esize b)
  esize (And e es) = suc (esize e + essize es)
  esize (Or e es) = suc (esize e + essize es)
  esize (Compare e links) = suc (esize e + lsize links)
  esize (Cond test a b) = suc (esize test + esize a + esize b)
  esize (TupleOf es) = suc (essize es)
  esize (ListOf es) = suc (essize es)
  esize (DictOf pairs) = suc (psize pairs)
  esize (Attr e n) = suc (esize e)
  esize (Index a b) = suc (esize a + esize b)
  esize (Call f es keys) = suc (esize f + essize es + ksize keys)
  esize (Method e n es keys) = suc (esize e + essize es + ksize keys)

  pub essize : Exprs → ℕ
  essize NoExpr = 0
  essize (More e es) = esize e + essize es

  pub lsize : Links → ℕ
  lsize (Last op e) = esize e
  lsize (Link op e links) = esize e + lsize links

  pub psize : Pairs → ℕ
  psize NoPair = 0
  psize (Pair k v pairs) = esize v + esize k + psize pairs

  pub ksize : Keys → ℕ
  ksize NoKey = 0
  ksize (Key n e keys) = esize e + ksize keys

pub e_pos : (e : Expr) → 1 ≤ esize e
e_pos (Constant v) = omega arith
e_pos (Named n) = omega arith
e_pos (Unary op e) = omega arith
e_pos (Not e) = omega arith
e_pos (Binary op a b) = omega arith
e_pos (And e es) = omega arith
e_pos (Or e es) = omega arith
e_pos (Compare e links) = omega arith
e_pos (Cond test a b) = omega arith
e_pos (TupleOf es) = omega arith
e_pos (ListOf es) = omega arith
e_pos (DictOf pairs) = omega arith
e_pos (Attr e n) = omega arith
e_pos (Index a b) = omega arith
e_pos (Call f es keys) = omega arith
e_pos (Method e n es keys) = omega arith

pub c_le : {c : Context} {line p : ℕ} {op : CompareOp} {q : ℕ} → StandsC c line p op q → p ≤ q
c_le (straight e h) = omega arith
c_le (negated e h h1) = omega arith

mutual
  pub e_le : {c : Context} {line p : ℕ} {e : Expr} {q : ℕ} → StandsE c line p e q → p ≤ q
  e_le (literal h) = omega arith
  e_le (name h) = omega arith
  e_le (one a h) = let x = e_le a in omega arith
  e_le («not» a h) = let x = e_le a in omega arith
  e_le (two a b h) = let x = e_le a in let y = e_le b in omega arith
  e_le («and» a o) = let x = e_le a in let y = o_le o in omega arith
  e_le («or» a o) = let x = e_le a in let y = o_le o in omega arith
  e_le (compare a b o) = let x = e_le a in let y = e_le b in let z = c_le o in omega arith
  e_le (chain a l h1 h2 h3) = let x = e_le a in let y = l_le l in omega arith
  e_le (cond t h1 a h2 b) = let x = e_le t in let y = e_le a in let z = e_le b in omega arith
  e_le (tuple es h) = let x = es_le es in omega arith
  e_le (items es h) = let x = es_le es in omega arith
  e_le (dict h d) = let x = d_le d in omega arith
  e_le (attr a h) = let x = e_le a in omega arith
  e_le (index a b h) = let x = e_le a in let y = e_le b in omega arith
  e_le (call i f es ks h) = let x = e_le f in let y = es_le es in let z = k_le ks in omega arith
  e_le (method i f h es ks h1) = let x = e_le f in let y = es_le es in let z = k_le ks in omega arith

  pub es_le : {c : Context} {line p : ℕ} {es : Exprs} {q : ℕ} → StandsEs c line p es q → p ≤ q
  es_le no_expr = omega arith
  es_le (next a es) = let x = e_le a in let y = es_le es in omega arith

  pub o_le : {c : Context} {line : ℕ} {op : Op} {end p : ℕ} {es : Exprs} {q : ℕ} → StandsO c line op end p es q → p ≤ q
  o_le no_operand = omega arith
  o_le (operand h a es) = let x = e_le a in let y = o_le es in omega arith

  pub l_le : {c : Context} {line fail p : ℕ} {links : Links} {q : ℕ} → StandsL c line fail p links q → p ≤ q
  l_le (last a o) = let x = e_le a in let y = c_le o in omega arith
  l_le (link a h1 h2 o h3 l) = let x = e_le a in let y = c_le o in let z = l_le l in omega arith

  pub d_le : {c : Context} {line p : ℕ} {pairs : Pairs} {q : ℕ} → StandsD c line p pairs q → p ≤ q
  d_le no_pair = omega arith
  d_le (pair v k h d) = let x = e_le v in let y = e_le k in let z = d_le d in omega arith

  pub k_le : {c : Context} {line p : ℕ} {keys : Keys} {q : ℕ} → StandsK c line p keys q → p ≤ q
  k_le no_key = omega arith
  k_le (key h a ks) = let x = e_le a in let y = k_le ks in omega arith
