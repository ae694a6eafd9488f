-- The patterns of expressions: `StandsE c line p e q` says that the code of e stands from position p up to q.
use Rattle.std.specs.Prelude.{◌≡◌, ℕ, suc, ◌+◌, ◌*◌, true, false, nat_lt}
use Rattle.bc_machine.specs.mpy_base.Val.{Val}
use Rattle.bc_machine.specs.bc_ops.declared.instr.Op.{Op}
use Rattle.bc_machine.specs.bc_ops.declared.instr.Op.TheVariants as ops
use Rattle.bc_machine.specs.bc_ops.declared.instr.Instr.TheVariants as instrs
use Rattle.py_meaning.specs.py_tree.declared.expr.UnaryOp.{UnaryOp}
use Rattle.py_meaning.specs.py_tree.declared.expr.BinaryOp.{BinaryOp}
use Rattle.py_meaning.specs.py_tree.declared.expr.CompareOp.{CompareOp}
use Rattle.bc_machine.specs.Library.{Name, Plain, Names, Jumps}
use Rattle.py_meaning.specs.Tree.{Expr, Constant, Named, Unary, Not, Binary, And, Or, Compare, Cond, TupleOf, ListOf, DictOf}
use Rattle.py_meaning.specs.Tree.{Attr, Index, Call, Method, Exprs, NoExpr, More, Links, Last, Link, Pairs, NoPair, Pair, Keys}
use Rattle.py_meaning.specs.Tree.{NoKey, Key, count, pair_count, key_count}
use Rattle.bc_scheme.specs.Context.{Context, Has, plain, number, loads, constant, unary_number, negation, comparing, is_negated, binary}

-- a comparison, with a `not` behind it for `not in` and `is not`
pub data StandsC (c : Context) (line : ℕ) : (p : ℕ) → CompareOp → (q : ℕ) → Type 0 where
  straight : {p : ℕ} {op : CompareOp} → is_negated op ≡ false → Has c line p (Plain (instrs.Binary (comparing op))) → StandsC c line p op (suc p)
  negated : {p : ℕ} {op : CompareOp} → is_negated op ≡ true → Has c line p (Plain (instrs.Binary (comparing op)))
      → Has c line (suc p) negation → StandsC c line p op (suc (suc p))

mutual
  -- an expression, whose value it puts on the slots
  pub data StandsE (c : Context) (line : ℕ) : (p : ℕ) → Expr → (q : ℕ) → Type 0 where
    literal : {p : ℕ} {v : Val} → Has c line p (constant v) → StandsE c line p (Constant v) (suc p)
    name : {p : ℕ} {n : Name} → Has c line p (loads c n) → StandsE c line p (Named n) (suc p)
    one : {p m : ℕ} {op : UnaryOp} {e : Expr} → StandsE c line p e m → Has c line m (Plain (instrs.Unary (unary_number op)))
        → StandsE c line p (Unary op e) (suc m)
    «not» : {p m : ℕ} {e : Expr} → StandsE c line p e m → Has c line m negation → StandsE c line p (Not e) (suc m)
    two : {p m n : ℕ} {op : BinaryOp} {a b : Expr} → StandsE c line p a m → StandsE c line m b n → Has c line n (binary op)
        → StandsE c line p (Binary op a b) (suc n)
    «and» : {p m q : ℕ} {e : Expr} {es : Exprs} → StandsE c line p e m → StandsO c line ops.JumpIfFalseOrPop q m es q → StandsE c line p (And e es) q
    «or» : {p m q : ℕ} {e : Expr} {es : Exprs} → StandsE c line p e m → StandsO c line ops.JumpIfTrueOrPop q m es q → StandsE c line p (Or e es) q
    compare : {p m n q : ℕ} {op : CompareOp} {a b : Expr} → StandsE c line p a m → StandsE c line m b n → StandsC c line n op q
        → StandsE c line p (Compare a (Last op b)) q
    chain : {p m n : ℕ} {op : CompareOp} {a b : Expr} {links : Links} → StandsE c line p a m → StandsL c line (suc n) m (Link op b links) n
        → Has c line n (Jumps ops.Jump (suc (suc (suc n)))) → Has c line (suc n) (plain ops.RotTwo) → Has c line (suc (suc n)) (plain ops.PopTop)
        → StandsE c line p (Compare a (Link op b links)) (suc (suc (suc n)))
    cond : {p m n q : ℕ} {test a b : Expr} → StandsE c line p test m → Has c line m (Jumps ops.PopJumpIfFalse (suc n)) → StandsE c line (suc m) a n
        → Has c line n (Jumps ops.Jump q) → StandsE c line (suc n) b q → StandsE c line p (Cond test a b) q
    tuple : {p m : ℕ} {es : Exprs} → StandsEs c line p es m → Has c line m (number ops.BuildTuple (count es)) → StandsE c line p (TupleOf es) (suc m)
    items : {p m : ℕ} {es : Exprs} → StandsEs c line p es m → Has c line m (number ops.BuildList (count es)) → StandsE c line p (ListOf es) (suc m)
    dict : {p q : ℕ} {pairs : Pairs} → Has c line p (number ops.BuildMap (pair_count pairs)) → StandsD c line (suc p) pairs q
        → StandsE c line p (DictOf pairs) q
    attr : {p m : ℕ} {e : Expr} {n : Name} → StandsE c line p e m → Has c line m (Names ops.LoadAttr n) → StandsE c line p (Attr e n) (suc m)
    index : {p m n : ℕ} {a b : Expr} → StandsE c line p a m → StandsE c line m b n → Has c line n (plain ops.LoadSubscr) → StandsE c line p (Index a b) (suc n)
    -- the low eight bits of a call's number have the count of positional arguments
    call : {p m n k : ℕ} {f : Expr} {args : Exprs} {keys : Keys} → nat_lt (count args) 256 ≡ true → StandsE c line p f m
        → StandsEs c line m args n → StandsK c line n keys k
        → Has c line k (number ops.CallFunction (count args + 256 * key_count keys)) → StandsE c line p (Call f args keys) (suc k)
    method : {p m n k : ℕ} {e : Expr} {a : Name} {args : Exprs} {keys : Keys} → nat_lt (count args) 256 ≡ true → StandsE c line p e m
        → Has c line m (Names ops.LoadMethod a)
        → StandsEs c line (suc m) args n → StandsK c line n keys k → Has c line k (number ops.CallMethod (count args + 256 * key_count keys))
        → StandsE c line p (Method e a args keys) (suc k)

  -- expressions one behind the other
  pub data StandsEs (c : Context) (line : ℕ) : (p : ℕ) → Exprs → (q : ℕ) → Type 0 where
    no_expr : {p : ℕ} → StandsEs c line p NoExpr p
    next : {p m q : ℕ} {e : Expr} {es : Exprs} → StandsE c line p e m → StandsEs c line m es q → StandsEs c line p (More e es) q

  -- the other operands of `and` and `or`, each behind a jump to the end
  pub data StandsO (c : Context) (line : ℕ) : Op → (end p : ℕ) → Exprs → (q : ℕ) → Type 0 where
    no_operand : {op : Op} {end p : ℕ} → StandsO c line op end p NoExpr p
    operand : {op : Op} {end p m q : ℕ} {e : Expr} {es : Exprs} → Has c line p (Jumps op end) → StandsE c line (suc p) e m
        → StandsO c line op end m es q → StandsO c line op end p (More e es) q

  -- the links of a chain, of which each but the last may jump to where it fails
  pub data StandsL (c : Context) (line : ℕ) : (fail p : ℕ) → Links → (q : ℕ) → Type 0 where
    last : {fail p m q : ℕ} {op : CompareOp} {e : Expr} → StandsE c line p e m → StandsC c line m op q → StandsL c line fail p (Last op e) q
    link : {fail p m n q : ℕ} {op : CompareOp} {e : Expr} {links : Links} → StandsE c line p e m → Has c line m (plain ops.DupTop)
        → Has c line (suc m) (plain ops.RotThree)
        → StandsC c line (suc (suc m)) op n → Has c line n (Jumps ops.JumpIfFalseOrPop fail) → StandsL c line fail (suc n) links q
        → StandsL c line fail p (Link op e links) q

  -- pairs, of which each has its value in front of its key
  pub data StandsD (c : Context) (line : ℕ) : (p : ℕ) → Pairs → (q : ℕ) → Type 0 where
    no_pair : {p : ℕ} → StandsD c line p NoPair p
    pair : {p m n q : ℕ} {k v : Expr} {pairs : Pairs} → StandsE c line p v m → StandsE c line m k n → Has c line n (plain ops.StoreMap)
        → StandsD c line (suc n) pairs q → StandsD c line p (Pair k v pairs) q

  -- keyword arguments, each behind its name
  pub data StandsK (c : Context) (line : ℕ) : (p : ℕ) → Keys → (q : ℕ) → Type 0 where
    no_key : {p : ℕ} → StandsK c line p NoKey p
    key : {p m q : ℕ} {n : Name} {e : Expr} {keys : Keys} → Has c line p (Names ops.LoadConstString n) → StandsE c line (suc p) e m
        → StandsK c line m keys q → StandsK c line p (Key n e keys) q
