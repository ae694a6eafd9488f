-- The greatest measure of a call or a dict display that stands in a text, code that is never reached included. From level 1 on an
-- assertion has no code.
use Rattle.std.specs.Prelude.{ℕ, max}
use Rattle.emit_measures.specs.bc_scheme.py_meaning.Tree.{Expr, Constant, Named, Unary, Not, Binary, And, Or, Compare, Cond}
use Rattle.emit_measures.specs.bc_scheme.py_meaning.Tree.{TupleOf, ListOf, DictOf, Attr, Index, Call, Method, Exprs, NoExpr, More}
use Rattle.emit_measures.specs.bc_scheme.py_meaning.Tree.{Links, Last, Link, Pairs, NoPair, Pair, Keys, NoKey, Key, Target}
use Rattle.emit_measures.specs.bc_scheme.py_meaning.Tree.{ToName, ToAttr, ToIndex, ToEach, Targets, Only, Then, Stmt, Do, Assign}
use Rattle.emit_measures.specs.bc_scheme.py_meaning.Tree.{AugName, AugAttr, AugIndex, Delete, Return, Raise, Assert, AssertWith}
use Rattle.emit_measures.specs.bc_scheme.py_meaning.Tree.{If, While, For, Try, Finally, TryFinally, Def, Block, End, Next}
use Rattle.emit_measures.specs.bc_scheme.py_meaning.Tree.{Branches, Else, Case, Handlers, NoHandler, Any, On, OnAs}
use Rattle.emit_measures.specs.bc_scheme.Heights.{at_level}

-- what a call measures, by its arguments and keywords, and what a dict display does, by its pairs
module _ (of_call : Exprs → Keys → ℕ) (of_dict : Pairs → ℕ) where
  abbrev mutual
    pub greatest : Expr → ℕ
    greatest (Constant v) = 0
    greatest (Named name) = 0
    greatest (Unary op e) = greatest e
    greatest (Not e) = greatest e
    greatest (Binary op a b) = max (greatest a) (greatest b)
    greatest (And e es) = max (greatest e) (greatest_of es)
    greatest (Or e es) = max (greatest e) (greatest_of es)
    greatest (Compare e links) = max (greatest e) (greatest_links links)
    greatest (Cond test a b) = max (greatest test) (max (greatest a) (greatest b))
    greatest (TupleOf es) = greatest_of es
    greatest (ListOf es) = greatest_of es
    greatest (DictOf pairs) = max (of_dict pairs) (greatest_pairs pairs)
    greatest (Attr e name) = greatest e
    greatest (Index a b) = max (greatest a) (greatest b)
    greatest (Call f args keys) = max (of_call args keys) (max (greatest f) (max (greatest_of args) (greatest_keys keys)))
    greatest (Method e name args keys) = max (of_call args keys) (max (greatest e) (max (greatest_of args) (greatest_keys keys)))

    pub greatest_of : Exprs → ℕ
    greatest_of NoExpr = 0
    greatest_of (More e es) = max (greatest e) (greatest_of es)

    pub greatest_links : Links → ℕ
    greatest_links (Last op e) = greatest e
    greatest_links (Link op e links) = max (greatest e) (greatest_links links)

    pub greatest_pairs : Pairs → ℕ
    greatest_pairs NoPair = 0
    greatest_pairs (Pair key value pairs) = max (max (greatest value) (greatest key)) (greatest_pairs pairs)

    pub greatest_keys : Keys → ℕ
    greatest_keys NoKey = 0
    greatest_keys (Key name e keys) = max (greatest e) (greatest_keys keys)

  abbrev mutual
    pub greatest_store : Target → ℕ
    greatest_store (ToName name) = 0
    greatest_store (ToAttr e name) = greatest e
    greatest_store (ToIndex a b) = max (greatest a) (greatest b)
    greatest_store (ToEach ts) = greatest_stores ts

    pub greatest_stores : Targets → ℕ
    greatest_stores (Only t) = greatest_store t
    greatest_stores (Then t ts) = max (greatest_store t) (greatest_stores ts)

  module _ (level : ℕ) where
    abbrev mutual
      pub greatest_stmt : Stmt → ℕ
      greatest_stmt (Do e) = greatest e
      greatest_stmt (Assign ts e) = max (greatest e) (greatest_stores ts)
      greatest_stmt (AugName name op e) = greatest e
      greatest_stmt (AugAttr a name op e) = max (greatest a) (greatest e)
      greatest_stmt (AugIndex a b op e) = max (max (greatest a) (greatest b)) (greatest e)
      greatest_stmt (Delete ts) = greatest_stores ts
      greatest_stmt (Return e) = greatest e
      greatest_stmt (Raise e) = greatest e
      greatest_stmt (Assert e) = at_level level (greatest e)
      greatest_stmt (AssertWith e message) = at_level level (max (greatest e) (greatest message))
      greatest_stmt (If branches) = greatest_branches branches
      greatest_stmt (While e body rest) = max (greatest e) (max (greatest_block body) (greatest_block rest))
      greatest_stmt (For t e body rest) = max (max (greatest_store t) (greatest e)) (max (greatest_block body) (greatest_block rest))
      greatest_stmt (Try body handlers rest) = max (greatest_block body) (max (greatest_handlers handlers) (greatest_block rest))
      greatest_stmt (Finally body last) = max (greatest_block body) (greatest_block last)
      greatest_stmt (TryFinally body handlers rest last) =
          max (max (greatest_block body) (max (greatest_handlers handlers) (greatest_block rest))) (greatest_block last)
      greatest_stmt (Def number name params defaults body) = greatest_of defaults
      greatest_stmt _ = 0

      pub greatest_block : Block → ℕ
      greatest_block End = 0
      greatest_block (Next line s b) = max (greatest_stmt s) (greatest_block b)

      pub greatest_branches : Branches → ℕ
      greatest_branches (Else b) = greatest_block b
      greatest_branches (Case line e b branches) = max (greatest e) (max (greatest_block b) (greatest_branches branches))

      pub greatest_handlers : Handlers → ℕ
      greatest_handlers NoHandler = 0
      greatest_handlers (Any line b) = greatest_block b
      greatest_handlers (On line e b handlers) = max (greatest e) (max (greatest_block b) (greatest_handlers handlers))
      greatest_handlers (OnAs line e name b handlers) = max (greatest e) (max (greatest_block b) (greatest_handlers handlers))
