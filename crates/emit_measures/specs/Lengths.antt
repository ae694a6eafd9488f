-- The wide length of a text's code, from its tree.
use Rattle.std.specs.Prelude.{ℕ, ◌+◌, ◌*◌, List, [], ◌∷◌, length, Bool, true, false, Option, Some, None, nat_lt, position, bytes_eq, if◌then◌else◌}
use Rattle.mpy_base.specs.Val.{Val, Nil, Truth, Int}
use Rattle.py_tree.specs.declared.expr.CompareOp.{CompareOp}
use Rattle.py_tree.specs.declared.stmt.Alias.{Alias}
use Rattle.bc_scheme.specs.py_effects.Modules.{parts_of}
use Rattle.bc_scheme.specs.py_meaning.Tree.{Name, Expr, Constant, Named, Unary, Not, Binary, And, Or, Compare, Cond, TupleOf}
use Rattle.bc_scheme.specs.py_meaning.Tree.{ListOf, DictOf, Attr, Index, Call, Method, Exprs, NoExpr, More, Links, Last, Link}
use Rattle.bc_scheme.specs.py_meaning.Tree.{Pairs, NoPair, Pair, Keys, NoKey, Key, Target, ToName, ToAttr, ToIndex, ToEach}
use Rattle.bc_scheme.specs.py_meaning.Tree.{Targets, Only, Then, Stmt, Do, Assign, AugName, AugAttr, AugIndex, Delete, Pass}
use Rattle.bc_scheme.specs.py_meaning.Tree.{Break, Continue, ReturnNone, Return, Reraise, Raise, Assert, AssertWith, Import, From}
use Rattle.bc_scheme.specs.py_meaning.Tree.{If, While, For, Try, Finally, TryFinally, Def, Block, End, Next, Branches, Else, Case}
use Rattle.bc_scheme.specs.py_meaning.Tree.{Handlers, NoHandler, Any, On, OnAs}
use Rattle.bc_scheme.specs.py_meaning.Statements.{bound_name, from_name, read_parts}
use Rattle.bc_scheme.specs.Context.{is_negated}
use Rattle.bc_scheme.specs.Heights.{at_level}
use Rattle.bc_scheme.specs.Statements.{is_over}
use Rattle.emit_measures.specs.Wide.{wide_int}

-- a comparison, which has a `not` behind it where it is negated
abbrev pub comparison_length : CompareOp → ℕ
comparison_length op = if is_negated op then 2 else 1

-- the load of a constant
abbrev pub constant_length : Val → ℕ
constant_length Nil = 1
constant_length (Truth b) = 1
constant_length (Int z) = wide_int z
constant_length v = 4

-- a jump out of a loop: where entries are held it unwinds them, and else it drops the iterator that it leaves
abbrev pub exit_length : (held iterator : Bool) → ℕ
exit_length true iterator = 4
exit_length false true = 7
exit_length false false = 3

-- the jump behind a branch, which has none where nothing is left behind it
abbrev pub behind_length : Bool → ℕ
behind_length true = 0
behind_length false = 3

-- what stands behind the links of a chain
abbrev pub chain_length : Links → ℕ
chain_length (Last op e) = 0
chain_length (Link op e links) = 5

-- a name by its slot, of which the first 16 have a short form
abbrev pub slot_length : Option ℕ → ℕ
slot_length (Some slot) = if nat_lt slot 16 then 1 else 4
slot_length None = 4

module _ (locals : List Name) where
  -- a load of a name or a store to it
  abbrev pub name_length : Name → ℕ
  name_length name = slot_length (position (bytes_eq name) locals)

  abbrev mutual
    pub expr_length : Expr → ℕ
    expr_length (Constant v) = constant_length v
    expr_length (Named name) = name_length name
    expr_length (Unary op e) = expr_length e + 1
    expr_length (Not e) = expr_length e + 1
    expr_length (Binary op a b) = expr_length a + expr_length b + 1
    expr_length (And e es) = expr_length e + operands_length es
    expr_length (Or e es) = expr_length e + operands_length es
    expr_length (Compare e links) = expr_length e + links_length links + chain_length links
    expr_length (Cond test a b) = expr_length test + expr_length a + expr_length b + 6
    expr_length (TupleOf es) = exprs_length es + 4
    expr_length (ListOf es) = exprs_length es + 4
    expr_length (DictOf pairs) = pairs_length pairs + 4
    expr_length (Attr e name) = expr_length e + 4
    expr_length (Index a b) = expr_length a + expr_length b + 1
    expr_length (Call f args keys) = expr_length f + exprs_length args + keys_length keys + 4
    expr_length (Method e name args keys) = expr_length e + exprs_length args + keys_length keys + 8

    pub exprs_length : Exprs → ℕ
    exprs_length NoExpr = 0
    exprs_length (More e es) = expr_length e + exprs_length es

    -- each behind a jump
    pub operands_length : Exprs → ℕ
    operands_length NoExpr = 0
    operands_length (More e es) = expr_length e + 3 + operands_length es

    -- each link but the last doubles its operand, and has a jump behind it
    pub links_length : Links → ℕ
    links_length (Last op e) = expr_length e + comparison_length op
    links_length (Link op e links) = expr_length e + comparison_length op + 5 + links_length links

    pub pairs_length : Pairs → ℕ
    pairs_length NoPair = 0
    pairs_length (Pair key value pairs) = expr_length value + expr_length key + 1 + pairs_length pairs

    pub keys_length : Keys → ℕ
    keys_length NoKey = 0
    keys_length (Key name e keys) = expr_length e + 4 + keys_length keys

  abbrev mutual
    pub store_length : Target → ℕ
    store_length (ToName name) = name_length name
    store_length (ToAttr e name) = expr_length e + 4
    store_length (ToIndex a b) = expr_length a + expr_length b + 1
    store_length (ToEach ts) = stores_length ts + 4

    pub stores_length : Targets → ℕ
    stores_length (Only t) = store_length t
    stores_length (Then t ts) = store_length t + stores_length ts

  -- the value is doubled in front of all but the last
  abbrev pub assign_length : Targets → ℕ
  assign_length (Only t) = store_length t
  assign_length (Then t ts) = store_length t + 1 + assign_length ts

  -- there is no deletion of an attribute or of names in a row
  abbrev pub delete_length : Target → ℕ
  delete_length (ToName name) = 4
  delete_length (ToAttr e name) = 0
  delete_length (ToIndex a b) = expr_length a + expr_length b + 3
  delete_length (ToEach ts) = 0

  -- deletions one behind the other
  abbrev pub deletes_length : Targets → ℕ
  deletes_length (Only t) = delete_length t
  deletes_length (Then t ts) = delete_length t + deletes_length ts

  -- a level, a None, the import, the attributes that are read, and the store
  abbrev pub imports_length : List Alias → ℕ
  imports_length [] = 0
  imports_length (alias ∷ aliases) =
      4 * length (read_parts (parts_of alias.name) alias.bound) + name_length (bound_name alias.name alias.bound) + 6 + imports_length aliases

  -- a name as a text, what is taken from the module, and the store
  abbrev pub taken_length : List Alias → ℕ
  taken_length [] = 0
  taken_length (alias ∷ aliases) = name_length (from_name alias.name alias.bound) + 8 + taken_length aliases

  -- the making of a function, behind the tuple of its defaults
  abbrev pub defaults_length : Exprs → ℕ
  defaults_length NoExpr = 4
  defaults_length (More e es) = exprs_length (More e es) + 9

  module _ (level : ℕ) where
    -- in the loop around: whether entries are held that were set up in it, and whether it has an iterator
    abbrev mutual
      pub stmt_length : (held iterator : Bool) → Stmt → ℕ
      stmt_length held iterator (Do e) = expr_length e + 1
      stmt_length held iterator (Assign ts e) = expr_length e + assign_length ts
      stmt_length held iterator (AugName name op e) = 2 * name_length name + expr_length e + 1
      stmt_length held iterator (AugAttr object name op e) = expr_length object + expr_length e + 11
      stmt_length held iterator (AugIndex object index op e) = expr_length object + expr_length index + expr_length e + 5
      stmt_length held iterator (Delete ts) = deletes_length ts
      stmt_length held iterator Pass = 0
      stmt_length held iterator Break = exit_length held iterator
      stmt_length held iterator Continue = exit_length held false
      stmt_length held iterator ReturnNone = 2
      stmt_length held iterator (Return e) = expr_length e + 1
      stmt_length held iterator Reraise = 1
      stmt_length held iterator (Raise e) = expr_length e + 1
      stmt_length held iterator (Assert e) = at_level level (expr_length e + 8)
      stmt_length held iterator (AssertWith e message) = at_level level (expr_length e + expr_length message + 12)
      stmt_length held iterator (Import aliases) = imports_length aliases
      stmt_length held iterator (From name aliases) = taken_length aliases + 10
      stmt_length held iterator (If branches) = branches_length held iterator branches
      stmt_length held iterator (While e body rest) = expr_length e + block_length false false body + block_length held iterator rest + 6
      stmt_length held iterator (For t e body rest) = expr_length e + store_length t + block_length false true body + block_length held iterator rest + 7
      stmt_length held iterator (Try body handlers rest) =
          block_length true iterator body + handlers_length true iterator handlers + block_length held iterator rest + 7
      stmt_length held iterator (Finally body last) = block_length true iterator body + block_length true iterator last + 5
      stmt_length held iterator (TryFinally body handlers rest last) =
          block_length true iterator body + handlers_length true iterator handlers + block_length true iterator rest + block_length true iterator last + 12
      stmt_length held iterator (Def number name params defaults body) = defaults_length defaults + name_length name

      pub block_length : (held iterator : Bool) → Block → ℕ
      block_length held iterator End = 0
      block_length held iterator (Next line s b) = stmt_length held iterator s + block_length held iterator b

      pub branches_length : (held iterator : Bool) → Branches → ℕ
      branches_length held iterator (Else b) = block_length held iterator b
      branches_length held iterator (Case line e b branches) =
          expr_length e + block_length held iterator b + behind_length (is_over branches) + 3 + branches_length held iterator branches

      -- an entry of its own covers the body of a clause with a name
      pub handlers_length : (held iterator : Bool) → Handlers → ℕ
      handlers_length held iterator NoHandler = 0
      handlers_length held iterator (Any line b) = block_length held iterator b + 4
      handlers_length held iterator (On line e b handlers) = expr_length e + block_length held iterator b + 9 + handlers_length held iterator handlers
      handlers_length held iterator (OnAs line e name b handlers) =
          2 * name_length name + expr_length e + block_length true iterator b + 18 + handlers_length held iterator handlers

    -- with the return of None behind it
    abbrev pub text_length : Block → ℕ
    text_length body = block_length false false body + 2
