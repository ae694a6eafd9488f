-- What has more members than its instruction can name.
use Rattle.std.specs.Prelude.{Bool, false, ◌||◌, List, [], ◌∷◌}
use Rattle.py_tree.specs.declared.expr.CompareOp.{CompareOp}
use Rattle.emit_draft.specs.bc_scheme.py_meaning.Tree.{Expr, Constant, Named, Unary, Not, Binary, And, Or, Compare, Cond, TupleOf}
use Rattle.emit_draft.specs.bc_scheme.py_meaning.Tree.{ListOf, DictOf, Attr, Index, Call, Method, Exprs, NoExpr, More, Links}
use Rattle.emit_draft.specs.bc_scheme.py_meaning.Tree.{Last, Link, Pairs, NoPair, Pair, Keys, NoKey, Key, count, pair_count}
use Rattle.emit_draft.specs.bc_scheme.py_meaning.Tree.{key_count}
use Rattle.emit_draft.specs.Draft.{passes_items, passes_members}

-- a call in it has more than 255 positional arguments, or keyword arguments, or a display more than 4,096 items
abbrev mutual
  pub crowded : Expr → Bool
  crowded (Constant v) = false
  crowded (Named name) = false
  crowded (Unary op e) = crowded e
  crowded (Not e) = crowded e
  crowded (Binary op a b) = crowded a || crowded b
  crowded (And e es) = crowded e || crowded_all es
  crowded (Or e es) = crowded e || crowded_all es
  crowded (Compare e links) = crowded e || crowded_links links
  crowded (Cond test a b) = (crowded test || crowded a) || crowded b
  crowded (TupleOf es) = crowded_all es || passes_items (count es)
  crowded (ListOf es) = crowded_all es || passes_items (count es)
  crowded (DictOf pairs) = passes_items (pair_count pairs) || crowded_pairs pairs
  crowded (Attr e name) = crowded e
  crowded (Index a b) = crowded a || crowded b
  crowded (Call f args keys) = ((crowded f || crowded_all args) || crowded_keys keys) || passes_members (count args) (key_count keys)
  crowded (Method e name args keys) = ((crowded e || crowded_all args) || crowded_keys keys) || passes_members (count args) (key_count keys)

  pub crowded_all : Exprs → Bool
  crowded_all NoExpr = false
  crowded_all (More e es) = crowded e || crowded_all es

  pub crowded_links : Links → Bool
  crowded_links (Last op e) = crowded e
  crowded_links (Link op e links) = crowded e || crowded_links links

  pub crowded_pairs : Pairs → Bool
  crowded_pairs NoPair = false
  crowded_pairs (Pair key value pairs) = (crowded value || crowded key) || crowded_pairs pairs

  pub crowded_keys : Keys → Bool
  crowded_keys NoKey = false
  crowded_keys (Key name e keys) = crowded e || crowded_keys keys

-- links in a list
abbrev pub crowded_in : List (CompareOp × Expr) → Bool
crowded_in [] = false
crowded_in (link ∷ links) = crowded link.1 || crowded_in links
