-- The numbers of a text that its limits speak of.
use Rattle.std.specs.Prelude.{ℕ, ◌+◌, ◌-◌, ◌^◌, min, max, List, [], ◌∷◌, map, Option, Some, None, option_map}
use Rattle.py_tree.specs.declared.expr.CompareOp.{CompareOp}
use Rattle.py_tree.specs.declared.expr.Expr as trees
use Rattle.py_tree.specs.declared.stmt.Branch.{Branch}
use Rattle.py_tree.specs.declared.stmt.Handler.{Handler}
use Rattle.py_tree.specs.declared.stmt.Stmt.{Stmt as Statement}
use Rattle.py_tree.specs.declared.stmt.StmtKind.{StmtKind}
use Rattle.py_tree.specs.declared.stmt.StmtKind.TheFolds.{fold-StmtKind, fold-Branch, fold-Handler}
use Rattle.bc_scheme.specs.py_meaning.Tree.{Name, Expr, Attr, Stmt, Block, Branches}
use Rattle.bc_scheme.specs.py_meaning.Plain.{plain_expr, plain_stmt, Part, Clause, block, try_of, kind_step, branch_step, handler_step, stmt_step}
use Rattle.bc_scheme.specs.Heights.{tall}

-- a number, or the greatest one that is told
abbrev pub saturated : ℕ → ℕ
saturated n = min n (2 ^ 64 - 1)

-- ---- plain trees of lists and parts

-- the pairs of a dict display
abbrev pub plain_pairs : List (trees.Expr × trees.Expr) → List (Expr × Expr)
plain_pairs pairs = map (λ (pair : trees.Expr × trees.Expr). (plain_expr pair.0, plain_expr pair.1)) pairs

-- keyword arguments
abbrev pub plain_keys : List (Name × trees.Expr) → List (Name × Expr)
plain_keys keys = map (λ (key : Name × trees.Expr). (key.0, plain_expr key.1)) keys

-- a statement
abbrev pub plain_kind : StmtKind → Part Stmt
plain_kind = fold-StmtKind (Part Stmt) (Part (Branches → Branches)) Clause (Part (Block → Block)) kind_step branch_step handler_step stmt_step

-- a branch, in front of others
abbrev pub plain_branch : Branch → Part (Branches → Branches)
plain_branch = fold-Branch (Part Stmt) (Part (Branches → Branches)) Clause (Part (Block → Block)) kind_step branch_step handler_step stmt_step

-- an except clause
abbrev pub plain_handler : Handler → Clause
plain_handler = fold-Handler (Part Stmt) (Part (Branches → Branches)) Clause (Part (Block → Block)) kind_step branch_step handler_step stmt_step

-- a `try`, with a `finally` if it has one
abbrev pub plain_try : (body : List Statement) (handlers : List Handler) (rest : List Statement) (last : Option (List Statement)) → Part Stmt
plain_try body handlers rest last =
    try_of (block (map plain_stmt body)) (map plain_handler handlers) (block (map plain_stmt rest)) (option_map (map plain_stmt) last)

-- ---- parts of an expression

-- behind the first operand of a comparison: each link but the last has its operand twice, with what is compared
abbrev pub links_height : List (CompareOp × trees.Expr) → ℕ
links_height [] = 0
links_height (link ∷ []) = 1 + tall (plain_expr link.1)
links_height (link ∷ (next ∷ links)) = max (max 3 (1 + tall (plain_expr link.1))) (links_height (next ∷ links))

-- the slots of a callee: a method has its object beside it
abbrev pub slots_of : Expr → ℕ
slots_of (Attr object name) = 2
slots_of _ = 1

-- the entry of a clause with a name
abbrev pub named : Option Name → ℕ
named None = 0
named (Some name) = 1
