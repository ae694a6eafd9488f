-- Parts of a source's plain tree.
use Rattle.std.specs.Prelude.{List, map, Some}
use Rattle.py_tree.specs.declared.expr.Expr as trees
use Rattle.py_tree.specs.declared.stmt.Branch.{Branch}
use Rattle.py_tree.specs.declared.stmt.Handler.{Handler}
use Rattle.py_tree.specs.declared.stmt.Target as aims
use Rattle.py_tree.specs.declared.stmt.Stmt as stmts
use Rattle.py_tree.specs.declared.stmt.StmtKind.TheFolds.{fold-Branch, fold-Handler}
use Rattle.emit_expr.specs.py_meaning.Tree.{Stmt, If, While, For, Try, Block, Branches, Else, Handlers, NoHandler}
use Rattle.emit_expr.specs.py_meaning.Plain.{Part, Clause, part, also, chain, block, try_of, plain_expr, plain_target, plain_stmt}
use Rattle.emit_expr.specs.py_meaning.Plain.{kind_step, branch_step, handler_step, stmt_step}

-- the statements of a body
abbrev pub plain_block : List stmts.Stmt → Part Block
plain_block body = block (map plain_stmt body)

-- a branch, in front of others
abbrev pub plain_branch : Branch → Part (Branches → Branches)
plain_branch = fold-Branch (Part Stmt) (Part (Branches → Branches)) Clause (Part (Block → Block)) kind_step branch_step handler_step stmt_step

-- an except clause
abbrev pub plain_handler : Handler → Clause
plain_handler = fold-Handler (Part Stmt) (Part (Branches → Branches)) Clause (Part (Block → Block)) kind_step branch_step handler_step stmt_step

-- branches and an `else`
abbrev pub plain_branches : List Branch → List stmts.Stmt → Part Branches
plain_branches branches rest = chain (map plain_branch branches) (also (part Else) (plain_block rest))

-- except clauses
abbrev pub plain_handlers : List Handler → Part Handlers
plain_handlers handlers = chain (map plain_handler handlers) (part NoHandler)

-- ---- statements with bodies

-- an `if`
abbrev pub if_part : List Branch → List stmts.Stmt → Part Stmt
if_part branches rest = also (part If) (plain_branches branches rest)

-- a `while` with its `else`
abbrev pub while_part : trees.Expr → List stmts.Stmt → List stmts.Stmt → Part Stmt
while_part test body rest = also (also (part (While (plain_expr test))) (plain_block body)) (plain_block rest)

-- a `for` with its `else`
abbrev pub for_part : aims.Target → trees.Expr → List stmts.Stmt → List stmts.Stmt → Part Stmt
for_part target over body rest = also (also (part (For (plain_target target) (plain_expr over))) (plain_block body)) (plain_block rest)

-- a `try` without a `finally`
abbrev pub try_part : List stmts.Stmt → List Handler → List stmts.Stmt → Part Stmt
try_part body handlers rest = also (also (also (part Try) (plain_block body)) (plain_handlers handlers)) (plain_block rest)

-- a `try` with a `finally`
abbrev pub finally_part : List stmts.Stmt → List Handler → List stmts.Stmt → List stmts.Stmt → Part Stmt
finally_part body handlers rest last = try_of (plain_block body) (map plain_handler handlers) (plain_block rest) (Some (map plain_stmt last))
