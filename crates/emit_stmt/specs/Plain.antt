-- Statements of themselves, and their plain trees.
use Rattle.std.specs.Prelude.{Bool, true, false}
use Rattle.py_tree.specs.declared.stmt.Branch.{Branch}
use Rattle.py_tree.specs.declared.stmt.Handler.{Handler}
use Rattle.py_tree.specs.declared.stmt.Stmt as stmts
use Rattle.py_tree.specs.declared.stmt.StmtKind.{StmtKind, out-StmtKind}
use Rattle.py_tree.specs.declared.stmt.StmtKind.TheOpen.{StmtKind-F}
use Rattle.py_tree.specs.declared.stmt.StmtKind.TheFolds.{fold-StmtKind}
use Rattle.emit_expr.specs.py_meaning.Tree.{Stmt, Block, Branches}
use Rattle.emit_expr.specs.py_meaning.Plain.{Part, Clause, kind_step, branch_step, handler_step, stmt_step}

-- what a statement is read as, its line apart
abbrev pub plain_kind : StmtKind → Part Stmt
plain_kind = fold-StmtKind (Part Stmt) (Part (Branches → Branches)) Clause (Part (Block → Block)) kind_step branch_step handler_step stmt_step

-- a statement without a body
abbrev pub is_simple_layer : StmtKind-F StmtKind Branch Handler stmts.Stmt → Bool
is_simple_layer (StmtKind-F.If branches rest) = false
is_simple_layer (StmtKind-F.While test inner rest) = false
is_simple_layer (StmtKind-F.For target over inner rest) = false
is_simple_layer (StmtKind-F.Try inner handlers rest last) = false
is_simple_layer (StmtKind-F.Def name params inner) = false
is_simple_layer _ = true

-- has the statement no statements in it?
abbrev pub is_simple : StmtKind → Bool
is_simple kind = is_simple_layer (out-StmtKind kind)
