-- The plain tree of one layer of a parser's tree, whether it is formed, and its lines.
use Rattle.std.proofs.Common.{◌≡◌, Bool, true, false, ◌&&◌, refl}
use Rattle.py_meaning.specs.py_tree.declared.stmt.Stmt.{Stmt, map-Stmt}
use Rattle.py_meaning.specs.py_tree.declared.stmt.Branch.{Branch, map-Branch}
use Rattle.py_meaning.specs.py_tree.declared.stmt.Handler.{Handler, map-Handler}
use Rattle.py_meaning.specs.py_tree.declared.stmt.StmtKind.{StmtKind, map-StmtKind}
use Rattle.py_meaning.specs.py_tree.declared.stmt.StmtKind.TheOpen.{StmtKind-F, Stmt-F, Branch-F, Handler-F}
use Rattle.py_meaning.specs.py_tree.declared.stmt.StmtKind.TheFolds.{fold-StmtKind, fold-Branch, fold-Handler}
use Rattle.py_meaning.specs.py_tree.Formed as formed
use Rattle.py_meaning.specs.py_tree.Formed.{Lines}
use Rattle.emit_measures.specs.bc_scheme.py_meaning.Tree as tree
use Rattle.emit_measures.specs.bc_scheme.py_meaning.Plain as plain

pub and_left : (a b : Bool) → (a && b) ≡ true → a ≡ true
and_left true b e = refl
and_left false b e = e

pub and_right : (a b : Bool) → (a && b) ≡ true → b ≡ true
and_right true b e = e
and_right false b e = cc

abbrev pub plain_kind : StmtKind → plain.Part tree.Stmt
plain_kind = fold-StmtKind (plain.Part tree.Stmt) (plain.Part (tree.Branches → tree.Branches)) plain.Clause (plain.Part (tree.Block → tree.Block)) plain.kind_step plain.branch_step plain.handler_step plain.stmt_step

abbrev pub plain_branch : Branch → plain.Part (tree.Branches → tree.Branches)
plain_branch = fold-Branch (plain.Part tree.Stmt) (plain.Part (tree.Branches → tree.Branches)) plain.Clause (plain.Part (tree.Block → tree.Block)) plain.kind_step plain.branch_step plain.handler_step plain.stmt_step

abbrev pub plain_handler : Handler → plain.Clause
plain_handler = fold-Handler (plain.Part tree.Stmt) (plain.Part (tree.Branches → tree.Branches)) plain.Clause (plain.Part (tree.Block → tree.Block)) plain.kind_step plain.branch_step plain.handler_step plain.stmt_step

abbrev pub plain_of_kind : StmtKind-F StmtKind Branch Handler Stmt → plain.Part tree.Stmt
plain_of_kind x = plain.kind_step (map-StmtKind StmtKind Branch Handler Stmt (plain.Part tree.Stmt) (plain.Part (tree.Branches → tree.Branches)) plain.Clause (plain.Part (tree.Block → tree.Block)) plain_kind plain_branch plain_handler plain.plain_stmt x)

abbrev pub formed_of_kind : StmtKind-F StmtKind Branch Handler Stmt → Bool
formed_of_kind x = formed.kind_step (map-StmtKind StmtKind Branch Handler Stmt Bool Bool formed.Handled Bool formed.kind_formed formed.branch_formed formed.handled formed.stmt_formed x)

abbrev pub plain_of_branch : Branch-F StmtKind Branch Handler Stmt → plain.Part (tree.Branches → tree.Branches)
plain_of_branch x = plain.branch_step (map-Branch StmtKind Branch Handler Stmt (plain.Part tree.Stmt) (plain.Part (tree.Branches → tree.Branches)) plain.Clause (plain.Part (tree.Block → tree.Block)) plain_kind plain_branch plain_handler plain.plain_stmt x)

abbrev pub formed_of_branch : Branch-F StmtKind Branch Handler Stmt → Bool
formed_of_branch x = formed.branch_step (map-Branch StmtKind Branch Handler Stmt Bool Bool formed.Handled Bool formed.kind_formed formed.branch_formed formed.handled formed.stmt_formed x)

abbrev pub plain_of_handler : Handler-F StmtKind Branch Handler Stmt → plain.Clause
plain_of_handler x = plain.handler_step (map-Handler StmtKind Branch Handler Stmt (plain.Part tree.Stmt) (plain.Part (tree.Branches → tree.Branches)) plain.Clause (plain.Part (tree.Block → tree.Block)) plain_kind plain_branch plain_handler plain.plain_stmt x)

abbrev pub formed_of_handler : Handler-F StmtKind Branch Handler Stmt → formed.Handled
formed_of_handler x = formed.handler_step (map-Handler StmtKind Branch Handler Stmt Bool Bool formed.Handled Bool formed.kind_formed formed.branch_formed formed.handled formed.stmt_formed x)

abbrev pub plain_of_stmt : Stmt-F StmtKind Branch Handler Stmt → plain.Part (tree.Block → tree.Block)
plain_of_stmt x = plain.stmt_step (map-Stmt StmtKind Branch Handler Stmt (plain.Part tree.Stmt) (plain.Part (tree.Branches → tree.Branches)) plain.Clause (plain.Part (tree.Block → tree.Block)) plain_kind plain_branch plain_handler plain.plain_stmt x)

abbrev pub formed_of_stmt : Stmt-F StmtKind Branch Handler Stmt → Bool
formed_of_stmt x = formed.stmt_step (map-Stmt StmtKind Branch Handler Stmt Bool Bool formed.Handled Bool formed.kind_formed formed.branch_formed formed.handled formed.stmt_formed x)

abbrev pub lines_of_kind : StmtKind-F StmtKind Branch Handler Stmt → Lines
lines_of_kind x = formed.kind_lines (map-StmtKind StmtKind Branch Handler Stmt Lines Lines Lines Lines formed.kind_rows formed.branch_rows formed.handler_rows formed.stmt_lines x)

abbrev pub lines_of_branch : Branch-F StmtKind Branch Handler Stmt → Lines
lines_of_branch x = formed.branch_lines (map-Branch StmtKind Branch Handler Stmt Lines Lines Lines Lines formed.kind_rows formed.branch_rows formed.handler_rows formed.stmt_lines x)

abbrev pub lines_of_handler : Handler-F StmtKind Branch Handler Stmt → Lines
lines_of_handler x = formed.handler_lines (map-Handler StmtKind Branch Handler Stmt Lines Lines Lines Lines formed.kind_rows formed.branch_rows formed.handler_rows formed.stmt_lines x)

abbrev pub lines_of_stmt : Stmt-F StmtKind Branch Handler Stmt → Lines
lines_of_stmt x = formed.own_lines (map-Stmt StmtKind Branch Handler Stmt Lines Lines Lines Lines formed.kind_rows formed.branch_rows formed.handler_rows formed.stmt_lines x)
