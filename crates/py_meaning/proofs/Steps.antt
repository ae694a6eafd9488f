-- The folds over a parser's tree side by side: its plain tree, its events, the names that it declares global, and whether it
-- is formed. What each gives of one layer.
use Rattle.std.proofs.Common.{ℕ, Bool}
use Rattle.py_scopes.specs.py_tree.declared.stmt.Stmt.{Stmt, map-Stmt}
use Rattle.py_scopes.specs.py_tree.declared.stmt.Branch.{Branch, map-Branch}
use Rattle.py_scopes.specs.py_tree.declared.stmt.Handler.{Handler, map-Handler}
use Rattle.py_scopes.specs.py_tree.declared.stmt.StmtKind.{StmtKind, map-StmtKind}
use Rattle.py_scopes.specs.py_tree.declared.stmt.StmtKind.TheOpen.{StmtKind-F, Stmt-F, Branch-F, Handler-F}
use Rattle.py_scopes.specs.py_tree.declared.stmt.StmtKind.TheFolds.{fold-StmtKind, fold-Branch, fold-Handler}
use Rattle.py_scopes.specs.py_tree.Formed as formed
use Rattle.py_scopes.specs.Events as events
use Rattle.py_meaning.specs.Tree as tree
use Rattle.py_meaning.specs.Plain as plain
use Rattle.py_meaning.specs.Globals.{Globals}
use Rattle.py_meaning.specs.Globals as globals

abbrev pub plain_kind : StmtKind → plain.Part tree.Stmt
plain_kind = fold-StmtKind (plain.Part tree.Stmt) (plain.Part (tree.Branches → tree.Branches)) plain.Clause (plain.Part (tree.Block → tree.Block)) plain.kind_step plain.branch_step plain.handler_step plain.stmt_step

abbrev pub plain_branch : Branch → plain.Part (tree.Branches → tree.Branches)
plain_branch = fold-Branch (plain.Part tree.Stmt) (plain.Part (tree.Branches → tree.Branches)) plain.Clause (plain.Part (tree.Block → tree.Block)) plain.kind_step plain.branch_step plain.handler_step plain.stmt_step

abbrev pub plain_handler : Handler → plain.Clause
plain_handler = fold-Handler (plain.Part tree.Stmt) (plain.Part (tree.Branches → tree.Branches)) plain.Clause (plain.Part (tree.Block → tree.Block)) plain.kind_step plain.branch_step plain.handler_step plain.stmt_step

abbrev pub kind_events : StmtKind → ℕ → events.Part
kind_events = fold-StmtKind (ℕ → events.Part) events.Part events.Part events.Part events.kind_step events.branch_step events.handler_step events.stmt_step

abbrev pub kind_globals : StmtKind → Globals
kind_globals = fold-StmtKind Globals Globals Globals Globals globals.kind_step globals.branch_step globals.handler_step globals.stmt_step

abbrev pub branch_globals : Branch → Globals
branch_globals = fold-Branch Globals Globals Globals Globals globals.kind_step globals.branch_step globals.handler_step globals.stmt_step

abbrev pub handler_globals : Handler → Globals
handler_globals = fold-Handler Globals Globals Globals Globals globals.kind_step globals.branch_step globals.handler_step globals.stmt_step

-- ---- one layer

abbrev pub plain_of_kind : StmtKind-F StmtKind Branch Handler Stmt → plain.Part tree.Stmt
plain_of_kind x = plain.kind_step (map-StmtKind StmtKind Branch Handler Stmt (plain.Part tree.Stmt) (plain.Part (tree.Branches → tree.Branches)) plain.Clause (plain.Part (tree.Block → tree.Block)) plain_kind plain_branch plain_handler plain.plain_stmt x)

abbrev pub events_of_kind : StmtKind-F StmtKind Branch Handler Stmt → ℕ → events.Part
events_of_kind x = events.kind_step (map-StmtKind StmtKind Branch Handler Stmt (ℕ → events.Part) events.Part events.Part events.Part kind_events events.branch_events events.handler_events events.stmt_events x)

abbrev pub globals_of_kind : StmtKind-F StmtKind Branch Handler Stmt → Globals
globals_of_kind x = globals.kind_step (map-StmtKind StmtKind Branch Handler Stmt Globals Globals Globals Globals kind_globals branch_globals handler_globals globals.stmt_globals x)

abbrev pub formed_of_kind : StmtKind-F StmtKind Branch Handler Stmt → Bool
formed_of_kind x = formed.kind_step (map-StmtKind StmtKind Branch Handler Stmt Bool Bool formed.Handled Bool formed.kind_formed formed.branch_formed formed.handled formed.stmt_formed x)

abbrev pub plain_of_branch : Branch-F StmtKind Branch Handler Stmt → plain.Part (tree.Branches → tree.Branches)
plain_of_branch x = plain.branch_step (map-Branch StmtKind Branch Handler Stmt (plain.Part tree.Stmt) (plain.Part (tree.Branches → tree.Branches)) plain.Clause (plain.Part (tree.Block → tree.Block)) plain_kind plain_branch plain_handler plain.plain_stmt x)

abbrev pub events_of_branch : Branch-F StmtKind Branch Handler Stmt → events.Part
events_of_branch x = events.branch_step (map-Branch StmtKind Branch Handler Stmt (ℕ → events.Part) events.Part events.Part events.Part kind_events events.branch_events events.handler_events events.stmt_events x)

abbrev pub globals_of_branch : Branch-F StmtKind Branch Handler Stmt → Globals
globals_of_branch x = globals.branch_step (map-Branch StmtKind Branch Handler Stmt Globals Globals Globals Globals kind_globals branch_globals handler_globals globals.stmt_globals x)

abbrev pub formed_of_branch : Branch-F StmtKind Branch Handler Stmt → Bool
formed_of_branch x = formed.branch_step (map-Branch StmtKind Branch Handler Stmt Bool Bool formed.Handled Bool formed.kind_formed formed.branch_formed formed.handled formed.stmt_formed x)

abbrev pub plain_of_handler : Handler-F StmtKind Branch Handler Stmt → plain.Clause
plain_of_handler x = plain.handler_step (map-Handler StmtKind Branch Handler Stmt (plain.Part tree.Stmt) (plain.Part (tree.Branches → tree.Branches)) plain.Clause (plain.Part (tree.Block → tree.Block)) plain_kind plain_branch plain_handler plain.plain_stmt x)

abbrev pub events_of_handler : Handler-F StmtKind Branch Handler Stmt → events.Part
events_of_handler x = events.handler_step (map-Handler StmtKind Branch Handler Stmt (ℕ → events.Part) events.Part events.Part events.Part kind_events events.branch_events events.handler_events events.stmt_events x)

abbrev pub globals_of_handler : Handler-F StmtKind Branch Handler Stmt → Globals
globals_of_handler x = globals.handler_step (map-Handler StmtKind Branch Handler Stmt Globals Globals Globals Globals kind_globals branch_globals handler_globals globals.stmt_globals x)

abbrev pub formed_of_handler : Handler-F StmtKind Branch Handler Stmt → formed.Handled
formed_of_handler x = formed.handler_step (map-Handler StmtKind Branch Handler Stmt Bool Bool formed.Handled Bool formed.kind_formed formed.branch_formed formed.handled formed.stmt_formed x)

abbrev pub plain_of_stmt : Stmt-F StmtKind Branch Handler Stmt → plain.Part (tree.Block → tree.Block)
plain_of_stmt x = plain.stmt_step (map-Stmt StmtKind Branch Handler Stmt (plain.Part tree.Stmt) (plain.Part (tree.Branches → tree.Branches)) plain.Clause (plain.Part (tree.Block → tree.Block)) plain_kind plain_branch plain_handler plain.plain_stmt x)

abbrev pub events_of_stmt : Stmt-F StmtKind Branch Handler Stmt → events.Part
events_of_stmt x = events.stmt_step (map-Stmt StmtKind Branch Handler Stmt (ℕ → events.Part) events.Part events.Part events.Part kind_events events.branch_events events.handler_events events.stmt_events x)

abbrev pub globals_of_stmt : Stmt-F StmtKind Branch Handler Stmt → Globals
globals_of_stmt x = globals.stmt_step (map-Stmt StmtKind Branch Handler Stmt Globals Globals Globals Globals kind_globals branch_globals handler_globals globals.stmt_globals x)

abbrev pub formed_of_stmt : Stmt-F StmtKind Branch Handler Stmt → Bool
formed_of_stmt x = formed.stmt_step (map-Stmt StmtKind Branch Handler Stmt Bool Bool formed.Handled Bool formed.kind_formed formed.branch_formed formed.handled formed.stmt_formed x)
