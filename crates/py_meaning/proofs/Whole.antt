-- Each statement of a formed tree fits its events: by induction, from layer to layer.
use Rattle.std.proofs.Common.{◌≡◌, ℕ, Bool, true, sym, ap, subst, ◌∙◌}
use Rattle.py_scopes.specs.py_tree.declared.stmt.Stmt.{Stmt, roll-Stmt}
use Rattle.py_scopes.specs.py_tree.declared.stmt.Branch.{Branch, roll-Branch}
use Rattle.py_scopes.specs.py_tree.declared.stmt.Handler.{Handler, roll-Handler}
use Rattle.py_scopes.specs.py_tree.declared.stmt.StmtKind.{StmtKind, roll-StmtKind}
use Rattle.py_scopes.specs.py_tree.declared.stmt.StmtKind.TheOpen.{StmtKind-F, Stmt-F, Branch-F, Handler-F}
use Rattle.py_scopes.specs.py_tree.declared.stmt.StmtKind.TheFolds.{fold-roll-StmtKind, fold-roll-Branch, fold-roll-Handler, fold-roll-Stmt, ind-Stmt}
use Rattle.py_scopes.specs.py_tree.Formed as formed
use Rattle.py_scopes.specs.Events as events
use Rattle.py_meaning.specs.Tree as tree
use Rattle.py_meaning.specs.Plain as plain
use Rattle.py_meaning.specs.Globals.{Globals}
use Rattle.py_meaning.specs.Globals as globals
use Rattle.py_meaning.proofs.Steps.{kind_events, kind_globals, branch_globals, handler_globals, plain_of_kind, events_of_kind, globals_of_kind, formed_of_kind, plain_of_branch, events_of_branch, globals_of_branch, formed_of_branch, plain_of_handler, events_of_handler, globals_of_handler, formed_of_handler, plain_of_stmt, events_of_stmt, globals_of_stmt, formed_of_stmt}
use Rattle.py_meaning.proofs.Parts.{Events, KindFits, StmtFits, BranchFits, HandlerFits, Kind, Of_branch, Of_handler, Of_stmt}
use Rattle.py_meaning.proofs.Layers.{kind_layer, branch_layer, handler_layer, stmt_layer}

kind_rolled : (x : StmtKind-F StmtKind Branch Handler Stmt) → (formed_of_kind x ≡ true → KindFits (plain_of_kind x) (events_of_kind x) (globals_of_kind x)) → Kind (roll-StmtKind x)
kind_rolled x h e =
    subst (λ (p : plain.Part tree.Stmt). KindFits p (kind_events (roll-StmtKind x)) (kind_globals (roll-StmtKind x))) (sym (fold-roll-StmtKind (plain.Part tree.Stmt) (plain.Part (tree.Branches → tree.Branches)) plain.Clause (plain.Part (tree.Block → tree.Block)) plain.kind_step plain.branch_step plain.handler_step plain.stmt_step x))
    (subst (λ (es : ℕ → Events). KindFits (plain_of_kind x) es (kind_globals (roll-StmtKind x))) (sym (fold-roll-StmtKind (ℕ → events.Part) events.Part events.Part events.Part events.kind_step events.branch_step events.handler_step events.stmt_step x))
    (subst (λ (g : Globals). KindFits (plain_of_kind x) (events_of_kind x) g) (sym (fold-roll-StmtKind Globals Globals Globals Globals globals.kind_step globals.branch_step globals.handler_step globals.stmt_step x)) (h (sym (fold-roll-StmtKind Bool Bool formed.Handled Bool formed.kind_step formed.branch_step formed.handler_step formed.stmt_step x) ∙ e))))

branch_rolled : (x : Branch-F StmtKind Branch Handler Stmt) → (formed_of_branch x ≡ true → BranchFits (plain_of_branch x) (events_of_branch x) (globals_of_branch x)) → Of_branch (roll-Branch x)
branch_rolled x h e =
    subst (λ (p : plain.Part (tree.Branches → tree.Branches)). BranchFits p (events.branch_events (roll-Branch x)) (branch_globals (roll-Branch x))) (sym (fold-roll-Branch (plain.Part tree.Stmt) (plain.Part (tree.Branches → tree.Branches)) plain.Clause (plain.Part (tree.Block → tree.Block)) plain.kind_step plain.branch_step plain.handler_step plain.stmt_step x))
    (subst (λ (es : Events). BranchFits (plain_of_branch x) es (branch_globals (roll-Branch x))) (sym (fold-roll-Branch (ℕ → events.Part) events.Part events.Part events.Part events.kind_step events.branch_step events.handler_step events.stmt_step x))
    (subst (λ (g : Globals). BranchFits (plain_of_branch x) (events_of_branch x) g) (sym (fold-roll-Branch Globals Globals Globals Globals globals.kind_step globals.branch_step globals.handler_step globals.stmt_step x)) (h (sym (fold-roll-Branch Bool Bool formed.Handled Bool formed.kind_step formed.branch_step formed.handler_step formed.stmt_step x) ∙ e))))

stmt_rolled : (x : Stmt-F StmtKind Branch Handler Stmt) → (formed_of_stmt x ≡ true → StmtFits (plain_of_stmt x) (events_of_stmt x) (globals_of_stmt x)) → Of_stmt (roll-Stmt x)
stmt_rolled x h e =
    subst (λ (p : plain.Part (tree.Block → tree.Block)). StmtFits p (events.stmt_events (roll-Stmt x)) (globals.stmt_globals (roll-Stmt x))) (sym (fold-roll-Stmt (plain.Part tree.Stmt) (plain.Part (tree.Branches → tree.Branches)) plain.Clause (plain.Part (tree.Block → tree.Block)) plain.kind_step plain.branch_step plain.handler_step plain.stmt_step x))
    (subst (λ (es : Events). StmtFits (plain_of_stmt x) es (globals.stmt_globals (roll-Stmt x))) (sym (fold-roll-Stmt (ℕ → events.Part) events.Part events.Part events.Part events.kind_step events.branch_step events.handler_step events.stmt_step x))
    (subst (λ (g : Globals). StmtFits (plain_of_stmt x) (events_of_stmt x) g) (sym (fold-roll-Stmt Globals Globals Globals Globals globals.kind_step globals.branch_step globals.handler_step globals.stmt_step x)) (h (sym (fold-roll-Stmt Bool Bool formed.Handled Bool formed.kind_step formed.branch_step formed.handler_step formed.stmt_step x) ∙ e))))

handler_rolled : (x : Handler-F StmtKind Branch Handler Stmt) → ((formed_of_handler x).1 ≡ true → HandlerFits (plain_of_handler x) (events_of_handler x) (globals_of_handler x) (formed_of_handler x).0) → Of_handler (roll-Handler x)
handler_rolled x h e =
    subst (λ (p : plain.Clause). HandlerFits p (events.handler_events (roll-Handler x)) (handler_globals (roll-Handler x)) (formed.handled (roll-Handler x)).0) (sym (fold-roll-Handler (plain.Part tree.Stmt) (plain.Part (tree.Branches → tree.Branches)) plain.Clause (plain.Part (tree.Block → tree.Block)) plain.kind_step plain.branch_step plain.handler_step plain.stmt_step x))
    (subst (λ (es : Events). HandlerFits (plain_of_handler x) es (handler_globals (roll-Handler x)) (formed.handled (roll-Handler x)).0) (sym (fold-roll-Handler (ℕ → events.Part) events.Part events.Part events.Part events.kind_step events.branch_step events.handler_step events.stmt_step x))
    (subst (λ (g : Globals). HandlerFits (plain_of_handler x) (events_of_handler x) g (formed.handled (roll-Handler x)).0) (sym (fold-roll-Handler Globals Globals Globals Globals globals.kind_step globals.branch_step globals.handler_step globals.stmt_step x))
    (subst (λ (b : formed.Handled). HandlerFits (plain_of_handler x) (events_of_handler x) (globals_of_handler x) b.0) (sym (fold-roll-Handler Bool Bool formed.Handled Bool formed.kind_step formed.branch_step formed.handler_step formed.stmt_step x)) (h (sym (ap (λ (b : formed.Handled). b.1) (fold-roll-Handler Bool Bool formed.Handled Bool formed.kind_step formed.branch_step formed.handler_step formed.stmt_step x)) ∙ e)))))

pub stmt_fits : (s : Stmt) → Of_stmt s
stmt_fits = ind-Stmt Kind Of_branch Of_handler Of_stmt
    (λ x y is. subst (λ z. Kind (roll-StmtKind z)) is (kind_rolled _ (kind_layer (λ k. k.0) (λ b. b.0) (λ h. h.0) (λ s. s.0) (λ k. k.1) (λ b. b.1) (λ h. h.1) (λ s. s.1) y)))
    (λ x y is. subst (λ z. Of_branch (roll-Branch z)) is (branch_rolled _ (branch_layer (λ k. k.0) (λ b. b.0) (λ h. h.0) (λ s. s.0) (λ k. k.1) (λ b. b.1) (λ h. h.1) (λ s. s.1) y)))
    (λ x y is. subst (λ z. Of_handler (roll-Handler z)) is (handler_rolled _ (handler_layer (λ k. k.0) (λ b. b.0) (λ h. h.0) (λ s. s.0) (λ k. k.1) (λ b. b.1) (λ h. h.1) (λ s. s.1) y)))
    (λ x y is. subst (λ z. Of_stmt (roll-Stmt z)) is (stmt_rolled _ (stmt_layer (λ k. k.0) (λ b. b.0) (λ h. h.0) (λ s. s.0) (λ k. k.1) (λ b. b.1) (λ h. h.1) (λ s. s.1) y)))
