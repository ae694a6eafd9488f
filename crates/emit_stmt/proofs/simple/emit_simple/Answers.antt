use Rattle.std.proofs.Common.{◌∙◌, map, sym, ap}
use Rattle.py_tree.specs.declared.stmt.StmtKind.TheOpen.{StmtKind-F}
use Rattle.py_tree.specs.declared.stmt.StmtKind.TheVariants as s
use Rattle.emit_expr.specs.py_meaning.Tree.{Pass, Assign, Delete, Import, From}
use Rattle.emit_expr.specs.py_meaning.Plain.{plain_expr, plain_target, from_targets}
use Rattle.emit_expr.proofs.Forms.{on_ok}
use Rattle.emit_stmt.proofs.Plains.{made, no_code}
use Rattle.emit_stmt.proofs.StmtForms.{as_stmt, pass_emits, do_emits, break_emits, continue_emits}
use Rattle.emit_stmt.proofs.simple.emit_simple.Goals as goal

pub returns-in_ok-emit_expr-in-Expr : goal.returns-in_ok-emit_expr-in-Expr
returns-in_ok-emit_expr-in-Expr c =
    on_ok c.put_plain.result c.put_plain.ensures (λ p n. as_stmt (do_emits c.args.around.now c.in_ok-emit_expr-in-Expr.ensures p) (made c.args.kind.now (StmtKind-F.Expr c.in-Expr.value) n (c.in-Expr.is ∙ sym (s.rolls-Expr c.in-Expr.value))))

pub returns-in-Assign : goal.returns-in-Assign
returns-in-Assign c =
    let ts = c.in-Assign.targets in
    let value = c.in-Assign.value in
    on_ok c.emit_assignment.result c.emit_assignment.ensures (λ p n. as_stmt (p c.args.around.now) (made c.args.kind.now (StmtKind-F.Assign ts value) n (c.in-Assign.is ∙ sym (s.rolls-Assign ts value))
    ∙ ap (λ z. from_targets Pass (λ us. Assign us (plain_expr value)) (map plain_target z)) (sym c.as_slice.ensures)))

pub returns-in-Aug : goal.returns-in-Aug
returns-in-Aug c =
    let t = c.in-Aug.target in
    let op = c.in-Aug.op in
    let value = c.in-Aug.value in
    on_ok c.emit_augmented.result c.emit_augmented.ensures (λ p n. as_stmt (p c.args.around.now) (made c.args.kind.now (StmtKind-F.Aug t op value) n (c.in-Aug.is ∙ sym (s.rolls-Aug t op value))))

pub returns-in-Del : goal.returns-in-Del
returns-in-Del c =
    let ts = c.in-Del.targets in
    on_ok c.emit_deletions.result c.emit_deletions.ensures (λ p n. as_stmt (p c.args.around.now) (made c.args.kind.now (StmtKind-F.Del ts) n (c.in-Del.is ∙ sym (s.rolls-Del ts))
    ∙ ap (λ z. from_targets Pass Delete (map plain_target z)) (sym c.as_slice-in-Del.ensures)))

pub returns-in-Pass : goal.returns-in-Pass
returns-in-Pass c n = as_stmt (pass_emits c.args.draft.now c.args.scope.now c.args.around.now c.args.line) (no_code c.args.kind.now n c.in-Pass.is)

pub returns-in-Pass-2 : goal.returns-in-Pass-2
returns-in-Pass-2 c n = as_stmt (pass_emits c.args.draft.now c.args.scope.now c.args.around.now c.args.line) (no_code c.args.kind.now n c.in-Pass.is)

pub returns-in-Break : goal.returns-in-Break
returns-in-Break c =
    on_ok c.emit_jump.result c.emit_jump.ensures (λ p n. as_stmt (break_emits c.args.around.now (p c.args.scope.now)) (made c.args.kind.now StmtKind-F.Break n (c.in-Break.is ∙ sym s.rolls-Break)))

pub returns-in-Continue : goal.returns-in-Continue
returns-in-Continue c =
    on_ok c.emit_jump-in-Continue.result c.emit_jump-in-Continue.ensures (λ p n. as_stmt (continue_emits c.args.around.now (p c.args.scope.now)) (made c.args.kind.now StmtKind-F.Continue n (c.in-Continue.is ∙ sym s.rolls-Continue)))

pub returns-in-Return : goal.returns-in-Return
returns-in-Return c =
    let x = c.in-Return.value in
    on_ok c.emit_return.result c.emit_return.ensures (λ p n. as_stmt (p c.args.around.now) (made c.args.kind.now (StmtKind-F.Return x) n (c.in-Return.is ∙ sym (s.rolls-Return x))))

pub returns-in-Raise : goal.returns-in-Raise
returns-in-Raise c =
    let x = c.in-Raise.value in
    on_ok c.emit_raise.result c.emit_raise.ensures (λ p n. as_stmt (p c.args.around.now) (made c.args.kind.now (StmtKind-F.Raise x) n (c.in-Raise.is ∙ sym (s.rolls-Raise x))))

pub returns-in-Import : goal.returns-in-Import
returns-in-Import c =
    let names = c.in-Import.names in
    on_ok c.emit_import.result c.emit_import.ensures (λ p n. as_stmt (p c.args.around.now) (made c.args.kind.now (StmtKind-F.Import names) n (c.in-Import.is ∙ sym (s.rolls-Import names)) ∙ ap Import (sym c.as_slice-in-Import.ensures)))

pub returns-in-From : goal.returns-in-From
returns-in-From c =
    let path = c.in-From.«module» in
    let names = c.in-From.names in
    on_ok c.emit_from.result c.emit_from.ensures (λ p n. as_stmt (p c.args.around.now) (made c.args.kind.now (StmtKind-F.From path names) n (c.in-From.is ∙ sym (s.rolls-From path names))
    ∙ ap (λ z. From z names) (sym c.bytes.ensures) ∙ ap (From c.bytes.result.now) (sym c.as_slice-in-From.ensures)))

pub returns-in-Assert : goal.returns-in-Assert
returns-in-Assert c =
    let test = c.in-Assert.test in
    let message = c.in-Assert.message in
    on_ok c.emit_assertion.result c.emit_assertion.ensures (λ p n. as_stmt (p c.args.around.now) (made c.args.kind.now (StmtKind-F.Assert test message) n (c.in-Assert.is ∙ sym (s.rolls-Assert test message))))
