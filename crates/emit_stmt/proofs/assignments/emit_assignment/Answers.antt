use Rattle.emit_expr.specs.py_meaning.Plain.{plain_expr}
use Rattle.emit_expr.proofs.Rows.{drop_item}
use Rattle.emit_stmt.proofs.SimpleRows.{row_begun, row_step, row_done}
use Rattle.emit_stmt.proofs.StoreForms.{doubled, assign_emits, assign_nothing}
use Rattle.emit_stmt.proofs.assignments.emit_assignment.Goals as goal

pub returns-in_default : goal.returns-in_default
returns-in_default c around = assign_nothing c.args.draft.now c.args.scope.now around c.args.line (plain_expr c.args.value.now) c.args.targets.now c.in_default.ensures.cases

pub loop-target-init : goal.loop-target-init
loop-target-init c = row_begun _ _ _ _ _

pub loop-target-preserved : goal.loop-target-preserved
loop-target-preserved c =
    row_step c.in-Some.front.now c.loop-target.target-index c.target-item.result c.loop-target.invariant (doubled c.target-item.result c.in_ok-put_plain.ensures c.in_ok-emit_target.ensures)
    (drop_item c.in-Some.front.now c.loop-target.target-index c.target-item.result c.loop-target-test.true c.target-item.is)

pub returns : goal.returns
returns c around =
    assign_emits around c.args.targets.now c.in-Some.front.now c.in-Some.last.now c.in-Some.ensures.cases.0 c.in_ok-emit_expr.ensures
    (row_done c.in-Some.front.now c.loop-target.target-index c.loop-target.invariant c.loop-target-test.false) c.in_ok-emit_target-2.ensures
