use Rattle.std.proofs.Common.{sym, ap, ◌∙◌, w32}
use Rattle.std.proofs.lemmas.Int.{to_z-of_z}
use Rattle.std.specs.Prelude.{not}
use Rattle.std.specs.Ordering.{is_lt, is_gt, is_le, is_ge}
use Rattle.state_values.specs.bc_progress.py_primitives.Order.{Below, Above, NotAbove, NotBelow}
use Rattle.state_values.specs.bc_progress.bc_machine.Operations.{operator_at}
use Rattle.vm_at_once.proofs.Comparing.{ordered, equalled, told_apart}
use Rattle.vm_at_once.proofs.numbers.compare.Goals as goal

pub returns-in-0 : goal.returns-in-0
returns-in-0 c = ordered c.args.number c.args.left c.args.right _ _ c.is_lt.result (to_z-of_z w32 c.args.left c.ranges.left) (to_z-of_z w32 c.args.right c.ranges.right) Below (ap operator_at c.in-0.is) (sym (c.is_lt.ensures ∙ ap is_lt c.order_of.ensures))

pub returns-in-1 : goal.returns-in-1
returns-in-1 c = ordered c.args.number c.args.left c.args.right _ _ c.is_gt.result (to_z-of_z w32 c.args.left c.ranges.left) (to_z-of_z w32 c.args.right c.ranges.right) Above (ap operator_at c.in-1.is) (sym (c.is_gt.ensures ∙ ap is_gt c.order_of-in-1.ensures))

pub returns-in-3 : goal.returns-in-3
returns-in-3 c = ordered c.args.number c.args.left c.args.right _ _ c.is_le.result (to_z-of_z w32 c.args.left c.ranges.left) (to_z-of_z w32 c.args.right c.ranges.right) NotAbove (ap operator_at c.in-3.is) (sym (c.is_le.ensures ∙ ap is_le c.order_of-in-3.ensures))

pub returns-in-4 : goal.returns-in-4
returns-in-4 c = ordered c.args.number c.args.left c.args.right _ _ c.is_ge.result (to_z-of_z w32 c.args.left c.ranges.left) (to_z-of_z w32 c.args.right c.ranges.right) NotBelow (ap operator_at c.in-4.is) (sym (c.is_ge.ensures ∙ ap is_ge c.order_of-in-4.ensures))

pub returns-in-2 : goal.returns-in-2
returns-in-2 c = equalled c.args.number c.args.left c.args.right _ _ c.is_same.result (to_z-of_z w32 c.args.left c.ranges.left) (to_z-of_z w32 c.args.right c.ranges.right) (ap operator_at c.in-2.is) (sym c.is_same.ensures)

pub returns-in-5 : goal.returns-in-5
returns-in-5 c = told_apart c.args.number c.args.left c.args.right _ _ (not c.is_same-in-5.result) (to_z-of_z w32 c.args.left c.ranges.left) (to_z-of_z w32 c.args.right c.ranges.right) (ap operator_at c.in-5.is) (ap not (sym c.is_same-in-5.ensures))
