use Rattle.board_plan.proofs.Counted.{plan_steps}
use Rattle.board_plan.proofs.Once.{one_plan, one_fault, not_both}
use Rattle.board_plan.proofs.laws.plan_law.Goals as goal

pub returns : goal.returns
returns c = record { one = one_plan; one_fault = one_fault; not_both = not_both; steps = plan_steps }
