use Rattle.bc_scheme.specs.py_effects.Ends.{new_world}
use Rattle.bc_scheme.specs.bc_machine.Machine.{start}
use Rattle.sim_stmt.proofs.Goes.{step_order, steps_order, start_order}
use Rattle.sim_stmt.proofs.simulation.order_law.Goals as goal

pub returns-clause-step : goal.returns-clause-step
returns-clause-step c library s order = step_order library s order

pub returns-clause-runs : goal.returns-clause-runs
returns-clause-runs c library name cells bytes ports n = steps_order library n (start library name (new_world cells bytes ports)) (start_order library name cells bytes ports)
