use Rattle.std.proofs.Common.{ap, List, ℕ}
use Rattle.frame_moves.specs.bc_labels.Positions.{position_in}
use Rattle.vm_fetching.proofs.Stepping.{steps_as, next_is}
use Rattle.vm_fetching.proofs.law.step_law.Goals as goal

pub returns-clause-step : goal.returns-clause-step
returns-clause-step c = steps_as

pub returns-clause-next : goal.returns-clause-next
returns-clause-next c = next_is

pub returns-clause-at : goal.returns-clause-at
returns-clause-at c names l call cs offset starts = ap (λ (z : List ℕ). position_in z offset) starts
