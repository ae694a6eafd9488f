use Rattle.std.proofs.Common.{◌≡◌}
use Rattle.bc_flow.specs.Verified.{table_at}
use Rattle.bc_flow.specs.Views.{table_of}
use Rattle.bc_flow.proofs.walk.start.Given as goal

abbrev pub invariant-loop-i : goal.invariant-loop-i
invariant-loop-i l = table_of l.states.items ≡ table_at l._i
