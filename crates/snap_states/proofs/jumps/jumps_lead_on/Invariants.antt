use Rattle.std.proofs.Common.{◌≡◌, drop}
use Rattle.bc_flow.specs.Verified.{at}
use Rattle.bc_flow.specs.Views.{table_of}
use Rattle.snap_states.specs.Stacks.{stack_as, jumps_lead_on}
use Rattle.snap_states.proofs.jumps.jumps_lead_on.Given as goal

abbrev pub invariant-loop-i : goal.invariant-loop-i
invariant-loop-i l =
    jumps_lead_on (at (table_of l.states)) l.entries (stack_as l.slots)
    ≡ jumps_lead_on (at (table_of l.states)) (drop l.i l.entries) (stack_as l.rest)
