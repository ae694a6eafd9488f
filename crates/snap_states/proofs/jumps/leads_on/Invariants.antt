use Rattle.std.proofs.Common.{◌≡◌, ◌-◌, drop}
use Rattle.bc_flow.specs.Verified.{at}
use Rattle.bc_flow.specs.Views.{table_of}
use Rattle.snap_states.specs.Stacks.{stack_as, leads_on}
use Rattle.snap_states.proofs.jumps.leads_on.Given as goal

abbrev pub invariant-loop-i : goal.invariant-loop-i
invariant-loop-i l =
    leads_on (at (table_of l.states)) l.target l.fn.iterator l.count l.entries (stack_as l.slots)
    ≡ leads_on (at (table_of l.states)) l.target l.fn.iterator (l.count - l.i) (drop l.i l.entries) (stack_as l.rest)
