use Rattle.std.proofs.Common.{ap, ◌∙◌, length, ◌-◌}
use Rattle.std.proofs.lemmas.List.{take_rest}
use Rattle.snap_states.specs.Stacks.{stack_as}
use Rattle.snap_states.proofs.Fitting.{lowest_some}
use Rattle.snap_states.proofs.slot.lowest.Goals as goal

pub returns-then-height-slots : goal.returns-then-height-slots
returns-then-height-slots c =
    ap stack_as (take_rest c.args.slots.now (length c.args.slots.now - c.args.height)) ∙ lowest_some c.args.slots.now c.args.height
