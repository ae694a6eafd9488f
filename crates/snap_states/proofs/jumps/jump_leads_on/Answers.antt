use Rattle.std.proofs.Common.{ap, sym, ◌∙◌, length, ◌-◌}
use Rattle.std.proofs.lemmas.List.{take_rest}
use Rattle.bc_flow.specs.Verified.{at}
use Rattle.bc_flow.specs.Views.{table_of}
use Rattle.snap_states.specs.Stacks.{stack_as, top_leads_on}
use Rattle.snap_states.proofs.Leading.{at_height}
use Rattle.snap_states.proofs.jumps.jump_leads_on.Goals as goal

pub returns-then-height-slots : goal.returns-then-height-slots
returns-then-height-slots c =
    let a = at (table_of c.args.states.now) in
    let es = c.args.entries.now in
    let slots = c.args.slots.now in
    c.top_leads_on.ensures
    ∙ ap (λ z. top_leads_on a es (stack_as z)) (take_rest slots (length slots - 1 - c.args.height))
    ∙ sym (at_height a es c.args.height slots c.if-height-slots.true)
