use Rattle.vm_states.specs.frame_moves.Shown.{view_of}
use Rattle.state_values.proofs.Moves as moves
use Rattle.state_values.proofs.slot_moves.move_slots.Goals as goal

pub act-requires : goal.act-requires
act-requires c =
    let h = c.requires.runs in
    moves.finds_needs (λ t call. c.tops_law.ensures.slots (view_of t) call) h.program c.args.frames.now h.row c.args.op c.args.end h.running h.ready

pub returns-clause-goes : goal.returns-clause-goes
returns-clause-goes c = moves.goes c.keeps_law.ensures.goes_on c.args.frames.now c.act.new.frames c.args.op c.args.end c.act.ensures.steps c.act.ensures.moved
