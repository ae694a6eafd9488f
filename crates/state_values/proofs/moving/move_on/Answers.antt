use Rattle.state_values.specs.Moving.{fetched_move}
use Rattle.state_values.proofs.Finding as finding
use Rattle.state_values.proofs.Shifting as shifting
use Rattle.state_values.proofs.moving.move_on.Goals as goal

pub move_slots-requires : goal.move_slots-requires
move_slots-requires g c = record { runs = finding.runs c.requires.runs }

pub returns : goal.returns
returns g c =
    let texts = g.C.Constants.text_of c.args._consts.now in
    let tuples = g.C.Constants.items_of c.args._consts.now in
    let heap = c.args._arena.now in
    let old = c.args.frames.now in
    let new = c.move_slots.new.frames in
    record {
      acts = c.acting_law.ensures.moves texts tuples (fetched_move c.args.op c.args.end) heap old new c.move_slots.ensures.goes
          (shifting.moved texts tuples heap.objects old new c.args.end c.args.op c.move_slots.ensures.moved);
    }
