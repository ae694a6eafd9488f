use Rattle.vm_states.specs.vm_fetching.Instructions as fetched
use Rattle.state_values.proofs.Finding as finding
use Rattle.state_values.proofs.Shifting as shifting
use Rattle.state_values.proofs.moving.jump.Goals as goal

pub jump_on-requires : goal.jump_on-requires
jump_on-requires g c = record { runs = finding.runs c.requires.runs }

pub returns : goal.returns
returns g c =
    let texts = g.C.Constants.text_of c.args._consts.now in
    let tuples = g.C.Constants.items_of c.args._consts.now in
    let heap = c.args._arena.now in
    let old = c.args.frames.now in
    let new = c.jump_on.new.frames in
    record {
      acts = c.acting_law.ensures.moves texts tuples (record { instruction = fetched.jump c.args.target; end = c.args.end }) heap old new c.jump_on.ensures.goes
          (shifting.gone_to texts tuples heap.objects old new c.args.target c.jump_on.ensures.moved);
    }
