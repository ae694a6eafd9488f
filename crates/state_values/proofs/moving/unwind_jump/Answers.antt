use Rattle.std.proofs.Common.{◌%◌, nat_le}
use Rattle.vm_states.specs.vm_fetching.Instructions as fetched
use Rattle.state_values.proofs.Finding as finding
use Rattle.state_values.proofs.Shifting as shifting
use Rattle.state_values.proofs.moving.unwind_jump.Goals as goal

pub jump_out-requires : goal.jump_out-requires
jump_out-requires g c = record { runs = finding.runs c.requires.runs }

pub returns : goal.returns
returns g c =
    let texts = g.C.Constants.text_of c.args._consts.now in
    let tuples = g.C.Constants.items_of c.args._consts.now in
    let heap = c.args._arena.now in
    let old = c.args.frames.now in
    let new = c.jump_out.new.frames in
    record {
      acts = c.acting_law.ensures.moves texts tuples (record { instruction = fetched.unwind c.args.target c.args.byte; end = c.args.end }) heap old new c.jump_out.ensures.goes
          (shifting.jumped_out texts tuples heap.objects old new c.args.target (c.args.byte % 128) (nat_le 128 c.args.byte) c.jump_out.ensures.moved);
    }
