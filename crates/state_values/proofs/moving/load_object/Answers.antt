use Rattle.vm_states.specs.vm_fetching.Instructions as fetched
use Rattle.vm_states.specs.vm_frames.declared.slot.Slot.TheVariants as slots
use Rattle.state_values.proofs.Constancy as constancy
use Rattle.state_values.proofs.Finding as finding
use Rattle.state_values.proofs.Shifting as shifting
use Rattle.state_values.proofs.moving.load_object.Goals as goal

pub load_constant-requires : goal.load_constant-requires
load_constant-requires g c = record { runs = finding.runs c.requires.runs }

pub returns : goal.returns
returns g c =
    let texts = g.C.Constants.text_of c.args._consts.now in
    let tuples = g.C.Constants.items_of c.args._consts.now in
    let heap = c.args._arena.now in
    let old = c.args.frames.now in
    let new = c.load_constant.new.frames in
    let h = c.requires.runs in
    let k = h.ready.constant in
    record {
      acts = c.acting_law.ensures.moves texts tuples (record { instruction = fetched.object c.args.v; end = c.args.end }) heap old new c.load_constant.ensures.goes
          (shifting.pushed texts tuples heap.objects old new c.args.end (slots.Value c.args.v) (finding.value_known h c.args.v (constancy.object_known h.program heap.objects k.0 k.1 c.args.v h.means k.2)) c.load_constant.ensures.moved);
    }
