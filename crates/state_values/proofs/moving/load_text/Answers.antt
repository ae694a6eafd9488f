use Rattle.vm_states.specs.vm_fetching.Instructions as fetched
use Rattle.vm_states.specs.prim_names.arena_heap.declared.value.Value.TheVariants as values
use Rattle.vm_states.specs.vm_frames.declared.slot.Slot.TheVariants as slots
use Rattle.state_values.proofs.Finding as finding
use Rattle.state_values.proofs.Shifting as shifting
use Rattle.state_values.proofs.moving.load_text.Goals as goal

pub load_str-requires : goal.load_str-requires
load_str-requires g c = record { runs = finding.runs c.requires.runs }

pub returns : goal.returns
returns g c =
    let texts = g.C.Constants.text_of c.args._consts.now in
    let tuples = g.C.Constants.items_of c.args._consts.now in
    let heap = c.args._arena.now in
    let old = c.args.frames.now in
    let new = c.load_str.new.frames in
    record {
      acts = c.acting_law.ensures.moves texts tuples (record { instruction = fetched.text c.args.text; end = c.args.end }) heap old new c.load_str.ensures.goes
          (shifting.pushed texts tuples heap.objects old new c.args.end (slots.Value (values.Str c.args.text)) (record { leads = record { meets = tt; small = tt }; told = finding.text_told c.requires.runs c.args.text c.requires.runs.ready.text }) c.load_str.ensures.moved);
    }
