use Rattle.std.proofs.Common.{◌∷◌}
use Rattle.vm_states.specs.prim_names.arena_heap.declared.value.Value.TheVariants as values
use Rattle.vm_states.specs.vm_frames.declared.slot.Slot.TheVariants as slots
use Rattle.vm_states.specs.vm_fetching.Instructions as fetched
use Rattle.state_values.proofs.Moves as moves
use Rattle.state_values.proofs.loading.load_str.Goals as goal

pub load_text-requires : goal.load_text-requires
load_text-requires c = let h = c.requires.runs in moves.room h.program c.args.frames.now h.row (record { instruction = fetched.text c.args.text; end = c.args.end }) h.ready

pub returns-clause-goes : goal.returns-clause-goes
returns-clause-goes c p row means run r =
    moves.goes_behind c.keeps_law.ensures.goes_on c.args.frames.now c.load_text.new.frames (record { instruction = fetched.text c.args.text; end = c.args.end }) (λ d. slots.Value (values.Str c.args.text) ∷ d.slots) (λ d. d.locals) p row means run r tt
    (c.load_text.ensures.steps p.tables) c.load_text.ensures.moved
