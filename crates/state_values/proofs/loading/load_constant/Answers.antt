use Rattle.std.proofs.Common.{◌∷◌}
use Rattle.vm_states.specs.vm_frames.declared.slot.Slot.TheVariants as slots
use Rattle.vm_states.specs.vm_fetching.Instructions as fetched
use Rattle.state_values.proofs.Moves as moves
use Rattle.state_values.proofs.loading.load_constant.Goals as goal

pub load_object-requires : goal.load_object-requires
load_object-requires c = let h = c.requires.runs in moves.room h.program c.args.frames.now h.row (record { instruction = fetched.object c.args.v; end = c.args.end }) h.ready

pub returns-clause-goes : goal.returns-clause-goes
returns-clause-goes c p row means run r =
    moves.goes_behind c.keeps_law.ensures.goes_on c.args.frames.now c.load_object.new.frames (record { instruction = fetched.object c.args.v; end = c.args.end }) (λ d. slots.Value c.args.v ∷ d.slots) (λ d. d.locals) p row means run r tt
    (c.load_object.ensures.steps p.tables) c.load_object.ensures.moved
