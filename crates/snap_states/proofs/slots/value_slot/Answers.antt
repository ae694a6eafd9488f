use Rattle.snap_states.proofs.Fronts.{not_caught_none}
use Rattle.snap_states.proofs.slots.value_slot.Goals as goal

pub returns-in_default : goal.returns-in_default
returns-in_default c = record {
  some = tt;
  none = λ offsets. not_caught_none c.args.known.now.library.now c.args.known.now.snapshot.now offsets c.args.v.now c.args.kind c.requires.asked c.in_default.not-Value c.in_default.not-Cause c.in_default.not-Either;
}
