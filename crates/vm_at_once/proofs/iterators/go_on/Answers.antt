use Rattle.std.proofs.Common.{◌∷◌}
use Rattle.state_values.specs.vm_frames.declared.slot.Slot.TheVariants as slots
use Rattle.state_values.specs.vm_frames.Calls.{Call}
use Rattle.state_values.specs.frame_moves.Stacks.{gone}
use Rattle.state_values.proofs.frame_moves_lemmas.Changing.{then_is}
use Rattle.vm_at_once.proofs.Iterating.{set_iterator, room_kept}
use Rattle.vm_at_once.proofs.iterators.go_on.Goals as goal

pub go_with-requires : goal.go_with-requires
go_with-requires c = room_kept c.args.over c.args.at c.args.frames.now c.set_iterator.new.frames c.set_iterator.ensures c.requires.there c.requires.room

pub returns : goal.returns
returns c =
    then_is (set_iterator c.args.over c.args.at) (λ (d : Call). gone c.args.end (slots.Value c.args.v ∷ d.slots) d) c.args.frames.now c.set_iterator.new.frames c.go_with.new.frames c.set_iterator.ensures c.go_with.ensures
