use Rattle.std.proofs.Common.{refl, sym, subst}
use Rattle.snap_loading.specs.Framing.{HasRoomFor}
use Rattle.snap_loading.proofs.frames.frames_of.Goals as goal

pub put_frames-requires-clause-room : goal.put_frames-requires-clause-room
put_frames-requires-clause-room c =
    subst (HasRoomFor c.args.lookup.now.library.now) (sym c.in_ok-frames.ensures)
    (record { slots = c.args.slots; greatest = c.requires.greatest; slot_room = refl })
