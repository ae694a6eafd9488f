use Rattle.std.proofs.Common.{◌≡◌, map, take}
use Rattle.mpy_base.specs.World.{ListObject, room_at, with_object}
use Rattle.snap_states.specs.Decoded.{value_of}
use Rattle.snap_loading.proofs.filling.fill_list.Given as goal

abbrev pub invariant-loop-at : goal.invariant-loop-at
invariant-loop-at l = l.arena ≡ with_object l.initial.arena l.fn.l.cell (ListObject (map (value_of l.lookup.library.now l.lookup.snapshot.now) (take l.at l.items)) (room_at l.initial.arena l.fn.l.cell))
