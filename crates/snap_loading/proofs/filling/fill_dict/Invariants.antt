use Rattle.std.proofs.Common.{◌≡◌, map, take}
use Rattle.mpy_base.specs.World.{DictObject, room_at, with_object}
use Rattle.snap_states.specs.Decoded.{pair_of}
use Rattle.snap_loading.proofs.filling.fill_dict.Given as goal

abbrev pub invariant-loop-at : goal.invariant-loop-at
invariant-loop-at l = l.arena ≡ with_object l.initial.arena l.fn.d.cell (DictObject (map (pair_of l.lookup.library.now l.lookup.snapshot.now) (take l.at l.pairs)) (room_at l.initial.arena l.fn.d.cell))
