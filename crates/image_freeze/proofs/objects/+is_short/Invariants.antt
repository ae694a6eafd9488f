use Rattle.std.proofs.Common.{◌-◌, All, take}
use Rattle.mpy_writer.specs.Writable.{IsFine}
use Rattle.image_freeze.proofs.objects.+is_short.Given as goal

abbrev pub decreases-is_short : goal.decreases-is_short
decreases-is_short l = l.levels

abbrev pub invariant-loop-item : goal.invariant-loop-item
invariant-loop-item l = All (IsFine (l.levels - 1)) (take l.item-index l.item-items)
