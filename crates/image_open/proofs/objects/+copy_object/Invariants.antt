use Rattle.std.proofs.Common.{◌≡◌, take}
use Rattle.image_open.proofs.objects.+copy_object.Given as goal

abbrev pub decreases-copy_object : goal.decreases-copy_object
decreases-copy_object l = l.levels

abbrev pub invariant-loop-item : goal.invariant-loop-item
invariant-loop-item l = l.copies ≡ take l.item-index l.item-items
