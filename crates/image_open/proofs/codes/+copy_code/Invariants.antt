use Rattle.std.proofs.Common.{◌≡◌, take}
use Rattle.image_open.proofs.codes.+copy_code.Given as goal

abbrev pub decreases-copy_code : goal.decreases-copy_code
decreases-copy_code l = l.levels

abbrev pub invariant-loop-child : goal.invariant-loop-child
invariant-loop-child l = l.children ≡ take l.child-index l.child-items
