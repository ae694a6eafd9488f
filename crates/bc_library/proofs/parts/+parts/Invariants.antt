use Rattle.std.proofs.Common.{◌+◌, ◌*◌, take}
use Rattle.bc_library.proofs.Preorders.{Added}
use Rattle.bc_library.proofs.parts.+parts.Given as goal

abbrev pub decreases-add_object : goal.decreases-add_object
decreases-add_object l = 2 * l.levels

abbrev pub decreases-add_objects : goal.decreases-add_objects
decreases-add_objects l = 2 * l.levels + 1

abbrev pub invariant-add_objects-loop-object : goal.invariant-add_objects-loop-object
invariant-add_objects-loop-object l = Added l.number l.fn.parts.items (take l.object-index l.objects) l.parts.items l.values
