use Rattle.std.proofs.Common.{◌≡◌, ◌+◌, ◌*◌, ◌++◌, drop}
use Rattle.std.specs.List.{flat_map}
use Rattle.mpy_tree.specs.Canonical.{object_bytes}
use Rattle.mpy_writer.proofs.object.+object.Given as goal

abbrev pub decreases-write_object : goal.decreases-write_object
decreases-write_object l = 2 * l.levels

abbrev pub decreases-write_objects : goal.decreases-write_objects
decreases-write_objects l = 2 * l.levels + 1

abbrev pub invariant-write_objects-loop-object : goal.invariant-write_objects-loop-object
invariant-write_objects-loop-object l =
    l.out.items ++ flat_map (object_bytes l.levels) (drop l.object-index l.objects) ≡ l.initial.out.items ++ flat_map (object_bytes l.levels) l.objects
