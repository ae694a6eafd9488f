use Rattle.std.proofs.Common.{◌+◌, ◌*◌, take}
use Rattle.snap_states.specs.Knowing.{Adds, strs_to}
use Rattle.snap_states.proofs.constants.+strs.Given as goal

abbrev pub decreases-add_str : goal.decreases-add_str
decreases-add_str l = 2 * l.levels

abbrev pub decreases-add_strs : goal.decreases-add_strs
decreases-add_strs l = 2 * l.levels + 1

abbrev pub invariant-add_strs-loop-object : goal.invariant-add_strs-loop-object
invariant-add_strs-loop-object l = Adds l.fn.set l.set (strs_to l.levels (take l.object-index l.objects))
