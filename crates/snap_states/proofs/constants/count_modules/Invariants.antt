use Rattle.std.proofs.Common.{◌≤◌, length}
use Rattle.snap_states.proofs.constants.count_modules.Given as goal

abbrev pub invariant-loop-number : goal.invariant-loop-number
invariant-loop-number l = l.number ≤ length l.library.modules
