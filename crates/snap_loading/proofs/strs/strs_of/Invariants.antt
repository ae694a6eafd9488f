use Rattle.std.proofs.Common.{◌≡◌, ℕ, List, take}
use Rattle.snap_states.specs.Decoded.{constant_from}
use Rattle.snap_loading.specs.Texts.{beside}
use Rattle.snap_loading.proofs.strs.strs_of.Given as goal

abbrev pub invariant-loop-number : goal.invariant-loop-number
invariant-loop-number l = (other : List ℕ) → beside l.strs.entries other ≡ constant_from 0 (take l.number l.library.modules) other
