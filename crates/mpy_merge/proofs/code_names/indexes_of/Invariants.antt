use Rattle.std.proofs.Common.{◌-◌, ℕ, List, length}
use Rattle.bc_verify.specs.bc_prelude.Names.{AreNames}
use Rattle.mpy_merge.proofs.Places.{Left}
use Rattle.mpy_merge.proofs.code_names.indexes_of.Given as goal

abbrev pub invariant-loop-at : goal.invariant-loop-at
invariant-loop-at l = (indexes : List ℕ) → AreNames indexes l.names → Left l.names indexes l.indexes.items l.at

abbrev pub decreases-loop-at : goal.decreases-loop-at
decreases-loop-at l = length l.names - l.at
