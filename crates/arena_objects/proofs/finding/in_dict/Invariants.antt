use Rattle.std.proofs.Common.{ℕ, ◌<◌}
use Rattle.arena_objects.specs.Found.{HasKey}
use Rattle.arena_objects.specs.PlainKeys.{plain}
use Rattle.arena_objects.proofs.finding.in_dict.Given as goal

abbrev pub invariant-loop-at : goal.invariant-loop-at
invariant-loop-at g l = (k : ℕ) → k < l.at → HasKey (g.C.Constants.text_of l.consts) l.arena l.d.cell (plain l.sought) k → ⊥
