use Rattle.std.proofs.Common.{◌≡◌, ℕ, List, ◌++◌}
use Rattle.bc_prelude.specs.Size.{spelling}
use Rattle.bc_prelude.proofs.size.spell.Given as goal

-- what is written so far, and the groups that are left, are the spelling
abbrev pub invariant-loop-left : goal.invariant-loop-left
invariant-loop-left l = record {
  whole : l.out.items ++ spelling l.left ≡ l.initial.out.items ++ spelling l.size;
  front : (front : List ℕ) × (l.out.items ≡ l.initial.out.items ++ front);
}

abbrev pub decreases-loop-left : goal.decreases-loop-left
decreases-loop-left l = l.left
