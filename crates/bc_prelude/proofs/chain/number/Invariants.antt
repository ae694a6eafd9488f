use Rattle.std.proofs.Common.{◌≡◌, ◌-◌, ◌^◌, ◌≤◌, length, drop, min}
use Rattle.bc_prelude.specs.Chain.{number_of}
use Rattle.bc_prelude.proofs.chain.number.Given as goal

-- the bytes from here on give the value
abbrev pub invariant-loop-at : goal.invariant-loop-at
invariant-loop-at l = record {
  within : l.at ≤ length l.bytes;
  value : l.value ≡ min (number_of l.place l.base (drop l.at l.bytes)) (2 ^ 64 - 1);
}

abbrev pub decreases-loop-at : goal.decreases-loop-at
decreases-loop-at l = l.at
