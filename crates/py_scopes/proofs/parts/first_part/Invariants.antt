use Rattle.std.proofs.Common.{◌≡◌, ◌++◌, ◌≤◌, ◌-◌, take, drop, length}
use Rattle.py_scopes.specs.Events.{first_part}
use Rattle.py_scopes.proofs.parts.first_part.Given as goal

abbrev pub decreases-loop-len : goal.decreases-loop-len
decreases-loop-len l = length l.bytes - l.len

abbrev pub invariant-loop-len : goal.invariant-loop-len
invariant-loop-len l = record {
  within : l.len ≤ length l.bytes;
  so_far : take l.len l.bytes ++ first_part (drop l.len l.bytes) ≡ first_part l.bytes;
}
