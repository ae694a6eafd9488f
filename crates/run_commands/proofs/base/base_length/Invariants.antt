use Rattle.std.proofs.Common.{◌≡◌, ◌⊎◌, ◌≤◌, ◌<◌, ◌-◌, drop, get_or}
use Rattle.run_commands.specs.Base.{base_length, slash_end}
use Rattle.run_commands.proofs.base.base_length.Given as goal

abbrev pub invariant-loop-at : goal.invariant-loop-at
invariant-loop-at l = record {
  length : base_length l.name ≡ slash_end l.at l.found (drop l.at l.name);
  within : l.found ≤ l.at;
  slash : (l.found ≡ 0) ⊎ ((0 < l.found) × (get_or l.name (l.found - 1) 0 ≡ 47));
}
