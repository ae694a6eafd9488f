use Rattle.std.proofs.Common.{◌≡◌, ◌⊎◌, ◌≤◌, ◌<◌, ◌-◌, drop, get_or}
use Rattle.manifest_files.specs.Entries.{folder_length, slash_end}
use Rattle.manifest_files.proofs.inner.folder_length.Given as goal

abbrev pub invariant-loop-at : goal.invariant-loop-at
invariant-loop-at l = record {
  length : folder_length l.name ≡ slash_end l.at l.found (drop l.at l.name);
  within : l.found ≤ l.at;
  slash : (l.found ≡ 0) ⊎ ((0 < l.found) × (get_or l.name (l.found - 1) 0 ≡ 47));
}
