use Rattle.std.proofs.Common.{◌≡◌, ◌++◌, drop}
use Rattle.std.specs.List.{flat_map}
use Rattle.py_scopes.specs.Events.{at, target_acts}
use Rattle.py_scopes.proofs.targets.+targets.Given as goal

abbrev pub invariant-targets_bind-loop-target : goal.invariant-targets_bind-loop-target
invariant-targets_bind-loop-target l =
    l.events.items ++ at l.line (flat_map target_acts (drop l.target-index l.targets)) ≡ l.fn.events.items ++ at l.line (flat_map target_acts l.targets)
