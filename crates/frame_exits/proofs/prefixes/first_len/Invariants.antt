use Rattle.std.proofs.Common.{◌≡◌, take, drop}
use Rattle.frame_moves.specs.py_effects.Modules.{prefixes, first_of}
use Rattle.frame_exits.proofs.Fronts.{fronts}
use Rattle.frame_exits.proofs.prefixes.first_len.Given as goal

-- no prefix ends before this place
abbrev pub invariant-loop-at : goal.invariant-loop-at
invariant-loop-at l = first_of (fronts (take l.at l.name) (drop l.at l.name)) ≡ first_of (prefixes l.name)
