use Rattle.std.proofs.Common.{◌≡◌, ◌++◌, drop}
use Rattle.std.specs.List.{zip}
use Rattle.mpy_tree.specs.Canonical.{changes}
use Rattle.mpy_writer.proofs.code.line_changes.Given as goal

-- the changes so far and those that are left are all
abbrev pub invariant-loop-i : goal.invariant-loop-i
invariant-loop-i l =
    l.pairs.items ++ changes l.last (zip (drop l.i l.starts) (drop l.i l.lines)) ≡ changes 1 (zip l.starts l.lines)
