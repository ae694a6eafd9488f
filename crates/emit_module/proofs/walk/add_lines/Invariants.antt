use Rattle.std.proofs.Common.{◌≡◌, ◌++◌, drop}
use Rattle.emit_module.proofs.walk.add_lines.Given as goal

-- the lines so far and those that are left are all
abbrev pub invariant-loop-each : goal.invariant-loop-each
invariant-loop-each l = l.lines ++ drop l.each-index l.inner ≡ l.initial.lines ++ l.inner
