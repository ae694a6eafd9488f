use Rattle.std.proofs.Common.{◌≡◌, drop}
use Rattle.manifest_lines.specs.Orders.{require}
use Rattle.manifest_lines.proofs.order.require.Given as goal

abbrev pub invariant-loop-argument : goal.invariant-loop-argument
invariant-loop-argument l = require l.arguments ≡ require (drop l.argument-index l.arguments)
