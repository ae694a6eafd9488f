use Rattle.std.proofs.Common.{◌≡◌, length}
use Rattle.manifest_lines.specs.Orders.{has_variable}
use Rattle.manifest_lines.proofs.order.has_variable.Given as goal

abbrev pub invariant-more : goal.invariant-more
invariant-more l = has_variable l.text ≡ has_variable l.rest

abbrev pub decreases-more : goal.decreases-more
decreases-more l = length l.rest
