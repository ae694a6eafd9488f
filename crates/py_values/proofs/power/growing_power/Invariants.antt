use Rattle.std.proofs.Common.{◌≡◌}
use Rattle.py_values.specs.Small.{checked}
use Rattle.py_values.specs.Power.{power}
use Rattle.py_values.proofs.power.growing_power.Given as goal

abbrev pub invariant-loop : goal.invariant-loop
invariant-loop l = l.product ≡ checked (power l.base l.counter)
