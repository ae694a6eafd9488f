use Rattle.std.proofs.Common.{◌≡◌}
use Rattle.py_scopes.specs.Names.{names_in}
use Rattle.py_scopes.specs.Scopes.{locals_below}
use Rattle.py_scopes.proofs.judge.locals_of_each.Given as goal

abbrev pub invariant-loop-f : goal.invariant-loop-f
invariant-loop-f l = l.slots.items ≡ locals_below (names_in l.bound) (names_in l.declared) l.f
