use Rattle.std.proofs.Common.{◌≡◌, ◌<◌, ℕ, []}
use Rattle.py_scopes.specs.Names.{names_in}
use Rattle.py_scopes.proofs.names.are_empty.Given as goal

abbrev pub invariant-loop-set : goal.invariant-loop-set
invariant-loop-set l = (f : ℕ) → f < l.set-index → names_in l.sets f ≡ []
