use Rattle.std.proofs.Common.{◌≡◌, drop}
use Rattle.py_scopes.specs.Names.{names_in}
use Rattle.py_scopes.specs.Scopes.{is_found}
use Rattle.py_scopes.proofs.judge.is_found.Given as goal

abbrev pub invariant-loop-f : goal.invariant-loop-f
invariant-loop-f l = is_found (names_in l.bound) (names_in l.declared) l.name (drop l.f-index l.around) ≡ is_found (names_in l.bound) (names_in l.declared) l.name l.around
