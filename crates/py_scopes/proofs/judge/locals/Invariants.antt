use Rattle.std.proofs.Common.{◌≡◌, ◌++◌, drop, filter, map, not}
use Rattle.py_scopes.specs.Names.{has, bytes_of, names_in}
use Rattle.py_scopes.proofs.judge.locals.Given as goal

abbrev pub invariant-loop-key : goal.invariant-loop-key
invariant-loop-key l =
    l.names ++ filter (λ name. not (has name (names_in l.declared l.f))) (map bytes_of (drop l.key-index l.keys)) ≡ filter (λ name. not (has name (names_in l.declared l.f))) (map bytes_of l.keys)
