use Rattle.std.proofs.Common.{◌≡◌, ◌++◌, drop}
use Rattle.py_scopes.specs.Events.{at, import_acts}
use Rattle.py_scopes.proofs.parts.imports.Given as goal

abbrev pub invariant-loop-alias : goal.invariant-loop-alias
invariant-loop-alias l = l.events.items ++ at l.line (import_acts (drop l.alias-index l.names)) ≡ l.fn.events.items ++ at l.line (import_acts l.names)
