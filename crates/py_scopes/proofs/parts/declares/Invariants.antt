use Rattle.std.proofs.Common.{◌≡◌, ◌++◌, drop, map}
use Rattle.py_scopes.specs.Events.{at}
use Rattle.py_scopes.specs.declared.event.Act.TheVariants.{Declare}
use Rattle.py_scopes.proofs.parts.declares.Given as goal

abbrev pub invariant-loop-name : goal.invariant-loop-name
invariant-loop-name l = l.events.items ++ at l.line (map Declare (drop l.name-index l.names)) ≡ l.fn.events.items ++ at l.line (map Declare l.names)
