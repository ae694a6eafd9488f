use Rattle.std.proofs.Common.{◌≡◌, ◌++◌, drop, map}
use Rattle.py_tree.specs.declared.stmt.Param.{Param}
use Rattle.py_scopes.specs.declared.event.Act.TheVariants.{Bind}
use Rattle.py_scopes.specs.Events.{at}
use Rattle.py_scopes.proofs.parts.params_bind.Given as goal

abbrev pub invariant-loop-param : goal.invariant-loop-param
invariant-loop-param l = l.events.items ++ at l.line (map (λ (param : Param). Bind param.name) (drop l.param-index l.params)) ≡ l.fn.events.items ++ at l.line (map (λ (param : Param). Bind param.name) l.params)
