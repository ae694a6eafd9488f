use Rattle.std.proofs.Common.{◌≡◌, ◌++◌, drop}
use Rattle.std.specs.List.{flat_map}
use Rattle.py_tree.specs.declared.stmt.Param.{Param}
use Rattle.py_scopes.specs.Events.{at, acts_of_option}
use Rattle.py_scopes.proofs.parts.defaults_use.Given as goal

abbrev pub invariant-loop-param : goal.invariant-loop-param
invariant-loop-param l = l.events.items ++ at l.line (flat_map (λ (param : Param). acts_of_option param.default) (drop l.param-index l.params)) ≡ l.fn.events.items ++ at l.line (flat_map (λ (param : Param). acts_of_option param.default) l.params)
