use Rattle.std.proofs.Common.{◌≡◌, map, take}
use Rattle.py_tree.specs.declared.stmt.Param.{Param}
use Rattle.emit_module.proofs.text.names.Given as goal

abbrev pub invariant-loop-param : goal.invariant-loop-param
invariant-loop-param l = l.names ≡ map (λ (param : Param). param.name) (take l.param-index l.params)
