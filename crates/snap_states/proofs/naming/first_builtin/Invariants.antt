use Rattle.std.proofs.Common.{◌≡◌, drop}
use Rattle.prim_walks.specs.py_values.Names.{builtin_name}
use Rattle.snap_states.specs.Decoded.{called}
use Rattle.snap_states.proofs.naming.first_builtin.Given as goal

-- the first of them that has the name is among those that are left
abbrev pub invariant-loop-b : goal.invariant-loop-b
invariant-loop-b l = called builtin_name l.name l.builtins ≡ called builtin_name l.name (drop l.b-index l.builtins)
