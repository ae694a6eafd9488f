use Rattle.std.proofs.Common.{◌≡◌, ℕ, List, map, drop}
use Rattle.mpy_base.specs.declared.builtin.Builtin.{Builtin}
use Rattle.prim_raising.specs.py_effects.py_values.Names.{builtin_name}
use Rattle.prim_raising.specs.py_effects.py_primitives.Builtins.{named}
use Rattle.prim_names.proofs.builtins.named.Given as goal

-- the first of them that has the name is among those that are left
abbrev pub invariant-loop-b : goal.invariant-loop-b
invariant-loop-b l =
    let entry : Builtin → List ℕ × Builtin = λ b. (builtin_name b, b) in
    named (map entry l.builtins) l.name ≡ named (map entry (drop l.b-index l.builtins)) l.name
