-- The effects of built-ins by their families.
use Rattle.std.proofs.Common.{◌≡◌, List, refl}
use Rattle.mpy_base.specs.declared.builtin.Builtin.{Builtin}
use Rattle.mpy_base.specs.declared.builtin.Builtin.TheVariants as builtins
use Rattle.mpy_base.specs.Val.{Val, PlainWorld}
use Rattle.prim_types.specs.py_primitives.Calls.{call}
use Rattle.prim_types.specs.py_primitives.Output.{call_port}
use Rattle.prim_outputs.specs.py_effects.Effect.{on_heap}
use Rattle.prim_outputs.specs.py_effects.Calling.{on_ports, call_builtin}
use Rattle.prim_calls.specs.Families.{IsOnHeap, IsOfPorts}

pub on_heap_effect : (w : PlainWorld) (b : Builtin) (args : List Val) (keys : List (Val × Val)) → IsOnHeap b → call_builtin w b args keys ≡ on_heap w (call w.heap b args keys)
on_heap_effect w builtins.Print args keys is = absurd is
on_heap_effect w builtins.Port args keys is = absurd is
on_heap_effect w builtins.PortPut args keys is = absurd is
on_heap_effect w builtins.PortGet args keys is = absurd is
on_heap_effect w builtins.PortCount args keys is = absurd is
on_heap_effect w _ args keys is = refl

pub ports_effect : (w : PlainWorld) (b : Builtin) (args : List Val) (keys : List (Val × Val)) → IsOfPorts b → call_builtin w b args keys ≡ on_ports w (call_port w.heap w.ports b args keys)
ports_effect w builtins.PortPut args keys is = refl
ports_effect w builtins.PortGet args keys is = refl
ports_effect w builtins.PortCount args keys is = refl
ports_effect w _ args keys is = absurd is
