use Rattle.std.proofs.Common.{refl}
use Rattle.prim_calls.proofs.FamilyEffects.{on_heap_effect, ports_effect}
use Rattle.prim_calls.proofs.laws.effects_law.Goals as goal

pub returns : goal.returns
returns c = record {
  heap = on_heap_effect;
  print = λ w args keys. refl;
  ports = ports_effect;
  port_module = λ w args keys. refl;
}
