use Rattle.std.proofs.Common.{Option, unwrap_or, ap}
use Rattle.mpy_base.specs.declared.builtin.Builtin.{Builtin}
use Rattle.mpy_base.specs.declared.builtin.Builtin.TheVariants as builtins
use Rattle.arena_heap.specs.declared.value.Value.TheVariants as values
use Rattle.snap_loading.proofs.values.built_in.Goals as goal

pub returns-in-Some : goal.returns-in-Some
returns-in-Some c = ap (λ (o : Option Builtin). values.Built (unwrap_or o builtins.Print)) c.in-Some.ensures

pub returns-in-None : goal.returns-in-None
returns-in-None c = ap (λ (o : Option Builtin). values.Built (unwrap_or o builtins.Print)) c.in-None.ensures
