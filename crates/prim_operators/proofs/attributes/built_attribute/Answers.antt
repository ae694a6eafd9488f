use Rattle.std.proofs.Common.{sym, subst}
use Rattle.prim_faults.specs.mpy_base.declared.builtin.Builtin.{Builtin}
use Rattle.prim_operators.specs.Attributes.{IsBuiltAttribute}
use Rattle.prim_operators.proofs.attributes.built_attribute.Goals as goal

pub returns-in-Port : goal.returns-in-Port
returns-in-Port c = subst (λ (b : Builtin). IsBuiltAttribute b c.args.name.now c.port_attribute.result) (sym c.in-Port.is) c.port_attribute.ensures
