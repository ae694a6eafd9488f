use Rattle.std.proofs.Common.{sym, ap, ◌∙◌}
use Rattle.std.specs.Prelude.{is_some}
use Rattle.prim_types.proofs.TypeTests.{is_a_number}
use Rattle.prim_types.proofs.instances.is_number.Goals as goal

pub returns : goal.returns
returns c = λ texts tuples. is_a_number texts tuples c.args._arena.now c.args.v ∙ (ap is_some (sym c.number_of.ensures) ∙ sym c.is_some.ensures)
