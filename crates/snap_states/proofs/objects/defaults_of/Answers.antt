use Rattle.snap_states.proofs.Filling.{given_is}
use Rattle.snap_states.proofs.objects.defaults_of.Goals as goal

pub returns-in-Some : goal.returns-in-Some
returns-in-Some c count = given_is c.args.rows.now c.args.module_number c.args.code c.in-Some.row.now c.in-Some.ensures.is c.prelude_law.ensures.one_prelude count
