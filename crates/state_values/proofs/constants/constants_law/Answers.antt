use Rattle.state_values.proofs.Constancy as constancy
use Rattle.state_values.proofs.constants.constants_law.Goals as goal

pub returns-clause-object : goal.returns-clause-object
returns-clause-object c = constancy.object_known

pub returns-clause-int : goal.returns-clause-int
returns-clause-int c = constancy.int_known
