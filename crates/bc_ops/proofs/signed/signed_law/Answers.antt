use Rattle.bc_ops.proofs.Integers.{one_signed, signed_spells}
use Rattle.bc_ops.proofs.signed.signed_law.Goals as goal

pub returns-clause-spells : goal.returns-clause-spells
returns-clause-spells c = signed_spells

pub returns-clause-one_number : goal.returns-clause-one_number
returns-clause-one_number c = one_signed
