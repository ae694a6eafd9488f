use Rattle.bc_prelude.proofs.Written.{signature_spells, signature_shortest, signature_writable, one_signature}
use Rattle.bc_prelude.proofs.signature.signature_law.Goals as goal

pub returns-clause-spells : goal.returns-clause-spells
returns-clause-spells c = signature_spells

pub returns-clause-shortest : goal.returns-clause-shortest
returns-clause-shortest c = signature_shortest

pub returns-clause-writable : goal.returns-clause-writable
returns-clause-writable c = signature_writable

pub returns-clause-one_signature : goal.returns-clause-one_signature
returns-clause-one_signature c = one_signature
