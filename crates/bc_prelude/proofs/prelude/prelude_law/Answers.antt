use Rattle.bc_prelude.proofs.Preludes.{prelude_written, same_prelude}
use Rattle.bc_prelude.specs.Prelude.{signature_in}
use Rattle.bc_prelude.proofs.Written.{signature_writable}
use Rattle.bc_prelude.proofs.prelude.prelude_law.Goals as goal

pub returns-clause-begins : goal.returns-clause-begins
returns-clause-begins c = prelude_written

pub returns-clause-one_prelude : goal.returns-clause-one_prelude
returns-clause-one_prelude c = same_prelude

pub returns-clause-numbers : goal.returns-clause-numbers
returns-clause-numbers c code prelude b = signature_writable b.signature (signature_in prelude) b.is_signature
