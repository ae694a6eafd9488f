use Rattle.bc_resolved.proofs.Libraries.{library_there, all_verified}
use Rattle.bc_resolved.proofs.resolved.stored_law.Goals as goal

pub returns-clause-library : goal.returns-clause-library
returns-clause-library c stored h = library_there c.resolves_law.ensures.tree stored h

pub returns-clause-verified : goal.returns-clause-verified
returns-clause-verified c stored library h l = c.library_law.ensures library (all_verified c.module_law.ensures.files stored library h l)
