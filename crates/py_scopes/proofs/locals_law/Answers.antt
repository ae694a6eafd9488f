use Rattle.std.proofs.Common.{not}
use Rattle.py_scopes.specs.Names.{has}
use Rattle.py_scopes.proofs.Tables.{has-kept}
use Rattle.py_scopes.proofs.locals_law.Goals as goal

pub returns : goal.returns
returns c bound declared f name = has-kept (λ one. not (has one (declared f))) name (bound f)
