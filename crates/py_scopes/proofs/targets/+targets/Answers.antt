use Rattle.std.proofs.Common.{rules}
use Rattle.py_scopes.proofs.Acts.{acts_Unpack}
use Rattle.py_scopes.proofs.targets.+targets.Goals as goal

pub target_binds-returns-in-Unpack : goal.target_binds-returns-in-Unpack
target_binds-returns-in-Unpack t c = search (rules, acts_Unpack)
