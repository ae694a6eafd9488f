-- What is said of keys is proved of lists of pairs.
use Rattle.py_values.proofs.KeyPairs.{set_is_found, set_keeps_others, deletion_keeps_others}
use Rattle.py_values.proofs.laws.keys_law.Goals as goal

pub returns : goal.returns
returns c = record { set = set_is_found; others = set_keeps_others; deleted = deletion_keeps_others }
