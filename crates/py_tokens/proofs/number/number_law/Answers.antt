use Rattle.py_tokens.proofs.Numbers.{one_value}
use Rattle.py_tokens.proofs.number.number_law.Goals as goal

pub returns : goal.returns
returns c = one_value
