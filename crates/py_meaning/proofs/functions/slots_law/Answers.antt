use Rattle.py_meaning.proofs.FunctionLaws.{slots_are, slots_count, as_many}
use Rattle.py_meaning.proofs.functions.slots_law.Goals as goal

pub returns-clause-locals : goal.returns-clause-locals
returns-clause-locals c tree formed = slots_are tree formed

pub returns-clause-count : goal.returns-clause-count
returns-clause-count c tree formed = slots_count tree formed

pub returns-clause-globals : goal.returns-clause-globals
returns-clause-globals c tree formed = as_many tree formed
