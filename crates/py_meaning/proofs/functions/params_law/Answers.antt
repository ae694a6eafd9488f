use Rattle.py_meaning.proofs.FunctionLaws.{begin, have}
use Rattle.py_meaning.proofs.functions.params_law.Goals as goal

pub returns-clause-first : goal.returns-clause-first
returns-clause-first c tree formed faultless source base body locals = begin tree formed source base faultless body locals

pub returns-clause-slots : goal.returns-clause-slots
returns-clause-slots c tree formed faultless source base body locals = have tree formed source base faultless body locals
