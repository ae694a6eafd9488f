use Rattle.py_meaning.proofs.FunctionLaws.{numbered}
use Rattle.py_meaning.proofs.functions.numbers_law.Goals as goal

pub returns : goal.returns
returns c tree formed source base body = numbered tree formed source base body
