use Rattle.py_meaning.proofs.FunctionLaws.{placed}
use Rattle.py_meaning.proofs.functions.words_law.Goals as goal

pub returns : goal.returns
returns c tree formed faultless = placed tree formed faultless
