use Rattle.py_effects.proofs.Prints.{prints}
use Rattle.py_meaning.proofs.Growing.{growing}
use Rattle.py_meaning.proofs.Laws.{printed}
use Rattle.py_meaning.proofs.runs.prefix_law.Goals as goal

pub returns-clause-runs : goal.returns-clause-runs
returns-clause-runs c program cells bytes ports t s le = printed program cells bytes ports t s le

pub returns-clause-expressions : goal.returns-clause-expressions
returns-clause-expressions c program n frame env line e t w = ((growing prints program n).eval frame env line e t w tt).by

pub returns-clause-statements : goal.returns-clause-statements
returns-clause-statements c program n frame handled line s env t w = ((growing prints program n).exec frame handled line s env t w tt).by

pub returns-clause-turns : goal.returns-clause-turns
returns-clause-turns c program n frame env line e t w = ((growing prints program n).eval frame env line e t w tt).falls

pub returns-clause-statement_turns : goal.returns-clause-statement_turns
returns-clause-statement_turns c program n frame handled line s env t w = ((growing prints program n).exec frame handled line s env t w tt).falls
