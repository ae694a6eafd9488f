use Rattle.py_parser.proofs.Produces.{is_produced, is_compound}
use Rattle.py_parser.proofs.productions.productions_law.Goals as goal

pub returns-clause-produced : goal.returns-clause-produced
returns-clause-produced c = is_produced

pub returns-clause-compound : goal.returns-clause-compound
returns-clause-compound c = is_compound
