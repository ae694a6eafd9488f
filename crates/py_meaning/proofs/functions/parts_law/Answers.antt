use Rattle.py_meaning.proofs.Dotted.{first_is, spelled_is, undotted}
use Rattle.py_meaning.proofs.functions.parts_law.Goals as goal

pub returns-clause-spelled : goal.returns-clause-spelled
returns-clause-spelled c name = spelled_is name

pub returns-clause-undotted : goal.returns-clause-undotted
returns-clause-undotted c name = undotted name

pub returns-clause-first : goal.returns-clause-first
returns-clause-first c name = first_is name
