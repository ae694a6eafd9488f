use Rattle.vm_kept.proofs.Steps.{started, begun}
use Rattle.vm_kept.proofs.begins_law.Goals as goal

pub returns-clause-start : goal.returns-clause-start
returns-clause-start c p name m before w heap s means held same = started p c.known_law.ensures.start name m before w heap s means held same

pub returns-clause-one : goal.returns-clause-one
returns-clause-one c p objects s first run are slots entries = begun p objects s first run are slots entries
