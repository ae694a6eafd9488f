use Rattle.py_source.proofs.Asked.{formed}
use Rattle.py_source.proofs.source.asked_law.Goals as goal

pub returns-clause-formed : goal.returns-clause-formed
returns-clause-formed c = formed

pub returns-clause-faultless : goal.returns-clause-faultless
returns-clause-faultless c = λ level source accepted is. is.is_source.faultless

pub returns-clause-slots : goal.returns-clause-slots
returns-clause-slots c = λ level source accepted is. is.slots_are
