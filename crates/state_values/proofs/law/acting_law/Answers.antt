use Rattle.state_values.proofs.Doing as doing
use Rattle.state_values.proofs.law.acting_law.Goals as goal

pub returns-clause-acts : goal.returns-clause-acts
returns-clause-acts c texts tuples fetched visits offset before behind old new result starts =
    doing.acts c.keeps_law.ensures.goes_on c.known_law.ensures.stays texts tuples fetched visits offset before behind old new starts result

pub returns-clause-moves : goal.returns-clause-moves
returns-clause-moves c = doing.moves
