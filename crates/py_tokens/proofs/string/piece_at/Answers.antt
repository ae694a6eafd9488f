use Rattle.py_tokens.proofs.Reading.{stands_there}
use Rattle.py_tokens.proofs.string.piece_at.Goals as goal

pub returns-in-34 : goal.returns-in-34
returns-in-34 c = stands_there c.args.quotes.now c.args.bytes.now c.if-starts_with.ensures.value
