use Rattle.py_tokens.proofs.Lexemes.{string_found}
use Rattle.py_tokens.proofs.lexeme.string_at.Goals as goal

pub returns-in-Ok : goal.returns-in-Ok
returns-in-Ok c = string_found c.args.raw c.args.bytes.now c.args.prefix c.in-Ok.len c.in-Ok.text c.split_at.result.1.now c.requires.within c.split_at.ensures.back c.in-Ok.ensures
