use Rattle.py_tokens.proofs.Lexemes.{refused_operator}
use Rattle.py_tokens.proofs.lexeme.mark_at.Goals as goal

pub returns-in-Some-Refused-default : goal.returns-in-Some-Refused-default
returns-in-Some-Refused-default c opt =
    let found = c.in-Some-Refused-default.ensures.found in
    refused_operator opt c.args.bytes.now c.in-Some-Refused-default.field-0-0 found.0 c.in-Some-Refused-default.len c.split_at.result.0.now c.outside.result c.in-Some-Refused-default.field-0-0-is found.1 found.2 c.split_at.ensures.front c.outside.ensures
