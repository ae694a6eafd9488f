use Rattle.std.proofs.Common.{arith, rules}
use Rattle.py_tokens.proofs.Names.{name_front}
use Rattle.py_tokens.proofs.name.name_len.Goals as goal

pub returns-in-len1-up-clause-name : goal.returns-in-len1-up-clause-name
returns-in-len1-up-clause-name c =
    name_front c.args.bytes.now c.run_len.result (omega arith) (search rules) c.run_len.ensures.all
