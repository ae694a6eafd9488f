use Rattle.py_tokens.proofs.Readings.{only_tokens, only_fault}
use Rattle.py_tokens.proofs.source.tokens.Goals as goal

pub returns-clause-only : goal.returns-clause-only
returns-clause-only c = only_tokens c.args.opt c.args.source.now c.read.result c.read.ensures

pub returns-clause-fault_only : goal.returns-clause-fault_only
returns-clause-fault_only c = only_fault c.args.opt c.args.source.now c.read.result c.read.ensures c.if-source-gt-MAX_SOURCE_BYTES.false
