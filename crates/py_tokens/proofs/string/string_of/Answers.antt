use Rattle.py_tokens.proofs.Reading.{only, fault_only}
use Rattle.py_tokens.proofs.string.string_of.Goals as goal

pub returns-clause-only : goal.returns-clause-only
returns-clause-only c = only c.args.raw c.args.bytes.now c.read_string.result c.read_string.ensures

pub returns-clause-fault_only : goal.returns-clause-fault_only
returns-clause-fault_only c = fault_only c.args.raw c.args.bytes.now c.read_string.result c.read_string.ensures
