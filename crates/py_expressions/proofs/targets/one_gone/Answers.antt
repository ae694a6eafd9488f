use Rattle.py_expressions.specs.Input.{input_of}
use Rattle.py_expressions.proofs.Singles.{gone_by}
use Rattle.py_expressions.proofs.targets.one_gone.Goals as goal

pub returns : goal.returns
returns c = rw (gone_by (input_of c.args.tokens.now) c.left-depth.result c.left-depth.ensures) c.single.ensures
