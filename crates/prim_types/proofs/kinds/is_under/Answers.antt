use Rattle.std.proofs.lemmas.Bool.Decides.{same_from_decides}
use Rattle.prim_builtins.specs.py_primitives.Operators.{is_under}
use Rattle.prim_types.proofs.KindTests.{is_under_decides}
use Rattle.prim_types.proofs.kinds.is_under.Goals as goal

pub returns : goal.returns
returns c = same_from_decides c.is_under.result (is_under c.args.kind c.args.other) (c.is_under.ensures.0, c.is_under.ensures.1) (is_under_decides c.args.kind c.args.other)
