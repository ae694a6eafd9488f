use Rattle.std.proofs.Common.{arith}
use Rattle.prim_faults.proofs.Wordings.{counted_few}
use Rattle.prim_faults.proofs.wording.counted.Goals as goal

pub returns-clause-few : goal.returns-clause-few
returns-clause-few c = λ name. counted_few c.args.first.now c.args.last.now name c.args.n c.requires (omega arith)
