use Rattle.std.proofs.Common.{arith}
use Rattle.prim_faults.proofs.Wordings.{given_few}
use Rattle.prim_faults.proofs.wording.given_counts.Goals as goal

pub returns-clause-few : goal.returns-clause-few
returns-clause-few c = λ name. given_few c.args.first.now c.args.middle.now c.args.last.now name c.args.n c.args.given c.requires (omega arith) (omega arith)
