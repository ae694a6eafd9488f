use Rattle.prim_walks.proofs.PenSteps.{wrote_then}
use Rattle.prim_walks.proofs.pieces.put_three.Goals as goal

pub returns : goal.returns
returns g c = wrote_then (wrote_then c.put.ensures c.put-2.ensures) c.put-3.ensures
