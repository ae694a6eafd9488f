use Rattle.bc_labels.proofs.Pieces.{stands, one, within}
use Rattle.bc_labels.proofs.Order.{order, each, first, begins}
use Rattle.bc_labels.proofs.Arrival.{arrives}
use Rattle.bc_labels.proofs.offsets.offsets_law.Goals as goal

pub returns : goal.returns
returns c = record { each = each; first = first; begins = begins; stands = stands; one = one; within = within; order = order; arrives = arrives }
