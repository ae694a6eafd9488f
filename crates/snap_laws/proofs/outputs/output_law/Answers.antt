use Rattle.snap_laws.proofs.Printing.{printed_as, port_as}
use Rattle.snap_laws.proofs.outputs.output_law.Goals as goal

pub returns-clause-printed : goal.returns-clause-printed
returns-clause-printed c r h k args keys is = printed_as r h k is args keys

pub returns-clause-ports : goal.returns-clause-ports
returns-clause-ports c r h k ports b args keys is = port_as r h k is ports b args keys
