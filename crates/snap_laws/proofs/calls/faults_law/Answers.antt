use Rattle.snap_laws.proofs.BuiltinCalls.{fault_made}
use Rattle.snap_laws.proofs.calls.faults_law.Goals as goal

pub returns : goal.returns
returns c r h k fault is = fault_made r h k is fault
