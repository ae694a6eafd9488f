use Rattle.snap_laws.proofs.MethodCalls.{method_as}
use Rattle.snap_laws.proofs.methods.methods_law.Goals as goal

pub returns : goal.returns
returns c r h k method object args keys is = method_as r h k is method object args keys
