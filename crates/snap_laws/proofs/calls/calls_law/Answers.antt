use Rattle.snap_laws.proofs.BuiltinCalls.{call_as}
use Rattle.snap_laws.proofs.calls.calls_law.Goals as goal

pub returns : goal.returns
returns c r h k b args keys is = call_as r h k is b args keys
