use Rattle.snap_laws.proofs.EffectCalls.{callee_as, method_called, bind_as}
use Rattle.snap_laws.proofs.effects.callees_law.Goals as goal

pub returns-clause-callee : goal.returns-clause-callee
returns-clause-callee c r w u v is = callee_as r w u is v

pub returns-clause-method : goal.returns-clause-method
returns-clause-method c r w u method object args keys is = method_called r w u is method object args keys

pub returns-clause-bound : goal.returns-clause-bound
returns-clause-bound c r w u params count defaults args keys is = bind_as r w u is params count defaults args keys
