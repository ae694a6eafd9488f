use Rattle.std.proofs.Common.{refl}
use Rattle.snap_laws.proofs.EffectCalls.{function_made, make_module_as, module_named_as, forgotten, module_stored}
use Rattle.snap_laws.proofs.effects.modules_law.Goals as goal

pub returns-clause-function : goal.returns-clause-function
returns-clause-function c r w u name module_name code names defaults is = function_made r w u is name module_name code names (r.to names) refl defaults

pub returns-clause-made : goal.returns-clause-made
returns-clause-made c r w u name is = make_module_as r w u is name

pub returns-clause-named : goal.returns-clause-named
returns-clause-named c r w u name is = module_named_as r w u is name

pub returns-clause-forgotten : goal.returns-clause-forgotten
returns-clause-forgotten c r w u name is = forgotten r w u is name

pub returns-clause-stored : goal.returns-clause-stored
returns-clause-stored c r w u name m is = module_stored r w u is name m (r.to m) refl
