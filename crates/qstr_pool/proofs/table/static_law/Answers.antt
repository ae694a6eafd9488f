use Rattle.std.proofs.Common.{refl}
use Rattle.qstr_pool.specs.Static.{static_pool}
use Rattle.qstr_pool.proofs.Pools.{one_to_one}
use Rattle.qstr_pool.proofs.table.static_law.Goals as goal

pub returns-clause-one_to_one : goal.returns-clause-one_to_one
returns-clause-one_to_one c = one_to_one static_pool refl
