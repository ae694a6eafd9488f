use Rattle.std.proofs.Common.{refl}
use Rattle.snap_laws.proofs.Acting.{load_global_as, store_global_as, delete_global_as, load_local_as, load_method_as, import_from_as, store_pair_as}
use Rattle.snap_laws.proofs.effects.names_law.Goals as goal

pub returns-clause-load_global : goal.returns-clause-load_global
returns-clause-load_global c r w u names name is = load_global_as r w u is names (r.to names) refl name

pub returns-clause-store_global : goal.returns-clause-store_global
returns-clause-store_global c r w u names name v is = store_global_as r w u is names (r.to names) refl name v

pub returns-clause-delete_global : goal.returns-clause-delete_global
returns-clause-delete_global c r w u names name is = delete_global_as r w u is names (r.to names) refl name

pub returns-clause-load_local : goal.returns-clause-load_local
returns-clause-load_local c r w u locals slot is = load_local_as r w u is locals slot

pub returns-clause-load_method : goal.returns-clause-load_method
returns-clause-load_method c r w u object name is = load_method_as r w u is object name

pub returns-clause-import_from : goal.returns-clause-import_from
returns-clause-import_from c r w u object name is = import_from_as r w u is object name

pub returns-clause-store_pair : goal.returns-clause-store_pair
returns-clause-store_pair c r w u d key v is = store_pair_as r w u is d key v
