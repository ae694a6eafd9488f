use Rattle.bc_library.proofs.Shelves.{seen_distinct, seen_files, seen_verified}
use Rattle.bc_library.proofs.laws.modules_law.Goals as goal

pub returns-clause-distinct : goal.returns-clause-distinct
returns-clause-distinct c = seen_distinct c.lib.inside.modules.items c.lib.inside.refused c.lib.inside.pool c.args.lib.now c.lib.view_is c.lib.invariant

pub returns-clause-files : goal.returns-clause-files
returns-clause-files c = seen_files c.lib.inside.modules.items c.lib.inside.refused c.lib.inside.pool c.args.lib.now c.lib.view_is c.lib.invariant

pub returns-clause-verified : goal.returns-clause-verified
returns-clause-verified c = seen_verified c.lib.inside.modules.items c.lib.inside.refused c.lib.inside.pool c.args.lib.now c.lib.view_is c.lib.invariant
