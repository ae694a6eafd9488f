use Rattle.meant_files.proofs.Libraries.{migrated}
use Rattle.meant_files.proofs.frozen.frozen_law.Goals as goal

pub returns-clause-frozen : goal.returns-clause-frozen
returns-clause-frozen c version below sources bytes h = record { modules = h.modules; held = h.sources; opens = h.opens }

pub returns-clause-migrated : goal.returns-clause-migrated
returns-clause-migrated c = migrated c.over_law.ensures.one_library
