use Rattle.std.proofs.Common.{rules}
use Rattle.mpy_io.proofs.Fronts.{is_listed}
use Rattle.mpy_io.proofs.mem_folder.MemFolder.begin.Goals as goal

pub returns-clause-listed : goal.returns-clause-listed
returns-clause-listed c =
    is_listed c.deref.result.now _ c.self.inside.calls _ _ c.contains-listed.ensures.cases (search rules) (search rules)
