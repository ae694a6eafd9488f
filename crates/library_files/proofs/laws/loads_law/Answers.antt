use Rattle.library_files.specs.Comes.{ComesTo}
use Rattle.library_files.proofs.Once.{comes_once, with_once}
use Rattle.library_files.proofs.laws.loads_law.Goals as goal

pub returns : goal.returns
returns c files base main size some other h k =
    with_once (ComesTo files base) (comes_once c.file_law.ensures.one_module files base) c.imports_law.ensures main size some other h k
