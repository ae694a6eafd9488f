use Rattle.meant_files.proofs.Trees.{of_source}
use Rattle.meant_files.proofs.laws.imports_law.Goals as goal

pub returns : goal.returns
returns c source m t = of_source source m t
