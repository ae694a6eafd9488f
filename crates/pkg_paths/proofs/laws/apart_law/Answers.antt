use Rattle.pkg_paths.proofs.Apart.{names_apart}
use Rattle.pkg_paths.proofs.laws.apart_law.Goals as goal

pub returns : goal.returns
returns c = names_apart
