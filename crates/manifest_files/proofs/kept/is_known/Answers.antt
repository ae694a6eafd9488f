use Rattle.manifest_files.proofs.Quiet.{known_less}
use Rattle.manifest_files.proofs.kept.is_known.Goals as goal

pub returns-in-Some : goal.returns-in-Some
returns-in-Some c = λ files h is. known_less files c.args.name.now c.args.left c.in-Some.known.now c.args.quiet.now.entries c.in-Some.ensures.value h is
