use Rattle.pkg_paths.proofs.Slashes.{plain_ascii}
use Rattle.library_files.proofs.loading.add_refused.Goals as goal

pub add_refused-requires-clause-ascii : goal.add_refused-requires-clause-ascii
add_refused-requires-clause-ascii c = plain_ascii c.args.name.now c.requires.name_is
