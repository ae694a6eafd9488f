use Rattle.pkg_paths.proofs.Slashes.{plain_ascii}
use Rattle.library_files.proofs.loading.add_module.Goals as goal

pub add-requires-clause-ascii : goal.add-requires-clause-ascii
add-requires-clause-ascii c = plain_ascii c.args.name.now c.requires.name_is
