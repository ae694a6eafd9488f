use Rattle.manifest_files.proofs.Names.{folder_utf8}
use Rattle.manifest_files.proofs.inner.folder_of.Goals as goal

pub returns-clause-utf8 : goal.returns-clause-utf8
returns-clause-utf8 c u = folder_utf8 c.args.name.now c.folder_length.result c.folder_length.ensures.within c.folder_length.ensures.slash u
