use Rattle.source_files.specs.Sources.{stored}
use Rattle.source_files.proofs.Given.{long_fault}
use Rattle.source_files.proofs.loading.SourcesReader.read_long.Goals as goal

pub returns : goal.returns
returns c bytes long = long_fault c.args.self.now.level bytes (stored c.args._path.now) c.too_long.result long c.too_long.ensures
