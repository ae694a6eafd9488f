use Rattle.tool_laws.proofs.Libraries.{one_run_library, one_source}
use Rattle.tool_laws.proofs.runs.library_law.Goals as goal

pub returns : goal.returns
returns c = record {
  source = one_source c.source_laws.ensures c.load_laws.ensures;
  file = λ opened below main files name is. one_run_library c.file_laws.ensures c.load_laws.ensures c.image_laws.ensures opened below is main files name;
}
