use Rattle.tool_laws.proofs.CheckedAs.{check_as_done, one_check_as}
use Rattle.tool_laws.proofs.files.check_as_law.Goals as goal

pub returns : goal.returns
returns c = record {
  one_ending = one_check_as c.file_laws.ensures c.source_laws.ensures;
  done = check_as_done c.file_laws.ensures c.source_laws.ensures;
}
