use Rattle.tool_laws.proofs.Singles.{check_done, one_check, one_checked_text}
use Rattle.tool_laws.proofs.files.check_law.Goals as goal

pub returns : goal.returns
returns c = record {
  one_ending = one_check c.file_laws.ensures;
  one_text = one_checked_text c.file_laws.ensures;
  done = check_done c.file_laws.ensures;
}
