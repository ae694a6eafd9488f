use Rattle.tool_laws.proofs.Singles.{dump_done, one_dump, one_dumped_text}
use Rattle.tool_laws.proofs.files.dump_law.Goals as goal

pub returns : goal.returns
returns c = record {
  one_ending = one_dump c.file_laws.ensures;
  one_text = one_dumped_text c.file_laws.ensures c.listing_law.ensures.one;
  done = dump_done c.file_laws.ensures;
}
