use Rattle.tool_laws.proofs.Crossed.{accepted_done, cross_done, one_compiled, one_cross}
use Rattle.tool_laws.proofs.files.cross_law.Goals as goal

pub returns : goal.returns
returns c = record {
  one_ending = one_cross c.source_laws.ensures;
  one_file = one_compiled c.source_laws.ensures;
  done = cross_done c.source_laws.ensures;
  accepted = accepted_done c.source_laws.ensures;
}
