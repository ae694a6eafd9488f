use Rattle.tool_laws.proofs.Merges.{merge_done, one_merge, one_merged}
use Rattle.tool_laws.proofs.merging.merge_law.Goals as goal

pub returns : goal.returns
returns c = record {
  one_ending = λ files names written a b place another. one_merge c.file_laws.ensures files names c.merged_law.ensures.one_fault written a b place another;
  one_file = λ files names. one_merged c.file_laws.ensures files names c.merged_law.ensures.one_file;
  done = λ files names written modules after place. merge_done c.file_laws.ensures files names written modules after place;
}
