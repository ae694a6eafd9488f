use Rattle.mpy_merge.proofs.Ended.{one_fault, same_bytes}
use Rattle.tool_laws.proofs.merging.merged_law.Goals as goal

pub returns : goal.returns
returns c = record { one_file = same_bytes; one_fault = one_fault }
