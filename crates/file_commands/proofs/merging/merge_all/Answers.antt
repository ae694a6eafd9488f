use Rattle.mpy_merge.specs.Faults.{FirstFault}
use Rattle.file_commands.proofs.Merged.{never_both}
use Rattle.file_commands.proofs.merging.merge_all.Goals as goal

pub returns-clause-unmerged : goal.returns-clause-unmerged
returns-clause-unmerged c = never_both c.merge.result (FirstFault c.args.modules.now) c.merge.ensures.fault
