use Rattle.std.proofs.Common.{Some}
use Rattle.mpy_io.specs.Memory.{file_of}
use Rattle.run_commands.specs.Stress.{stress_name}
use Rattle.run_commands.proofs.Made.{refused, unloaded, reads_nothing}
use Rattle.run_commands.proofs.making.ready_in.Goals as goal

pub returns-in-Err-clause-comes : goal.returns-in-Err-clause-comes
returns-in-Err-clause-comes c =
    refused c.in-Err.ending c.ending_in.result c.faults.result c.ending_in.ensures (Some (file_of c.args.folder.now.files)) stress_name c.in-Err.ensures.comes

pub returns-in-Err-clause-unloaded : goal.returns-in-Err-clause-unloaded
returns-in-Err-clause-unloaded c = unloaded c.in-Err.ending c.ending_in.result c.faults.result c.ending_in.ensures c.in-Err.ensures.unloaded

pub returns-in-Err-clause-reads : goal.returns-in-Err-clause-reads
returns-in-Err-clause-reads c =
    reads_nothing c.in-Err.ending c.ending_in.result c.faults.result c.ending_in.ensures c.args.folder.now.faults c.source_ready.new.folder.faults c.requires c.faults.ensures c.in-Err.ensures.counts
