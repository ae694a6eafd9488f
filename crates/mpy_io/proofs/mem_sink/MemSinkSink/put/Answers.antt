use Rattle.std.proofs.Common.{rules}
use Rattle.mpy_io.proofs.Fronts.{half_added}
use Rattle.mpy_io.proofs.mem_sink.MemSinkSink.put.Goals as goal

pub returns-then-listed-clause-err : goal.returns-then-listed-clause-err
returns-then-listed-clause-err c = half_added _ _ _ (search rules)
