use Rattle.std.proofs.Common.{ap, arith}
use Rattle.mpy_io.proofs.Written.{read_is_whole}
use Rattle.mpy_io.proofs.disk.read_all.Goals as goal

pub returns-in-Ok-2-clause-content : goal.returns-in-Ok-2-clause-content
returns-in-Ok-2-clause-content g c =
    read_is_whole (g.F.Read.remaining c.args.file) (g.F.Read.remaining c.take.result.inner) c.take.result.limit c.new-bytes.result.items c.read_to_end.new.buf.items c.in-Ok-2.ensures.bytes (ap g.F.Read.remaining c.take.ensures.inner) c.new-bytes.ensures.items (omega arith)
