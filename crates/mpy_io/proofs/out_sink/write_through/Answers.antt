use Rattle.std.proofs.Common.{rules}
use Rattle.mpy_io.proofs.Written.{cut_in_rest}
use Rattle.mpy_io.proofs.out_sink.write_through.Goals as goal

pub returns-in-Ok-2-clause-err : goal.returns-in-Ok-2-clause-err
returns-in-Ok-2-clause-err g c =
    cut_in_rest _ _ _ c.args.bytes.now _ c.in-Ok-2.count c.write_rest.result c.in-Ok-2.ensures.bytes (search rules) c.write_rest.ensures.err
