use Rattle.std.proofs.Common.{arith}
use Rattle.std.proofs.lemmas.Int.{ints}
use Rattle.bc_ops.proofs.Reading.{unwind_found}
use Rattle.bc_ops.proofs.decoding.unwind.Goals as goal

pub returns : goal.returns
returns c =
    let h = c.in_ok-offset.ensures in
    unwind_found c.args.bytes.now h.0 h.1 c.in_ok-offset.len c.in_ok-offset.wide _ c.in_ok-offset.offset h.2 h.3 h.4 c.if-len-bytes.false (omega (arith, ints))
