use Rattle.std.proofs.Common.{false, true, arith}
use Rattle.std.proofs.lemmas.Int.{ints}
use Rattle.bc_ops.proofs.Offsets.{read_narrow, read_wide, bias_bound}
use Rattle.bc_ops.proofs.offset.read_offset.Goals as goal

pub returns-in-len1-up : goal.returns-in-len1-up
returns-in-len1-up c =
    read_narrow c.args.bytes.now c.args.signed _ (omega arith) (omega arith) (omega (arith, ints, bias_bound c.args.signed false))

pub returns-in-len2-up : goal.returns-in-len2-up
returns-in-len2-up c =
    read_wide c.args.bytes.now c.args.signed _ (omega arith) (omega arith) (omega (arith, c.type_inv.bytes 0)) (omega (arith, c.type_inv.bytes 1)) (omega (arith, ints, c.type_inv.bytes 1, bias_bound c.args.signed true))
