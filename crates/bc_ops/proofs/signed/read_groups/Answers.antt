use Rattle.std.proofs.Common.{◌+◌, ◌*◌, take, drop, arith}
use Rattle.mpy_base.proofs.Groups.{groups_at, length_taken, rejoins}
use Rattle.bc_ops.proofs.signed.read_groups.Goals as goal

pub returns-then-byte-lt128 : goal.returns-then-byte-lt128
returns-then-byte-lt128 c =
    let bytes = c.args.bytes.now in
    let i = c.loop-i.i in
    let g = groups_at bytes i (128 * c.loop-i.value + c.from.result) (omega arith) (omega arith) c.loop-i.invariant.more (omega arith) (omega arith) in
    (take (i + 1) bytes, drop (i + 1) bytes, g, rejoins bytes (i + 1), length_taken bytes i (omega arith))
