use Rattle.std.proofs.Common.{arith}
use Rattle.std.proofs.lemmas.Int.{ints}
use Rattle.bc_ops.proofs.Integers.{sign_set}
use Rattle.bc_ops.proofs.signed.with_sign.Goals as goal

pub returns-then-first-eq1 : goal.returns-then-first-eq1
returns-then-first-eq1 c =
    sign_set c.args.first c.args.len c.args.value c.place.result _ (omega arith) c.place.ensures.value (omega (arith, ints))
