use Rattle.bc_ops.proofs.Integers.{group_facts}
use Rattle.bc_ops.proofs.signed.read_signed.Goals as goal

pub with_sign-number-requires-clause-small : goal.with_sign-number-requires-clause-small
with_sign-number-requires-clause-small c =
    let h = c.in_ok-value.ensures in
    (group_facts c.args.bytes.now h.0 h.1 c.in_ok-value.value h.2 h.3).small
