use Rattle.bc_prelude.proofs.Chains.{joined_twice}
use Rattle.bc_prelude.proofs.chain.joined.Goals as goal

pub returns : goal.returns
returns c =
    joined_twice c.args.digit c.args.base c.args.high c.from-2.result c.from.result c.saturating_mul.result c.saturating_add.result _ c.from-2.ensures c.from.ensures c.saturating_mul.ensures c.saturating_add.ensures
