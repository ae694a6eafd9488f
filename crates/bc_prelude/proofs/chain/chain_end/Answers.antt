use Rattle.std.proofs.Common.{arith, refl}
use Rattle.bc_prelude.proofs.Chains.{chain_at, more_again, more_in_all}
use Rattle.bc_prelude.proofs.chain.chain_end.Goals as goal

pub loop-i-preserved : goal.loop-i-preserved
loop-i-preserved c = more_again c.args.bytes.now c.loop-i.i (omega arith) c.loop-i.invariant (omega arith)

pub returns-then-byte-lt128-clause-found : goal.returns-then-byte-lt128-clause-found
returns-then-byte-lt128-clause-found c =
    (omega arith, chain_at c.args.bytes.now c.loop-i.i (omega arith) c.loop-i.invariant (omega arith))

pub returns-clause-no_end : goal.returns-clause-no_end
returns-clause-no_end c = (λ _. more_in_all c.args.bytes.now c.loop-i.i (omega arith) c.loop-i.invariant, λ _. refl)
