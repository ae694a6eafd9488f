use Rattle.std.proofs.Common.{rules, arith, length-set, ◌∙◌}
use Rattle.mpy_dump.proofs.Ends.{one_byte, made_more}
use Rattle.mpy_dump.proofs.tails.singles_of.Goals as goal

pub loop-byte-init : goal.loop-byte-init
loop-byte-init c = record { whole = search rules; made = λ byte other below. absurd (omega (arith, below)) }

pub loop-byte-preserved : goal.loop-byte-preserved
loop-byte-preserved c =
    let i = c.loop-byte.invariant in
    record {
      whole = length-set c.loop-byte.singles c.loop-byte.byte c.tail_of.result ∙ i.whole;
      made = made_more c.args.module.now one_byte c.loop-byte.singles c.loop-byte.byte c.tail_of.result (omega (arith, i.whole, c.loop-byte-test.true)) i.made c.tail_of.ensures;
    }

pub returns : goal.returns
returns c byte other below = c.loop-byte.invariant.made byte other (omega (arith, below, c.loop-byte-test.false))
