use Rattle.std.proofs.Common.{rules, arith, length-set, ◌∙◌}
use Rattle.mpy_dump.specs.Short.{two_bytes}
use Rattle.mpy_dump.proofs.Ends.{made_more}
use Rattle.mpy_dump.proofs.tails.pairs_of.Goals as goal

pub loop-place-init : goal.loop-place-init
loop-place-init c = record { whole = search rules; made = λ place other below. absurd (omega (arith, below)) }

pub loop-place-preserved : goal.loop-place-preserved
loop-place-preserved c =
    let i = c.loop-place.invariant in
    record {
      whole = length-set c.loop-place.pairs c.loop-place.place c.pair_tail.result ∙ i.whole;
      made = made_more c.args.module.now two_bytes c.loop-place.pairs c.loop-place.place c.pair_tail.result (omega (arith, i.whole, c.loop-place-test.true)) i.made c.pair_tail.ensures;
    }

pub returns : goal.returns
returns c place other below = c.loop-place.invariant.made place other (omega (arith, below, c.loop-place-test.false))
