use Rattle.std.proofs.Common.{refl, arith}
use Rattle.mpy_reader.proofs.Listed.{listed_more, listed_all, moves_on, unlisted}
use Rattle.mpy_reader.proofs.own.instructions.Goals as goal

pub returns-in_default : goal.returns-in_default
returns-in_default c = (
  refl,
  unlisted c.args.bytes.now c.loop-at.at c.loop-at-test.true c.loop-at.invariant
      (λ begins. c.in_default.not-Ok _ (c.decode_at.ensures.only begins.text begins.rest begins.instr begins.spells begins.bytes_are)),
)

pub loop-at-preserved : goal.loop-at-preserved
loop-at-preserved c =
    let f = c.in-Ok.ensures.found in
    listed_more c.args.bytes.now f.0 f.1 c.in-Ok.field-0-0 c.loop-at.at c.in-Ok.behind c.loop-at.invariant f.2 f.3 f.4

pub loop-at-smaller : goal.loop-at-smaller
loop-at-smaller c =
    let f = c.in-Ok.ensures.found in
    omega (arith, moves_on f.0 c.in-Ok.field-0-0 c.loop-at.at c.in-Ok.behind f.2 f.4)

pub returns : goal.returns
returns c = listed_all c.args.bytes.now c.loop-at.at c.loop-at-test.false c.loop-at.invariant
