use Rattle.std.proofs.Common.{◌+◌, ◌<◌, length, refl, arith}
use Rattle.mpy_base.specs.World.{text_at}
use Rattle.prim_types.proofs.PartWrites.{begins, step}
use Rattle.prim_types.proofs.texts.put_part.Goals as goal

pub loop-at-init : goal.loop-at-init
loop-at-init c = begins c.args.arena.now c.args.t.cell c.requires.text c.args.from c.args.part.now

pub text_fill-requires-clause-ascii : goal.text_fill-requires-clause-ascii
text_fill-requires-clause-ascii c =
    let low : c.loop-at.at < length c.args.part.now = omega arith in
    c.requires.ascii c.loop-at.at 0 low

pub loop-at-preserved : goal.loop-at-preserved
loop-at-preserved c =
    let h = c.args.arena.now in
    let low : c.loop-at.at < length c.args.part.now = omega arith in
    let within : c.args.from + c.loop-at.at < length (text_at h c.args.t.cell) = omega (arith, low, c.requires.within) in
    step h c.args.t.cell c.requires.text c.loop-at.arena c.text_fill.new.arena c.args.from c.loop-at.at _ c.args.part.now c.loop-at.invariant within low refl c.text_fill.ensures.filled
