use Rattle.std.proofs.Common.{◌+◌, ◌++◌, refl, sym, ap, ◌∙◌, arith}
use Rattle.mpy_dump.specs.Short.{two_bytes}
use Rattle.mpy_dump.proofs.Pens.{gathers_held}
use Rattle.mpy_dump.proofs.instructions.gather_pair.Goals as goal

pub returns : goal.returns
returns g c =
    let at = c.args.at.now in
    let place = c.in-Some.place in
    let p = c.in-Some.ensures in
    let t = c.requires.tails.pairs place c.index-tails-place.result p.0 (omega (arith, c.if-tail-eq0.false)) in (
      at + 2,
      t.0,
      record {
        text = two_bytes place;
        behind = p.1;
        spells = t.1;
        is = sym c.split_at.ensures.back ∙ p.2;
        ends = refl;
      },
      refl,
      gathers_held _ _ _ (c.add.ensures ∙ ap (λ z. c.args.pen.now.text ++ z) (t.2 (at + 2))),
    )
