use Rattle.std.proofs.Common.{◌+◌, ◌<◌, [], ◌∷◌, ◌++◌, drop, refl, sym, ap, ◌∙◌, arith}
use Rattle.std.proofs.lemmas.List.{drop_more}
use Rattle.mpy_dump.proofs.Pens.{gathers_held}
use Rattle.mpy_dump.proofs.Pieces.{stands_within}
use Rattle.mpy_dump.proofs.instructions.gather_end.Goals as goal

pub bounds-code-at : goal.bounds-code-at
bounds-code-at g c = stands_within c.args.code.now c.args.at.now c.requires.decodes

pub returns : goal.returns
returns g c =
    let code = c.args.code.now in
    let at = c.args.at.now in
    let byte = c.from.result in
    let within = stands_within code at c.requires.decodes in
    let low : byte < 256 = omega (arith, c.from.ensures, c.type_inv.code at) in
    let t = c.requires.tails.singles byte c.index-tails-from.result low (omega (arith, c.if-tail-eq0.false)) in (
      at + 1,
      t.0,
      record {
        text = byte ∷ [];
        behind = drop (at + 1) code;
        spells = t.1;
        is = drop_more code at 0 within ∙ ap (λ b. b ∷ drop (at + 1) code) (sym c.from.ensures);
        ends = refl;
      },
      refl,
      gathers_held _ _ _ (c.add.ensures ∙ ap (λ z. c.args.pen.now.text ++ z) (t.2 (at + 1))),
    )
