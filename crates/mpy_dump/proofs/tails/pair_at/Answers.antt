use Rattle.std.proofs.Common.{◌+◌, ◌-◌, ◌*◌, ◌∷◌, ◌++◌, get_or, drop, refl, sym, ap, ◌∙◌, arith}
use Rattle.mpy_dump.proofs.Ends.{pair_is, first_two}
use Rattle.mpy_dump.proofs.tails.pair_at.Goals as goal

pub returns : goal.returns
returns c =
    let bytes = c.args.bytes.now in
    let first = c.from-first.result in
    let number = c.from-number.result in
    let behind = drop 2 bytes in
    let is = pair_is first number (128 * (first - 16) + number) (omega (arith, c.if-first-lt-FIRST.false)) (omega (arith, c.if-number-ge-NUMBERS.false)) refl in (
      omega (arith, c.if-first-lt-FIRST.false, c.if-first.false, c.if-number-ge-NUMBERS.false),
      behind,
      first_two bytes c.in-len2-up.len_at_least
          ∙ (ap (λ b. b ∷ get_or bytes 1 0 ∷ behind) (sym c.from-first.ensures)
          ∙ (ap (λ b. first ∷ b ∷ behind) (sym c.from-number.ensures) ∙ ap (λ z. z ++ behind) (sym is))),
    )
