use Rattle.std.proofs.Common.{◌≡◌, ◌+◌, ◌-◌, ◌*◌, ◌∷◌, ℕ, true, refl, ap, sym, ◌∙◌}
use Rattle.std.specs.Char.{is_ascii_digit}
use Rattle.mpy_words.specs.Number.{value_of}
use Rattle.mpy_words.proofs.Numbers.{bounded_value}
use Rattle.mpy_words.proofs.number.number.Goals as goal

pub more-preserved : goal.more-preserved
unfolding value_of
more-preserved c =
    let most = c.args.most in
    let byte = c.in-Some.byte.now in
    let behind = c.in-Some.behind.now in
    let is : is_ascii_digit byte ≡ true = sym c.is_ascii_digit.ensures.value ∙ c.if-not-is_ascii_digit.false in
    let one : value_of most c.more.sum (byte ∷ behind) ≡ value_of most (10 * c.more.sum + (byte - 48)) behind = rw is refl in
    let digit : (byte - 48) ≡ c.from.result = sym c.from.ensures in
    let cut = bounded_value most (10 * c.more.sum + c.from.result) c.bounded-sum.result behind c.bounded-sum.ensures.within c.bounded-sum.ensures.past in
    (c.more.invariant.0 ∙ (ap (value_of most c.more.sum) c.in-Some.ensures.cases.0 ∙ (one ∙ (ap (λ (d : ℕ). value_of most (10 * c.more.sum + d) behind) digit ∙ cut))), c.bounded-sum.ensures.small)
