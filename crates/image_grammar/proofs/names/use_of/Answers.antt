use Rattle.std.proofs.Common.{◌≡◌, ℕ, Ok, ap, arith}
use Rattle.std.proofs.lemmas.Result.{err_from_is_err_and}
use Rattle.image_grammar.specs.Opening.{use_of, used_with}
use Rattle.image_grammar.specs.Steps.{goes_on}
use Rattle.image_grammar.proofs.Steps.{exit}
use Rattle.image_grammar.proofs.names.use_of.Goals as goal

pub returns-in_err-text : goal.returns-in_err-text
unfolding use_of
returns-in_err-text c =
    let p = err_from_is_err_and c.from_residual.result c.from_residual.ensures.1 in
    exit _ _ _ _ _ _ p.1 p.2 c.in_err-text.ensures

pub returns : goal.returns
unfolding use_of
returns c =
    let e : c.max.result ≡ used_with c.args.used c.args.n = omega (arith, c.max.ensures, c.saturating_sub.ensures, c.from.ensures, c.from-2.ensures) in
    goes_on c.in_ok-text.text.now c.in_ok-text.ensures (ap (λ (z : ℕ). Ok (c.in_ok-text.text.now, z)) e)
