use Rattle.std.proofs.Common.{refl, arith}
use Rattle.std.proofs.lemmas.Result.{err_from_is_err_and}
use Rattle.image_grammar.specs.Opening.{count}
use Rattle.image_grammar.specs.Steps.{goes_on}
use Rattle.image_grammar.proofs.Steps.{exit, judged, unjudged}
use Rattle.image_grammar.proofs.field.count.Goals as goal

pub returns-in_err-n : goal.returns-in_err-n
unfolding count
returns-in_err-n c =
    let p = err_from_is_err_and c.from_residual.result c.from_residual.ensures.1 in
    exit _ _ _ _ _ _ p.1 p.2 c.in_err-n.ensures

pub returns-then-n-most : goal.returns-then-n-most
unfolding count
returns-then-n-most c = goes_on (c.in_ok-n.n, c.in_ok-n.rest.now) c.in_ok-n.ensures (unjudged (λ le. omega arith))

pub returns : goal.returns
unfolding count
returns c = goes_on (c.in_ok-n.n, c.in_ok-n.rest.now) c.in_ok-n.ensures (judged (omega arith) refl)
