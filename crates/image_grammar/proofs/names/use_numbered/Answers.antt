use Rattle.std.proofs.Common.{refl}
use Rattle.std.proofs.lemmas.Result.{err_from_is_err_and}
use Rattle.image_grammar.specs.Opening.{use_at}
use Rattle.image_grammar.specs.Steps.{goes_on}
use Rattle.image_grammar.proofs.Steps.{exit}
use Rattle.image_grammar.proofs.names.use_numbered.Goals as goal

pub returns-in_err-used : goal.returns-in_err-used
unfolding use_at
returns-in_err-used c =
    let p = err_from_is_err_and c.from_residual.result c.from_residual.ensures.1 in
    exit _ _ _ _ _ _ p.1 p.2 c.in_err-used.ensures

pub returns : goal.returns
unfolding use_at
returns c = goes_on (c.in_ok-used.field-0-0.now, c.in_ok-used.used) c.in_ok-used.ensures refl
