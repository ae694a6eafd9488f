use Rattle.std.proofs.Common.{ap}
use Rattle.std.proofs.lemmas.Result.{err_from_is_err_and}
use Rattle.image_grammar.specs.mpy_tree.Raw.{Module}
use Rattle.image_grammar.specs.Opening.{held}
use Rattle.image_grammar.specs.Steps.{goes_on}
use Rattle.image_grammar.proofs.Inversion.{read}
use Rattle.image_grammar.proofs.Steps.{exit, onward}
use Rattle.image_open.proofs.entry.held.Goals as goal

pub returns-in_err-raw : goal.returns-in_err-raw
unfolding held
returns-in_err-raw c =
    let p = err_from_is_err_and c.from_residual.result c.from_residual.ensures.1 in
    exit _ _ _ _ _ _ p.1 p.2 c.in_err-raw.ensures

pub returns-in_err-verified : goal.returns-in_err-verified
unfolding held
returns-in_err-verified c =
    let p = err_from_is_err_and c.from_residual-in_err-verified.result c.from_residual-in_err-verified.ensures.1 in
    onward _ _ _ _ ((c.in_ok-raw.raw, c.in_ok-raw.used), c.in_ok-raw.rest.now) c.in_ok-raw.ensures (exit _ _ _ _ _ _ p.1 p.2 c.in_err-verified.ensures.verified)

pub returns : goal.returns
unfolding held
returns c =
    goes_on ((c.in_ok-raw.raw, c.in_ok-raw.used), c.in_ok-raw.rest.now) c.in_ok-raw.ensures
    (goes_on tt c.in_ok-verified.ensures.verified (ap (λ (m : Module). read (m, c.in_ok-raw.used) c.in_ok-raw.rest.now) c.in_ok-verified.ensures.same))
