use Rattle.std.proofs.Common.{refl, ◌∙◌}
use Rattle.std.proofs.lemmas.Result.{err_from_is_err_and}
use Rattle.image_grammar.specs.Opening.{qstr}
use Rattle.image_grammar.specs.Steps.{goes_on}
use Rattle.image_grammar.proofs.Steps.{exit, onward, no_memory}
use Rattle.image_grammar.proofs.names.qstr.Goals as goal

pub returns-in_err-n : goal.returns-in_err-n
unfolding qstr
returns-in_err-n c =
    let p = err_from_is_err_and c.from_residual.result c.from_residual.ensures.1 in
    exit _ _ _ _ _ _ p.1 p.2 c.in_err-n.ensures

pub returns-in_err-text : goal.returns-in_err-text
unfolding qstr
returns-in_err-text c =
    let p = err_from_is_err_and c.from_residual-in_err-text.result c.from_residual-in_err-text.ensures.1 in
    onward _ _ _ _ (c.in_ok-n.n, c.in_ok-n.rest.now) c.in_ok-n.ensures (exit _ _ _ _ _ _ p.1 p.2 c.in_err-text.ensures)

pub returns-in_err-entry : goal.returns-in_err-entry
returns-in_err-entry c =
    let p = err_from_is_err_and c.from_residual-in_err-entry.result c.from_residual-in_err-entry.ensures.1 in
    no_memory _ _ _ _ p.1 (p.2 ∙ c.in_err-entry.ensures.err)

pub returns : goal.returns
unfolding qstr
returns c =
    rw c.in_ok-push.ensures.ok rw c.in_ok-entry.ensures.ok
    (goes_on (c.in_ok-n.n, c.in_ok-n.rest.now) c.in_ok-n.ensures (goes_on (c.in_ok-text.text.now, c.in_ok-text.used) c.in_ok-text.ensures refl))
