use Rattle.std.proofs.Common.{refl}
use Rattle.std.proofs.lemmas.Result.{err_from_is_err_and}
use Rattle.image_grammar.specs.Opening.{counts_below}
use Rattle.image_grammar.specs.Steps.{goes_on}
use Rattle.image_grammar.proofs.Steps.{exit, onward, judged, unjudged, not_true}
use Rattle.image_open.proofs.image.counts_below.Goals as goal

pub returns-in_err-texts : goal.returns-in_err-texts
unfolding counts_below
returns-in_err-texts c =
    let p = err_from_is_err_and c.from_residual.result c.from_residual.ensures.1 in
    exit _ _ _ _ _ _ p.1 p.2 c.in_err-texts.ensures

pub returns-in_err-names : goal.returns-in_err-names
unfolding counts_below
returns-in_err-names c =
    let p = err_from_is_err_and c.from_residual-in_err-names.result c.from_residual-in_err-names.ensures.1 in
    onward _ _ _ _ (c.in_ok-texts.texts, c.in_ok-texts.rest.now) c.in_ok-texts.ensures (exit _ _ _ _ _ _ p.1 p.2 c.in_err-names.ensures)

pub returns-then-not-are_counts : goal.returns-then-not-are_counts
unfolding counts_below
returns-then-not-are_counts c =
    goes_on (c.in_ok-texts.texts, c.in_ok-texts.rest.now) c.in_ok-texts.ensures
    (goes_on (c.in_ok-names.names, c.in_ok-names.rest.now) c.in_ok-names.ensures (unjudged (λ h. not_true _ (c.are_counts.ensures.1 h) c.if-not-are_counts.true)))

pub returns : goal.returns
unfolding counts_below
returns c =
    goes_on (c.in_ok-texts.texts, c.in_ok-texts.rest.now) c.in_ok-texts.ensures
    (goes_on (c.in_ok-names.names, c.in_ok-names.rest.now) c.in_ok-names.ensures (judged (c.are_counts.ensures.0 c.if-not-are_counts.false) refl))
