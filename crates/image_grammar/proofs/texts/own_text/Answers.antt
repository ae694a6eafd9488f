use Rattle.std.proofs.Common.{refl, ap, sym, ◌∙◌}
use Rattle.std.proofs.lemmas.Result.{err_from_is_err_and}
use Rattle.image_grammar.specs.Opening.{own_text}
use Rattle.image_grammar.specs.Steps.{goes_on}
use Rattle.image_grammar.proofs.Steps.{exit, onward, judged, unjudged, not_true}
use Rattle.image_grammar.proofs.texts.own_text.Goals as goal

pub returns-in_err-len : goal.returns-in_err-len
unfolding own_text
returns-in_err-len c =
    let p = err_from_is_err_and c.from_residual.result c.from_residual.ensures.1 in
    exit _ _ _ _ _ _ p.1 p.2 c.in_err-len.ensures

pub returns-in_err-whole : goal.returns-in_err-whole
unfolding own_text
returns-in_err-whole c =
    let p = err_from_is_err_and c.from_residual-in_err-whole.result c.from_residual-in_err-whole.ensures.1 in
    onward _ _ _ _ (c.in_ok-len.len, c.in_ok-len.rest.now) c.in_ok-len.ensures (exit _ _ _ _ _ _ p.1 p.2 c.in_err-whole.ensures)

pub returns-in_err-own : goal.returns-in_err-own
unfolding own_text
returns-in_err-own c =
    let p = err_from_is_err_and c.from_residual-in_err-own.result c.from_residual-in_err-own.ensures.1 in
    onward _ _ _ _ (c.in_ok-len.len, c.in_ok-len.rest.now) c.in_ok-len.ensures
    (onward _ _ _ _ (c.in_ok-whole.whole.now, c.in_ok-whole.rest.now) c.in_ok-whole.ensures (exit _ _ _ _ _ _ p.1 p.2 c.in_err-own.ensures))

pub returns-then-not-is_new : goal.returns-then-not-is_new
unfolding own_text
returns-then-not-is_new c =
    goes_on (c.in_ok-len.len, c.in_ok-len.rest.now) c.in_ok-len.ensures
    (goes_on (c.in_ok-whole.whole.now, c.in_ok-whole.rest.now) c.in_ok-whole.ensures
    (goes_on c.in_ok-own.own.now c.in_ok-own.ensures (unjudged (λ new. not_true _ (c.is_new.ensures.1 new) c.if-not-is_new.true))))

pub returns : goal.returns
unfolding own_text
returns c =
    rw c.in_ok-add_text.ensures
    (goes_on (c.in_ok-len.len, c.in_ok-len.rest.now) c.in_ok-len.ensures
    (goes_on (c.in_ok-whole.whole.now, c.in_ok-whole.rest.now) c.in_ok-whole.ensures
    (goes_on c.in_ok-own.own.now c.in_ok-own.ensures (judged (c.is_new.ensures.0 c.if-not-is_new.false) refl))))
