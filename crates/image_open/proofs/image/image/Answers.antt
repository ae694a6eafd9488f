use Rattle.std.proofs.Common.{length, ap, ◌∙◌, arith}
use Rattle.std.proofs.lemmas.Result.{err_from_is_err_and}
use Rattle.qstr_pool.specs.Pool.{Texts}
use Rattle.image_grammar.specs.Opening.{image}
use Rattle.image_grammar.proofs.Fine.{header_left, base_left}
use Rattle.image_grammar.proofs.Steps.{exit, onward, onward_judged, unjudged}
use Rattle.image_open.proofs.image.image.Goals as goal

pub returns-in_err-version : goal.returns-in_err-version
unfolding image
returns-in_err-version c =
    let p = err_from_is_err_and c.from_residual.result c.from_residual.ensures.1 in
    onward_judged _ _ _ _ _ (omega arith) (exit _ _ _ _ _ _ p.1 p.2 c.in_err-version.ensures)

pub returns-in_err-rest : goal.returns-in_err-rest
unfolding image
returns-in_err-rest c =
    let p = err_from_is_err_and c.from_residual-in_err-rest.result c.from_residual-in_err-rest.ensures.1 in
    onward_judged _ _ _ _ _ (omega arith) (onward _ _ _ _ (c.in_ok-version.version, c.in_ok-version.rest.now) c.in_ok-version.ensures (exit _ _ _ _ _ _ p.1 p.2 c.in_err-rest.ensures))

pub returns-then-bytes-gt-MAX_IMAGE_BYTES : goal.returns-then-bytes-gt-MAX_IMAGE_BYTES
unfolding image
returns-then-bytes-gt-MAX_IMAGE_BYTES c = unjudged (λ short. omega arith)

pub base-requires : goal.base-requires
base-requires c = c.len.ensures ∙ ap (λ (z : Texts). length z.texts) c.requires.pool

pub parts-requires-clause-short : goal.parts-requires-clause-short
parts-requires-clause-short c =
    let first = header_left _ _ _ c.in_ok-version.ensures in
    let second = base_left _ _ _ _ c.in_ok-rest.ensures in
    omega (arith, first, second)

pub returns : goal.returns
unfolding image
returns c =
    onward_judged _ _ _ _ _ (omega arith) (onward _ _ _ _ (c.in_ok-version.version, c.in_ok-version.rest.now) c.in_ok-version.ensures
    (onward _ _ _ _ c.in_ok-rest.rest.now c.in_ok-rest.ensures c.parts.ensures))
