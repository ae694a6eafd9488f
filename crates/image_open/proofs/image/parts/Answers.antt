use Rattle.std.proofs.Common.{◌≡◌, ℕ, length, ap, refl, sym, subst, ◌∙◌, arith}
use Rattle.std.proofs.lemmas.Bool.Decides.{nat_tests}
use Rattle.std.proofs.lemmas.List.{nil_from_length}
use Rattle.std.proofs.lemmas.Result.{err_from_is_err_and}
use Rattle.qstr_pool.specs.Pool.{Texts}
use Rattle.image_grammar.specs.Opening.{parts, table}
use Rattle.image_grammar.specs.Steps.{Fails, goes_on}
use Rattle.image_grammar.proofs.Fine.{table_fine}
use Rattle.image_grammar.proofs.Inversion.{read}
use Rattle.image_grammar.proofs.Steps.{exit, onward, judged, unjudged}
use Rattle.image_open.proofs.image.parts.Goals as goal

pub returns-in_err-pool : goal.returns-in_err-pool
unfolding parts
returns-in_err-pool c =
    let p = err_from_is_err_and c.from_residual.result c.from_residual.ensures.1 in
    exit _ _ _ _ _ _ p.1 p.2 (subst (λ (z : Texts). Fails c.in_err-pool.field-0.0 (table z c.args.bytes.now)) c.requires.pool c.in_err-pool.ensures)

pub modules-requires-clause-used : goal.modules-requires-clause-used
modules-requires-clause-used c = c.len-used.ensures ∙ ap (λ (z : Texts). length z.texts) c.requires.pool

pub modules-requires-clause-fine : goal.modules-requires-clause-fine
modules-requires-clause-fine c = table_fine _ _ _ _ c.requires.fine c.requires.short c.in_ok-pool.ensures

pub returns-in_err-opened : goal.returns-in_err-opened
unfolding parts
returns-in_err-opened c =
    let p = err_from_is_err_and c.from_residual-in_err-opened.result c.from_residual-in_err-opened.ensures.1 in
    let is = subst (λ (z : Texts). table z c.args.bytes.now (read c.in_ok-pool.pool c.in_ok-pool.rest.now)) c.requires.pool c.in_ok-pool.ensures in
    onward _ _ _ _ (c.in_ok-pool.pool, c.in_ok-pool.rest.now) is (exit _ _ _ _ _ _ p.1 p.2 c.in_err-opened.ensures)

pub returns-then-opened-len : goal.returns-then-opened-len
unfolding parts
returns-then-opened-len c =
    let is = subst (λ (z : Texts). table z c.args.bytes.now (read c.in_ok-pool.pool c.in_ok-pool.rest.now)) c.requires.pool c.in_ok-pool.ensures in
    goes_on (c.in_ok-pool.pool, c.in_ok-pool.rest.now) is
    (goes_on (c.in_ok-opened.opened, c.in_ok-opened.rest.now) c.in_ok-opened.ensures (unjudged (λ e. c.if-opened-len.true (e ∙ sym c.len.ensures))))

pub returns-then-not-is_empty : goal.returns-then-not-is_empty
unfolding parts
returns-then-not-is_empty c =
    let is = subst (λ (z : Texts). table z c.args.bytes.now (read c.in_ok-pool.pool c.in_ok-pool.rest.now)) c.requires.pool c.in_ok-pool.ensures in
    goes_on (c.in_ok-pool.pool, c.in_ok-pool.rest.now) is
    (goes_on (c.in_ok-opened.opened, c.in_ok-opened.rest.now) c.in_ok-opened.ensures
    (judged (c.if-opened-len.false ∙ c.len.ensures) (unjudged (λ e. let none = ap length e in grind (arith, nat_tests)))))

pub returns : goal.returns
unfolding parts
returns c =
    let none : length c.in_ok-opened.rest.now ≡ 0 = grind (arith, nat_tests) in
    let is = subst (λ (z : Texts). table z c.args.bytes.now (read c.in_ok-pool.pool c.in_ok-pool.rest.now)) c.requires.pool c.in_ok-pool.ensures in
    goes_on (c.in_ok-pool.pool, c.in_ok-pool.rest.now) is
    (goes_on (c.in_ok-opened.opened, c.in_ok-opened.rest.now) c.in_ok-opened.ensures
    (judged (c.if-opened-len.false ∙ c.len.ensures) (judged (nil_from_length _ none) refl)))
