use Rattle.std.proofs.Common.{ℕ, ◌-◌, subst, arith}
use Rattle.std.proofs.lemmas.Result.{err_from_is_err_and}
use Rattle.mpy_base.specs.declared.limits.TheConstants.{MAX_TABLE}
use Rattle.image_grammar.specs.Opening.{count, table}
use Rattle.image_grammar.specs.Steps.{Fails}
use Rattle.image_grammar.proofs.Fine.{count_few}
use Rattle.image_grammar.proofs.Inversion.{read}
use Rattle.image_grammar.proofs.Steps.{exit, onward}
use Rattle.image_grammar.proofs.texts.table.Goals as goal

pub returns-in_err-n : goal.returns-in_err-n
unfolding table
returns-in_err-n c =
    let p = err_from_is_err_and c.from_residual.result c.from_residual.ensures.1 in
    exit _ _ _ _ _ _ p.1 p.2 (subst (λ (k : ℕ). Fails c.in_err-n.field-0.0 (count (MAX_TABLE - k) c.args.bytes.now)) c.len.ensures c.in_err-n.ensures)

pub own_texts-requires : goal.own_texts-requires
own_texts-requires c =
    let few = count_few _ _ _ _ c.in_ok-n.ensures in
    omega (arith, few, c.pool_law.ensures.is_pool.few, c.len.ensures)

pub returns : goal.returns
unfolding table
returns c =
    let counted = subst (λ (k : ℕ). count (MAX_TABLE - k) c.args.bytes.now (read c.in_ok-n.n c.in_ok-n.rest.now)) c.len.ensures c.in_ok-n.ensures in
    onward _ _ _ _ (c.in_ok-n.n, c.in_ok-n.rest.now) counted c.own_texts.ensures
