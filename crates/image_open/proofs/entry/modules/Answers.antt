use Rattle.std.proofs.Common.{◌-◌, ℕ, subst, arith}
use Rattle.std.proofs.lemmas.Result.{err_from_is_err_and}
use Rattle.mpy_base.specs.declared.limits.TheConstants.{MAX_MODULES}
use Rattle.image_grammar.specs.Opening.{count, modules}
use Rattle.image_grammar.specs.Steps.{Fails}
use Rattle.image_grammar.proofs.Fine.{count_few}
use Rattle.image_grammar.proofs.Inversion.{read}
use Rattle.image_grammar.proofs.Steps.{exit, onward}
use Rattle.image_open.proofs.Below.{names_count}
use Rattle.image_open.proofs.entry.modules.Goals as goal

pub returns-in_err-n : goal.returns-in_err-n
unfolding modules
returns-in_err-n c =
    let p = err_from_is_err_and c.from_residual.result c.from_residual.ensures.1 in
    let names = names_count c.args.below.now _ c.count_modules.ensures in
    exit _ _ _ _ _ _ p.1 p.2 (subst (λ (k : ℕ). Fails c.in_err-n.field-0.0 (count (MAX_MODULES - k) c.args.bytes.now)) names c.in_err-n.ensures)

pub entries-requires-clause-few : goal.entries-requires-clause-few
entries-requires-clause-few c = let few = count_few _ _ _ _ c.in_ok-n.ensures in omega (arith, few)

pub returns : goal.returns
unfolding modules
returns c =
    let names = names_count c.args.below.now _ c.count_modules.ensures in
    onward _ _ _ _ (c.in_ok-n.n, c.in_ok-n.rest.now) (subst (λ (k : ℕ). count (MAX_MODULES - k) c.args.bytes.now (read c.in_ok-n.n c.in_ok-n.rest.now)) names c.in_ok-n.ensures) c.entries.ensures
