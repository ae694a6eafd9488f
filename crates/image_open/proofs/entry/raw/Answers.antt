use Rattle.std.proofs.Common.{ℕ, Ok, ap, subst, arith}
use Rattle.std.proofs.lemmas.Result.{err_from_is_err_and}
use Rattle.image_grammar.specs.mpy_tree.Raw.{Module}
use Rattle.image_grammar.specs.Opening.{body, raw}
use Rattle.image_grammar.specs.Steps.{Fails, goes_on}
use Rattle.image_grammar.proofs.Fine.{qstr_table_fine, raw_module}
use Rattle.image_grammar.proofs.Inversion.{read}
use Rattle.image_grammar.proofs.Steps.{exit, onward}
use Rattle.image_open.proofs.entry.raw.Goals as goal

pub overflow_cast-texts : goal.overflow_cast-texts
overflow_cast-texts c =
    let t = qstr_table_fine c.args.pool.now _ _ _ _ c.requires.first c.requires.fine c.in_ok-table.ensures in
    let few = t.few in
    omega (arith, few, c.len-texts.ensures)

pub returns-in_err-table : goal.returns-in_err-table
unfolding raw
returns-in_err-table c =
    let p = err_from_is_err_and c.from_residual.result c.from_residual.ensures.1 in
    exit _ _ _ _ _ _ p.1 p.2 c.in_err-table.ensures

pub returns-in_err-found : goal.returns-in_err-found
unfolding raw
returns-in_err-found c =
    let p = err_from_is_err_and c.from_residual-in_err-found.result c.from_residual-in_err-found.ensures.1 in
    let fails = subst (λ (n : ℕ). Fails c.in_err-found.field-0.0 (body c.args.index n c.in_ok-table.rest.now)) c.len-texts.ensures c.in_err-found.ensures in
    onward _ _ _ _ (c.in_ok-table.table, c.in_ok-table.rest.now) c.in_ok-table.ensures (exit _ _ _ _ _ _ p.1 p.2 fails)

pub new-requires : goal.new-requires
new-requires c = raw_module c.args.pool.now c.args.used c.args.index _ _ _ _ _ _ _ c.requires c.in_ok-table.ensures c.len-texts.ensures c.in_ok-found.ensures

pub returns : goal.returns
unfolding raw
returns c =
    let is = subst (λ (n : ℕ). body c.args.index n c.in_ok-table.rest.now (Ok ((c.in_ok-found.found.objects, c.in_ok-found.found.code), c.in_ok-found.rest.now))) c.len-texts.ensures c.in_ok-found.ensures in
    goes_on (c.in_ok-table.table, c.in_ok-table.rest.now) c.in_ok-table.ensures
    (goes_on ((c.in_ok-found.found.objects, c.in_ok-found.found.code), c.in_ok-found.rest.now) is (ap (λ (m : Module). read (m, c.in_ok-table.table.used) c.in_ok-found.rest.now) c.new.ensures))
