use Rattle.std.proofs.Common.{◌≡◌, ◌<◌, ℕ, List, ◌∷◌, length, Err, sym, ap, subst, ◌∙◌}
use Rattle.std.specs.Option.{option_to_list}
use Rattle.std.specs.List.{filter_map}
use Rattle.std.proofs.lemmas.Result.{err_from_is_err_and}
use Rattle.mpy_base.specs.declared.limits.TheConstants.{MAX_TABLE}
use Rattle.mpy_base.specs.declared.refused.Refused.TheVariants as refused
use Rattle.mpy_tree.specs.declared.raw.Qstr.{Qstr}
use Rattle.mpy_tree.specs.Raw as raw
use Rattle.bc_verify.specs.qstr_pool.Full.{pool_full}
use Rattle.bc_verify.specs.qstr_pool.Pool.{Texts}
use Rattle.bc_library.specs.Fine.{Each, FineQstr}
use Rattle.bc_library.specs.Texts.{AreNumbers, last_part, with_texts}
use Rattle.bc_library.proofs.Files.{fine_qstrs}
use Rattle.bc_library.proofs.Pools.{same_first, both_taken, name_overflows, rest_overflows, extends_by, extends_trans, on_err}
use Rattle.bc_library.proofs.Shelves.{title_kept}
use Rattle.bc_library.proofs.library.numbered.Goals as goal

abbrev named_by : (name : List ℕ) → List (List ℕ)
named_by name = name ∷ option_to_list (last_part name)

pub take_name-requires : goal.take_name-requires
take_name-requires c = c.requires

pub returns-in_err-title-clause-full : goal.returns-in_err-title-clause-full
returns-in_err-title-clause-full c e =
    let p = err_from_is_err_and c.from_residual.result c.from_residual.ensures.1 in
    let fault : c.in_err-title.field-0.0 ≡ refused.Fault pool_full = cc (p.1, p.2) in
    let over = c.in_err-title.ensures.full (ap (λ z. Err z) fault) in
    name_overflows c.args.pool.now (named_by c.args.name.now) (filter_map raw.text_of c.args.raw.now.qstrs) over

pub returns-in_err-title-clause-err : goal.returns-in_err-title-clause-err
returns-in_err-title-clause-err c = on_err c.from_residual.result _ c.in_err-title.ensures.err

pub take_table-requires-clause-own : goal.take_table-requires-clause-own
take_table-requires-clause-own c =
    ap (λ (p : Texts). p.first) c.in_ok-title.ensures.pool ∙ (same_first c.args.pool.now (named_by c.args.name.now) ∙ c.requires)

pub take_table-requires-clause-fine : goal.take_table-requires-clause-fine
take_table-requires-clause-fine c = subst (Each FineQstr) (sym c.qstrs.ensures) (fine_qstrs c.args.raw.now c.module_law.ensures)

pub returns-in_err-numbers-clause-full : goal.returns-in_err-numbers-clause-full
returns-in_err-numbers-clause-full c e =
    let p = err_from_is_err_and c.from_residual-in_err-numbers.result c.from_residual-in_err-numbers.ensures.1 in
    let fault : c.in_err-numbers.field-0.0 ≡ refused.Fault pool_full = cc (p.1, p.2) in
    let over = c.in_err-numbers.ensures.full (ap (λ z. Err z) fault) in
    let at = subst (λ (qs : List Qstr). MAX_TABLE < length (with_texts c.take_name.new.pool (filter_map raw.text_of qs)).texts) c.qstrs.ensures over in
    rest_overflows c.args.pool.now c.take_name.new.pool (named_by c.args.name.now) (filter_map raw.text_of c.args.raw.now.qstrs) c.in_ok-title.ensures.pool at

pub returns-in_err-numbers-clause-err : goal.returns-in_err-numbers-clause-err
returns-in_err-numbers-clause-err c =
    on_err c.from_residual-in_err-numbers.result _
    (extends_trans c.args.pool.now c.take_name.new.pool c.take_table.new.pool (extends_by c.args.pool.now c.take_name.new.pool (named_by c.args.name.now) c.in_ok-title.ensures.pool) c.in_err-numbers.ensures.err)

pub returns-clause-pool : goal.returns-clause-pool
returns-clause-pool c =
    let table = c.in_ok-numbers.ensures.pool ∙ ap (λ (qs : List Qstr). with_texts c.take_name.new.pool (filter_map raw.text_of qs)) c.qstrs.ensures in
    both_taken c.args.pool.now c.take_name.new.pool c.take_table.new.pool (named_by c.args.name.now) (filter_map raw.text_of c.args.raw.now.qstrs) c.in_ok-title.ensures.pool table

pub returns-clause-numbers : goal.returns-clause-numbers
returns-clause-numbers c =
    subst (λ (qs : List Qstr). AreNumbers c.take_table.new.pool c.in_ok-numbers.numbers.items qs) c.qstrs.ensures c.in_ok-numbers.ensures.numbers

pub returns-clause-title : goal.returns-clause-title
returns-clause-title c =
    title_kept c.take_name.new.pool (filter_map raw.text_of c.qstrs.result.now) c.take_table.new.pool c.args.name.now c.in_ok-title.title c.in_ok-numbers.ensures.pool c.in_ok-title.ensures.title

pub returns-clause-fits : goal.returns-clause-fits
returns-clause-fits c = c.pool_law.ensures.is_pool.few

pub returns-clause-full : goal.returns-clause-full
returns-clause-full c e = absurd cc
