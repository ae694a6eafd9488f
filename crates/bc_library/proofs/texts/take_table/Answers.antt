use Rattle.std.proofs.Common.{◌≡◌, [], ◌∷◌, Err, take, refl, sym, ap, ◌∙◌}
use Rattle.std.proofs.lemmas.Option.{slice_get_read}
use Rattle.std.proofs.lemmas.Result.{err_from_is_err_and}
use Rattle.std.specs.List.{filter_map}
use Rattle.mpy_base.specs.declared.refused.Refused.TheVariants as refused
use Rattle.mpy_tree.specs.Raw as raw
use Rattle.bc_verify.specs.qstr_pool.Full.{pool_full}
use Rattle.bc_verify.specs.qstr_pool.Pool.{Texts}
use Rattle.bc_library.proofs.Pools.{same_first, entry_there, next_taken, table_overflows, extends_by, extends_trans, on_err}
use Rattle.bc_library.proofs.texts.take_table.Goals as goal

pub unreachable-requires : goal.unreachable-requires
unreachable-requires c =
    let there = slice_get_read c.args.qstrs.now _ c.loop-qstr.qstr-index c.qstr-item.result refl c.loop-qstr-test.true c.qstr-item.is in
    entry_there c.qstr-item.result (c.requires.fine c.loop-qstr.qstr-index c.qstr-item.result there) (sym c.in_default.ensures)

pub take_text-requires : goal.take_text-requires
take_text-requires c =
    ap (λ (pool : Texts). pool.first) c.loop-qstr.invariant.pool_is ∙ (same_first c.args.pool.now (filter_map raw.text_of (take c.loop-qstr.qstr-index c.args.qstrs.now)) ∙ c.requires.own)

pub returns-in_err-take_text-clause-full : goal.returns-in_err-take_text-clause-full
returns-in_err-take_text-clause-full c e =
    let p = err_from_is_err_and c.from_residual.result c.from_residual.ensures.1 in
    let fault : c.in_err-take_text.field-0.0 ≡ refused.Fault pool_full = cc (p.1, p.2) in
    let over = c.in_err-take_text.ensures.full (ap (λ z. Err z) fault) in
    table_overflows c.args.pool.now c.loop-qstr.pool c.args.qstrs.now c.loop-qstr.qstr-index c.qstr-item.result c.in-Some.text.now c.loop-qstr-test.true c.qstr-item.is c.loop-qstr.invariant.pool_is (sym c.in-Some.ensures) over

pub loop-qstr-preserved : goal.loop-qstr-preserved
loop-qstr-preserved c =
    next_taken c.args.pool.now c.loop-qstr.pool c.take_text.new.pool c.args.qstrs.now c.loop-qstr.qstr-index c.qstr-item.result c.in-Some.text.now c.loop-qstr.numbers.items c.push.new.self.items c.in_ok-take_text.field-0
    c.loop-qstr-test.true c.qstr-item.is c.loop-qstr.invariant (sym c.in-Some.ensures) c.in_ok-take_text.ensures.pool c.in_ok-take_text.ensures.number c.in_ok-push.ensures.items

pub returns-in_err-take_text-clause-err : goal.returns-in_err-take_text-clause-err
returns-in_err-take_text-clause-err c =
    on_err c.from_residual.result _
    (extends_by c.args.pool.now c.take_text.new.pool (filter_map raw.text_of (take c.loop-qstr.qstr-index c.args.qstrs.now)) (c.in_err-take_text.ensures.err ∙ c.loop-qstr.invariant.pool_is))

pub returns-in_err-push-clause-err : goal.returns-in_err-push-clause-err
returns-in_err-push-clause-err c =
    on_err c.from_residual-in_err-push.result _
    (extends_trans c.args.pool.now c.loop-qstr.pool c.take_text.new.pool
    (extends_by c.args.pool.now c.loop-qstr.pool (filter_map raw.text_of (take c.loop-qstr.qstr-index c.args.qstrs.now)) c.loop-qstr.invariant.pool_is)
    (extends_by c.loop-qstr.pool c.take_text.new.pool (c.in-Some.text.now ∷ []) c.in_ok-take_text.ensures.pool))
