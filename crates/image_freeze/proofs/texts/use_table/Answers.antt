use Rattle.std.proofs.Common.{◌+◌, drop, sym}
use Rattle.std.specs.List.{filter_map}
use Rattle.std.specs.Option.{option_copied, option_to_list}
use Rattle.std.proofs.lemmas.Result.{err_from_is_err_and}
use Rattle.mpy_writer.specs.mpy_tree.Raw as raws
use Rattle.image_freeze.proofs.Uses.{exit_passing, goes_on, next_entry}
use Rattle.image_freeze.proofs.texts.use_table.Goals as goal

pub returns-in_err-use_some-clause-fault : goal.returns-in_err-use_some-clause-fault
returns-in_err-use_some-clause-fault c =
    let p = err_from_is_err_and c.from_residual.result c.from_residual.ensures.1 in
    let qstrs = c.args.qstrs.now in
    let i = c.loop-qstr.qstr-index in
    exit_passing c.args.pool.now c.loop-qstr.pool (filter_map raws.text_of qstrs) (filter_map raws.text_of (drop i qstrs)) (option_to_list (option_copied c.qstr_text.result)) (filter_map raws.text_of (drop (i + 1) qstrs)) _ _ _ p.1 p.2
    c.in_err-use_some.ensures.fault c.loop-qstr.invariant (next_entry qstrs i c.qstr-item.result (option_copied c.qstr_text.result) c.loop-qstr-test.true c.qstr-item.is c.qstr_text.ensures)

pub loop-qstr-preserved : goal.loop-qstr-preserved
loop-qstr-preserved c =
    let qstrs = c.args.qstrs.now in
    let i = c.loop-qstr.qstr-index in
    goes_on c.args.pool.now c.loop-qstr.pool c.use_some.new.pool (filter_map raws.text_of qstrs) (filter_map raws.text_of (drop i qstrs)) (option_to_list (option_copied c.qstr_text.result)) (filter_map raws.text_of (drop (i + 1) qstrs)) c.loop-qstr.invariant
    (next_entry qstrs i c.qstr-item.result (option_copied c.qstr_text.result) c.loop-qstr-test.true c.qstr-item.is c.qstr_text.ensures) c.in_ok-use_some.ensures.ok
