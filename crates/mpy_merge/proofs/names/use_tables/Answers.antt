use Rattle.std.proofs.Common.{◌+◌, drop, map, sym, ap, ◌∙◌}
use Rattle.mpy_writer.specs.mpy_tree.Raw.{Module}
use Rattle.std.specs.List.{flat_map}
use Rattle.std.proofs.lemmas.Result.{err_from_is_err_and}
use Rattle.mpy_merge.specs.Moved.{entry_text}
use Rattle.mpy_writer.proofs.Lists.{next_of}
use Rattle.mpy_writer.proofs.Uses.{goes_on, exit_passing}
use Rattle.mpy_merge.specs.Merged.{texts_of}
use Rattle.mpy_merge.proofs.names.use_tables.Goals as goal

pub returns-in_err-use_entries-clause-fault : goal.returns-in_err-use_entries-clause-fault
returns-in_err-use_entries-clause-fault c =
    let p = err_from_is_err_and c.from_residual.result c.from_residual.ensures.1 in
    let modules = c.args.modules.now in
    let i = c.loop-module.module-index in
    exit_passing c.args.pool.now c.loop-module.pool (flat_map texts_of modules) (flat_map texts_of (drop i modules)) (map entry_text c.qstrs.result.now) (flat_map texts_of (drop (i + 1) modules)) _ _ _ p.1 p.2
    c.in_err-use_entries.ensures.fault c.loop-module.invariant
    (next_of texts_of modules i c.module-item.result (map entry_text c.qstrs.result.now) c.loop-module-test.true c.module-item.is (ap (map entry_text) (sym (c.qstrs.ensures ∙ ap (λ (m : Module). m.qstrs) c.module.ensures))))

pub loop-module-preserved : goal.loop-module-preserved
loop-module-preserved c =
    let modules = c.args.modules.now in
    let i = c.loop-module.module-index in
    goes_on c.args.pool.now c.loop-module.pool c.use_entries.new.pool (flat_map texts_of modules) (flat_map texts_of (drop i modules)) (map entry_text c.qstrs.result.now) (flat_map texts_of (drop (i + 1) modules)) c.loop-module.invariant
    (next_of texts_of modules i c.module-item.result (map entry_text c.qstrs.result.now) c.loop-module-test.true c.module-item.is (ap (map entry_text) (sym (c.qstrs.ensures ∙ ap (λ (m : Module). m.qstrs) c.module.ensures)))) c.in_ok-use_entries.ensures.ok
