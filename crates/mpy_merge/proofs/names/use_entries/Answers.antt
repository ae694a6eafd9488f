use Rattle.std.proofs.Common.{◌+◌, [], ◌∷◌, map, drop}
use Rattle.std.proofs.lemmas.Result.{err_from_is_err_and}
use Rattle.mpy_merge.specs.Moved.{entry_text}
use Rattle.mpy_writer.proofs.Uses.{goes_on, exit_passing}
use Rattle.mpy_merge.proofs.Uses.{next_mapped}
use Rattle.mpy_merge.proofs.names.use_entries.Goals as goal

pub returns-in_err-use_text-clause-fault : goal.returns-in_err-use_text-clause-fault
returns-in_err-use_text-clause-fault c =
    let p = err_from_is_err_and c.from_residual.result c.from_residual.ensures.1 in
    let texts = map entry_text c.args.entries.now in
    let i = c.loop-entry.entry-index in
    exit_passing c.args.pool.now c.loop-entry.pool texts (drop i texts) (c.entry_text.result.now ∷ []) (drop (i + 1) texts) _ _ _ p.1 p.2
    c.in_err-use_text.ensures.fault c.loop-entry.invariant (next_mapped entry_text c.args.entries.now i c.entry-item.result c.entry_text.result.now c.loop-entry-test.true c.entry-item.is c.entry_text.ensures)

pub loop-entry-preserved : goal.loop-entry-preserved
loop-entry-preserved c =
    let texts = map entry_text c.args.entries.now in
    let i = c.loop-entry.entry-index in
    goes_on c.args.pool.now c.loop-entry.pool c.use_text.new.pool texts (drop i texts) (c.entry_text.result.now ∷ []) (drop (i + 1) texts) c.loop-entry.invariant
    (next_mapped entry_text c.args.entries.now i c.entry-item.result c.entry_text.result.now c.loop-entry-test.true c.entry-item.is c.entry_text.ensures) c.in_ok-use_text.ensures.ok
