use Rattle.std.proofs.Common.{◌+◌, [], ◌∷◌, drop}
use Rattle.std.proofs.lemmas.Result.{err_from_is_err_and}
use Rattle.mpy_writer.proofs.Lists.{next}
use Rattle.mpy_writer.proofs.Uses.{exit_passing}
use Rattle.mpy_writer.proofs.tables.use_texts.Goals as goal

pub returns-in_err-use_text-clause-fault : goal.returns-in_err-use_text-clause-fault
returns-in_err-use_text-clause-fault c =
    let p = err_from_is_err_and c.from_residual.result c.from_residual.ensures.1 in
    exit_passing c.args.pool.now c.loop-text.pool c.args.texts.now (drop c.loop-text.text-index c.args.texts.now) (c.bytes.result.now ∷ []) (drop (c.loop-text.text-index + 1) c.args.texts.now) _ _ _ p.1 p.2
    c.in_err-use_text.ensures.fault c.loop-text.invariant (next c.args.texts.now c.loop-text.text-index c.text-item.result c.bytes.result.now c.loop-text-test.true c.text-item.is c.bytes.ensures)
