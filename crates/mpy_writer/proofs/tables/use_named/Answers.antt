use Rattle.std.proofs.Common.{◌+◌, [], ◌∷◌, drop, sym, ap, ◌∙◌}
use Rattle.std.specs.List.{flat_map}
use Rattle.std.proofs.lemmas.Result.{err_from_is_err_and}
use Rattle.mpy_writer.specs.Codes.{text_in}
use Rattle.mpy_writer.proofs.Lists.{next_of}
use Rattle.mpy_writer.proofs.Uses.{exit_passing}
use Rattle.mpy_writer.proofs.tables.use_named.Goals as goal

pub returns-in_err-use_text-clause-fault : goal.returns-in_err-use_text-clause-fault
returns-in_err-use_text-clause-fault c =
    let p = err_from_is_err_and c.from_residual.result c.from_residual.ensures.1 in
    exit_passing c.args.pool.now c.loop-item.pool (flat_map text_in c.args.items.now) (flat_map text_in (drop c.loop-item.item-index c.args.items.now)) (c.bytes.result.now ∷ [])
    (flat_map text_in (drop (c.loop-item.item-index + 1) c.args.items.now)) _ _ _ p.1 p.2 c.in_err-use_text.ensures.fault c.loop-item.invariant
    (next_of text_in c.args.items.now c.loop-item.item-index c.item-item.result (c.bytes.result.now ∷ []) c.loop-item-test.true c.item-item.is (ap text_in c.in-Named.is ∙ ap (λ z. z ∷ []) (sym c.bytes.ensures)))
