use Rattle.std.proofs.Common.{◌+◌, [], ◌∷◌, map, drop, sym, ap, ◌∙◌}
use Rattle.std.specs.List.{flat_map}
use Rattle.std.proofs.lemmas.Result.{err_from_is_err_and}
use Rattle.mpy_writer.specs.Codes.{object_in, objects_in}
use Rattle.mpy_writer.specs.Outcome.{all_interned}
use Rattle.mpy_writer.specs.Tables.{spelled}
use Rattle.mpy_writer.proofs.Lists.{next_of, mapped}
use Rattle.mpy_writer.proofs.Uses.{exit_passing}
use Rattle.mpy_writer.proofs.tables.use_objects_in.Goals as goal

pub returns-in_err-use_text-clause-fault : goal.returns-in_err-use_text-clause-fault
returns-in_err-use_text-clause-fault c =
    let p = err_from_is_err_and c.from_residual-in_err-use_text.result c.from_residual-in_err-use_text.ensures.1 in
    let items = c.as_slice-item-items.result.now in
    let i = c.loop-item.item-index in
    exit_passing c.args.pool.now c.loop-item.pool (map spelled (objects_in c.args.code.now)) (map spelled (flat_map object_in (drop i items))) (c.deref.result.now ∷ []) (map spelled (flat_map object_in (drop (i + 1) items)))
    _ _ _ p.1 p.2 c.in_err-use_text.ensures.fault (c.loop-item.invariant ∙ ap (λ xs. all_interned c.args.pool.now (map spelled (flat_map object_in xs))) c.as_slice-item-items.ensures)
    (mapped spelled (flat_map object_in (drop i items)) (c.in-Object.object ∷ []) (flat_map object_in (drop (i + 1) items))
    (next_of object_in items i c.item-item.result (c.in-Object.object ∷ []) c.loop-item-test.true c.item-item.is (ap object_in c.in-Object.is))
    ∙ ap (λ z. z ∷ map spelled (flat_map object_in (drop (i + 1) items))) (sym (c.deref.ensures.value ∙ c.in_ok-object_text.ensures)))
