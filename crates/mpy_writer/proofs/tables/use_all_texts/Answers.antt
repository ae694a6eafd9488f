use Rattle.std.proofs.Common.{◌+◌, [], ◌∷◌, map, drop, refl, sym, ap, ◌∙◌}
use Rattle.std.specs.List.{flat_map}
use Rattle.std.proofs.lemmas.Result.{err_from_is_err_and}
use Rattle.mpy_writer.specs.Codes.{texts_in}
use Rattle.mpy_writer.proofs.Lists.{next_seen}
use Rattle.mpy_writer.proofs.Uses.{goes_on, exit_passing}
use Rattle.mpy_writer.proofs.tables.use_all_texts.Goals as goal

pub returns-in_err-use_text-clause-fault : goal.returns-in_err-use_text-clause-fault
returns-in_err-use_text-clause-fault c =
    let p = err_from_is_err_and c.from_residual.result c.from_residual.ensures.1 in
    let others = flat_map texts_in (map (λ x. x.now) c.args.codes.now) in
    exit_passing c.args.pool.now c.args.pool.now (c.args.source.now ∷ others) (c.args.source.now ∷ others) (c.bytes.result.now ∷ []) others _ _ _ p.1 p.2
    c.in_err-use_text.ensures.fault refl (ap (λ z. z ∷ others) (sym c.bytes.ensures))

pub returns-in_err-use_texts_in-clause-fault : goal.returns-in_err-use_texts_in-clause-fault
returns-in_err-use_texts_in-clause-fault c =
    let p = err_from_is_err_and c.from_residual-in_err-use_texts_in.result c.from_residual-in_err-use_texts_in.ensures.1 in
    let codes = map (λ x. x.now) c.args.codes.now in
    let whole = c.args.source.now ∷ flat_map texts_in codes in
    exit_passing c.args.pool.now c.loop-code.pool whole (flat_map texts_in (drop c.loop-code.code-index codes)) (texts_in c.code-item.result.now) (flat_map texts_in (drop (c.loop-code.code-index + 1) codes))
    _ _ _ p.1 p.2 c.in_err-use_texts_in.ensures.fault
    (c.loop-code.invariant ∙ goes_on c.args.pool.now c.args.pool.now c.use_text.new.pool whole whole (c.bytes.result.now ∷ []) (flat_map texts_in codes) refl (ap (λ z. z ∷ flat_map texts_in codes) (sym c.bytes.ensures)) c.in_ok-use_text.ensures.ok)
    (next_seen (λ x. x.now) texts_in c.args.codes.now c.loop-code.code-index c.code-item.result c.loop-code-test.true c.code-item.is)

pub loop-code-preserved : goal.loop-code-preserved
loop-code-preserved c =
    let codes = map (λ x. x.now) c.args.codes.now in
    goes_on c.use_text.new.pool c.loop-code.pool c.use_texts_in.new.pool (flat_map texts_in codes) (flat_map texts_in (drop c.loop-code.code-index codes)) (texts_in c.code-item.result.now) (flat_map texts_in (drop (c.loop-code.code-index + 1) codes))
    c.loop-code.invariant (next_seen (λ x. x.now) texts_in c.args.codes.now c.loop-code.code-index c.code-item.result c.loop-code-test.true c.code-item.is) c.in_ok-use_texts_in.ensures.ok
