use Rattle.std.proofs.Common.{◌++◌, [], ◌∷◌, refl, sym, ap}
use Rattle.std.specs.List.{flat_map}
use Rattle.std.proofs.lemmas.Result.{err_from_is_err_and}
use Rattle.mpy_tree.specs.declared.module.Code.{out-Code}
use Rattle.mpy_writer.specs.Codes.{text_in, texts_in}
use Rattle.mpy_writer.proofs.Uses.{goes_on, exit_passing}
use Rattle.mpy_writer.proofs.tables.use_texts_in.Goals as goal

pub returns-in_err-use_text-clause-fault : goal.returns-in_err-use_text-clause-fault
returns-in_err-use_text-clause-fault c =
    let p = err_from_is_err_and c.from_residual.result c.from_residual.ensures.1 in
    let code = out-Code c.args.code.now in
    exit_passing c.args.pool.now c.args.pool.now (texts_in c.args.code.now) (texts_in c.args.code.now) (c.bytes.result.now ∷ []) (code.args ++ flat_map text_in code.instrs) _ _ _ p.1 p.2
    c.in_err-use_text.ensures.fault refl (ap (λ z. z ∷ (code.args ++ flat_map text_in code.instrs)) (sym c.bytes.ensures))

pub returns-in_err-use_texts-clause-fault : goal.returns-in_err-use_texts-clause-fault
returns-in_err-use_texts-clause-fault c =
    let p = err_from_is_err_and c.from_residual-in_err-use_texts.result c.from_residual-in_err-use_texts.ensures.1 in
    let code = out-Code c.args.code.now in
    let rest = flat_map text_in code.instrs in
    exit_passing c.args.pool.now c.use_text.new.pool (texts_in c.args.code.now) (code.args ++ rest) c.as_slice.result.now rest _ _ _ p.1 p.2 c.in_err-use_texts.ensures.fault
    (goes_on c.args.pool.now c.args.pool.now c.use_text.new.pool (texts_in c.args.code.now) (texts_in c.args.code.now) (c.bytes.result.now ∷ []) (code.args ++ rest) refl (ap (λ z. z ∷ (code.args ++ rest)) (sym c.bytes.ensures)) c.in_ok-use_text.ensures.ok)
    (ap (λ z. z ++ rest) (sym c.as_slice.ensures))
