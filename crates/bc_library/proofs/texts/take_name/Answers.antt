use Rattle.std.proofs.Common.{◌≡◌, List, ℕ, [], ◌∷◌, Err, Option, Some, sym, ap, subst, ◌∙◌, arith}
use Rattle.std.specs.Option.{option_to_list}
use Rattle.std.proofs.lemmas.Result.{err_from_is_err_and}
use Rattle.mpy_base.specs.declared.refused.Refused.TheVariants as refused
use Rattle.bc_verify.specs.qstr_pool.Full.{pool_full}
use Rattle.std.specs.Prelude.{unwrap_or}
use Rattle.bc_verify.specs.qstr_pool.Pool.{Texts}
use Rattle.bc_library.specs.Texts.{last_part, text_numbered, with_text}
use Rattle.bc_library.proofs.Pools.{kept, longer, same_first, extends_by, extends_same, on_err}
use Rattle.bc_library.proofs.texts.take_name.Goals as goal

pub returns-in_err-number-clause-full : goal.returns-in_err-number-clause-full
returns-in_err-number-clause-full c e =
    let p = err_from_is_err_and c.from_residual.result c.from_residual.ensures.1 in
    let fault : c.in_err-number.field-0.0 ≡ refused.Fault pool_full = cc (p.1, p.2) in
    let over = c.in_err-number.ensures.full (ap (λ z. Err z) fault) in
    omega (arith, over, longer (with_text c.args.pool.now c.args.name.now) (option_to_list (last_part c.args.name.now)))

pub take_text-requires-in-Some : goal.take_text-requires-in-Some
take_text-requires-in-Some c =
    ap (λ (pool : Texts). pool.first) c.in_ok-number.ensures.pool ∙ (same_first c.args.pool.now (c.args.name.now ∷ []) ∙ c.requires)

pub returns-in_ok-last-in-Some-clause-title : goal.returns-in_ok-last-in-Some-clause-title
returns-in_ok-last-in-Some-clause-title c =
    let first = kept c.take_text.new.pool (c.in-Some.part.now ∷ []) c.in_ok-number.number c.args.name.now c.in_ok-number.ensures.number in
    record {
      name_is = subst (λ (p : Texts). text_numbered p c.in_ok-number.number ≡ Some c.args.name.now) (sym c.in_ok-last-in-Some.ensures.pool) first;
      last_is = c.in_ok-last-in-Some.ensures.number ∙ ap (λ (o : Option (List ℕ)). Some (unwrap_or o c.args.name.now)) c.in-Some.ensures;
    }

pub returns-in_err-number-clause-err : goal.returns-in_err-number-clause-err
returns-in_err-number-clause-err c = on_err c.from_residual.result _ (extends_same c.args.pool.now c.take_text.new.pool c.in_err-number.ensures.err)

pub returns-in_err-last-in-Some-clause-err : goal.returns-in_err-last-in-Some-clause-err
returns-in_err-last-in-Some-clause-err c =
    on_err c.from_residual-in_err-last-in-Some.result _
    (extends_by c.args.pool.now c.take_text-in-Some.new.pool (c.args.name.now ∷ []) (c.in_err-last-in-Some.ensures.err ∙ c.in_ok-number.ensures.pool))
