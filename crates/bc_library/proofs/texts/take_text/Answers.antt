use Rattle.std.proofs.Common.{◌≡◌, ◌≤◌, Err, Some, sym, ap, subst, ◌∙◌, arith}
use Rattle.std.proofs.lemmas.Result.{err_from_is_err_and}
use Rattle.mpy_base.specs.declared.refused.Refused.TheVariants as refused
use Rattle.bc_verify.specs.qstr_pool.Full.{pool_full}
use Rattle.bc_verify.specs.qstr_pool.Pool.{Texts, number_of}
use Rattle.bc_verify.specs.qstr_pool.declared.table.TheConstants.{FIRST_OWN}
use Rattle.bc_library.specs.Texts.{text_numbered}
use Rattle.bc_library.proofs.Pools.{static_numbered, pool_numbered, with_static, with_own, overflows}
use Rattle.bc_library.proofs.texts.take_text.Goals.{in-Some, in-None+in_ok-number-in-None}
use Rattle.bc_library.proofs.texts.take_text.Goals as goal

pub returns-in_err-number-in-None-clause-full : goal.returns-in_err-number-in-None-clause-full
returns-in_err-number-in-None-clause-full c e =
    let p = err_from_is_err_and c.from_residual.result c.from_residual.ensures.1 in
    let fault : c.in_err-number-in-None.field-0.0 ≡ refused.Fault pool_full = cc (p.1, p.2) in
    let full = c.in_err-number-in-None.ensures.full.0 (ap (λ z. Err z) fault) in
    overflows c.args.pool.now c.args.text.now (sym c.static_number.ensures.number ∙ c.in-None.is) full.0 full.1

pub returns-clause-number : goal.returns-clause-number
returns-clause-number c =
    elim c.match-static_number.branch [
      | in-Some w ↦
          let n : c.match-static_number.number ≡ w.in-Some.number = w.number-is ∙ w.from-number.ensures in
          let found = static_numbered c.match-static_number.pool c.args.text.now w.in-Some.number c.static_law.ensures.one_to_one (sym w.in-Some.ensures.number) w.in-Some.ensures.within.1 in
          ap (text_numbered c.match-static_number.pool) n ∙ found
      | in-None+in_ok-number-in-None w ↦
          let n : c.match-static_number.number ≡ w.in_ok-number-in-None.number = w.number-is in
          let law = c.pool_law.ensures.one_to_one in
          let number = subst (λ (pool : Texts). number_of pool c.args.text.now ≡ Some w.in_ok-number-in-None.number) (sym w.pool-is) w.in_ok-number-in-None.ensures.number in
          let low : FIRST_OWN ≤ w.in_ok-number-in-None.number = omega (arith, w.in_ok-number-in-None.ensures.within.0, c.requires) in
          ap (text_numbered c.match-static_number.pool) n ∙ pool_numbered c.match-static_number.pool c.args.text.now w.in_ok-number-in-None.number law number low
    ]

pub returns-clause-pool : goal.returns-clause-pool
returns-clause-pool c =
    elim c.match-static_number.branch [
      | in-Some w ↦ w.pool-is ∙ with_static c.args.pool.now c.args.text.now w.in-Some.number (sym w.in-Some.ensures.number)
      | in-None+in_ok-number-in-None w ↦
          w.pool-is ∙ (w.in_ok-number-in-None.ensures.texts ∙ with_own c.args.pool.now c.args.text.now (sym w.in-None.ensures.number))
    ]
