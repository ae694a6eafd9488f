use Rattle.std.proofs.Common.{◌≡◌, ◌∙◌, ℕ, List, Err, ap, sym, subst, inl, inr}
use Rattle.std.specs.Prelude.{IsTrue}
use Rattle.std.proofs.lemmas.Result.{err_from_is_err_and}
use Rattle.qstr_pool.specs.Pool.{Texts, all_differ}
use Rattle.image_grammar.specs.bc_library.Own.{IsOwnPool}
use Rattle.image_grammar.proofs.Steps.{no_memory}
use Rattle.image_open.proofs.image.read_image.Goals as goal

pub image-requires-clause-alone : goal.image-requires-clause-alone
image-requires-clause-alone c = c.requires.alone

pub returns-in_err-pool-clause-read : goal.returns-in_err-pool-clause-read
returns-in_err-pool-clause-read c =
    let p = err_from_is_err_and c.from_residual.result c.from_residual.ensures.1 in
    no_memory _ _ _ _ p.1 p.2

pub returns-in_err-pool-clause-proper : goal.returns-in_err-pool-clause-proper
returns-in_err-pool-clause-proper c =
    let p = err_from_is_err_and c.from_residual.result c.from_residual.ensures.1 in
    inr (p.1 ∙ ap (λ z. Err z) p.2)

pub returns-clause-proper : goal.returns-clause-proper
returns-clause-proper c =
    inl (
      subst IsOwnPool c.in_ok-pool.ensures.pool c.in_ok-pool.ensures.proper.0,
      subst (λ (z : Texts). IsTrue (all_differ z.texts)) c.in_ok-pool.ensures.pool c.in_ok-pool.ensures.proper.1,
    )
