use Rattle.std.proofs.Common.{◌≡◌, List, ℕ, sym, ap, subst, ◌∙◌}
use Rattle.std.proofs.lemmas.Result.{err_from_is_err_and}
use Rattle.image_open.specs.bc_library.Texts.{with_texts}
use Rattle.image_open.specs.image_grammar.Image.{texts_used}
use Rattle.image_freeze.specs.Frozen.{entries_of}
use Rattle.image_freeze.specs.Uses.{PassesTable}
use Rattle.image_freeze.proofs.Exits.{exit}
use Rattle.image_freeze.proofs.Pools.{raw_texts, used_is}
use Rattle.image_freeze.proofs.texts.make_pool.Goals as goal

pub returns-in_err-use_modules-clause-fault : goal.returns-in_err-use_modules-clause-fault
returns-in_err-use_modules-clause-fault c =
    let p = err_from_is_err_and c.from_residual.result c.from_residual.ensures.1 in
    let modules = c.args.modules.now in
    exit (PassesTable c.args.below (raw_texts modules)) (PassesTable c.args.below (texts_used (entries_of modules))) _ _ _ p.1 p.2 c.in_err-use_modules.ensures.fault
    (λ f h. subst (λ (z : List (List ℕ)). PassesTable c.args.below z f) (sym (used_is modules)) h)

pub returns-clause-ok : goal.returns-clause-ok
returns-clause-ok c = c.in_ok-use_modules.ensures.ok ∙ ap (with_texts c.args.below) (sym (used_is c.args.modules.now))
