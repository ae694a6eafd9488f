use Rattle.std.proofs.Common.{◌≡◌, ◌++◌, ℕ, List, [], ◌∷◌, ◌∙◌, subst}
use Rattle.std.proofs.lemmas.Result.{on_ok_weaker}
use Rattle.py_scopes.specs.Names.{names_in}
use Rattle.py_scopes.specs.Scopes.{mark, own}
use Rattle.py_scopes.proofs.names.step.Goals as goal

pub returns-clause-names : goal.returns-clause-names
returns-clause-names c =
    on_ok_weaker c.follow.result
    (λ same front e.
    same ∙ subst (λ (around : List ℕ). names_in c.tell.new.sets.items ≡ own c.args.tells (front ++ mark c.args.event.now around ∷ [])) c.deref.ensures.value
    (c.in_ok-tell.ensures.names front e))
    c.follow.ensures.names
