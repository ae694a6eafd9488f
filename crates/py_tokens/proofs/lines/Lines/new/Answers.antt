use Rattle.std.proofs.Common.{◌++◌, List, ℕ, [], ◌∷◌, ap, ◌∙◌}
use Rattle.py_tokens.proofs.Going.{starts}
use Rattle.py_tokens.proofs.lines.Lines.new.Goals as goal

pub returns-clause-whole : goal.returns-clause-whole
returns-clause-whole c pieces stop =
    starts c.in_ok-tokens.tokens.items c.push.new.self.items pieces stop c.in_ok-tokens.ensures.items
    (c.in_ok-push.ensures.items ∙ (ap (λ z. z ++ c.empty.result ∷ []) c.new-levels.ensures.items ∙ ap (λ (z : List ℕ). z ∷ []) c.empty.ensures))
