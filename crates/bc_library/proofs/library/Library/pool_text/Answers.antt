use Rattle.std.proofs.Common.{ap, ◌∙◌}
use Rattle.bc_library.specs.Shelf.{Shelf}
use Rattle.bc_library.specs.Texts.{IsPlain, text_numbered}
use Rattle.bc_library.proofs.Own.{plain_numbered}
use Rattle.bc_library.proofs.Told.{behind}
use Rattle.bc_library.proofs.library.Library.pool_text.Goals as goal

pub returns-clause-text : goal.returns-clause-text
returns-clause-text c = c.numbered_text.ensures ∙ ap (λ (s : Shelf). text_numbered s.pool c.args.n) c.self.view_is

pub returns-clause-plain : goal.returns-clause-plain
returns-clause-plain c =
    behind IsPlain c.numbered_text.result (text_numbered c.self.inside.pool c.args.n) c.numbered_text.ensures
    (λ text e. plain_numbered c.self.inside.pool c.args.n text c.self.invariant.own e)
