use Rattle.std.proofs.Common.{not, ap, ◌∙◌}
use Rattle.snap_states.specs.Knowing.{holds}
use Rattle.snap_states.proofs.Gathering.{key_held}
use Rattle.snap_states.proofs.texts.TextSet.insert.Goals as goal

pub returns-clause-tells : goal.returns-clause-tells
returns-clause-tells c =
    c.in_ok-insert.ensures.added ∙ (ap not (key_held c.self.inside.texts.keys c.in_ok-from_slice.field-0 c.args.text.now c.in_ok-from_slice.ensures.items)
    ∙ ap (λ z. not (holds z c.args.text.now)) c.self.view_is)
