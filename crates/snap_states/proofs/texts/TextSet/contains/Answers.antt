use Rattle.std.proofs.Common.{ap, ◌∙◌}
use Rattle.snap_states.specs.Knowing.{holds}
use Rattle.snap_states.proofs.Gathering.{held_by_bytes}
use Rattle.snap_states.proofs.texts.TextSet.contains.Goals as goal

pub returns : goal.returns
returns c = c.contains.ensures ∙ (held_by_bytes c.self.inside.texts.keys c.args.text.now ∙ ap (λ z. holds z c.args.text.now) c.self.view_is)
