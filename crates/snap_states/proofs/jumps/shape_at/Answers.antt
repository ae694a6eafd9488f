use Rattle.std.proofs.Common.{sym, ap, ◌∙◌}
use Rattle.std.specs.Prelude.{option_copied}
use Rattle.snap_states.proofs.Leading.{at_none, at_some}
use Rattle.snap_states.proofs.jumps.shape_at.Goals as goal

pub returns-in-None : goal.returns-in-None
returns-in-None c = at_none c.args.states.now c.args.position (sym c.state_at.ensures ∙ ap option_copied c.in-None.is)

pub returns-in-Some : goal.returns-in-Some
returns-in-Some c = c.shape_in.ensures ∙ at_some c.args.states.now c.args.position c.in-Some.state.now (sym c.state_at.ensures ∙ ap option_copied c.in-Some.is)
