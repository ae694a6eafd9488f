use Rattle.std.proofs.Common.{◌≡◌, sym, subst, ◌∙◌}
use Rattle.snap_grammar.specs.Spelling.{behind}
use Rattle.snap_states.specs.States.{IsStateOf}
use Rattle.snap_loading.specs.Saved.{snapshot_in}
use Rattle.snap_loading.proofs.suspended.loads_law.Goals as goal

pub returns-clause-header : goal.returns-clause-header
returns-clause-header c shelf main cells bytes ports n snap vm s = (behind (snapshot_in shelf vm), s.spelled)

pub returns-clause-state : goal.returns-clause-state
returns-clause-state c shelf main cells bytes ports n snap vm tabled named s t fits e =
    let same : snapshot_in shelf vm ≡ t = c.spelling_law.ensures (snapshot_in shelf vm) t s.fits fits (sym s.spelled ∙ e) in
    subst (IsStateOf shelf) same
    (c.state_law.ensures shelf vm tabled named s.is_vm (c.kept_law.ensures.saved shelf main cells bytes ports n snap vm s) s.held.roomy
    (c.kept_law.ensures.first shelf main cells bytes ports n snap vm s))
