use Rattle.snap_loading.proofs.Solely.{one_state}
use Rattle.snap_loading.proofs.one_state.one_state_law.Goals as goal

pub returns : goal.returns
returns c shelf s heap other modules others calls more one shaped d e = one_state shelf s one shaped.objects heap other modules others calls more d e
