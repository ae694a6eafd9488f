use Rattle.snap_loading.proofs.Returning.{shown_back}
use Rattle.snap_loading.proofs.shown.shown_law.Goals as goal

pub returns : goal.returns
returns c shelf s heap modules calls is run shaped decodes = shown_back c.frames_law.ensures.marks shelf s heap modules calls is run shaped decodes
