use Rattle.state_values.proofs.Finding as finding
use Rattle.state_values.proofs.subscripts.store_subscr.Goals as goal

pub lacks_third-requires : goal.lacks_third-requires
lacks_third-requires g c = (finding.stored c.requires.runs c.tops_law.ensures.stored c.requires.runs.ready.finds).2
