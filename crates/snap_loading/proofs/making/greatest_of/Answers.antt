use Rattle.snap_loading.proofs.Readied.{few_slots}
use Rattle.snap_loading.proofs.making.greatest_of.Goals as goal

pub returns-clause-few : goal.returns-clause-few
returns-clause-few c = few_slots c.args.library.now c.greatest.result.0 c.greatest.result.1 c.greatest.ensures
