use Rattle.snap_states.proofs.Judging.{kind_tested}
use Rattle.snap_states.proofs.objects.is_kind.Goals as goal

pub returns : goal.returns
returns c = kind_tested c.args.name.now c.kind_called.result c.kind_called.ensures c.is_some.result c.is_some.ensures
