use Rattle.snap_saving.specs.Steps.{found}
use Rattle.snap_saving.proofs.OfObjects.{nothing_at}
use Rattle.snap_saving.proofs.objects.put_cell.Goals as goal

pub returns-in-None-clause-ok : goal.returns-in-None-clause-ok
returns-in-None-clause-ok c = nothing_at c.args.library.now (found c.args.places.now) c.args.arena.now c.args.cell c.in-None.ensures c.args.out.now.items
