use Rattle.std.proofs.Common.{map, refl}
use Rattle.bc_flow.specs.Views.{edge_of_rust}
use Rattle.bc_refusals.proofs.Starts.{follows_on}
use Rattle.bc_refusals.proofs.walk.go_on.Goals as goal

pub returns : goal.returns
returns c code rows x f n t k e =
    follows_on code rows c.args.walk.now _ c.args.p x f n t k (map edge_of_rust c.args.edges.now) e c.note_all-walk.ensures.come c.note.ensures c.note_all-walk.ensures.lower c.note_all-walk.ensures.old refl
