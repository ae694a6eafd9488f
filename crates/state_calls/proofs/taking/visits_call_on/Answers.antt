use Rattle.std.proofs.Common.{◌≡◌, map}
use Rattle.std.specs.Prelude.{min}
use Rattle.frame_calls.specs.prim_walks.Plain.{plain, plain_pair}
use Rattle.frame_calls.specs.prim_faults.Sights.{world_over}
use Rattle.frame_calls.specs.prim_calls.Callees.{plain_callee}
use Rattle.frame_calls.specs.Invoking.{visits_of}
use Rattle.state_calls.proofs.Places.{over}
use Rattle.state_calls.proofs.taking.visits_call_on.Goals as goal

pub returns : goal.returns
returns c p w means shelf_is =
    over p means c.args.library.now shelf_is
    (λ t u. c.visits_call.result ≡ min (visits_of (plain_callee t u (world_over t u w c.args.arena.now) c.args.call.callee) (map (plain t u) c.args.operands.now.args) (map (plain_pair t u) c.args.operands.now.keys)) c.args.most) (c.visits_call.ensures w)
