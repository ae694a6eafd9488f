use Rattle.run_commands.proofs.Resting.{accepted, rests}
use Rattle.run_commands.proofs.suspended.rest_law.Goals as goal

pub returns : goal.returns
returns c = record {
  rest = rests c.continues_law.ensures c.accounted_law.ensures.on;
  accepted = accepted c.loads_law.ensures.header c.loads_law.ensures.state;
}
