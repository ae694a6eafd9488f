use Rattle.std.proofs.Common.{sym}
use Rattle.bc_flow.specs.Views.{action_of}
use Rattle.bc_flow.proofs.walk.judge_again.Goals as goal

pub returns : goal.returns
returns c code t p is along h = record {
  action = action_of c.args.action.now;
  is = is;
  handlers = sym h.handlers;
  meets = sym h.meets;
  height = c.finds_again.ensures;
  state = sym h.state;
  falls = sym h.falls;
  along = along;
  outside = h.outside;
}
