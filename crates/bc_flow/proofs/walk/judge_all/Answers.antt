use Rattle.std.proofs.Common.{◌∙◌, ap, map}
use Rattle.bc_shapes.specs.Views.{at_of}
use Rattle.bc_flow.specs.Code.{code_of}
use Rattle.bc_flow.specs.Edges.{holds_over}
use Rattle.bc_flow.specs.Verified.{agree, at}
use Rattle.bc_flow.specs.Views.{action_of, edge_of_rust, table_of}
use Rattle.bc_flow.proofs.Judging.{holds_is}
use Rattle.bc_flow.proofs.Spans.{each_all}
use Rattle.bc_flow.proofs.walk.judge_all.Goals as goal

pub returns : goal.returns
returns c =
    let code = code_of c.args.code.now in
    let a = action_of c.args.action.now in
    let x = at_of c.args.x.now in
    record {
      action = a;
      is = c.requires.action_is;
      handlers = c.holds.ensures ∙ ap (λ es. holds_over code a x (map edge_of_rust es)) c.deref.ensures.value ∙ holds_is code a c.args.p x _ c.requires.along;
      meets = c.agree.ensures ∙ ap (λ es. agree (table_of c.args.states.now) (map edge_of_rust es)) c.deref-2.ensures.value ∙ ap (agree (table_of c.args.states.now)) c.requires.along;
      height = c.finds.ensures;
      state = c.room.ensures;
      falls = c.stays.ensures;
      along = c.requires.along;
      outside = each_all (at (table_of c.args.states.now)) _;
    }
