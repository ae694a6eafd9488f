use Rattle.std.proofs.Common.{◌≡◌, ℕ, refl, subst, sym, min}
use Rattle.std.specs.Prelude.{IsSome}
use Rattle.state_values.proofs.Finding as finding
use Rattle.state_values.proofs.Visiting as visiting
use Rattle.state_values.proofs.operators.visits_binary_op.Goals as goal

pub visits_binary_op-requires-clause-operator : goal.visits_binary_op-requires-clause-operator
visits_binary_op-requires-clause-operator g c = subst IsSome (sym c.requires.runs.ready.finds.0.is) refl

pub visits_binary_op-requires-clause-right : goal.visits_binary_op-requires-clause-right
visits_binary_op-requires-clause-right g c = (finding.two c.requires.runs c.tops_law.ensures.two c.requires.runs.ready.finds.1).0

pub visits_binary_op-requires-clause-left : goal.visits_binary_op-requires-clause-left
visits_binary_op-requires-clause-left g c = (finding.two c.requires.runs c.tops_law.ensures.two c.requires.runs.ready.finds.1).1

pub visits_binary_op-requires-clause-all_told : goal.visits_binary_op-requires-clause-all_told
visits_binary_op-requires-clause-all_told g c = finding.all_told c.requires.runs

pub returns : goal.returns
returns g c =
    let texts = g.C.Constants.text_of c.args.consts.now in
    let tuples = g.C.Constants.items_of c.args.consts.now in
    let two = finding.two c.requires.runs c.tops_law.ensures.two c.requires.runs.ready.finds.1 in
    record {
      visits = subst (λ (n : ℕ). c.visits_binary_op.result ≡ min n c.args.most)
          (sym (visiting.visits_are texts tuples c.args.arena.now c.args.number two.1.0 two.0.0 c.args.frames.now.calls two.1.1 two.0.1)) (c.visits_binary_op.ensures two.1.0 two.0.0 two.1.1 two.0.1);
    }
