use Rattle.std.proofs.Common.{◌∙◌}
use Rattle.bc_labels.proofs.Fewest.{needed}
use Rattle.mpy_writer.proofs.Rounds.{labelled, only_more, fewest_is}
use Rattle.mpy_writer.proofs.widths.settle.Goals as goal

pub measure-requires-clause-only : goal.measure-requires-clause-only
measure-requires-clause-only c = only_more c.args.tables.now c.args.items.now _ _ c.rounds.invariant.only c.widen.ensures.round

pub rounds-preserved : goal.rounds-preserved
rounds-preserved c = record {
  sized = c.widen.ensures.sized ∙ c.rounds.invariant.sized;
  only = only_more c.args.tables.now c.args.items.now _ _ c.rounds.invariant.only c.widen.ensures.round;
  needed = needed (labelled c.args.tables.now c.args.items.now) _ _ c.rounds.invariant.needed c.widen.ensures.round;
  starts = c.in_ok-measure.ensures;
}

pub returns-clause-fewest : goal.returns-clause-fewest
returns-clause-fewest c =
    let stays = c.rounds-test.false in
    fewest_is c.args.tables.now c.args.items.now _ _ (c.widen.ensures.same stays) c.rounds.invariant.sized (c.widen.ensures.done stays) c.rounds.invariant.needed
