use Rattle.mpy_writer.proofs.Rounds.{straight}
use Rattle.mpy_writer.proofs.layout.by_positions.Goals as goal

pub returns-else-has_jumps-clause-ok : goal.returns-else-has_jumps-clause-ok
returns-else-has_jumps-clause-ok c =
    straight c.args.tables.now c.args.items.now (c.has_jumps.ensures c.if-has_jumps.false) c.requires.fit c.requires.sound _ c.in_ok-draft.ensures.text c.in_ok-draft.ensures.starts
