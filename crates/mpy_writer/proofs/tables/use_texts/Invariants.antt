use Rattle.std.proofs.Common.{◌≡◌, drop}
use Rattle.mpy_writer.specs.Outcome.{all_interned}
use Rattle.mpy_writer.proofs.tables.use_texts.Given as goal

abbrev pub invariant-loop-text : goal.invariant-loop-text
invariant-loop-text l = all_interned l.pool (drop l.text-index l.texts) ≡ all_interned l.initial.pool (l.texts)
