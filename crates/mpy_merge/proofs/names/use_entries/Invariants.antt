use Rattle.std.proofs.Common.{◌≡◌, drop, map}
use Rattle.mpy_writer.specs.Outcome.{all_interned}
use Rattle.mpy_merge.specs.Moved.{entry_text}
use Rattle.mpy_merge.proofs.names.use_entries.Given as goal

abbrev pub invariant-loop-entry : goal.invariant-loop-entry
invariant-loop-entry l = all_interned l.pool (drop l.entry-index (map entry_text l.entries)) ≡ all_interned l.initial.pool (map entry_text l.entries)
