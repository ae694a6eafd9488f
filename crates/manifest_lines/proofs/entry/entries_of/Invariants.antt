use Rattle.std.proofs.Common.{◌≡◌, drop}
use Rattle.manifest_lines.specs.Entries.{entries_from, entries_of}
use Rattle.manifest_lines.proofs.entry.entries_of.Given as goal

abbrev pub invariant-loop-script : goal.invariant-loop-script
invariant-loop-script l = entries_of l.sources ≡ entries_from l.sources l.found (drop l.script-index l.sources.scripts)
