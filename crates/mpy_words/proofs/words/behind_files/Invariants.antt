use Rattle.std.proofs.Common.{◌≡◌, ◌≤◌, length, map, string_bytes}
use Rattle.mpy_words.specs.Words as spec
use Rattle.mpy_words.proofs.words.behind_files.Given as goal

abbrev pub invariant-more : goal.invariant-more
invariant-more l = (spec.past_files (map string_bytes l.words) ≡ spec.past_files (map string_bytes l.rest)) × (length l.rest ≤ length l.words)

abbrev pub decreases-more : goal.decreases-more
decreases-more l = length l.rest
