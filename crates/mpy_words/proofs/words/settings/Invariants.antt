use Rattle.std.proofs.Common.{◌≡◌, ◌≤◌, length, map, string_bytes}
use Rattle.mpy_words.specs.Given.{IsBounded}
use Rattle.mpy_words.specs.Words as spec
use Rattle.mpy_words.proofs.words.settings.Given as goal

abbrev pub invariant-more : goal.invariant-more
invariant-more l =
    (spec.settings l.count l.command l.fn.named (map string_bytes l.words) ≡ spec.settings l.count l.command l.given (map string_bytes l.rest))
    × (length l.rest ≤ l.count) × IsBounded l.count l.given

abbrev pub decreases-more : goal.decreases-more
decreases-more l = length l.rest
