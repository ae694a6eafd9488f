use Rattle.std.proofs.Common.{◌≡◌, ◌≤◌, ◌+◌, length, map, drop, string_bytes}
use Rattle.mpy_words.specs.Command as commands
use Rattle.mpy_words.specs.Given.{none_given, IsBounded}
use Rattle.mpy_words.specs.Words as spec
use Rattle.mpy_words.proofs.words.named.Given as goal

abbrev pub invariant-loop-wanted : goal.invariant-loop-wanted
invariant-loop-wanted l =
    (spec.named l.count l.command none_given (commands.names_of l.command) (map string_bytes l.words)
    ≡ spec.named l.count l.command l.given (drop l.wanted-index (commands.names_of l.command)) (map string_bytes l.rest))
    × (length l.rest ≤ l.count)
    × (l.wanted-index + length l.rest ≡ length l.words)
    × IsBounded l.count l.given
