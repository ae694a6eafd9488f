use Rattle.std.proofs.Common.{◌≡◌, length}
use Rattle.std.specs.Prelude.{reverse}
use Rattle.prim_builtins.specs.py_primitives.Calls.{without_blanks}
use Rattle.prim_types.proofs.numerals.without_end.Given as goal

abbrev pub invariant-more : goal.invariant-more
invariant-more l = without_blanks (reverse l.bytes) ≡ without_blanks (reverse l.rest)

abbrev pub decreases-more : goal.decreases-more
decreases-more l = length l.rest
