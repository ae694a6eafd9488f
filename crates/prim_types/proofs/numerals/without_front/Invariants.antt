use Rattle.std.proofs.Common.{◌≡◌, length}
use Rattle.prim_builtins.specs.py_primitives.Calls.{without_blanks}
use Rattle.prim_types.proofs.numerals.without_front.Given as goal

abbrev pub invariant-more : goal.invariant-more
invariant-more l = without_blanks l.bytes ≡ without_blanks l.rest

abbrev pub decreases-more : goal.decreases-more
decreases-more l = length l.rest
