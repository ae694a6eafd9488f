use Rattle.std.proofs.Common.{◌≡◌, length}
use Rattle.py_parser.specs.Clauses.{defaults_last}
use Rattle.py_parser.proofs.header.defaults_last.Given as goal

abbrev pub invariant-more : goal.invariant-more
invariant-more l = defaults_last l.fn.params ≡ defaults_last l.rest

abbrev pub decreases-more : goal.decreases-more
decreases-more l = length l.rest
