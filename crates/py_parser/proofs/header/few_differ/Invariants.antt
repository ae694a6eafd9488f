use Rattle.std.proofs.Common.{◌≡◌, length}
use Rattle.py_parser.specs.Clauses.{names_differ, param_names}
use Rattle.py_parser.proofs.header.few_differ.Given as goal

abbrev pub invariant-more : goal.invariant-more
invariant-more l = names_differ (param_names l.fn.params) ≡ names_differ (param_names l.rest)

abbrev pub decreases-more : goal.decreases-more
decreases-more l = length l.rest
