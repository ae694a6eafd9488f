use Rattle.std.proofs.Common.{◌≡◌, drop}
use Rattle.py_parser.specs.Clauses.{names_differ, param_names}
use Rattle.py_parser.proofs.Differ.{differ_beside}
use Rattle.py_parser.proofs.header.many_differ.Given as goal

abbrev pub invariant-loop-param : goal.invariant-loop-param
invariant-loop-param l = differ_beside l.table (param_names (drop l.param-index l.params)) ≡ names_differ (param_names l.params)
