use Rattle.std.proofs.Common.{◌≡◌, ◌++◌, length}
use Rattle.std.specs.Vec.Iter.{into_iter_items, into_iter_len}
use Rattle.py_parser.proofs.stmt.append.Given as goal

abbrev pub invariant-loop-one : goal.invariant-loop-one
invariant-loop-one g l = (l.found ++ into_iter_items l.one-iterator ≡ l.fn.found ++ l.fn.some) × (into_iter_len l.one-iterator ≡ length (into_iter_items l.one-iterator))
