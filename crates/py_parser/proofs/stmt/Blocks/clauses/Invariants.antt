use Rattle.std.proofs.Common.{◌≡◌, ◌-◌, [], true}
use Rattle.py_expressions.specs.Input.{input_of}
use Rattle.py_parser.specs.Reading.{stmt, clauses, all_clauses}
use Rattle.py_parser.proofs.stmt.Blocks.clauses.Given as goal

abbrev pub invariant-loop-turn : goal.invariant-loop-turn
invariant-loop-turn g l = all_clauses (stmt l.self.depth) l.fn.first (input_of l.fn.tokens) ≡ clauses (stmt l.self.depth) (l._turn-end - l._turn) l.stage l.parts (input_of l.tokens)
