use Rattle.std.proofs.Common.{◌≡◌, ◌-◌, [], true}
use Rattle.py_expressions.specs.Input.{input_of}
use Rattle.py_parser.specs.Reading.{stmt, block_from, whole_block}
use Rattle.py_parser.proofs.stmt.Blocks.block_from.Given as goal

abbrev pub invariant-loop-turn : goal.invariant-loop-turn
invariant-loop-turn g l = whole_block (stmt l.self.depth) (input_of l.fn.tokens) ≡ block_from (stmt l.self.depth) (l._turn-end - l._turn) l.found (input_of l.tokens)
