use Rattle.std.proofs.Common.{◌≡◌, ◌≤◌, ◌-◌, ◌*◌, Ok}
use Rattle.py_expressions.specs.Input.{input_of}
use Rattle.py_expressions.specs.Reading.{expr, sum, chain, whole_chain}
use Rattle.py_expressions.proofs.grammar.Grammar.+sum.Given as goal

abbrev pub invariant-chain-loop-turn : goal.invariant-chain-loop-turn
invariant-chain-loop-turn g l = whole_chain (sum (expr l.self.depth) (l.level - 1)) l.level l.fn.left (input_of l.fn.tokens) ≡ chain (sum (expr l.self.depth) (l.level - 1)) l.level (l._turn-end - l._turn) l.left (input_of l.tokens)

-- what was read is the sum of the levels so far
abbrev pub invariant-sum-loop-tighter : goal.invariant-sum-loop-tighter
invariant-sum-loop-tighter g l = (sum (expr l.self.depth) l.tighter (input_of l.fn.tokens) ≡ Ok (l.found, input_of l.tokens)) × (l.tighter ≤ l.level)

abbrev pub decreases-sum : goal.decreases-sum
decreases-sum g l = 2 * l.level

abbrev pub decreases-chain : goal.decreases-chain
decreases-chain g l = 2 * l.level - 1
