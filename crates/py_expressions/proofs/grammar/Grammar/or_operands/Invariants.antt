use Rattle.std.proofs.Common.{◌≡◌, ◌-◌}
use Rattle.py_tokens.specs.declared.word.Word.TheVariants as word
use Rattle.py_expressions.specs.Input.{input_of}
use Rattle.py_expressions.specs.Reading.{expr, operands, operands_from, and_test}
use Rattle.py_expressions.proofs.grammar.Grammar.or_operands.Given as goal

abbrev pub invariant-loop-turn : goal.invariant-loop-turn
invariant-loop-turn g l = operands (and_test (expr l.self.depth)) word.Or l.fn.first (input_of l.fn.tokens) ≡ operands_from (and_test (expr l.self.depth)) word.Or (l._turn-end - l._turn) l.found (input_of l.tokens)
