use Rattle.std.proofs.Common.{◌≡◌, ◌-◌}
use Rattle.py_expressions.specs.Input.{input_of}
use Rattle.py_expressions.specs.Names.{HasLater}
use Rattle.py_expressions.specs.Reading.{expr, arguments, arguments_from}
use Rattle.py_expressions.proofs.grammar.Grammar.arguments.Given as goal

abbrev pub invariant-loop-turn : goal.invariant-loop-turn
invariant-loop-turn g l = record {
  reads : arguments (expr l.self.depth) (input_of l.fn.tokens) ≡ arguments_from (expr l.self.depth) (l._turn-end - l._turn) l.given (input_of l.tokens);
  later : HasLater l.table l.given.keys;
}
