use Rattle.std.proofs.Common.{◌∙◌, ap}
use Rattle.py_expressions.specs.Laws.{input}
use Rattle.py_expressions.proofs.Clauses.{found, is_read, names_front}
use Rattle.py_statements.specs.Grammar.{line_text, line_tree}
use Rattle.py_statements.specs.Reading as spec
use Rattle.py_statements.proofs.Whole.{line_sound, line_complete, line_fails}
use Rattle.py_statements.proofs.line.read_line.Goals as goal

pub returns-clause-found : goal.returns-clause-found
returns-clause-found c = found line_text line_tree spec.one_line line_sound c.args.tokens.now c.one_line.result c.one_line.new.tokens c.one_line.ensures

pub returns-clause-only : goal.returns-clause-only
returns-clause-only c one rest is =
    is_read spec.one_line (line_tree one) rest c.args.tokens.now c.one_line.result c.one_line.new.tokens
    (ap (λ q. spec.one_line (input q c.args.tokens.now.front)) is ∙ line_complete one rest c.args.tokens.now.front) c.one_line.ensures

pub returns-clause-fault : goal.returns-clause-fault
returns-clause-fault c = names_front spec.one_line line_fails c.args.tokens.now c.one_line.result c.one_line.new.tokens c.one_line.ensures
