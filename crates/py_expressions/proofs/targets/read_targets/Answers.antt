use Rattle.std.proofs.Common.{◌∷◌, ◌∙◌, ap}
use Rattle.py_tokens.specs.declared.token.Tok.TheVariants as tok
use Rattle.py_tokens.specs.declared.word.Word.TheVariants as word
use Rattle.py_expressions.specs.Input.{at}
use Rattle.py_expressions.specs.Laws.{input}
use Rattle.py_expressions.specs.Targets as spec
use Rattle.py_expressions.specs.Targets.{aims_text, aims_tree}
use Rattle.py_expressions.proofs.Aims.{all_targets_sound, all_targets_complete, all_targets_fails}
use Rattle.py_expressions.proofs.Clauses.{found, is_read, names_front}
use Rattle.py_expressions.proofs.targets.read_targets.Goals as goal

pub returns-clause-found : goal.returns-clause-found
returns-clause-found c = found aims_text aims_tree spec.all_targets all_targets_sound c.args.tokens.now c.all_targets.result c.all_targets.new.tokens c.all_targets.ensures

pub returns-clause-only : goal.returns-clause-only
returns-clause-only c aims place rest is =
    is_read spec.all_targets (aims_tree aims) (at place (tok.Word word.In) ∷ rest) c.args.tokens.now c.all_targets.result c.all_targets.new.tokens
    (ap (λ q. spec.all_targets (input q c.args.tokens.now.front)) is ∙ all_targets_complete aims place rest c.args.tokens.now.front) c.all_targets.ensures

pub returns-clause-fault : goal.returns-clause-fault
returns-clause-fault c = names_front spec.all_targets all_targets_fails c.args.tokens.now c.all_targets.result c.all_targets.new.tokens c.all_targets.ensures
