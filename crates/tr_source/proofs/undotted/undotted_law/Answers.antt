use Rattle.tr_source.proofs.Sources.{list_undotted, grammar_undotted, source_undotted}
use Rattle.tr_source.proofs.undotted.undotted_law.Goals as goal

pub returns-clause-tokens : goal.returns-clause-tokens
returns-clause-tokens c = list_undotted

pub returns-clause-tree : goal.returns-clause-tree
returns-clause-tree c = λ list tree formed named is. grammar_undotted list tree (formed.each, named) is

pub returns-clause-source : goal.returns-clause-source
returns-clause-source c = source_undotted
