use Rattle.py_parser.proofs.Parses.{one_fault, not_both, token_stands}
use Rattle.py_parser.proofs.Whole.{one_tree}
use Rattle.py_parser.proofs.FormedTree.{tree_formed}
use Rattle.py_parser.proofs.source.parser_law.Goals as goal

pub returns-clause-one_tree : goal.returns-clause-one_tree
returns-clause-one_tree c = one_tree

pub returns-clause-one_fault : goal.returns-clause-one_fault
returns-clause-one_fault c = one_fault

pub returns-clause-not_both : goal.returns-clause-not_both
returns-clause-not_both c = not_both

pub returns-clause-stands : goal.returns-clause-stands
returns-clause-stands c = token_stands

pub returns-clause-formed : goal.returns-clause-formed
returns-clause-formed c = tree_formed
