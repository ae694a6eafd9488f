-- The tree of formed tokens is formed.
use Rattle.std.proofs.Common.{List}
use Rattle.py_tokens.specs.declared.token.Token.{Token}
use Rattle.py_tree.specs.declared.stmt.Module.{Module}
use Rattle.py_tree.specs.Formed.{IsFormed}
use Rattle.py_tokens.specs.Formed.{AreFormed}
use Rattle.py_parser.specs.Grammar.{IsTree}
use Rattle.py_parser.proofs.Formed.{parts_formed}
use Rattle.py_parser.proofs.Lines.{lines_formed}
use Rattle.py_parser.proofs.Defs.{defs_formed}

pub tree_formed : (tokens : List Token) (tree : Module) → AreFormed tokens → IsTree tokens tree → IsFormed tree
tree_formed tokens tree k is = record { parts = parts_formed tokens tree k is; lines = lines_formed tokens tree k is; defs = defs_formed tokens tree k is }
