-- What a compiler asks of an accepted source.
use Rattle.std.proofs.Common.{ℕ, List}
use Rattle.py_tokens.proofs.Fewer.{sources_formed}
use Rattle.py_tree.specs.Formed.{IsFormed}
use Rattle.py_parser.proofs.FormedTree.{tree_formed}
use Rattle.py_source.specs.declared.source.Accepted.{Accepted}
use Rattle.py_source.specs.Source.{IsAccepted}

pub formed : (level : ℕ) (source : List ℕ) (accepted : Accepted) → IsAccepted level source accepted → IsFormed accepted.tree
formed level source accepted is =
    let s = is.is_source in
    tree_formed s.list accepted.tree (sources_formed level source s.list s.are_tokens) s.is_tree
