use Rattle.emit_draft.proofs.Rolling.{tree_numbered, tree_functions}
use Rattle.emit_draft.proofs.children.numbers_law.Goals as goal

pub returns : goal.returns
returns c = record { outer = tree_numbered; functions = tree_functions }
