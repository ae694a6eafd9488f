use Rattle.emit_draft.proofs.Nesting.{nested, nested_lines, nested_numbers}
use Rattle.emit_draft.proofs.children.tree_law.Goals as goal

pub returns : goal.returns
returns c = record { tree = nested; lines = nested_lines; children = nested_numbers }
