use Rattle.std.proofs.Common.{◌-◌, ℕ, List, take}
use Rattle.bc_machine.proofs.mpy_tree_lemmas.Codes.{children}
use Rattle.bc_rows.proofs.Numbering.{Added}
use Rattle.bc_rows.proofs.codes.+add_code.Given as goal

abbrev pub decreases-add_code : goal.decreases-add_code
decreases-add_code l = l.levels

abbrev pub invariant-loop-child : goal.invariant-loop-child
invariant-loop-child l = (path : List ℕ) → Added l.library l.number (l.levels - 1) path l.fn.rows.items l.code (take l.child-index (children l.code)) l.rows.items l.children
