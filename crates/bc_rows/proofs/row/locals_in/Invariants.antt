use Rattle.std.proofs.Common.{◌≡◌, take}
use Rattle.bc_library.specs.bc_flow.Code.{locals}
use Rattle.bc_rows.proofs.row.locals_in.Given as goal

abbrev pub invariant-loop-item : goal.invariant-loop-item
invariant-loop-item l = l.most ≡ locals l.params (take l.item-index l.items)
