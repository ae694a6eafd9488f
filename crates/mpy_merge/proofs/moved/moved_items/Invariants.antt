use Rattle.std.proofs.Common.{take}
use Rattle.std.specs.List.{AllZip}
use Rattle.mpy_merge.specs.Moved.{IsMovedItem}
use Rattle.mpy_merge.proofs.moved.moved_items.Given as goal

abbrev pub invariant-loop-item : goal.invariant-loop-item
invariant-loop-item l = AllZip (IsMovedItem l.tables l.base l.module) (take l.item-index l.items) l.moved.items
