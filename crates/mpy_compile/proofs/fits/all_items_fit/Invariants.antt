use Rattle.std.proofs.Common.{◌≡◌, true, take}
use Rattle.std.specs.List.{list_all}
use Rattle.mpy_compile.specs.Texts.{item_fits}
use Rattle.mpy_compile.proofs.fits.all_items_fit.Given as goal

abbrev pub invariant-loop-item : goal.invariant-loop-item
invariant-loop-item l = list_all item_fits (take l.item-index l.items) ≡ true
