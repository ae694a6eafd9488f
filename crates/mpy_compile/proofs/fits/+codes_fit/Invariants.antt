use Rattle.std.proofs.Common.{◌≡◌, ◌-◌, true, take}
use Rattle.std.specs.List.{list_all}
use Rattle.mpy_compile.proofs.Rows.{all_fit}
use Rattle.mpy_compile.proofs.fits.+codes_fit.Given as goal

abbrev pub decreases-codes_fit : goal.decreases-codes_fit
decreases-codes_fit l = l.levels

abbrev pub invariant-loop-child : goal.invariant-loop-child
invariant-loop-child l = list_all (all_fit (l.levels - 1)) (take l.child-index l.child-items) ≡ true
