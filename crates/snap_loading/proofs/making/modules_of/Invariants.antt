use Rattle.std.proofs.Common.{◌≡◌}
use Rattle.snap_loading.proofs.Readied.{first_modules}
use Rattle.snap_loading.proofs.making.modules_of.Given as goal

abbrev pub invariant-loop-at : goal.invariant-loop-at
invariant-loop-at l = l.modules ≡ first_modules l.lookup.library.now l.lookup.snapshot.now l.at
