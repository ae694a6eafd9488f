use Rattle.std.proofs.Common.{◌≡◌, ℕ}
use Rattle.snap_loading.specs.Mixed.{heap_mixed}
use Rattle.snap_loading.proofs.filling.fill.Given as goal

abbrev pub invariant-loop-number : goal.invariant-loop-number
invariant-loop-number l = (title : ℕ → ℕ → ℕ) → l.initial.arena ≡ heap_mixed l.lookup.library.now l.lookup.snapshot.now title 0 → l.arena ≡ heap_mixed l.lookup.library.now l.lookup.snapshot.now title l.number
