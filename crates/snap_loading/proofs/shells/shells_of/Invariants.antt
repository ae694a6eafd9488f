use Rattle.std.proofs.Common.{◌≡◌, ℕ, map, take, All}
use Rattle.arena_heap.specs.Building.{HasRoom, shell_object}
use Rattle.snap_states.specs.Decoded.{AreTitles}
use Rattle.snap_loading.specs.Shells.{shell_of}
use Rattle.snap_loading.proofs.shells.shells_of.Given as goal

abbrev pub invariant-loop-number : goal.invariant-loop-number
invariant-loop-number l = record {
  objects : (title : ℕ → ℕ → ℕ) → AreTitles l.lookup.library.now title → map shell_object l.shells.items ≡ map (shell_of l.lookup.library.now l.lookup.snapshot.now title) (take l.number l.lookup.snapshot.now.objects);
  rooms : All HasRoom l.shells.items;
}
