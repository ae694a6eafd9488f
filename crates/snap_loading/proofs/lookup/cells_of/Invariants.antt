use Rattle.std.proofs.Common.{◌≡◌, ◌<◌, ℕ, length, take, Some}
use Rattle.std.specs.Prelude.{slice_get}
use Rattle.snap_states.specs.Parts.{cell_of, cells_of_parts}
use Rattle.snap_loading.proofs.lookup.cells_of.Given as goal

abbrev pub invariant-loop-object : goal.invariant-loop-object
invariant-loop-object l = record {
  next : l.next ≡ cells_of_parts (take l.object-index l.objects);
  long : length l.cells.items ≡ l.object-index;
  each : (n : ℕ) → n < l.object-index → slice_get l.cells.items n ≡ Some (cell_of l.objects n);
}
