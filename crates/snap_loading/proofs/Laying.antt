-- An arena of a snapshot's shells is the snapshot's heap of which nothing is filled.
use Rattle.std.proofs.Common.{◌≡◌, ℕ, ◌-◌, ◌≤◌, List, ◌++◌, length, map, replicate, Option, Some, None, refl, sym, ap, ◌∙◌, subst, arith, All, slice_get}
use Rattle.std.specs.List.{flat_map, sum_by}
use Rattle.std.proofs.lemmas.List.Elements.{All-from_recursion, All-nil, All-cons}
use Rattle.mpy_base.specs.declared.room.Room.{Room}
use Rattle.mpy_base.specs.World.{Heap}
use Rattle.mpy_base.specs.Weights.{bytes_of, cells_of}
use Rattle.arena_heap.specs.declared.building.Shell.{Shell}
use Rattle.arena_heap.specs.declared.value.Value.{Value}
use Rattle.arena_heap.specs.Building.{all_laid, heap_with, shell_object}
use Rattle.arena_heap.specs.Values.{ArenaObject, Sound}
use Rattle.arena_heap.proofs.Shells.{length-all_laid}
use Rattle.bc_library.specs.Shelf.{Shelf}
use Rattle.snap_grammar.specs.declared.parts.Snapshot.{Snapshot}
use Rattle.snap_states.specs.Parts.{bytes_of_parts, cells_of_parts}
use Rattle.snap_states.specs.States.{HasRoom}
use Rattle.snap_loading.specs.Mixed.{heap_mixed}
use Rattle.snap_loading.specs.Shells.{shell_of}
use Rattle.snap_loading.proofs.Hollowing.{shell_bytes, shell_cells}
use Rattle.snap_loading.proofs.Mixing.{heap_begun}

-- the cells and bytes of a snapshot, and what is used of them
abbrev pub size_in : Snapshot → Room
size_in s = record { cells = s.cells; bytes = s.bytes }

abbrev pub used_in : Snapshot → Room
used_in s = record { cells = s.used_cells; bytes = s.used_bytes }

module _ (shelf : Shelf) (s : Snapshot) (title : ℕ → ℕ → ℕ) (os : List ArenaObject) (same : os ≡ map (shell_of shelf s title) s.objects) where
  long : length (all_laid os) ≡ cells_of_parts s.objects
  long = length-all_laid os ∙ (ap (sum_by cells_of) same ∙ shell_cells shelf s title s.objects)

  abbrev heap_over : List (Option ArenaObject) → Heap Value ℕ
  heap_over zs = record { objects = zs; bytes = s.used_bytes; cell_size = s.cells; byte_size = s.bytes }

  pub heap_laid : heap_with os (used_in s) (size_in s) ≡ heap_mixed shelf s title 0
  heap_laid =
      ap (λ (k : ℕ). heap_over (all_laid os ++ replicate (s.used_cells - k) None)) long
      ∙ (ap (λ (zs : List ArenaObject). heap_over (all_laid zs ++ replicate (s.used_cells - cells_of_parts s.objects) None)) same
      ∙ sym (heap_begun shelf s title))

  pub sound_laid : ((k : ℕ) → Sound (all_laid (map (shell_of shelf s title) s.objects) ++ replicate k None)) → Sound (heap_with os (used_in s) (size_in s)).objects
  sound_laid h = subst (λ (zs : List ArenaObject). Sound (all_laid zs ++ replicate (s.used_cells - length (all_laid os)) None)) (sym same) (h (s.used_cells - length (all_laid os)))

  pub cells_laid : HasRoom s → sum_by cells_of os ≤ s.used_cells
  cells_laid room = let e : sum_by cells_of os ≡ cells_of_parts s.objects = ap (sum_by cells_of) same ∙ shell_cells shelf s title s.objects in let held = room.cells_held in omega (arith, e, held)

  pub bytes_laid : HasRoom s → sum_by bytes_of os ≤ s.used_bytes
  bytes_laid room = let e : sum_by bytes_of os ≡ bytes_of_parts s.objects = ap (sum_by bytes_of) same ∙ shell_bytes shelf s title s.objects in let held = room.bytes_held in omega (arith, e, held)

-- the cells of a snapshot's objects are few
pub few_cells : (s : Snapshot) → HasRoom s → cells_of_parts s.objects ≤ 4194304
few_cells s room = let a = room.cells_held in let b = room.cells in let d = room.few_cells in omega (arith, a, b, d)
