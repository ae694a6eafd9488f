-- The names of modules by their numbers.
use Rattle.std.specs.Prelude.{◌≡◌, ◌≤◌, ℕ, List, length, Option, Some, slice_get}
use Rattle.frame_moves.specs.arena_heap.declared.value.Value.{Value}
use Rattle.frame_moves.specs.arena_heap.declared.value.StrNo.{StrNo}
use Rattle.frame_moves.specs.arena_heap.declared.value.ConstNo.{ConstNo}
use Rattle.frame_moves.specs.prim_walks.Plain.{plain_name}
use Rattle.prim_modules.specs.Registry.{Registry}
use Rattle.frame_moves.specs.Shown.{Tables}
use Rattle.frame_exits.specs.declared.names.ModuleName.{ModuleName}

-- the tables tell of these texts and constant tuples, and of modules with these names
pub record AreTablesOf (texts : StrNo → Option (List ℕ)) (tuples : ConstNo → Option (List Value)) (names : List ModuleName) (tables : Tables) : Type 0 where
  pub texts_are : tables.texts ≡ texts
  pub tuples_are : tables.tuples ≡ tuples
  pub names_are : (number : ℕ) (m : ModuleName) → slice_get names number ≡ Some m → tables.module_name number ≡ plain_name texts tuples m.name

-- modules may be forgotten, and none is registered
pub record Forgets (old new : Registry) : Type 0 where
  pub room : new.room ≡ old.room
  pub fewer : length new.entries ≤ length old.entries
