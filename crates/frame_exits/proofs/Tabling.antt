-- Tables that are put together of their parts.
use Rattle.std.proofs.Common.{◌≡◌, ℕ, List, Option, Some, slice_get, sym, subst}
use Rattle.frame_moves.specs.arena_heap.declared.value.Value.{Value}
use Rattle.frame_moves.specs.arena_heap.declared.value.StrNo.{StrNo}
use Rattle.frame_moves.specs.arena_heap.declared.value.ConstNo.{ConstNo}
use Rattle.frame_moves.specs.bc_machine.Library.{Name}
use Rattle.frame_moves.specs.prim_walks.Plain.{plain_name}
use Rattle.frame_moves.specs.Shown.{Tables}
use Rattle.frame_exits.specs.declared.names.ModuleName.{ModuleName}
use Rattle.frame_exits.specs.Names.{AreTablesOf}

-- what holds of tables that are put together of these texts and tuples holds of all tables of them
pub by_parts : (texts : StrNo → Option (List ℕ)) (tuples : ConstNo → Option (List Value)) (P : Tables → Type 0)
    → ((module_name : ℕ → Name) (starts : ℕ → ℕ → List ℕ) → P (record { texts = texts; tuples = tuples; module_name = module_name; starts = starts }))
    → (tables : Tables) → tables.texts ≡ texts → tables.tuples ≡ tuples → P tables
by_parts texts tuples P f tables texts_are tuples_are =
    let one : P (record { texts = texts; tuples = tuples; module_name = tables.module_name; starts = tables.starts }) = f tables.module_name tables.starts in
    let two : P (record { texts = tables.texts; tuples = tuples; module_name = tables.module_name; starts = tables.starts }) =
    subst (λ (z : StrNo → Option (List ℕ)). P (record { texts = z; tuples = tuples; module_name = tables.module_name; starts = tables.starts })) (sym texts_are) one in
    subst (λ (z : ConstNo → Option (List Value)). P (record { texts = tables.texts; tuples = z; module_name = tables.module_name; starts = tables.starts })) (sym tuples_are) two

abbrev Named : (StrNo → Option (List ℕ)) → (ConstNo → Option (List Value)) → List ModuleName → (ℕ → Name) → Type 0
Named texts tuples names module_name = (number : ℕ) (m : ModuleName) → slice_get names number ≡ Some m → module_name number ≡ plain_name texts tuples m.name

-- the same with the modules' names
pub by_tables : (texts : StrNo → Option (List ℕ)) (tuples : ConstNo → Option (List Value)) (names : List ModuleName) (P : Tables → Type 0)
    → ((module_name : ℕ → Name) (starts : ℕ → ℕ → List ℕ) → Named texts tuples names module_name
    → P (record { texts = texts; tuples = tuples; module_name = module_name; starts = starts }))
    → (tables : Tables) → AreTablesOf texts tuples names tables → P tables
by_tables texts tuples names P f tables are =
    by_parts texts tuples (λ (t : Tables). Named texts tuples names t.module_name → P t) (λ module_name starts named. f module_name starts named) tables are.texts_are are.tuples_are are.names_are
