-- What was fetched of a library's codes.
use Rattle.std.specs.Prelude.{◌≡◌, ℕ, List, Option, Some, None, All, option_and_then, slice_get, slice_set}
use Rattle.vm_states.specs.bc_library.Shelf.{Shelf}
use Rattle.vm_states.specs.bc_rows.declared.row.Row.{Row}
use Rattle.vm_states.specs.bc_rows.Rows.{IsRow}
use Rattle.vm_states.specs.vm_fetching.declared.instruction.Fetched.{Fetched}
use Rattle.vm_states.specs.Ready.{IsFetched}

-- for each module, for each of its codes, what was fetched by the offsets of its bytes
abbrev pub Kept : Type 0
Kept = List (List (List (Option Fetched)))

-- what was kept at an offset of a code
abbrev pub place_in : List (Option Fetched) → (offset : ℕ) → Option Fetched
place_in places offset = option_and_then (λ place. place) (slice_get places offset)

-- what was kept at an offset of a module's code
abbrev pub code_in : List (List (Option Fetched)) → (code offset : ℕ) → Option Fetched
code_in codes code offset = option_and_then (λ places. place_in places offset) (slice_get codes code)

-- what was kept at an offset of a code of a module
abbrev pub kept_at : Kept → (module_number code offset : ℕ) → Option Fetched
kept_at kept module_number code offset = option_and_then (λ codes. code_in codes code offset) (slice_get kept module_number)

-- nothing was kept of the code
abbrev pub is_empty : List (Option Fetched) → Type 0
is_empty places = All (λ place. place ≡ None) places

-- the element at a place changes, if there is one
abbrev pub update_by : {A : Type 0} → List A → ℕ → (A → A) → Option A → List A
update_by xs i change None = xs
update_by xs i change (Some x) = slice_set xs i (change x)

-- the list with the element at a place changed
abbrev pub update_at : {A : Type 0} → List A → ℕ → (A → A) → List A
update_at xs i change = update_by xs i change (slice_get xs i)

-- what is kept with this at that place
abbrev pub with_kept : Kept → (module_number code offset : ℕ) → Fetched → Kept
with_kept kept module_number code offset fetched =
    update_at kept module_number (λ codes. update_at codes code (λ places. slice_set places offset (Some fetched)))

-- this is fetched at the offset of a row of the code
pub record IsFetchedOf (shelf : Shelf) (module_number code offset : ℕ) (fetched : Fetched) : Type 0 where
  pub row : Row
  pub is_row : IsRow shelf module_number code row
  pub is_fetched : IsFetched shelf module_number row offset fetched

-- all that is kept is what is fetched at its place
abbrev pub AreFetched : Shelf → Kept → Type 0
AreFetched shelf kept =
    (module_number code offset : ℕ) (fetched : Fetched) → kept_at kept module_number code offset ≡ Some fetched
    → IsFetchedOf shelf module_number code offset fetched
