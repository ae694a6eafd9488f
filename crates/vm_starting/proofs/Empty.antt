-- Where nothing was fetched yet.
use Rattle.std.proofs.Common.{◌≡◌, ℕ, List, All, Option, None, Some, slice_get, replicate, refl, sym, subst, ◌∙◌}
use Rattle.std.specs.Prelude.{option_and_then}
use Rattle.std.proofs.lemmas.List.Elements.{All-replicate, All-get_or}
use Rattle.std.proofs.lemmas.Option.{none-some, slice_get_within, get_or_from_slice_get}
use Rattle.vm_states.specs.bc_library.Shelf.{Shelf}
use Rattle.vm_states.specs.vm_fetching.declared.instruction.Fetched.{Fetched}
use Rattle.vm_starting.specs.Kept.{Kept, AreFetched, is_empty, code_in, place_in}

-- what is of all is of the one in a place
all_at : {X : Type 0} (P : X → Type 0) (xs : List X) (i : ℕ) (x : X) → All P xs → slice_get xs i ≡ Some x → P x
all_at P xs i x h e = subst P (get_or_from_slice_get xs i x x e) (All-get_or P xs i x (slice_get_within xs i x e) h)

pub new_empty : (n : ℕ) → is_empty (replicate n None)
new_empty n = All-replicate (λ place. place ≡ None) n None refl

-- what follows something follows from it
pub some_of : {A B : Type 0} (next : A → Option B) (o : Option A) (b : B) → option_and_then next o ≡ Some b → (a : A) × (o ≡ Some a) × (next a ≡ Some b)
some_of next None b e = absurd (none-some b e)
some_of next (Some a) b e = (a, refl, e)

pub none_kept : (shelf : Shelf) (kept : Kept) → All (All is_empty) kept → AreFetched shelf kept
none_kept shelf kept empty i k at f e =
    let codes = some_of (λ (codes : List (List (Option Fetched))). code_in codes k at) (slice_get kept i) f e in
    let places = some_of (λ (places : List (Option Fetched)). place_in places at) (slice_get codes.0 k) f codes.2 in
    let place = some_of (λ (place : Option Fetched). place) (slice_get places.0 at) f places.2 in
    let none = all_at (λ (place : Option Fetched). place ≡ None) places.0 at place.0 (all_at is_empty codes.0 k places.0 (all_at (All is_empty) kept i codes.0 empty codes.1) places.1) place.1 in
    absurd (none-some f (sym none ∙ place.2))
