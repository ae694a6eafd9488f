-- The text of a name.
use Rattle.std.proofs.Common.{◌≡◌, ℕ, ◌<◌, List, length, Option, Some, None, refl, ap, ◌∙◌}
use Rattle.std.specs.Prelude.{slice_get, option_and_then, IsSome, is_some}
use Rattle.bc_rows.specs.mpy_tree.Raw as raw
use Rattle.bc_rows.specs.mpy_tree.Raw.{Module}
use Rattle.bc_rows.specs.mpy_tree.File.{IsModule}
use Rattle.bc_rows.specs.mpy_tree.Resolved.{name_at}
use Rattle.bc_rows.specs.bc_library.Shelf.{Shelf, module_at, entry_at, table_text}
use Rattle.bc_rows.proofs.bc_library_lemmas.Files.{fine_qstrs}
use Rattle.bc_rows.proofs.bc_library_lemmas.Pools as pools
use Rattle.vm_fetching.proofs.Constants.{at_index}

pub entry_there : (shelf : Shelf) (i : ℕ) (m : Module) (n : ℕ) → module_at shelf i ≡ Some m → n < length m.qstrs → IsSome (entry_at shelf i n)
entry_there shelf i m n there lt =
    let q = at_index m.qstrs n lt in
    ap (λ o. is_some (option_and_then (λ (z : Module). slice_get z.qstrs n) o)) there ∙ ap is_some q.1

pub same_text : (shelf : Shelf) (i : ℕ) (m : Module) (n : ℕ) → module_at shelf i ≡ Some m → table_text shelf i n ≡ name_at m n
same_text shelf i m n there = ap (λ o. option_and_then raw.text_of (option_and_then (λ (z : Module). slice_get z.qstrs n) o)) there

or_none : {P : Type 0} (o : Option (List ℕ)) → ((t : List ℕ) → o ≡ Some t → P) → (o ≡ None → P) → P
or_none (Some t) f g = f t refl
or_none None f g = g refl

pub text_there : (m : Module) (n : ℕ) → IsModule m → n < length m.qstrs → (t : List ℕ) × (name_at m n ≡ Some t)
text_there m n is lt =
    let q = at_index m.qstrs n lt in
    or_none (raw.text_of q.0) (λ t e. (t, ap (option_and_then raw.text_of) q.1 ∙ e)) (λ e. absurd (pools.entry_there q.0 (fine_qstrs m is n q.0 q.1) e))
