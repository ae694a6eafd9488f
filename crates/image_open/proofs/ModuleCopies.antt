-- Lists that are copied one element after another.
use Rattle.std.proofs.Common.{◌≡◌, ℕ, ◌+◌, ◌<◌, ◌≤◌, List, [], ◌∷◌, ◌++◌, length, get_or, take, Some, sym, ap, ◌∙◌}
use Rattle.std.specs.Prelude.{slice_get}
use Rattle.std.proofs.lemmas.List.{take_more, take_all}
use Rattle.std.proofs.lemmas.Option.{slice_get-get_or}

pub next_copied : {A : Type 0} (all copies new : List A) (i : ℕ) (x copy : A) → i < length all → x ≡ get_or all i x → copy ≡ x → new ≡ copies ++ copy ∷ [] → copies ≡ take i all → new ≡ take (i + 1) all
next_copied {A} all copies new i x copy lt is same push so_far =
    push ∙ (ap (λ (z : List A). z ++ copy ∷ []) so_far ∙ (ap (λ (z : A). take i all ++ z ∷ []) (same ∙ is) ∙ sym (take_more all i x lt)))

pub all_copied : {A : Type 0} (all copies : List A) (i : ℕ) → length all ≤ i → copies ≡ take i all → copies ≡ all
all_copied all copies i le so_far = so_far ∙ take_all i all le

pub at_place : {A : Type 0} (xs : List A) (i : ℕ) (x : A) → i < length xs → x ≡ get_or xs i x → slice_get xs i ≡ Some x
at_place {A} xs i x lt is = slice_get-get_or xs i x lt ∙ ap (λ (z : A). Some z) (sym is)
