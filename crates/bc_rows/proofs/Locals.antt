-- The locals of a code, one instruction after another.
use Rattle.std.proofs.Common.{◌≡◌, ℕ, zero, suc, refl, ◌+◌, ◌<◌, List, [], ◌∷◌, ◌++◌, length, take, get_or, sym, ap, ◌∙◌, arith}
use Rattle.std.specs.Prelude.{max}
use Rattle.std.proofs.lemmas.List.{take_more}
use Rattle.bc_machine.specs.bc_ops.declared.listing.Item.{Item}
use Rattle.bc_library.specs.bc_flow.Code.{item_locals, locals}

other_way : (m n : ℕ) → max m n ≡ max n m
other_way m n = omega arith

together : (l m n : ℕ) → max l (max m n) ≡ max (max l m) n
together l m n = omega arith

locals_push : (params : ℕ) (xs : List Item) (y : Item) → locals params (xs ++ y ∷ []) ≡ max (locals params xs) (item_locals y)
locals_push params [] y = other_way (item_locals y) params
locals_push params (x ∷ xs) y = ap (max (item_locals x)) (locals_push params xs y) ∙ together (item_locals x) (locals params xs) (item_locals y)

locals_more : (params : ℕ) (items : List Item) (k most : ℕ) (y : Item) → k < length items → y ≡ get_or items k y → most ≡ locals params (take k items) → max most (item_locals y) ≡ locals params (take (k + 1) items)
locals_more params items k most y lt is e =
    let further : take (k + 1) items ≡ take k items ++ y ∷ [] = take_more items k y lt ∙ ap (λ z. take k items ++ z ∷ []) (sym is) in
    ap (λ n. max n (item_locals y)) e ∙ (sym (locals_push params (take k items) y) ∙ ap (locals params) (sym further))

same_at : (items : List Item) (k : ℕ) (d e : Item) → k < length items → get_or items k d ≡ get_or items k e
same_at [] k d e lt = absurd (omega (arith, lt))
same_at (x ∷ items) zero d e lt = refl
same_at (x ∷ items) (suc k) d e lt = same_at items k d e (omega (arith, lt))

pub locals_next : (params : ℕ) (items : List Item) (k most : ℕ) (d : Item) → k < length items → most ≡ locals params (take k items) → max most (item_locals (get_or items k d)) ≡ locals params (take (k + 1) items)
locals_next params items k most d lt e = locals_more params items k most (get_or items k d) lt (same_at items k d (get_or items k d) lt) e
