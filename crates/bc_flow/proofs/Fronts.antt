-- What is pending after something arrived.
use Rattle.std.proofs.Common.{◌≡◌, ◌⊎◌, ℕ, zero, suc, [], ◌∷◌, Option, Some, None, refl, ap, inl, inr}
use Rattle.std.specs.Prelude.{option_map, Bool, true, false}
use Rattle.std.specs.Bool.{OnFalse}
use Rattle.bc_shapes.specs.Shape.{At}
use Rattle.bc_shapes.proofs.Joins.{On}
use Rattle.bc_flow.specs.Verified.{Cell, Table, put, done_at, meet, IsPending, here, later}
use Rattle.bc_flow.proofs.Puts.{on_map}

pub done_before : (t : Table) (p : ℕ) (x : At) (q : ℕ) (y : At) → IsPending (done_at t p x) q y → IsPending t q y
done_before [] p x q y h = h
done_before (c ∷ t) zero x q y (later h) = later h
done_before (c ∷ t) (suc p) x q y here = here
done_before (c ∷ t) (suc p) x q y (later {p = r} h) = later (done_before t p x r y h)

head_put : (c d : Cell) (t : Table) (q : ℕ) (y : At) → IsPending (d ∷ t) q y → (q ≡ 0) ⊎ IsPending (c ∷ t) q y
head_put c d t q y here = inl refl
head_put c d t q y (later h) = inr (later h)

tail_put : (c : Cell) (t u : Table) (n : ℕ) → ((q : ℕ) (y : At) → IsPending u q y → (q ≡ n) ⊎ IsPending t q y) → (q : ℕ) (y : At) → IsPending (c ∷ u) q y → (q ≡ suc n) ⊎ IsPending (c ∷ t) q y
tail_put c t u n f q y here = inr here
tail_put c t u n f q y (later {p = r} h) = elim (f r y h) [ inl e ↦ inl (ap suc e) | inr w ↦ inr (later w) ]

-- what is pending afterwards was so before, or is where something arrived
abbrev pub Adds : Table → ℕ → Table → Type 0
Adds t n u = (q : ℕ) (y : At) → IsPending u q y → (q ≡ n) ⊎ IsPending t q y

pub put_adds : (t : Table) (n : ℕ) (x : At) → On (put t n x) (Adds t n)
put_adds [] n x = tt
put_adds (c ∷ t) zero x = by_meet (meet c x)
  where
    by_meet : (o : Option Cell) → On (option_map (λ d. d ∷ t) o) (Adds (c ∷ t) 0)
    by_meet None = tt
    by_meet (Some d) = head_put c d t
put_adds (c ∷ t) (suc n) x = on_map (put t n x) (λ u. c ∷ u) (Adds t n) (Adds (c ∷ t) (suc n)) (λ u f. tail_put c t u n f) (put_adds t n x)

pub on_false : (b : Bool) (P : Type 0) → P → OnFalse b P
on_false true P h = tt
on_false false P h = h
