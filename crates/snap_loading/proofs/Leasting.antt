-- A verified code has a least assignment: a walk comes to it.
use Rattle.std.proofs.Common.{◌≡◌, inl, inr, ℕ, zero, suc, ◌+◌, ◌<◌, ◌≤◌, List, [], ◌∷◌, length, Some, refl, sym, ◌∙◌, subst, arith}
use Rattle.std.specs.Prelude.{◌⊎◌}
use Rattle.bc_flow.specs.bc_shapes.Shape.{At}
use Rattle.bc_flow.specs.Code.{Code}
use Rattle.bc_flow.specs.Verified.{Assigned, Holds, Verified, IsLeastOf, Unseen, Pending, Done, Table, at, Visit, Bad, Good, visit, table_at, IsPending, here, later, Reached, starts, goes}
use Rattle.bc_flow.proofs.Decides.{at_visit, no_means, yes_means, stays_below, not_empty}
use Rattle.bc_flow.proofs.Puts.{weigh}
use Rattle.bc_flow.proofs.Visits.{visit_on, visited_lighter}

abbrev Waiting : Table → Type 0
Waiting t = (p : ℕ) × (x : At) × IsPending t p x

abbrev NoneWaits : Table → Type 0
NoneWaits t = (p : ℕ) (x : At) → IsPending t p x → ⊥

behind_unseen : (t : Table) → NoneWaits t → NoneWaits (Unseen ∷ t)
behind_unseen t f p x (later {p = q} h) = f q x h

behind_done : (y : At) (t : Table) → NoneWaits t → NoneWaits (Done y ∷ t)
behind_done y t f p x (later {p = q} h) = f q x h

none_at_all : NoneWaits []
none_at_all p x h = elim h [ ]

waiting : (t : Table) → Waiting t ⊎ NoneWaits t
waiting [] = inr none_at_all
waiting (Pending x ∷ t) = inl (0, x, here)
waiting (Unseen ∷ t) = by (waiting t)
  where
    by : Waiting t ⊎ NoneWaits t → Waiting (Unseen ∷ t) ⊎ NoneWaits (Unseen ∷ t)
    by (inl w) = inl (suc w.0, w.1, later w.2)
    by (inr f) = inr (behind_unseen t f)
waiting (Done y ∷ t) = by (waiting t)
  where
    by : Waiting t ⊎ NoneWaits t → Waiting (Done y ∷ t) ⊎ NoneWaits (Done y ∷ t)
    by (inl w) = inl (suc w.0, w.1, later w.2)
    by (inr f) = inr (behind_done y t f)

module _ (code : Code) (v : Verified code) where
  abbrev weight : Table → ℕ
  weight t = weigh (suc code.n_state) t

  next : (t : Table) (p : ℕ) (x : At) → Reached code t → IsPending t p x → (u : Table) × Reached code u × (weight u < weight t)
  next t p x r h = by (visit code t p x) refl
    where
      by : (w : Visit) → visit code t p x ≡ w → (u : Table) × Reached code u × (weigh (suc code.n_state) u < weigh (suc code.n_state) t)
      by (Bad rule) e = absurd (no_means code t p x rule r h e v)
      by (Good u) e = (u, goes r h e, visited_lighter code t p x u h (at_visit (visit code t p x) _ _ u e (visit_on code t p x)))

  abbrev Ended : Type 0
  Ended = (u : Table) × Reached code u × NoneWaits u

  walked : (n : ℕ) (t : Table) → Reached code t → weight t ≤ n → Ended
  walked zero t r le = by (waiting t)
    where
      by : Waiting t ⊎ NoneWaits t → Ended
      by (inl w) = let u = next t w.0 w.1 r w.2 in let lt = u.2 in absurd (omega (arith, lt, le))
      by (inr f) = (t, r, f)
  walked (suc n) t r le = by (waiting t) (λ u s lt. walked n u s (omega (arith, lt, le)))
    where
      by : Waiting t ⊎ NoneWaits t → ((u : Table) → Reached code u → weigh (suc code.n_state) u < weigh (suc code.n_state) t → Ended) → Ended
      by (inl w) on = let u = next t w.0 w.1 r w.2 in on u.0 u.1 u.2
      by (inr f) on = (t, r, f)

  pub least_of : (a : Assigned) × Holds code a × IsLeastOf code a
  least_of =
      let first = table_at (length code.actions) in
      let end = walked (weight first) first starts (omega arith) in
      (at end.0, yes_means code (not_empty code v) end.0 end.1 end.2, λ b h. stays_below code b h end.0 end.1)
