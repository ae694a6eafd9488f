-- Slots and kinds, one after another.
use Rattle.std.proofs.Common.{◌≡◌, ℕ, zero, suc, ◌+◌, ◌<◌, ◌≤◌, Bool, true, false, ◌&&◌, List, [], ◌∷◌, length, ◌-◌, get_or, drop, refl, sym, ap, ◌∙◌, arith}
use Rattle.std.proofs.lemmas.List.{drop_all, length-map}
use Rattle.bc_shapes.specs.declared.kinds.Kind.{Kind}
use Rattle.bc_shapes.proofs.Loops.{drop_uncons}
use Rattle.bc_flow.specs.Machine.{cut}
use Rattle.snap_states.specs.declared.slot.Slot.{Slot}
use Rattle.snap_states.specs.Stacks.{slot_as, stack_as, fits_kind, fit_kinds}

pub kinds_step : (st : List Slot) (ks : List Kind) (i : ℕ) (s : Slot) (k : Kind) → i < length st → i < length ks → s ≡ get_or st i s → k ≡ get_or ks i k → fit_kinds (stack_as (drop i st)) (drop i ks) ≡ (fits_kind (slot_as s) k && fit_kinds (stack_as (drop (i + 1) st)) (drop (i + 1) ks))
kinds_step st ks i s k a b p q = ap (λ z. fit_kinds (stack_as z) (drop i ks)) (drop_uncons st i s a p) ∙ ap (λ z. fit_kinds (stack_as (s ∷ drop (i + 1) st)) z) (drop_uncons ks i k b q)

pub kinds_end : (st : List Slot) (ks : List Kind) (i : ℕ) → length st ≤ i → length ks ≤ i → fit_kinds (stack_as (drop i st)) (drop i ks) ≡ true
kinds_end st ks i a b = ap (λ z. fit_kinds (stack_as z) (drop i ks)) (drop_all i st a) ∙ ap (fit_kinds []) (drop_all i ks b)

pub kinds_differ : (st : List Slot) (ks : List Kind) → (length st ≡ length ks → ⊥) → false ≡ fit_kinds (stack_as st) ks
kinds_differ [] [] f = absurd (f refl)
kinds_differ [] (k ∷ ks) f = refl
kinds_differ (s ∷ st) [] f = refl
kinds_differ (s ∷ st) (k ∷ ks) f = sym (and_false (fits_kind (slot_as s) k) (fit_kinds (stack_as st) ks) (sym (kinds_differ st ks (λ p. f (ap suc p)))))
  where
    and_false : (a b : Bool) → b ≡ false → (a && b) ≡ false
    and_false true b h = h
    and_false false b h = refl

drop_as : (n : ℕ) (xs : List Slot) → stack_as (drop n xs) ≡ drop n (stack_as xs)
drop_as zero xs = refl
drop_as (suc n) [] = refl
drop_as (suc n) (x ∷ xs) = drop_as n xs

pub lowest_some : (xs : List Slot) (h : ℕ) → stack_as (drop (length xs - h) xs) ≡ cut h (stack_as xs)
lowest_some xs h = drop_as (length xs - h) xs ∙ ap (λ n. drop (n - h) (stack_as xs)) (sym (length-map xs slot_as))

pub lowest_all : (xs : List Slot) (h : ℕ) → length xs ≤ h → stack_as xs ≡ cut h (stack_as xs)
lowest_all xs h le = ap (λ n. drop n (stack_as xs)) (let e : zero ≡ length (stack_as xs) - h = let same = length-map xs slot_as in omega (arith, same, le) in e)
