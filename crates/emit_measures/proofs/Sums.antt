-- Parts in a row, whose numbers are added.
use Rattle.std.proofs.Common.{◌≡◌, ℕ, ◌+◌, ◌<◌, ◌≤◌, List, [], ◌∷◌, length, drop, get_or, ap, ◌∙◌, arith}
use Rattle.std.specs.Prelude.{min}
use Rattle.std.proofs.lemmas.List.{drop_all}
use Rattle.emit_measures.specs.Limits.{saturated}
use Rattle.emit_measures.proofs.Rows.{top, drop_item}

-- each part has a number of its own, by the number from which it counts
pub record IsSum {X : Type 0} (f : List X → ℕ → ℕ) (g : X → List X → ℕ → ℕ) : Type 0 where
  pub more : (x : X) (xs : List X) (n : ℕ) → (m : ℕ) × (f (x ∷ xs) n ≡ g x xs n + f xs m)

-- the sum so far, and that of the rest
pub record Summed {X : Type 0} (f : List X → ℕ → ℕ) (all rest : List X) (h : ℕ) : Type 0 where
  pub few : h ≤ top
  pub at : (n : ℕ) → (m : ℕ) × (saturated (f all n) ≡ saturated (h + f rest m))

-- the greatest number is any one here
module _ (most : ℕ) where
  begun : (a : ℕ) → min a most ≡ min (0 + a) most
  begun a = omega arith

  step : (all h g rest r k : ℕ) → min all most ≡ min (h + (g + rest)) most → r ≡ min g most → k ≡ min (h + r) most → min all most ≡ min (k + rest) most
  step all h g rest r k e f i = omega arith

  ended : (all h none : ℕ) → h ≤ most → min all most ≡ min (h + none) most → none ≡ 0 → h ≡ min all most
  ended all h none l e z = omega arith

pub none_summed : {X : Type 0} (f : List X → ℕ → ℕ) (all : List X) → Summed f all all 0
none_summed f all = record { few = omega arith; at = λ n. (n, begun top (f all n)) }

pub one_here : {X : Type 0} {f : List X → ℕ → ℕ} {all : List X} {h : ℕ} (xs : List X) (i : ℕ) (x : X) (g : ℕ → ℕ) (r k : ℕ)
    → Summed f all (drop i xs) h → i < length xs → x ≡ get_or xs i x → ((n : ℕ) → (m : ℕ) × (f (x ∷ drop (i + 1) xs) n ≡ g n + f (drop (i + 1) xs) m))
    → ((n : ℕ) → r ≡ saturated (g n)) → k ≡ saturated (h + r) → Summed f all (drop (i + 1) xs) k
one_here {f = f} {all = all} {h = h} xs i x g r k s l is row own e = record {
  few = omega (arith, e);
  at = λ n.
      let so = s.at n in
      let next = row so.0 in
      let pieces : saturated (f all n) ≡ saturated (h + (g so.0 + f (drop (i + 1) xs) next.0)) =
      so.1 ∙ ap (λ z. saturated (h + f z so.0)) (drop_item xs i x l is) ∙ ap (λ z. saturated (h + z)) next.1 in
      (next.0, step top (f all n) h (g so.0) (f (drop (i + 1) xs) next.0) r k pieces (own so.0) e);
}

pub one_summed : {X : Type 0} {f : List X → ℕ → ℕ} {g : X → List X → ℕ → ℕ} {all : List X} {h : ℕ} (xs : List X) (i : ℕ) (x : X) (r k : ℕ)
    → IsSum f g → Summed f all (drop i xs) h → i < length xs → x ≡ get_or xs i x → ((n : ℕ) → r ≡ saturated (g x (drop (i + 1) xs) n)) → k ≡ saturated (h + r) → Summed f all (drop (i + 1) xs) k
one_summed {g = g} xs i x r k row s l is own e = one_here xs i x (g x (drop (i + 1) xs)) r k s l is (row.more x (drop (i + 1) xs)) own e

-- nothing is left
pub at_end : {X : Type 0} {f : List X → ℕ → ℕ} {all : List X} {h : ℕ} (xs : List X) (i : ℕ) → Summed f all (drop i xs) h → length xs ≤ i → (n : ℕ) → (m : ℕ) × (saturated (f all n) ≡ saturated (h + f [] m))
at_end {f = f} {h = h} xs i s l n = let so = s.at n in (so.0, so.1 ∙ ap (λ z. saturated (h + f z so.0)) (drop_all i xs l))

pub whole : {X : Type 0} {f : List X → ℕ → ℕ} {all : List X} {h : ℕ} (xs : List X) (i : ℕ) → Summed f all (drop i xs) h → length xs ≤ i → ((m : ℕ) → f [] m ≡ 0) → (n : ℕ) → h ≡ saturated (f all n)
whole {f = f} {all = all} {h = h} xs i s l none n = let so = at_end {f = f} {all = all} {h = h} xs i s l n in ended top (f all n) h (f [] so.0) s.few so.1 (none so.0)
