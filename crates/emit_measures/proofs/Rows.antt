-- Parts in a row, of which the greatest number counts.
use Rattle.std.proofs.Common.{◌≡◌, ℕ, suc, ◌+◌, ◌<◌, ◌≤◌, Bool, true, false, List, [], ◌∷◌, length, drop, get_or, refl, sym, ap, ◌∙◌, arith, add-one, length-drop}
use Rattle.std.specs.Prelude.{max, min, ◌==◌, ◌↔◌, IsTrue}
use Rattle.std.proofs.lemmas.Bool.{eqb-true, eq-eqb}
use Rattle.std.proofs.Math.Seq.{drop-cons}
use Rattle.std.proofs.lemmas.List.{drop_all}
use Rattle.emit_measures.specs.Limits.{saturated}
use Rattle.emit_measures.proofs.Numbers.{join, begun, closed, sum}

abbrev pub top : ℕ
top = 18446744073709551615

-- each part has a number of its own, by those behind it and the number from which it counts
pub record IsRow {X : Type 0} (f : List X → ℕ → ℕ) (g : X → List X → ℕ → ℕ) : Type 0 where
  pub more : (x : X) (xs : List X) (n : ℕ) → (m : ℕ) × (f (x ∷ xs) n ≡ max (g x xs n) (f xs m))

-- the greatest number so far, and that of the rest
pub record SoFar {X : Type 0} (f : List X → ℕ → ℕ) (all rest : List X) (h : ℕ) : Type 0 where
  pub at : (n : ℕ) → (m : ℕ) × (saturated (f all n) ≡ max h (saturated (f rest m)))

pub drop_item : {X : Type 0} (xs : List X) (i : ℕ) (x : X) → i < length xs → x ≡ get_or xs i x → drop i xs ≡ x ∷ drop (i + 1) xs
drop_item xs i x h is = drop-cons xs i x h ∙ ap (λ z. z ∷ drop (suc i) xs) (sym is) ∙ ap (λ n. x ∷ drop n xs) (sym (add-one i))

pub none_yet : {X : Type 0} (f : List X → ℕ → ℕ) (all : List X) → SoFar f all all 0
none_yet f all = record { at = λ n. (n, begun top (f all n)) }

pub one_here : {X : Type 0} {f : List X → ℕ → ℕ} {all : List X} {h : ℕ} (xs : List X) (i : ℕ) (x : X) (g : ℕ → ℕ) (r k : ℕ)
    → SoFar f all (drop i xs) h → i < length xs → x ≡ get_or xs i x → ((n : ℕ) → (m : ℕ) × (f (x ∷ drop (i + 1) xs) n ≡ max (g n) (f (drop (i + 1) xs) m)))
    → ((n : ℕ) → r ≡ saturated (g n)) → k ≡ max h r → SoFar f all (drop (i + 1) xs) k
one_here {f = f} {all = all} {h = h} xs i x g r k s l is row own e = record {
  at = λ n.
      let so = s.at n in
      let next = row so.0 in
      let pieces : saturated (f all n) ≡ max h (saturated (max (g so.0) (f (drop (i + 1) xs) next.0))) =
      so.1 ∙ ap (λ z. max h (saturated (f z so.0))) (drop_item xs i x l is) ∙ ap (λ z. max h (saturated z)) next.1 in
      (next.0, join top (saturated (f all n)) h k r (g so.0) (f (drop (i + 1) xs) next.0) pieces (own so.0) e);
}

pub one_more : {X : Type 0} {f : List X → ℕ → ℕ} {g : X → List X → ℕ → ℕ} {all : List X} {h : ℕ} (xs : List X) (i : ℕ) (x : X) (r k : ℕ)
    → IsRow f g → SoFar f all (drop i xs) h → i < length xs → x ≡ get_or xs i x → ((n : ℕ) → r ≡ saturated (g x (drop (i + 1) xs) n)) → k ≡ max h r → SoFar f all (drop (i + 1) xs) k
one_more {g = g} xs i x r k row s l is own e = one_here xs i x (g x (drop (i + 1) xs)) r k s l is (row.more x (drop (i + 1) xs)) own e

-- nothing is left
pub at_end : {X : Type 0} {f : List X → ℕ → ℕ} {all : List X} {h : ℕ} (xs : List X) (i : ℕ) → SoFar f all (drop i xs) h → length xs ≤ i → (n : ℕ) → (m : ℕ) × (saturated (f all n) ≡ max h (saturated (f [] m)))
at_end {f = f} {all = all} {h = h} xs i s l n = let so = s.at n in (so.0, so.1 ∙ ap (λ z. max h (saturated (f z so.0))) (drop_all i xs l))

pub whole : {X : Type 0} {f : List X → ℕ → ℕ} {all : List X} {h : ℕ} (xs : List X) (i : ℕ) → SoFar f all (drop i xs) h → length xs ≤ i → ((m : ℕ) → f [] m ≡ 0) → (n : ℕ) → h ≡ saturated (f all n)
whole {f = f} {all = all} {h = h} xs i s l none n = let so = at_end {f = f} {all = all} {h = h} xs i s l n in closed top (saturated (f all n)) h (f [] so.0) so.1 (none so.0)

-- how many are left behind one
pub left_behind : {X : Type 0} (xs : List X) (i left : ℕ) → left + (i + 1) ≡ length xs → left ≡ length (drop (i + 1) xs)
left_behind xs i left e = let d = length-drop (i + 1) xs in omega (arith, d, e)

-- ---- each over those in front of it

pub record Over {X : Type 0} (f : ℕ → List X → ℕ) (from : ℕ) (all rest : List X) (slots h : ℕ) : Type 0 where
  pub below : ℕ
  pub is : slots ≡ saturated below
  pub so_far : saturated (f from all) ≡ max h (saturated (f below rest))

-- each part has a number over `n` slots, and leaves `leaves` more
pub record IsPile {X : Type 0} (f : ℕ → List X → ℕ) (g : X → ℕ) (leaves : ℕ) : Type 0 where
  pub more : (x : X) (xs : List X) (n : ℕ) → f n (x ∷ xs) ≡ max (n + g x) (f (leaves + n) xs)

pub none_over : {X : Type 0} (f : ℕ → List X → ℕ) (from slots : ℕ) (all : List X) → slots ≡ saturated from → Over f from all all slots 0
none_over f from slots all e = record { below = from; is = e; so_far = begun top (f from all) }

pub one_over_at : {X : Type 0} {f : ℕ → List X → ℕ} {from slots h : ℕ} {all : List X} (xs : List X) (i : ℕ) (x : X) (a leaves r k next : ℕ)
    → (o : Over f from all (drop i xs) slots h) → i < length xs → x ≡ get_or xs i x → f o.below (x ∷ drop (i + 1) xs) ≡ max a (f (leaves + o.below) (drop (i + 1) xs))
    → r ≡ saturated a → k ≡ max h r → next ≡ min (slots + leaves) top → Over f from all (drop (i + 1) xs) next k
one_over_at {f = f} {from = from} {slots = slots} {h = h} {all = all} xs i x a leaves r k next o l is more own e n =
    let rest = drop (i + 1) xs in
    let pieces : saturated (f from all) ≡ max h (saturated (max a (f (leaves + o.below) rest))) =
    o.so_far ∙ ap (λ z. max h (saturated (f o.below z))) (drop_item xs i x l is) ∙ ap (λ z. max h (saturated z)) more in
    record {
      below = leaves + o.below;
      is = let s = o.is in omega arith;
      so_far = join top (saturated (f from all)) h k r a (f (leaves + o.below) rest) pieces own e;
    }

pub one_over : {X : Type 0} {f : ℕ → List X → ℕ} {g : X → ℕ} {leaves from slots h : ℕ} {all : List X} (xs : List X) (i : ℕ) (x : X) (r k next : ℕ)
    → IsPile f g leaves → Over f from all (drop i xs) slots h → i < length xs → x ≡ get_or xs i x → r ≡ saturated (g x) → k ≡ max h (min (slots + r) top) → next ≡ min (slots + leaves) top
    → Over f from all (drop (i + 1) xs) next k
one_over {g = g} {leaves = leaves} {slots = slots} xs i x r k next pile o l is own e n =
    one_over_at xs i x (o.below + g x) leaves (min (slots + r) top) k next o l is (pile.more x (drop (i + 1) xs) o.below) (sum top o.below (g x) slots r o.is own) e n

pub whole_over : {X : Type 0} {f : ℕ → List X → ℕ} {from slots h : ℕ} {all : List X} (xs : List X) (i : ℕ) → Over f from all (drop i xs) slots h → length xs ≤ i → ((m : ℕ) → f m [] ≡ 0) → h ≡ saturated (f from all)
whole_over {f = f} {from = from} {h = h} {all = all} xs i o l none =
    closed top (saturated (f from all)) h (f o.below []) (o.so_far ∙ ap (λ z. max h (saturated (f o.below z))) (drop_all i xs l)) (none o.below)

-- ---- what a double takes

abbrev pub many : {X : Type 0} → ℕ → List X → ℕ
many k [] = 0
many k (x ∷ xs) = k

pub doubled : {X : Type 0} (k : ℕ) (rest : List X) (left d : ℕ) → left ≡ length rest → (0 < left → d ≡ k) → (left ≡ 0 → d ≡ 0) → k ≤ top → d ≡ saturated (many k rest)
doubled k [] left d e some none h = let z : d ≡ 0 = none e in omega arith
doubled k (x ∷ rest) left d e some none h = let l : left ≡ suc (length rest) = e in let z : d ≡ k = some (omega arith) in omega arith

-- ---- empty lists

pub empty_slice : {X : Type 0} (xs : List X) (b : Bool) → b ≡ (length xs == 0) → b ≡ true → xs ≡ []
empty_slice [] b e h = refl
empty_slice (x ∷ xs) b e h = let none : length (x ∷ xs) ≡ 0 = eqb-true (length (x ∷ xs)) 0 (sym e ∙ h) in absurd (omega arith)

pub filled_slice : {X : Type 0} (xs : List X) (b : Bool) → b ≡ (length xs == 0) → b ≡ false → xs ≡ [] → ⊥
filled_slice xs b e h n =
    let full : (length xs == 0) ≡ true = eq-eqb (length xs) 0 (ap length n) in
    let clash : true ≡ false = sym full ∙ (sym e ∙ h) in
    cc

pub filled_items : {X : Type 0} (b : Bool) (xs : List X) → (IsTrue b ↔ (xs ≡ [])) → b ≡ false → xs ≡ [] → ⊥
filled_items b xs h e n = let clash : true ≡ false = sym (h.1 n) ∙ e in cc
