-- Parts of lists, and regions that lie apart.
use Rattle.std.proofs.Common.{ℕ, ◌+◌, ◌≤◌, ◌<◌, ◌≡◌, ◌≢◌, List, length, get_or, drop, sym, ◌∙◌, ap, subst, inl, inr, arith, length-drop}
use Rattle.std.proofs.lemmas.List.{length-take-le, get_or-take, get_or-drop, same_lists}
use Rattle.std.proofs.lemmas.Bool.{cases_eq}
use Rattle.arena_heap.specs.Cells.{part, In, Apart}

pub length-part : {X : Type 0} (xs : List X) (f s : ℕ) → f + s ≤ length xs → length (part xs f s) ≡ s
length-part xs f s h = length-take-le s (drop f xs) (omega (arith, length-drop f xs))

pub get_or-part : {X : Type 0} (xs : List X) (f s k : ℕ) (d : X) → k < s → get_or (part xs f s) k d ≡ get_or xs (f + k) d
get_or-part xs f s k d h = get_or-take s (drop f xs) k d h ∙ get_or-drop f xs k d

-- a part where nothing was written is the same
pub part_same : {X : Type 0} (xs ys : List X) (f s : ℕ) → f + s ≤ length xs → f + s ≤ length ys
    → ((c : ℕ) (d : X) → In f s c → get_or ys c d ≡ get_or xs c d) → part ys f s ≡ part xs f s
part_same xs ys f s hx hy same =
    same_lists _ _ (length-part ys f s hy ∙ sym (length-part xs f s hx))
    (λ k d h.
    let e = length-part ys f s hy in
    let k_low : k < s = omega arith in
    get_or-part ys f s k d k_low ∙ (same (f + k) d (record { low = omega arith; high = omega arith }) ∙ sym (get_or-part xs f s k d k_low)))

pub in_same : {f g s t c : ℕ} → f ≡ g → s ≡ t → In f s c → In g t c
in_same a b p = record { low = omega arith; high = omega arith }

-- one region moves to a place that is free or its own
pub apart_set : (f s g t : ℕ → ℕ) (limit n a z : ℕ) → Apart f s limit → g n ≡ a → t n ≡ z
    → ((k : ℕ) → k ≢ n → (g k ≡ f k) × (t k ≡ s k)) → a + z ≤ limit
    → ((m c : ℕ) → In a z c → In (f m) (s m) c → m ≡ n) → Apart g t limit
apart_set f s g t limit n a z old at_a at_z other inside free =
    record {
      inside = λ k. elim (cases_eq k n) [
        | inl e ↦ subst (λ (j : ℕ). g j + t j ≤ limit) (sym e) (omega arith)
        | inr ne ↦ let q : (g k ≡ f k) × (t k ≡ s k) = other k ne in omega (arith, old.inside k, q.0, q.1)
      ];
      apart = λ x y c p q.
          elim (cases_eq x n) [
            | inl ex ↦ elim (cases_eq y n) [
              | inl ey ↦ ex ∙ sym ey
              | inr ny ↦ ex ∙ sym (free y c (in_same (ap g ex ∙ at_a) (ap t ex ∙ at_z) p) (in_same ((other y ny).0) ((other y ny).1) q))
            ]
            | inr nx ↦ elim (cases_eq y n) [
              | inl ey ↦ free x c (in_same (ap g ey ∙ at_a) (ap t ey ∙ at_z) q) (in_same ((other x nx).0) ((other x nx).1) p) ∙ sym ey
              | inr ny ↦ old.apart x y c (in_same ((other x nx).0) ((other x nx).1) p) (in_same ((other y ny).0) ((other y ny).1) q)
            ]
          ];
    }

pub apart_more : (f s : ℕ → ℕ) (limit more : ℕ) → Apart f s limit → limit ≤ more → Apart f s more
apart_more f s limit more a h = record { inside = λ n. omega (arith, a.inside n); apart = a.apart }
