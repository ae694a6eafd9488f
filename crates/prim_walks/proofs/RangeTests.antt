-- Whether two ranges give the same numbers, in the numbers of the code.
use Rattle.std.proofs.Common.{◌≡◌, ℕ, ℤ, Bool, true, false, ◌&&◌, ◌||◌, nat_eq, w32, to_z, of_z, sym, ap, ◌∙◌, arith}
use Rattle.std.specs.Ordering.{int_eq}
use Rattle.arena_objects.specs.arena_heap.Values.{IsSmall}
use Rattle.arena_objects.proofs.RangeNumbers.{small_same, len_same}
use Rattle.py_primitives.specs.py_values.Shown.{range_len, is_same_range}

abbrev pub wrap : ℤ → ℤ
wrap z = to_z w32 (of_z w32 z)

eq_yes : (m n : ℕ) → m ≡ n → nat_eq m n ≡ true
eq_yes m n h = grind arith

eq_no : (m n : ℕ) → (m ≡ n → ⊥) → nat_eq m n ≡ false
eq_no m n h = grind arith

abbrev tested : ℕ → ℕ → Bool → Bool → Bool
tested n m s t = nat_eq n m && (nat_eq n 0 || (s && (nat_eq n 1 || t)))

-- counts and tests over wrapped numbers
pub one_range : (start stop step first last way : ℤ) (count other : ℕ) (s t r : Bool) → IsSmall start → IsSmall stop → IsSmall step → IsSmall first → IsSmall last → IsSmall way
    → count ≡ range_len (wrap start) (wrap stop) (wrap step) → other ≡ range_len (wrap first) (wrap last) (wrap way) → s ≡ int_eq (wrap start) (wrap first) → t ≡ int_eq (wrap step) (wrap way)
    → r ≡ (nat_eq count 0 || (s && (nat_eq count 1 || t))) → (nat_eq count other && r) ≡ is_same_range start stop step first last way
one_range start stop step first last way count other s t r is_start is_stop is_step is_first is_last is_way e f g h i =
    let n = range_len start stop step in
    let m = range_len first last way in
    let e' : count ≡ n = e ∙ len_same start stop step is_start is_stop is_step in
    let f' : other ≡ m = f ∙ len_same first last way is_first is_last is_way in
    let g' : s ≡ int_eq start first = g ∙ (ap (λ (z : ℤ). int_eq z (wrap first)) (small_same start is_start) ∙ ap (int_eq start) (small_same first is_first)) in
    let h' : t ≡ int_eq step way = h ∙ (ap (λ (z : ℤ). int_eq z (wrap way)) (small_same step is_step) ∙ ap (int_eq step) (small_same way is_way)) in
    ap (λ (b : Bool). nat_eq count other && b) i
    ∙ (ap (λ (k : ℕ). tested k other s t) e' ∙ (ap (λ (k : ℕ). tested n k s t) f' ∙ (ap (λ (b : Bool). tested n m b t) g' ∙ ap (λ (b : Bool). tested n m (int_eq start first) b) h')))

pub same_counts : (count other : ℕ) (r same : Bool) → count ≡ other → (nat_eq count other && r) ≡ same → r ≡ same
same_counts count other r same e h = sym (ap (λ (b : Bool). b && r) (eq_yes count other e)) ∙ h

pub other_counts : (count other : ℕ) (r same : Bool) → (count ≡ other → ⊥) → (nat_eq count other && r) ≡ same → nat_eq count other ≡ same
other_counts count other r same ne h = let q = eq_no count other ne in q ∙ (sym (ap (λ (b : Bool). b && r) q) ∙ h)

pub unwrapped : (a b c d e f : ℤ) → IsSmall a → IsSmall b → IsSmall c → IsSmall d → IsSmall e → IsSmall f → is_same_range (wrap a) (wrap b) (wrap c) (wrap d) (wrap e) (wrap f) ≡ is_same_range a b c d e f
unwrapped a b c d e f p q r s t u =
    ap (λ (z : ℤ). is_same_range z (wrap b) (wrap c) (wrap d) (wrap e) (wrap f)) (small_same a p)
    ∙ (ap (λ (z : ℤ). is_same_range a z (wrap c) (wrap d) (wrap e) (wrap f)) (small_same b q)
    ∙ (ap (λ (z : ℤ). is_same_range a b z (wrap d) (wrap e) (wrap f)) (small_same c r)
    ∙ (ap (λ (z : ℤ). is_same_range a b c z (wrap e) (wrap f)) (small_same d s)
    ∙ (ap (λ (z : ℤ). is_same_range a b c d z (wrap f)) (small_same e t) ∙ ap (λ (z : ℤ). is_same_range a b c d e z) (small_same f u)))))
