-- Calls that only judge their arguments.
use Rattle.std.proofs.Common.{◌≡◌, ◌≤◌, ℕ, List, [], map, length, Option, None, ap, ◌∙◌, arith}
use Rattle.std.proofs.lemmas.Bool.Decides.{nat_tests}
use Rattle.std.proofs.lemmas.List.{length-map}
use Rattle.mpy_base.specs.declared.builtin.Builtin.{Builtin}
use Rattle.mpy_base.specs.Val.{Val, Nil}
use Rattle.prim_types.specs.py_values.Shown.{PlainHeap}
use Rattle.prim_types.specs.py_primitives.Faults as plain
use Rattle.prim_types.specs.py_primitives.Outcome.{gives}
use Rattle.prim_types.specs.py_primitives.Calls.{Counts, Exactly, Between, counts_of, count_fault, unless_fault, called, call}

exactly_fine : (n given : ℕ) → given ≡ n → count_fault (Exactly n) given ≡ None
exactly_fine n given is = grind (arith, nat_tests)

between_fine : (least most given : ℕ) → least ≤ given → given ≤ most → count_fault (Between least most) given ≡ None
between_fine least most given low high = grind (arith, nat_tests)

module _ {A B : Type 0} (heap : PlainHeap) (b : Builtin) (f : A → Val) (p : B → Val × Val) (args : List A) (keys : List B) (none : keys ≡ []) (nothing : (h : PlainHeap) (given : List Val) → called h b given ≡ gives Nil h) where
  judged : (counts : Counts) → counts_of b ≡ counts → count_fault counts (length args) ≡ None → call heap b (map f args) (map p keys) ≡ gives Nil heap
  judged counts is fine =
      ap (λ (ks : List B). call heap b (map f args) (map p ks)) none
      ∙ (ap (λ (c : Counts). unless_fault heap (count_fault c (length (map f args))) (called heap b (map f args))) is
      ∙ (ap (λ (n : ℕ). unless_fault heap (count_fault counts n) (called heap b (map f args))) (length-map args f)
      ∙ (ap (λ (o : Option plain.Fault). unless_fault heap o (called heap b (map f args))) fine ∙ nothing heap (map f args))))

  pub judged_exactly : (n : ℕ) → counts_of b ≡ Exactly n → length args ≡ n → call heap b (map f args) (map p keys) ≡ gives Nil heap
  judged_exactly n is many = judged (Exactly n) is (exactly_fine n (length args) many)

  pub judged_between : (least most : ℕ) → counts_of b ≡ Between least most → least ≤ length args → length args ≤ most → call heap b (map f args) (map p keys) ≡ gives Nil heap
  judged_between least most is low high = judged (Between least most) is (between_fine least most (length args) low high)
