-- Keys that are texts of the constants, by their numbers.
use Rattle.std.proofs.Common.{◌≡◌, ◌↔◌, ℕ, List, Option, Some, None, sym, refl, ap, ◌∙◌}
use Rattle.std.specs.Prelude.{IsTrue, ◌==◌}
use Rattle.std.specs.Option.{option_map}
use Rattle.std.proofs.lemmas.Bool.Decides.{Decides-eqb}
use Rattle.arena_heap.specs.declared.value.StrNo.{StrNo}
use Rattle.arena_heap.specs.declared.value.StrNo.TheVariants.{Pool}
use Rattle.py_values.specs.Keys.{PlainKey, TextKey}

-- the text that a key has
text_under : (text : Option (List ℕ)) (key : PlainKey) → option_map TextKey text ≡ Some key → (bytes : List ℕ) × (text ≡ Some bytes) × (TextKey bytes ≡ key)
text_under None key e = absurd cc
text_under (Some bytes) key e = (bytes, refl, cc)

same_bytes : (a b : List ℕ) → TextKey a ≡ TextKey b → a ≡ b
same_bytes a b e = cc

module _ (texts : StrNo → Option (List ℕ)) (one_number : (text : List ℕ) (m n : ℕ) → texts (Pool m) ≡ Some text → texts (Pool n) ≡ Some text → m ≡ n) (key : PlainKey) (m n : ℕ) (sought : option_map TextKey (texts (Pool n)) ≡ Some key) where
  pub numbers_same : option_map TextKey (texts (Pool m)) ≡ Some key → m ≡ n
  numbers_same other =
      let a = text_under (texts (Pool m)) key other in
      let b = text_under (texts (Pool n)) key sought in
      one_number a.0 m n a.1 (b.1 ∙ ap (λ (bytes : List ℕ). Some bytes) (same_bytes b.0 a.0 (b.2 ∙ sym a.2)))

  -- two numbers are the same exactly where the keys are
  pub by_numbers : IsTrue (m == n) ↔ (option_map TextKey (texts (Pool m)) ≡ Some key)
  by_numbers = (
    λ yes. ap (λ (k : ℕ). option_map TextKey (texts (Pool k))) ((Decides-eqb m n).0 yes) ∙ sought,
    λ other. (Decides-eqb m n).1 (numbers_same other),
  )
