-- The number that a look-up finds is that of the text.
use Rattle.std.proofs.Common.{◌≡◌, ℕ, ◌<◌, List, length, Option, Some, None, unwrap_or, refl, sym, ap, ◌∙◌}
use Rattle.std.specs.Prelude.{slice_get, IsSome}
use Rattle.std.specs.Option.{option_map}
use Rattle.bc_library.specs.bc_verify.qstr_pool.declared.table.TheConstants.{FIRST_OWN}
use Rattle.bc_library.specs.bc_verify.qstr_pool.Pool.{Texts, IsOneToOne}
use Rattle.bc_library.specs.bc_verify.qstr_pool.Static.{static_texts, static_pool}
use Rattle.bc_library.specs.Shelf.{Shelf, Named}
use Rattle.bc_library.specs.Texts.{text_numbered}
use Rattle.snap_states.specs.Decoded.{pool_number, name_number, module_title}
use Rattle.snap_loading.proofs.Numbered.{pool_told, pool_nowhere}

abbrev pub OneNumber : Texts → Type 0
OneNumber pool = (text : List ℕ) (m n : ℕ) → text_numbered pool m ≡ Some text → text_numbered pool n ≡ Some text → m ≡ n

module _ (pool : Texts) (law : IsOneToOne static_pool) (count : length static_texts < FIRST_OWN) (first : pool.first ≡ FIRST_OWN) (text : List ℕ) where
  is_by : OneNumber pool → (m : ℕ) → text_numbered pool m ≡ Some text → (o : Option ℕ) → pool_number pool text ≡ o → Some m ≡ o
  is_by one m is (Some k) q = ap (λ (x : ℕ). Some x) (one text m k is (pool_told pool law count first text k q))
  is_by one m is None q = absurd (pool_nowhere pool law count first text m q is)

  -- the number of a text that has one
  pub number_is : OneNumber pool → (m : ℕ) → text_numbered pool m ≡ Some text → Some m ≡ pool_number pool text
  number_is one m is = is_by one m is (pool_number pool text) refl

  none_by : (r : Option ℕ) → ((n : ℕ) → text_numbered pool n ≡ Some text → r ≡ Some n) → (m : ℕ) → r ≡ Some m → (text_numbered pool m ≡ Some text → ⊥) → (o : Option ℕ) → pool_number pool text ≡ o → None ≡ o
  none_by r found m is other None q = refl
  none_by r found m is other (Some k) q =
      let told = pool_told pool law count first text k q in
      let both : Some m ≡ Some k = sym is ∙ found k told in
      let same : m ≡ k = cc in
      absurd (other (ap (text_numbered pool) same ∙ told))

  -- a number that is another text's
  pub number_not : (r : Option ℕ) → ((n : ℕ) → text_numbered pool n ≡ Some text → r ≡ Some n) → (m : ℕ) → r ≡ Some m → (text_numbered pool m ≡ Some text → ⊥) → None ≡ pool_number pool text
  number_not r found m is other = none_by r found m is other (pool_number pool text) refl

  missing_by : (r : Option ℕ) → ((n : ℕ) → text_numbered pool n ≡ Some text → r ≡ Some n) → r ≡ None → (o : Option ℕ) → pool_number pool text ≡ o → None ≡ o
  missing_by r found is None q = refl
  missing_by r found is (Some k) q = let both : None ≡ Some k = sym is ∙ found k (pool_told pool law count first text k q) in absurd cc

  -- no number
  pub number_none : (r : Option ℕ) → ((n : ℕ) → text_numbered pool n ≡ Some text → r ≡ Some n) → r ≡ None → None ≡ pool_number pool text
  number_none r found is = missing_by r found is (pool_number pool text) refl

-- the number of a module's name
module _ (shelf : Shelf) (law : IsOneToOne static_pool) (count : length static_texts < FIRST_OWN) (first : shelf.pool.first ≡ FIRST_OWN) (one : OneNumber shelf.pool) (m number : ℕ) where
  title_by : (o : Option Named) → slice_get shelf.modules m ≡ o → IsSome o → ((n : Named) → slice_get shelf.modules m ≡ Some n → text_numbered shelf.pool number ≡ Some n.name) → number ≡ module_title shelf m
  title_by (Some n) at some is =
      ap (λ (o : Option ℕ). unwrap_or o 0) (number_is shelf.pool law count first n.name one number (is n at))
      ∙ sym (ap (λ (o : Option Named). unwrap_or (option_map (λ (x : Named). name_number shelf x.name) o) 0) at)
  title_by None at some is = absurd cc

  pub title_found : IsSome (slice_get shelf.modules m) → ((n : Named) → slice_get shelf.modules m ≡ Some n → text_numbered shelf.pool number ≡ Some n.name) → number ≡ module_title shelf m
  title_found some is = title_by (slice_get shelf.modules m) refl some is
