-- How many constants a module has.
use Rattle.std.proofs.Common.{◌≡◌, ℕ, List, length, map, Option, Some, None, sym, ap, ◌∙◌}
use Rattle.std.specs.Prelude.{slice_get, option_and_then}
use Rattle.std.specs.Option.{option_map}
use Rattle.std.proofs.lemmas.Option.{slice_get-map}
use Rattle.bc_verify.specs.qstr_pool.Pool.{Texts}
use Rattle.mpy_tree.specs.Raw.{Module}
use Rattle.bc_library.specs.declared.library.Loaded.{Loaded}
use Rattle.bc_library.specs.Constants.{constants_of}
use Rattle.bc_library.specs.Kept.{IsLibrary, named, shelf_of}
use Rattle.bc_library.specs.Shelf.{Shelf, Named, module_at}
use Rattle.bc_library.proofs.Preorders.{length-parts}
use Rattle.bc_library.proofs.Shelves.{module_is}

abbrev count : Module → ℕ
count m = length (constants_of m)

module _ (modules : List Loaded) (refused : List (List ℕ)) (pool : Texts) (shelf : Shelf) (i : ℕ) (is : shelf_of modules refused pool ≡ shelf) where
  pub count_told : IsLibrary modules refused pool → (l : Loaded) (n : ℕ) → slice_get modules i ≡ Some l → n ≡ length l.parts.items → Some n ≡ option_map (λ m. length (constants_of m)) (module_at shelf i)
  count_told library l n at e =
      let kept = library.loaded i l at in
      ap (λ (k : ℕ). Some k) (e ∙ (ap length kept.parts ∙ length-parts i 0 (constants_of l.«module»)))
      ∙ sym (ap (option_map count) (module_is modules refused pool shelf i l is at))

  pub count_none : slice_get modules i ≡ None → None ≡ option_map (λ m. length (constants_of m)) (module_at shelf i)
  count_none at =
      let none : slice_get (map named modules) i ≡ None = slice_get-map named modules i ∙ ap (option_map named) at in
      sym (ap (λ (s : Shelf). option_map count (module_at s i)) (sym is) ∙ ap (λ (o : Option Named). option_map count (option_and_then (λ (n : Named). Some n.held) o)) none)
