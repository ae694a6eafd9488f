-- Places: an object of a snapshot has as many objects before it as it had, and the cells of its objects give them back.
use Rattle.std.proofs.Common.{◌≡◌, ℕ, zero, suc, ◌+◌, ◌≤◌, List, [], ◌∷◌, ◌++◌, length, map, take, replicate, Option, Some, None, slice_get, refl, sym, ap, ap₂, ◌∙◌, arith, append_assoc, length-append}
use Rattle.std.specs.Prelude.{is_some, filter}
use Rattle.std.specs.List.{flat_map, filter_map}
use Rattle.std.specs.Option.{option_map}
use Rattle.std.proofs.Math.Seq.{take-append-add}
use Rattle.std.proofs.lemmas.List.{length-replicate}
use Rattle.std.proofs.lemmas.List.Elements.{filter-append, filter_map-append}
use Rattle.std.proofs.lemmas.List.Sums.{sum_by-cons}
use Rattle.arena_heap.specs.Values.{ArenaObject}
use Rattle.snap_grammar.specs.declared.parts.ObjectPart.{ObjectPart}
use Rattle.snap_states.specs.Parts.{more_cells, cells_of_part, cells_of_parts, cell_of}
use Rattle.snap_loading.proofs.Lying.{cells_in}

module _ (made : ObjectPart → ArenaObject) where
  abbrev blank : Option ArenaObject
  blank = None

  filter_none : (k : ℕ) → filter is_some (replicate k blank) ≡ []
  filter_none zero = refl
  filter_none (suc k) = filter_none k

  one_in : (x : ObjectPart) → length (filter is_some (cells_in made x)) ≡ 1
  one_in x = ap (λ zs. suc (length zs)) (filter_none (more_cells x))

  cells_long : (x : ObjectPart) → length (cells_in made x) ≡ cells_of_part x
  cells_long x = let more : length (replicate (more_cells x) blank) ≡ more_cells x = length-replicate (more_cells x) blank in omega (arith, more)

  sums : (x : ObjectPart) (os : List ObjectPart) → cells_of_parts (x ∷ os) ≡ cells_of_part x + cells_of_parts os
  sums x os = sum_by-cons (λ k. k) (cells_of_part x) (map cells_of_part os)

  -- an object has its place
  pub place_at : (os : List ObjectPart) (rest : List (Option ArenaObject)) (n : ℕ) → n ≤ length os → length (filter is_some (take (cell_of os n) (flat_map (cells_in made) os ++ rest))) ≡ n
  place_at [] rest zero le = refl
  place_at [] rest (suc n) le = absurd (omega (arith, le))
  place_at (x ∷ os) rest zero le = refl
  place_at (x ∷ os) rest (suc n) le =
      let front = cells_in made x in
      let behind = flat_map (cells_in made) os ++ rest in
      let at : cell_of (x ∷ os) (suc n) ≡ length front + cell_of os n = sums x (take n os) ∙ ap (λ k. k + cell_of os n) (sym (cells_long x)) in
      let ih = place_at os rest n (omega (arith, le)) in
      let one = one_in x in
      let long = length-append (filter is_some front) (filter is_some (take (cell_of os n) behind)) in
      ap₂ (λ k zs. length (filter is_some (take k zs))) at (append_assoc front (flat_map (cells_in made) os) rest)
      ∙ (ap (λ zs. length (filter is_some zs)) (take-append-add front behind (cell_of os n))
      ∙ (ap (λ zs. length zs) (filter-append is_some front (take (cell_of os n) behind))
      ∙ omega (arith, long, one, ih)))

  -- as many cells as the objects take
  pub all_long : (os : List ObjectPart) → length (flat_map (cells_in made) os) ≡ cells_of_parts os
  all_long [] = refl
  all_long (x ∷ os) =
      let a = length-append (cells_in made x) (flat_map (cells_in made) os) in
      let b = cells_long x in
      let c = all_long os in
      let d = sums x os in
      omega (arith, a, b, c, d)

  -- the objects come back
  module _ (back : ArenaObject → ObjectPart) where
    none_back : (k : ℕ) → filter_map (option_map back) (replicate k None) ≡ []
    none_back zero = refl
    none_back (suc k) = none_back k

    pub objects_back : (os : List ObjectPart) (k : ℕ) → ((i : ℕ) (o : ObjectPart) → slice_get os i ≡ Some o → back (made o) ≡ o) → filter_map (option_map back) (flat_map (cells_in made) os ++ replicate k None) ≡ os
    objects_back [] k h = none_back k
    objects_back (x ∷ os) k h =
        ap (λ zs. filter_map (option_map back) zs) (append_assoc (cells_in made x) (flat_map (cells_in made) os) (replicate k None))
        ∙ (filter_map-append (option_map back) (cells_in made x) (flat_map (cells_in made) os ++ replicate k None)
        ∙ ap₂ (λ z zs. (z ∷ filter_map (option_map back) (replicate (more_cells x) None)) ++ zs) (h 0 x refl) (objects_back os k (λ i o e. h (suc i) o e))
        ∙ ap (λ zs. (x ∷ zs) ++ os) (none_back (more_cells x)))
