-- Where the objects of a snapshot lie: each at its cell, and nothing at other cells.
use Rattle.std.proofs.Common.{◌≡◌, ℕ, zero, suc, ◌+◌, ◌-◌, List, [], ◌∷◌, ◌++◌, length, map, take, replicate, Option, Some, None, slice_get, refl, sym, ap, ◌∙◌, subst, arith, append_assoc}
use Rattle.std.specs.List.{flat_map}
use Rattle.std.specs.Option.{option_map}
use Rattle.std.proofs.lemmas.List.{get_or-append-add, length-replicate}
use Rattle.std.proofs.lemmas.List.Sums.{sum_by-cons}
use Rattle.mpy_base.specs.World.{Objects, ObjectKind, object, kind_of, IsA}
use Rattle.arena_heap.specs.declared.value.Value.{Value}
use Rattle.arena_heap.specs.Values.{ArenaObject}
use Rattle.bc_library.specs.Shelf.{Shelf}
use Rattle.snap_grammar.specs.declared.parts.ObjectPart.{ObjectPart}
use Rattle.snap_grammar.specs.declared.parts.ObjectPart.TheVariants as objects
use Rattle.snap_grammar.specs.declared.parts.Snapshot.{Snapshot}
use Rattle.snap_states.specs.Parts.{part_kind, more_cells, cells_of_part, cells_of_parts, cell_of}
use Rattle.snap_states.specs.States.{IsAt}
use Rattle.snap_states.specs.Decoded.{object_of, heap_of}

some_is : {A : Type 0} (x y : A) → Some x ≡ Some y → x ≡ y
some_is x y e = cc

-- objects that take the cells of parts
-- ===================================

module _ (made : ObjectPart → ArenaObject) where
  -- the cells of an object
  abbrev pub cells_in : ObjectPart → List (Option ArenaObject)
  cells_in o = Some (made o) ∷ replicate (more_cells o) None

  pub object_in : (os : List ObjectPart) (rest : List (Option ArenaObject)) (n : ℕ) (o : ObjectPart) → slice_get os n ≡ Some o → object (flat_map cells_in os ++ rest) (cell_of os n) ≡ Some (made o)
  object_in [] rest n o e = cc
  object_in (x ∷ os) rest zero o e = ap (λ z. Some (made z)) (some_is x o e)
  object_in (x ∷ os) rest (suc n) o e =
      let empty : Option ArenaObject = None in
      let more : length (replicate (more_cells x) empty) ≡ more_cells x = length-replicate (more_cells x) empty in
      let size : length (cells_in x) ≡ 1 + more_cells x = omega (arith, more) in
      let parted : (cells_in x ++ flat_map cells_in os) ++ rest ≡ cells_in x ++ (flat_map cells_in os ++ rest) = append_assoc (cells_in x) (flat_map cells_in os) rest in
      let sums : cell_of (x ∷ os) (suc n) ≡ (1 + more_cells x) + cell_of os n = sum_by-cons (λ k. k) (cells_of_part x) (map cells_of_part (take n os)) in
      ap (λ k. object (flat_map cells_in (x ∷ os) ++ rest) k) sums
      ∙ (ap (λ zs. object zs ((1 + more_cells x) + cell_of os n)) parted
      ∙ (ap (λ k. object (cells_in x ++ (flat_map cells_in os ++ rest)) (k + cell_of os n)) (sym size)
      ∙ (get_or-append-add (cells_in x) (flat_map cells_in os ++ rest) (cell_of os n) None
      ∙ object_in os rest n o e)))

  -- nothing lies elsewhere
  module _ (P : Option ArenaObject → Type 0) (none : P None) where
    nothing : (k n : ℕ) → P (object (replicate k None) n)
    nothing zero n = none
    nothing (suc k) zero = none
    nothing (suc k) (suc n) = nothing k n

    behind : (k : ℕ) (rest : List (Option ArenaObject)) → ((n : ℕ) → P (object rest n)) → (n : ℕ) → P (object (replicate k None ++ rest) n)
    behind zero rest h n = h n
    behind (suc k) rest h zero = none
    behind (suc k) rest h (suc n) = behind k rest h n

    first_then : (x : ObjectPart) (rest : List (Option ArenaObject)) → P (Some (made x)) → ((n : ℕ) → P (object rest n)) → (n : ℕ) → P (object (cells_in x ++ rest) n)
    first_then x rest own h zero = own
    first_then x rest own h (suc n) = behind (more_cells x) rest h n

    -- what holds of each object, and where none is, holds at each number
    pub each_in : (os : List ObjectPart) (k : ℕ) → ((i : ℕ) (o : ObjectPart) → slice_get os i ≡ Some o → P (Some (made o))) → (n : ℕ) → P (object (flat_map cells_in os ++ replicate k None) n)
    each_in [] k h n = nothing k n
    each_in (x ∷ os) k h n =
        subst (λ zs. P (object zs n)) (sym (append_assoc (cells_in x) (flat_map cells_in os) (replicate k None)))
        (first_then x (flat_map cells_in os ++ replicate k None) (h 0 x refl) (each_in os k (λ i o e. h (suc i) o e)) n)

-- the heap of a snapshot
-- ======================

module _ (shelf : Shelf) (s : Snapshot) (title : ℕ → ℕ → ℕ) where
  abbrev pub objects_in : Objects Value ℕ
  objects_in = (heap_of shelf s title).objects

  -- an object lies at its cell
  pub object_at : (n : ℕ) (o : ObjectPart) → slice_get s.objects n ≡ Some o → object (heap_of shelf s title).objects (cell_of s.objects n) ≡ Some (object_of shelf s title o)
  object_at n o e = object_in (object_of shelf s title) s.objects (replicate (s.used_cells - cells_of_parts s.objects) None) n o e

  -- what holds of each object of the snapshot, and where none is, holds at each number of the heap
  pub each_object : (P : Option ArenaObject → Type 0) → P None → ((i : ℕ) (o : ObjectPart) → slice_get s.objects i ≡ Some o → P (Some (object_of shelf s title o))) → (n : ℕ) → P (object (heap_of shelf s title).objects n)
  each_object P none h n = each_in (object_of shelf s title) P none s.objects (s.used_cells - cells_of_parts s.objects) h n

  -- kinds
  pub kind_same : (o : ObjectPart) → kind_of (Some (object_of shelf s title o)) ≡ Some (part_kind o)
  kind_same (objects.List room items) = refl
  kind_same (objects.Dict room pairs) = refl
  kind_same (objects.Tuple items) = refl
  kind_same (objects.Text bytes) = refl
  kind_same (objects.Function m code names defaults) = refl
  kind_same (objects.Exception kind args file line name) = refl
  kind_same (objects.Method o method) = refl
  kind_same (objects.Range start stop step) = refl
  kind_same (objects.Module name names) = refl

  -- the object of a number is of its kind at its cell
  pub is_at : (kind : ObjectKind) (n : ℕ) → IsAt s kind n → IsA (heap_of shelf s title).objects kind (cell_of s.objects n)
  is_at kind n e = by (slice_get s.objects n) refl e
    where
      by : (r : Option ObjectPart) → slice_get s.objects n ≡ r → option_map part_kind r ≡ Some kind → IsA (heap_of shelf s title).objects kind (cell_of s.objects n)
      by None f g = cc
      by (Some o) f g = ap kind_of (object_at n o f) ∙ (kind_same o ∙ g)
