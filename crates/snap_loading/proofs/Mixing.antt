-- The heap of a snapshot's objects of which the first are filled.
use Rattle.std.proofs.Common.{◌≡◌, ℕ, zero, suc, ◌+◌, ◌-◌, ◌≤◌, List, [], ◌∷◌, ◌++◌, length, map, take, replicate, Option, Some, None, slice_get, refl, sym, ap, ap₂, ◌∙◌, arith, append_assoc}
use Rattle.std.specs.Prelude.{slice_set}
use Rattle.std.specs.List.{flat_map}
use Rattle.std.proofs.lemmas.List.{get_or-append-add, length-replicate, set-append_right}
use Rattle.std.proofs.lemmas.List.Sums.{sum_by-cons}
use Rattle.mpy_base.specs.World.{Heap, object, kind_of, with_object}
use Rattle.arena_heap.specs.declared.value.Value.{Value}
use Rattle.arena_heap.specs.Values.{ArenaObject}
use Rattle.bc_library.specs.Shelf.{Shelf}
use Rattle.snap_grammar.specs.declared.parts.ObjectPart.{ObjectPart}
use Rattle.snap_grammar.specs.declared.parts.Snapshot.{Snapshot}
use Rattle.snap_states.specs.Parts.{part_kind, more_cells, cells_of_part, cells_of_parts, cell_of}
use Rattle.snap_states.specs.Decoded.{object_of, heap_of}
use Rattle.snap_loading.specs.Mixed.{mixed, heap_mixed}
use Rattle.snap_loading.specs.Shells.{laid, shell_of}
use Rattle.snap_loading.proofs.Hollowing.{shell_kind, shell_laid}
use Rattle.snap_loading.proofs.Lying.{cells_in, kind_same}

-- two ways to make objects of parts
-- =================================

module _ (full shell : ObjectPart → ArenaObject) where
  abbrev mix : (i : ℕ) → List ObjectPart → List (Option ArenaObject)
  mix i os = mixed full shell i os

  pub none_mixed : (os : List ObjectPart) → mix 0 os ≡ flat_map (cells_in shell) os
  none_mixed [] = refl
  none_mixed (o ∷ os) = ap (λ zs. cells_in shell o ++ zs) (none_mixed os)

  pub all_mixed : (os : List ObjectPart) → mix (length os) os ≡ flat_map (cells_in full) os
  all_mixed [] = refl
  all_mixed (o ∷ os) = ap (λ zs. cells_in full o ++ zs) (all_mixed os)

  long_in : (made : ObjectPart → ArenaObject) (x : ObjectPart) → length (cells_in made x) ≡ 1 + more_cells x
  long_in made x =
      let empty : Option ArenaObject = None in
      let more : length (replicate (more_cells x) empty) ≡ more_cells x = length-replicate (more_cells x) empty in
      omega (arith, more)

  sums : (x : ObjectPart) (os : List ObjectPart) (n : ℕ) → cell_of (x ∷ os) (suc n) ≡ (1 + more_cells x) + cell_of os n
  sums x os n = sum_by-cons (λ k. k) (cells_of_part x) (map cells_of_part (take n os))

  -- what lies behind a part's cells
  behind : (made : ObjectPart → ArenaObject) (x : ObjectPart) (os : List ObjectPart) (zs rest : List (Option ArenaObject)) (n : ℕ) → object ((cells_in made x ++ zs) ++ rest) (cell_of (x ∷ os) (suc n)) ≡ object (zs ++ rest) (cell_of os n)
  behind made x os zs rest n =
      let at : cell_of (x ∷ os) (suc n) ≡ length (cells_in made x) + cell_of os n = sums x os n ∙ ap (λ k. k + cell_of os n) (sym (long_in made x)) in
      ap₂ object (append_assoc (cells_in made x) zs rest) at
      ∙ get_or-append-add (cells_in made x) (zs ++ rest) (cell_of os n) None

  -- the object of the first part that isn't made the one way
  pub next_lies : (i : ℕ) (os : List ObjectPart) (rest : List (Option ArenaObject)) (o : ObjectPart) → slice_get os i ≡ Some o → object (mix i os ++ rest) (cell_of os i) ≡ Some (shell o)
  next_lies zero [] rest o e = absurd cc
  next_lies (suc i) [] rest o e = absurd cc
  next_lies zero (x ∷ os) rest o e = let same : x ≡ o = cc in ap (λ z. Some (shell z)) same
  next_lies (suc i) (x ∷ os) rest o e = behind full x os (mix i os) rest i ∙ next_lies i os rest o e

  -- kinds, where both ways give a part's kind
  module _ (full_kind : (o : ObjectPart) → kind_of (Some (full o)) ≡ Some (part_kind o)) (shell_kind : (o : ObjectPart) → kind_of (Some (shell o)) ≡ Some (part_kind o)) where
    pub kinds_mixed : (i : ℕ) (os : List ObjectPart) (rest : List (Option ArenaObject)) (n : ℕ) (o : ObjectPart) → slice_get os n ≡ Some o → kind_of (object (mix i os ++ rest) (cell_of os n)) ≡ Some (part_kind o)
    kinds_mixed zero [] rest n o e = absurd cc
    kinds_mixed (suc i) [] rest n o e = absurd cc
    kinds_mixed zero (x ∷ os) rest zero o e = let same : x ≡ o = cc in shell_kind x ∙ ap (λ z. Some (part_kind z)) same
    kinds_mixed (suc i) (x ∷ os) rest zero o e = let same : x ≡ o = cc in full_kind x ∙ ap (λ z. Some (part_kind z)) same
    kinds_mixed zero (x ∷ os) rest (suc n) o e = ap kind_of (behind shell x os (mix zero os) rest n) ∙ kinds_mixed zero os rest n o e
    kinds_mixed (suc i) (x ∷ os) rest (suc n) o e = ap kind_of (behind full x os (mix i os) rest n) ∙ kinds_mixed i os rest n o e

  -- one more is made the one way
  pub next_set : (i : ℕ) (os : List ObjectPart) (rest : List (Option ArenaObject)) (o : ObjectPart) → slice_get os i ≡ Some o → slice_set (mix i os ++ rest) (cell_of os i) (Some (full o)) ≡ mix (suc i) os ++ rest
  next_set zero [] rest o e = absurd cc
  next_set (suc i) [] rest o e = absurd cc
  next_set zero (x ∷ os) rest o e = let same : o ≡ x = cc in ap (λ z. (Some (full z) ∷ (replicate (more_cells x) None ++ mix zero os)) ++ rest) same
  next_set (suc i) (x ∷ os) rest o e =
      let front = cells_in full x in
      let at : cell_of (x ∷ os) (suc i) ≡ length front + cell_of os i = sums x os i ∙ ap (λ k. k + cell_of os i) (sym (long_in full x)) in
      let left : cell_of (x ∷ os) (suc i) - length front ≡ cell_of os i = omega (arith, at) in
      let within : length front ≤ cell_of (x ∷ os) (suc i) = omega (arith, at) in
      ap (λ zs. slice_set zs (cell_of (x ∷ os) (suc i)) (Some (full o))) (append_assoc front (mix i os) rest)
      ∙ (set-append_right front (mix i os ++ rest) (length front) (cell_of (x ∷ os) (suc i)) (Some (full o)) refl within
      ∙ (ap (λ k. front ++ slice_set (mix i os ++ rest) k (Some (full o))) left
      ∙ (ap (λ zs. front ++ zs) (next_set i os rest o e)
      ∙ sym (append_assoc front (mix (suc i) os) rest))))

  -- which changes nothing where both ways give the same
  pub next_same : (i : ℕ) (os : List ObjectPart) (o : ObjectPart) → slice_get os i ≡ Some o → shell o ≡ full o → mix i os ≡ mix (suc i) os
  next_same zero [] o e f = absurd cc
  next_same (suc i) [] o e f = absurd cc
  next_same zero (x ∷ os) o e f = let same : x ≡ o = cc in let here : shell x ≡ full x = ap shell same ∙ (f ∙ ap full (sym same)) in ap (λ z. (Some z ∷ replicate (more_cells x) None) ++ mix zero os) here
  next_same (suc i) (x ∷ os) o e f = ap (λ zs. cells_in full x ++ zs) (next_same i os o e f)

-- the heap of a snapshot
-- ======================

module _ (shelf : Shelf) (s : Snapshot) (title : ℕ → ℕ → ℕ) where
  abbrev heap_over : List (Option ArenaObject) → Heap Value ℕ
  heap_over zs = record { objects = zs; bytes = s.used_bytes; cell_size = s.cells; byte_size = s.bytes }

  -- none is filled
  pub heap_begun : heap_mixed shelf s title 0 ≡ heap_over (flat_map laid (map (shell_of shelf s title) s.objects) ++ replicate (s.used_cells - cells_of_parts s.objects) None)
  heap_begun =
      ap (λ zs. heap_over (zs ++ replicate (s.used_cells - cells_of_parts s.objects) None))
      (none_mixed (object_of shelf s title) (shell_of shelf s title) s.objects ∙ sym (shell_laid shelf s title s.objects))

  -- all are filled
  pub heap_done : heap_mixed shelf s title (length s.objects) ≡ heap_of shelf s title
  heap_done = ap (λ zs. heap_over (zs ++ replicate (s.used_cells - cells_of_parts s.objects) None)) (all_mixed (object_of shelf s title) (shell_of shelf s title) s.objects)

  -- the object that is to be filled next
  pub next_at : (i : ℕ) (o : ObjectPart) → slice_get s.objects i ≡ Some o → object (heap_mixed shelf s title i).objects (cell_of s.objects i) ≡ Some (shell_of shelf s title o)
  next_at i o e = next_lies (object_of shelf s title) (shell_of shelf s title) i s.objects (replicate (s.used_cells - cells_of_parts s.objects) None) o e

  -- kinds stay
  pub mixed_kinds : (i n : ℕ) (o : ObjectPart) → slice_get s.objects n ≡ Some o → kind_of (object (heap_mixed shelf s title i).objects (cell_of s.objects n)) ≡ Some (part_kind o)
  mixed_kinds i n o e =
      kinds_mixed (object_of shelf s title) (shell_of shelf s title) (kind_same shelf s title) (shell_kind shelf s title) i s.objects
      (replicate (s.used_cells - cells_of_parts s.objects) None) n o e

  -- the next is filled
  pub next_filled : (i : ℕ) (o : ObjectPart) → slice_get s.objects i ≡ Some o → with_object (heap_mixed shelf s title i) (cell_of s.objects i) (object_of shelf s title o) ≡ heap_mixed shelf s title (suc i)
  next_filled i o e = ap heap_over (next_set (object_of shelf s title) (shell_of shelf s title) i s.objects (replicate (s.used_cells - cells_of_parts s.objects) None) o e)

  -- an object that is whole from the beginning
  pub next_whole : (i : ℕ) (o : ObjectPart) → slice_get s.objects i ≡ Some o → shell_of shelf s title o ≡ object_of shelf s title o → heap_mixed shelf s title i ≡ heap_mixed shelf s title (suc i)
  next_whole i o e f =
      ap (λ zs. heap_over (zs ++ replicate (s.used_cells - cells_of_parts s.objects) None)) (next_same (object_of shelf s title) (shell_of shelf s title) i s.objects o e f)
