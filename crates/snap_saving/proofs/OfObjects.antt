-- Objects by their kinds, and their bytes.
use Rattle.std.proofs.Common.{◌≡◌, ℕ, List, [], ◌∷◌, ◌++◌, length, Option, Some, None, is_some, suc, refl, sym, ap, ap₂, ◌∙◌, append_assoc}
use Rattle.std.specs.Prelude.{filter}
use Rattle.std.proofs.lemmas.List.{append-nil}
use Rattle.std.specs.List.{filter_map, flat_map}
use Rattle.std.specs.Option.{option_map}
use Rattle.mpy_base.specs.World.{Heap, ListObject, TupleObject, TextObject, DictObject, AList, ATuple, AText, ADict, IsA, object, kind_of, items_of, pairs_of, text_of, room_of, items_at, pairs_at, text_at, room_at}
use Rattle.arena_heap.specs.declared.value.Value.{Value}
use Rattle.arena_heap.specs.Values.{ArenaObject}
use Rattle.bc_library.specs.Shelf.{Shelf}
use Rattle.snap_saving.specs.Put as put
use Rattle.snap_saving.specs.Put.{number}
use Rattle.snap_saving.specs.Shown.{object_part, pair_part, value_part}
use Rattle.snap_saving.specs.Steps.{bytes_at, object_bytes, pair_bytes, value_bytes}
use Rattle.snap_saving.proofs.Adding.{all_of_map}

list_by : (o : Option ArenaObject) → kind_of o ≡ Some AList → o ≡ Some (ListObject (items_of o) (room_of o))
list_by (Some (ListObject items room)) q = refl
list_by _ q = absurd cc

tuple_by : (o : Option ArenaObject) → kind_of o ≡ Some ATuple → o ≡ Some (TupleObject (items_of o))
tuple_by (Some (TupleObject items)) q = refl
tuple_by _ q = absurd cc

text_by : (o : Option ArenaObject) → kind_of o ≡ Some AText → o ≡ Some (TextObject (text_of o))
text_by (Some (TextObject bytes)) q = refl
text_by _ q = absurd cc

dict_by : (o : Option ArenaObject) → kind_of o ≡ Some ADict → o ≡ Some (DictObject (pairs_of o) (room_of o))
dict_by (Some (DictObject pairs room)) q = refl
dict_by _ q = absurd cc

module _ (shelf : Shelf) (place : ℕ → ℕ) (heap : Heap Value ℕ) (n : ℕ) where
  pub list_bytes : IsA heap.objects AList n
      → bytes_at shelf place heap n ≡ 1 ∷ (number (room_at heap n) ++ (number (length (items_at heap n)) ++ flat_map (value_bytes shelf place) (items_at heap n)))
  list_bytes is =
      ap (object_bytes shelf place) (list_by (object heap.objects n) is)
      ∙ ap (λ (z : List ℕ). 1 ∷ (number (room_at heap n) ++ z)) (all_of_map (value_part shelf place) put.value (items_at heap n))

  pub tuple_bytes : IsA heap.objects ATuple n → bytes_at shelf place heap n ≡ 3 ∷ (number (length (items_at heap n)) ++ flat_map (value_bytes shelf place) (items_at heap n))
  tuple_bytes is =
      ap (object_bytes shelf place) (tuple_by (object heap.objects n) is)
      ∙ ap (λ (z : List ℕ). 3 ∷ z) (all_of_map (value_part shelf place) put.value (items_at heap n))

  pub dict_bytes : IsA heap.objects ADict n
      → bytes_at shelf place heap n ≡ 2 ∷ (number (room_at heap n) ++ (number (length (pairs_at heap n)) ++ flat_map (pair_bytes shelf place) (pairs_at heap n)))
  dict_bytes is =
      ap (object_bytes shelf place) (dict_by (object heap.objects n) is)
      ∙ ap (λ (z : List ℕ). 2 ∷ (number (room_at heap n) ++ z)) (all_of_map (pair_part shelf place) put.pair (pairs_at heap n))

  -- what stands before a list's items, and these
  pub list_joined : IsA heap.objects AList n → (room count : ℕ) → room ≡ room_at heap n → count ≡ length (items_at heap n) → (old head : List ℕ) → head ≡ old ++ (1 ∷ (number room ++ number count))
      → head ++ flat_map (value_bytes shelf place) (items_at heap n) ≡ old ++ bytes_at shelf place heap n
  list_joined is room count er ec old head e =
      let items = flat_map (value_bytes shelf place) (items_at heap n) in
      ap (λ (z : List ℕ). z ++ items) e
      ∙ (append_assoc old (1 ∷ (number room ++ number count)) items
      ∙ ap (λ (z : List ℕ). old ++ z) (ap (λ (z : List ℕ). 1 ∷ z) (append_assoc (number room) (number count) items ∙ ap₂ (λ (r c : ℕ). number r ++ (number c ++ items)) er ec) ∙ sym (list_bytes is)))

  pub dict_joined : IsA heap.objects ADict n → (room count : ℕ) → room ≡ room_at heap n → count ≡ length (pairs_at heap n) → (old head : List ℕ) → head ≡ old ++ (2 ∷ (number room ++ number count))
      → head ++ flat_map (pair_bytes shelf place) (pairs_at heap n) ≡ old ++ bytes_at shelf place heap n
  dict_joined is room count er ec old head e =
      let pairs = flat_map (pair_bytes shelf place) (pairs_at heap n) in
      ap (λ (z : List ℕ). z ++ pairs) e
      ∙ (append_assoc old (2 ∷ (number room ++ number count)) pairs
      ∙ ap (λ (z : List ℕ). old ++ z) (ap (λ (z : List ℕ). 2 ∷ z) (append_assoc (number room) (number count) pairs ∙ ap₂ (λ (r c : ℕ). number r ++ (number c ++ pairs)) er ec) ∙ sym (dict_bytes is)))

  pub tuple_joined : IsA heap.objects ATuple n → (count : ℕ) → count ≡ length (items_at heap n) → (old head : List ℕ) → head ≡ old ++ (3 ∷ number count)
      → head ++ flat_map (value_bytes shelf place) (items_at heap n) ≡ old ++ bytes_at shelf place heap n
  tuple_joined is count ec old head e =
      let items = flat_map (value_bytes shelf place) (items_at heap n) in
      ap (λ (z : List ℕ). z ++ items) e
      ∙ (append_assoc old (3 ∷ number count) items
      ∙ ap (λ (z : List ℕ). old ++ z) (ap (λ (c : ℕ). 3 ∷ (number c ++ items)) ec ∙ sym (tuple_bytes is)))

  pub text_bytes : IsA heap.objects AText n → bytes_at shelf place heap n ≡ 4 ∷ put.text (text_at heap n)
  text_bytes is = ap (object_bytes shelf place) (text_by (object heap.objects n) is)

  -- the bytes of an object whose parts are known
  pub carried : (cell : ℕ) (o : ArenaObject) → n ≡ cell → object heap.objects n ≡ Some o → (old new : List ℕ) → new ≡ old ++ object_bytes shelf place (Some o) → new ≡ old ++ bytes_at shelf place heap cell
  carried cell o same is old new e =
      e ∙ ap (λ (z : List ℕ). old ++ z) (ap (object_bytes shelf place) (sym is) ∙ ap (bytes_at shelf place heap) same)

  pub text_carried : (cell : ℕ) → n ≡ cell → IsA heap.objects AText n → (old new : List ℕ) → new ≡ old ++ (4 ∷ put.text (text_at heap n)) → new ≡ old ++ bytes_at shelf place heap cell
  text_carried cell same is old new e =
      e ∙ ap (λ (z : List ℕ). old ++ z) (sym (text_bytes is) ∙ ap (bytes_at shelf place heap) same)

  -- no object begins there
  pub nothing_at : object heap.objects n ≡ None → (old : List ℕ) → old ≡ old ++ bytes_at shelf place heap n
  nothing_at none old = sym (append-nil old) ∙ ap (λ (o : Option ArenaObject). old ++ object_bytes shelf place o) (sym none)

-- all objects
module _ (shelf : Shelf) (place : ℕ → ℕ) where
  some_objects : (os : List (Option ArenaObject)) → flat_map put.object (filter_map (option_map (object_part shelf place)) os) ≡ flat_map (object_bytes shelf place) os
  some_objects [] = refl
  some_objects (None ∷ os) = some_objects os
  some_objects (Some o ∷ os) = ap (λ (z : List ℕ). put.object (object_part shelf place o) ++ z) (some_objects os)

  many_objects : (os : List (Option ArenaObject)) → length (filter_map (option_map (object_part shelf place)) os) ≡ length (filter is_some os)
  many_objects [] = refl
  many_objects (None ∷ os) = many_objects os
  many_objects (Some o ∷ os) = ap suc (many_objects os)

  pub objects_bytes : (os : List (Option ArenaObject)) → put.all_of put.object (filter_map (option_map (object_part shelf place)) os) ≡ number (length (filter is_some os)) ++ flat_map (object_bytes shelf place) os
  objects_bytes os =
      ap (λ (n : ℕ). number n ++ flat_map put.object (filter_map (option_map (object_part shelf place)) os)) (many_objects os)
      ∙ ap (λ (z : List ℕ). number (length (filter is_some os)) ++ z) (some_objects os)
