-- The places of objects.
use Rattle.std.proofs.Common.{◌≡◌, ℕ, ◌+◌, ◌-◌, ◌<◌, ◌≤◌, List, [], ◌∷◌, ◌++◌, length, take, get_or, Option, Some, None, Bool, true, is_some, refl, sym, ap, ◌∙◌, arith, length-append, inl, inr}
use Rattle.std.specs.Prelude.{filter, min, slice_get, if◌then◌else◌}
use Rattle.std.proofs.Math.Path.{fun_ext}
use Rattle.std.proofs.Math.Seq.{get_or-append_seam}
use Rattle.std.proofs.lemmas.Bool.{cases_lt}
use Rattle.std.proofs.lemmas.List.{take_more, take_all, get_or_append_left}
use Rattle.std.proofs.lemmas.List.Elements.{filter-append}
use Rattle.std.proofs.lemmas.Option.{slice_get-get_or, get_or_from_slice_get}
use Rattle.mpy_base.specs.World.{Heap, Objects, ObjectKind, AList, ATuple, AText, ADict, AFunction, AnException, AMethod, ARange, AModule, IsA, kind_of, object}
use Rattle.mpy_base.specs.Weights.{used}
use Rattle.arena_heap.specs.declared.value.Value.{Value}
use Rattle.arena_heap.specs.declared.value.ObjectNo.{ObjectNo}
use Rattle.arena_heap.specs.declared.value.ObjectNo.TheVariants as numbers
use Rattle.arena_heap.specs.Values.{ArenaObject}
use Rattle.arena_heap.specs.Values.{BeginsAt}
use Rattle.snap_saving.specs.Shown.{place_in}
use Rattle.snap_saving.specs.Steps.{ArePlaces, found}

one_more : (xs : List (Option ArenaObject)) (o : Option ArenaObject) → length (filter is_some (xs ++ o ∷ [])) ≡ length (filter is_some xs) + (if is_some o then 1 else 0)
one_more xs None = ap length (filter-append is_some xs (None ∷ [])) ∙ length-append (filter is_some xs) []
one_more xs (Some o) = ap length (filter-append is_some xs (Some o ∷ [])) ∙ length-append (filter is_some xs) (Some o ∷ [])

module _ (heap : Heap Value ℕ) where
  pub none_before : place_in heap 0 ≡ 0
  none_before = refl

  pub place_more : (cell : ℕ) → cell < used heap → place_in heap (cell + 1) ≡ place_in heap cell + (if is_some (object heap.objects cell) then 1 else 0)
  place_more cell lt =
      ap (λ (xs : List (Option ArenaObject)). length (filter is_some xs)) (take_more heap.objects cell None lt) ∙ one_more (take cell heap.objects) (object heap.objects cell)

  -- the places of the cells up to one, and how many objects were made before it
  pub record AreFound (places : List ℕ) (cell count : ℕ) : Type 0 where
    pub long : length places ≡ cell
    pub each : (c : ℕ) → c < cell → slice_get places c ≡ Some (place_in heap c)
    pub so_far : count ≡ place_in heap cell

  last_of : (places : List ℕ) (p : ℕ) → slice_get (places ++ p ∷ []) (length places) ≡ Some p
  last_of places p =
      slice_get-get_or (places ++ p ∷ []) (length places) 0 (omega (arith, length-append places (p ∷ []))) ∙ ap (λ (n : ℕ). Some n) (get_or-append_seam places p [] 0)

  before : (places : List ℕ) (p c : ℕ) → c < length places → slice_get (places ++ p ∷ []) c ≡ slice_get places c
  before places p c lt =
      slice_get-get_or (places ++ p ∷ []) c 0 (omega (arith, length-append places (p ∷ [])))
      ∙ (ap (λ (n : ℕ). Some n) (get_or_append_left places (p ∷ []) 0 c lt) ∙ sym (slice_get-get_or places c 0 lt))

  known : (places : List ℕ) (cell count : ℕ) → AreFound places cell count → (c : ℕ) → c ≤ cell → slice_get (places ++ count ∷ []) c ≡ Some (place_in heap c)
  known places cell count are c le = elim (cases_lt c cell) [
    | inl lt ↦ before places count c (omega (arith, are.long)) ∙ are.each c lt
    | inr ge ↦
        let same : c ≡ length places = omega (arith, are.long) in
        let at : cell ≡ c = omega arith in
        ap (slice_get (places ++ count ∷ [])) same ∙ (last_of places count ∙ ap (λ (n : ℕ). Some n) (are.so_far ∙ ap (place_in heap) at))
  ]

  -- a place more
  pub found_more : (places : List ℕ) (cell count next : ℕ) → cell < used heap → AreFound places cell count
      → next ≡ count + (if is_some (object heap.objects cell) then 1 else 0) → AreFound (places ++ count ∷ []) (cell + 1) next
  found_more places cell count next lt are e = record {
    long = length-append places (count ∷ []) ∙ omega (arith, are.long);
    each = λ c h. known places cell count are c (omega arith);
    so_far = e ∙ (ap (λ (n : ℕ). n + (if is_some (object heap.objects cell) then 1 else 0)) are.so_far ∙ sym (place_more cell lt));
  }

  -- all places
  pub found_all : (places : List ℕ) (count : ℕ) → AreFound places (used heap) count → ArePlaces heap (places ++ count ∷ [])
  found_all places count are = record {
    long = length-append places (count ∷ []) ∙ omega (arith, are.long);
    each = known places (used heap) count are;
  }

  past : (cell : ℕ) → used heap ≤ cell → place_in heap cell ≡ place_in heap (used heap)
  past cell le = ap (λ (xs : List (Option ArenaObject)). length (filter is_some xs)) (take_all cell heap.objects le ∙ sym (take_all (used heap) heap.objects (omega arith)))

  found_at : (places : List ℕ) → ArePlaces heap places → (cell at : ℕ) → at ≤ used heap → min cell (length places - 1) ≡ at → found places cell ≡ place_in heap at
  found_at places are cell at le e =
      ap (λ (n : ℕ). get_or places n 0) e ∙ get_or_from_slice_get places at (place_in heap at) 0 (are.each at le)

  -- a place that is found
  found_each : (places : List ℕ) → ArePlaces heap places → (cell : ℕ) → found places cell ≡ place_in heap cell
  found_each places are cell = elim (cases_lt (used heap) cell) [
    | inl lt ↦ found_at places are cell (used heap) (omega arith) (omega (arith, lt, are.long)) ∙ sym (past cell (omega arith))
    | inr ge ↦ found_at places are cell cell ge (omega (arith, ge, are.long))
  ]

  pub found_is : (places : List ℕ) → ArePlaces heap places → found places ≡ place_in heap
  found_is places are = fun_ext (found_each places are)

  -- how many objects there are
  pub all_found : (places : List ℕ) → ArePlaces heap places → found places (used heap) ≡ length (filter is_some heap.objects)
  all_found places are =
      found_each places are (used heap)
      ∙ ap (λ (xs : List (Option ArenaObject)). length (filter is_some xs)) (take_all (used heap) heap.objects (omega arith))

  -- no place yet
  pub found_none : AreFound [] 0 0
  found_none = record { long = refl; each = λ c lt. absurd (omega (arith, lt)); so_far = refl }

-- what begins at a cell is an object
some_kind : (o : Option ArenaObject) (kind : ObjectKind) → kind_of o ≡ Some kind → is_some o ≡ true
some_kind None kind q = absurd cc
some_kind (Some o) kind q = refl

module _ (objects : Objects Value ℕ) (n : ℕ) where
  at_cell : (cell : ℕ) (kind : ObjectKind) → (cell ≡ n) × IsA objects kind cell → is_some (object objects n) ≡ true
  at_cell cell kind b = ap (λ (m : ℕ). is_some (object objects m)) (sym b.0) ∙ some_kind (object objects cell) kind b.1

  begins : (x : ObjectNo) → BeginsAt objects n x → is_some (object objects n) ≡ true
  begins (numbers.List l) b = at_cell l.cell AList b
  begins (numbers.Dict d) b = at_cell d.cell ADict b
  begins (numbers.Tuple t) b = at_cell t.cell ATuple b
  begins (numbers.Text t) b = at_cell t.cell AText b
  begins (numbers.Fun f) b = at_cell f.cell AFunction b
  begins (numbers.Exc e) b = at_cell e.cell AnException b
  begins (numbers.Method m) b = at_cell m.cell AMethod b
  begins (numbers.Range r) b = at_cell r.cell ARange b
  begins (numbers.Module m) b = at_cell m.cell AModule b

  pub begins_one : (x : ObjectNo) → BeginsAt objects n x → ◌≡◌ {A = ℕ} 1 (if is_some (object objects n) then 1 else 0)
  begins_one x b = ap (λ (t : Bool). if t then 1 else 0) (sym (begins x b))

  pub begins_none : object objects n ≡ None → ◌≡◌ {A = ℕ} 0 (if is_some (object objects n) then 1 else 0)
  begins_none e = ap (λ (o : Option ArenaObject). if is_some o then 1 else 0) (sym e)
