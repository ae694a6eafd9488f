-- What iterables give, and keep giving while a heap changes.
use Rattle.std.proofs.Common.{◌≡◌, ℕ, suc, ℤ, pos, ◌+◌, ◌*◌, ◌+ℤ◌, ◌*ℤ◌, ◌<◌, List, [], ◌∷◌, ◌++◌, length, map, take, Option, Some, None, get_or, set, refl, sym, ◌∙◌, ap, subst, inl, inr, arith, length-append, get_or-set_same, get_or-set_other}
use Rattle.std.specs.List.{range_with_len, All, insert}
use Rattle.std.specs.Prelude.{slice_get}
use Rattle.std.proofs.Math.Seq.{take-suc}
use Rattle.std.proofs.lemmas.List.{length-map, get_or_append_left, set-set}
use Rattle.std.proofs.lemmas.List.Edits.{insert_end}
use Rattle.std.proofs.lemmas.List.FromFn.{length-range_with_len, length-map-range_with_len, get_or-map-range_with_len, take-map-range_with_len}
use Rattle.std.proofs.lemmas.Option.{slice_get-get_or, slice_get_within}
use Rattle.std.proofs.lemmas.Bool.{cases_eq}
use Rattle.arena_heap.specs.declared.value.Value.{Value}
use Rattle.arena_heap.specs.declared.value.Value.TheVariants as values
use Rattle.arena_heap.specs.declared.value.RangeNo.{RangeNo}
use Rattle.arena_heap.specs.declared.value.StrNo.{StrNo}
use Rattle.arena_heap.specs.declared.value.ConstNo.{ConstNo}
use Rattle.py_values.specs.mpy_base.World.{Heap, ListObject, DictObject, RangeObject, AList, ADict, IsA, object, kind_of, items_of, room_of, text_of, pairs_of, items_at, room_at, with_list}
use Rattle.py_values.proofs.mpy_base_lemmas.Worlds.{is_within}
use Rattle.arena_heap.specs.Values.{ArenaObject, Leads}
use Rattle.py_values.specs.Shown.{range_len}
use Rattle.arena_objects.specs.Iterables.{range_numbers, given, items_in, spelled, texts_from}

pub count_numbers : (start stop step : ℤ) → length (range_numbers start stop step) ≡ range_len start stop step
count_numbers start stop step =
    let n = range_len start stop step in
    let f : ℕ → Value = λ k. values.Int (start +ℤ pos k *ℤ step) in
    length-map (range_with_len 0 n) f ∙ length-range_with_len 0 n

pub number_in : (start stop step : ℤ) (k : ℕ) → k < range_len start stop step → slice_get (range_numbers start stop step) k ≡ Some (values.Int (start +ℤ pos k *ℤ step))
number_in start stop step k lt =
    let n = range_len start stop step in
    let f : ℕ → Value = λ k. values.Int (start +ℤ pos k *ℤ step) in
    slice_get-get_or (range_numbers start stop step) k values.None (omega (arith, count_numbers start stop step)) ∙ ap (λ (v : Value). Some v) (get_or-map-range_with_len f 0 n k k values.None lt (omega arith))

pub range_given : (tuples : ConstNo → Option (List Value)) (h : Heap Value ℕ) (v : Value) (r : RangeNo) (start stop step : ℤ) → v ≡ values.Range r → object h.objects r.cell ≡ Some (RangeObject start stop step)
    → items_in tuples h v ≡ range_numbers start stop step
range_given tuples h v r start stop step e parts = ap (λ (w : Value). items_in tuples h w) e ∙ ap (λ (o : Option ArenaObject). given o) parts

pub given_list : (o : Option ArenaObject) → kind_of o ≡ Some AList → given o ≡ items_of o
given_list (Some (ListObject items room)) q = refl
given_list _ q = absurd cc

pub given_dict : (o : Option ArenaObject) → kind_of o ≡ Some ADict → given o ≡ map (λ (p : Value × Value). p.0) (pairs_of o)
given_dict (Some (DictObject pairs room)) q = refl
given_dict _ q = absurd cc

-- an item that was read
pub read_item : (P : Value → Type 0) (xs : List Value) (k : ℕ) (v : Value) → slice_get xs k ≡ Some v → All P xs → P v
read_item P xs k v e all =
    let lt = slice_get_within xs k v e in
    let q : Some v ≡ Some (get_or xs k values.None) = sym e ∙ slice_get-get_or xs k values.None lt in
    let same : v ≡ get_or xs k values.None = cc in
    subst P (sym same) (all k values.None lt)

-- one item more
pub item_more : (xs : List Value) (k : ℕ) (v : Value) → slice_get xs k ≡ Some v → take (k + 1) xs ≡ take k xs ++ v ∷ []
item_more xs k v e =
    let lt = slice_get_within xs k v e in
    let q : Some v ≡ Some (get_or xs k values.None) = sym e ∙ slice_get-get_or xs k values.None lt in
    let same : get_or xs k values.None ≡ v = cc in
    let one : k + 1 ≡ suc k = omega arith in
    ap (λ (j : ℕ). take j xs) one ∙ (take-suc xs k values.None lt ∙ ap (λ (w : Value). take k xs ++ w ∷ []) same)

pub texts_more : (first k : ℕ) → texts_from first (k + 1) ≡ texts_from first k ++ values.Text (record { cell = first + 2 * k }) ∷ []
texts_more first k =
    let f : ℕ → Value = λ k. values.Text (record { cell = first + 2 * k }) in
    let xs = texts_from first (k + 1) in
    let one : k + 1 ≡ suc k = omega arith in
    let lt : k < length xs = omega (arith, length-map-range_with_len f 0 (k + 1)) in
    let whole = take-map-range_with_len f 0 (k + 1) (k + 1) (omega arith) in
    let front = take-map-range_with_len f 0 (k + 1) k (omega arith) in
    let last = get_or-map-range_with_len f 0 (k + 1) k k values.None (omega arith) (omega arith) in
    sym whole ∙ (ap (λ (j : ℕ). take j xs) one ∙ (take-suc xs k values.None lt
    ∙ (ap (λ (ys : List Value). ys ++ get_or xs k values.None ∷ []) front ∙ ap (λ (w : Value). texts_from first k ++ w ∷ []) last)))

-- what each object gives stays
pub record Keeps (h g : Heap Value ℕ) : Type 0 where
  pub gives : (n : ℕ) → n < length h.objects → given (object g.objects n) ≡ given (object h.objects n)
  pub spells : (n : ℕ) → n < length h.objects → text_of (object g.objects n) ≡ text_of (object h.objects n)
  pub longer : (n : ℕ) → n < length h.objects → n < length g.objects

pub keeps_keeps : {f g h : Heap Value ℕ} → Keeps f g → Keeps g h → Keeps f h
keeps_keeps p q = record {
  gives = λ n lt. q.gives n (p.longer n lt) ∙ p.gives n lt;
  spells = λ n lt. q.spells n (p.longer n lt) ∙ p.spells n lt;
  longer = λ n lt. q.longer n (p.longer n lt);
}

module _ (tuples : ConstNo → Option (List Value)) (texts : StrNo → Option (List ℕ)) {h g : Heap Value ℕ} (keeps : Keeps h g) where
  pub items_kept : (v : Value) → Leads h.objects v → items_in tuples g v ≡ items_in tuples h v
  items_kept (values.List l) leads = keeps.gives l.cell (is_within h.objects _ l.cell leads.meets)
  items_kept (values.Tuple l) leads = keeps.gives l.cell (is_within h.objects _ l.cell leads.meets)
  items_kept (values.Dict l) leads = keeps.gives l.cell (is_within h.objects _ l.cell leads.meets)
  items_kept (values.Range l) leads = keeps.gives l.cell (is_within h.objects _ l.cell leads.meets)
  items_kept _ leads = refl

  pub spelled_kept : (v : Value) → Leads h.objects v → spelled texts g v ≡ spelled texts h v
  spelled_kept (values.Text t) leads = keeps.spells t.cell (is_within h.objects _ t.cell leads.meets)
  spelled_kept _ leads = refl

-- a list that takes more items
module _ (h : Heap Value ℕ) (l : ℕ) (is : IsA h.objects AList l) where
  pub list_there : (items : List Value) → object (with_list h l items).objects l ≡ Some (ListObject items (room_at h l))
  list_there items = get_or-set_same h.objects l (Some (ListObject items (room_at h l))) None (is_within h.objects AList l is)

  list_elsewhere : (items : List Value) (n : ℕ) → (n ≡ l → ⊥) → object (with_list h l items).objects n ≡ object h.objects n
  list_elsewhere items n ne = get_or-set_other h.objects l n (Some (ListObject items (room_at h l))) None ne

  pub put_again : (a b : Heap Value ℕ) (xs : List Value) (v : Value) (end : ℕ) → a ≡ with_list h l xs → end ≡ length (items_at a l) → b ≡ with_list a l (insert (items_at a l) end v) → b ≡ with_list h l (xs ++ v ∷ [])
  put_again a b xs v end ea en eb =
      let there : items_at a l ≡ xs = ap (λ (w : Heap Value ℕ). items_at w l) ea ∙ ap items_of (list_there xs) in
      let room : room_at (with_list h l xs) l ≡ room_at h l = ap (λ (o : Option ArenaObject). room_of o) (list_there xs) in
      let all : insert (items_at a l) end v ≡ xs ++ v ∷ [] = ap (λ (j : ℕ). insert (items_at a l) j v) en ∙ (insert_end (items_at a l) v ∙ ap (λ (ys : List Value). ys ++ v ∷ []) there) in
      eb ∙ (ap (λ (ys : List Value). with_list a l ys) all ∙ (ap (λ (w : Heap Value ℕ). with_list w l (xs ++ v ∷ [])) ea
      ∙ (ap (λ (r : ℕ). record h { objects = set (set h.objects l (Some (ListObject xs (room_at h l)))) l (Some (ListObject (xs ++ v ∷ []) r)) }) room
      ∙ ap (λ (os : List (Option ArenaObject)). record h { objects = os }) (set-set h.objects l (Some (ListObject xs (room_at h l))) (Some (ListObject (xs ++ v ∷ []) (room_at h l)))))))

  -- items behind those of the list hide none that an iterable has, not of the list itself either
  given_still : (xs : List Value) (n k : ℕ) → k < length (given (object h.objects n))
      → (k < length (given (object (with_list h l (items_at h l ++ xs)).objects n))) × (slice_get (given (object (with_list h l (items_at h l ++ xs)).objects n)) k ≡ slice_get (given (object h.objects n)) k)
  given_still xs n k lt =
      let g = with_list h l (items_at h l ++ xs) in
      elim (cases_eq n l) [
        | inl q ↦
            let now : given (object g.objects n) ≡ items_at h l ++ xs = ap (λ (j : ℕ). given (object g.objects j)) q ∙ ap given (list_there (items_at h l ++ xs)) in
            let was : given (object h.objects n) ≡ items_at h l = ap (λ (j : ℕ). given (object h.objects j)) q ∙ given_list (object h.objects l) is in
            let low : k < length (items_at h l) = subst (λ (ys : List Value). k < length ys) was lt in
            let more : k < length (items_at h l ++ xs) = omega (arith, length-append (items_at h l) xs) in (
              subst (λ (ys : List Value). k < length ys) (sym now) more,
              ap (λ (ys : List Value). slice_get ys k) now ∙ (slice_get-get_or (items_at h l ++ xs) k values.None more
                  ∙ (ap (λ (v : Value). Some v) (get_or_append_left (items_at h l) xs values.None k low) ∙ (sym (slice_get-get_or (items_at h l) k values.None low) ∙ ap (λ (ys : List Value). slice_get ys k) (sym was)))),
            )
        | inr ne ↦
            let same = list_elsewhere (items_at h l ++ xs) n ne in
            (subst (λ (o : Option ArenaObject). k < length (given o)) (sym same) lt, ap (λ (o : Option ArenaObject). slice_get (given o) k) same)
      ]

  pub items_still : (tuples : ConstNo → Option (List Value)) (xs : List Value) (v : Value) (k : ℕ) → k < length (items_in tuples h v)
      → (k < length (items_in tuples (with_list h l (items_at h l ++ xs)) v)) × (slice_get (items_in tuples (with_list h l (items_at h l ++ xs)) v) k ≡ slice_get (items_in tuples h v) k)
  items_still tuples xs (values.List m) k lt = given_still xs m.cell k lt
  items_still tuples xs (values.Tuple m) k lt = given_still xs m.cell k lt
  items_still tuples xs (values.Dict m) k lt = given_still xs m.cell k lt
  items_still tuples xs (values.Range m) k lt = given_still xs m.cell k lt
  items_still tuples xs _ k lt = (lt, refl)
