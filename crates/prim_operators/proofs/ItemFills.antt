-- Tuples and lists that are filled item by item.
use Rattle.std.proofs.Common.{◌≡◌, ℕ, suc, ◌+◌, ◌<◌, ◌≤◌, List, [], ◌∷◌, ◌++◌, length, take, map, get_or, set, replicate, Option, Some, None, refl, sym, ap, ap₂, ◌∙◌, subst, inl, inr, arith, get_or-set_same, get_or-set_other}
use Rattle.std.specs.Prelude.{slice_get}
use Rattle.std.specs.List.{repeat, insert, All}
use Rattle.std.proofs.Math.Seq.{take-suc}
use Rattle.std.proofs.lemmas.List.{set_at, set-set, set-get_or, length-take-le, take_all, length-replicate}
use Rattle.std.proofs.lemmas.Option.{slice_get-get_or, slice_get_within}
use Rattle.std.proofs.lemmas.List.Edits.{insert_end}
use Rattle.std.proofs.lemmas.List.Elements.{All-set, All-push, All-nil, All-replicate}
use Rattle.std.proofs.lemmas.Bool.{cases_eq}
use Rattle.prim_faults.specs.arena_heap.declared.value.Value.{Value}
use Rattle.prim_faults.specs.arena_heap.declared.value.Value.TheVariants as values
use Rattle.prim_faults.specs.arena_heap.declared.value.StrNo.{StrNo}
use Rattle.prim_faults.specs.arena_heap.declared.value.ConstNo.{ConstNo}
use Rattle.prim_faults.specs.mpy_base.World.{ListObject, TupleObject, Heap, ObjectKind, AList, ATuple, IsA, Later, object, kind_of, items_of, items_at, room_of, room_at, text_of, with_object, with_list, with_tuple}
use Rattle.prim_faults.specs.mpy_base.Weights.{Fits, Made}
use Rattle.prim_faults.specs.mpy_base.Val.{Val, Empty}
use Rattle.prim_faults.proofs.mpy_base_lemmas.Worlds.{is_within, object_before, object_made, used_made}
use Rattle.prim_faults.specs.arena_heap.Values.{ArenaObject, Leads, held}
use Rattle.prim_faults.specs.arena_heap.Constants.{IsTold}
use Rattle.prim_faults.proofs.arena_heap_lemmas.Sounds.{leads_later}
use Rattle.prim_faults.specs.arena_objects.Keys.{AllTold}
use Rattle.prim_faults.specs.arena_objects.Iterables.{given, items_in}
use Rattle.prim_faults.proofs.arena_objects_lemmas.Gifts.{Keeps, items_kept}
use Rattle.prim_faults.proofs.arena_objects_lemmas.Tolds.{held_tuple, told_list, told_made}
use Rattle.prim_faults.specs.py_values.Shown.{PlainHeap}
use Rattle.prim_faults.specs.py_primitives.Outcome.{gives, making, making_tuple}
use Rattle.prim_faults.specs.Faults.{IsKnown}
use Rattle.prim_operators.specs.declared.sources.Source.{Source}
use Rattle.prim_operators.specs.declared.sources.Source.TheVariants as sources
use Rattle.prim_operators.specs.Sources.{source_items, AreKnown, IsElsewhere, AreElsewhere}
use Rattle.prim_operators.proofs.TextFills.{partly, partly_more, partly_all, partly_length}

-- a value that was read
pub read_value : (xs : List Value) (k : ℕ) (v : Value) → slice_get xs k ≡ Some v → v ≡ get_or xs k values.None
read_value xs k v e =
    let lt = slice_get_within xs k v e in
    let both : Some v ≡ Some (get_or xs k values.None) = sym e ∙ slice_get-get_or xs k values.None lt in
    cc

-- values of other numbers keep their items
module _ (tuples : ConstNo → Option (List Value)) (h : Heap Value ℕ) (t : ℕ) (o : ArenaObject) where
  items_apart : (v : Value) → IsElsewhere t v → items_in tuples (with_object h t o) v ≡ items_in tuples h v
  items_apart (values.List m) other = ap given (get_or-set_other h.objects t m.cell (Some o) None other)
  items_apart (values.Tuple m) other = ap given (get_or-set_other h.objects t m.cell (Some o) None other)
  items_apart (values.Dict m) other = ap given (get_or-set_other h.objects t m.cell (Some o) None other)
  items_apart (values.Range m) other = ap given (get_or-set_other h.objects t m.cell (Some o) None other)
  items_apart _ other = refl

  pub source_elsewhere : (source : Source) → AreElsewhere t source → source_items tuples (with_object h t o) source ≡ source_items tuples h source
  source_elsewhere (sources.Joined left right) apart = ap₂ (λ (xs ys : List Value). xs ++ ys) (items_apart left apart.0) (items_apart right apart.1)
  source_elsewhere (sources.Repeated times of) apart = ap (λ (xs : List Value). repeat times xs) (items_apart of apart)

  pub object_put_there : (kind : ObjectKind) → IsA h.objects kind t → object (with_object h t o).objects t ≡ Some o
  object_put_there kind is = get_or-set_same h.objects t (Some o) None (is_within h.objects kind t is)

  pub put_twice : (more : ArenaObject) → with_object (with_object h t o) t more ≡ with_object h t more
  put_twice more = ap (λ (os : List (Option ArenaObject)). record h { objects = os }) (set-set h.objects t (Some o) (Some more))

known_later : (texts : StrNo → Option (List ℕ)) (tuples : ConstNo → Option (List Value)) {old new : List (Option ArenaObject)} → Later old new → (v : Value) → IsKnown texts tuples old v → IsKnown texts tuples new v
known_later texts tuples later v k = record { leads = leads_later later v k.leads; told = k.told }

pub source_later : (texts : StrNo → Option (List ℕ)) (tuples : ConstNo → Option (List Value)) {old new : List (Option ArenaObject)} → Later old new → (source : Source) → AreKnown texts tuples old source → AreKnown texts tuples new source
source_later texts tuples later (sources.Joined left right) are = (known_later texts tuples later left are.0, known_later texts tuples later right are.1)
source_later texts tuples later (sources.Repeated times of) are = known_later texts tuples later of are

-- an object more changes no items
module _ (texts : StrNo → Option (List ℕ)) (tuples : ConstNo → Option (List Value)) {old made : Heap Value ℕ} {t : ℕ} {o : ArenaObject} (m : Made old made t o) where
  keeps_made : Keeps old made
  keeps_made =
      let same : (n : ℕ) → n < length old.objects → object made.objects n ≡ object old.objects n = λ n lt. object_before m n lt in
      record { gives = λ n lt. ap given (same n lt); spells = λ n lt. ap text_of (same n lt); longer = λ n lt. omega (arith, lt, used_made m) }

  pub items_made : (source : Source) → AreKnown texts tuples old.objects source → source_items tuples made source ≡ source_items tuples old source
  items_made (sources.Joined left right) are = ap₂ (λ (xs ys : List Value). xs ++ ys) (items_kept tuples texts keeps_made left are.0.leads) (items_kept tuples texts keeps_made right are.1.leads)
  items_made (sources.Repeated times of) are = ap (λ (xs : List Value). repeat times xs) (items_kept tuples texts keeps_made of are.leads)

  before : (n : ℕ) (kind : ObjectKind) → IsA old.objects kind n → n ≡ t → ⊥
  before n kind is e = let low = is_within old.objects kind n is in let number = m.number in omega arith

  elsewhere : (v : Value) → Leads old.objects v → IsElsewhere t v
  elsewhere (values.List n) leads = before n.cell _ leads.meets
  elsewhere (values.Tuple n) leads = before n.cell _ leads.meets
  elsewhere (values.Dict n) leads = before n.cell _ leads.meets
  elsewhere (values.Range n) leads = before n.cell _ leads.meets
  elsewhere _ leads = tt

  pub elsewhere_made : (source : Source) → AreKnown texts tuples old.objects source → AreElsewhere t source
  elsewhere_made (sources.Joined left right) are = (elsewhere left are.0.leads, elsewhere right are.1.leads)
  elsewhere_made (sources.Repeated times of) are = elsewhere of are.leads

-- another object in the place of one, whose values are told
pub told_put : (texts : StrNo → Option (List ℕ)) (tuples : ConstNo → Option (List Value)) (h : Heap Value ℕ) (t : ℕ) (kind : ObjectKind) → IsA h.objects kind t → AllTold texts tuples h.objects
    → (o : ArenaObject) → All (IsTold texts tuples) (held (Some o)) → AllTold texts tuples (with_object h t o).objects
told_put texts tuples h t kind is all o told = record {
  told = λ n. elim (cases_eq n t) [
    | inl q ↦ subst (λ (x : Option ArenaObject). All (IsTold texts tuples) (held x)) (sym (subst (λ (j : ℕ). object (set h.objects t (Some o)) j ≡ Some o) (sym q) (get_or-set_same h.objects t (Some o) None (is_within h.objects kind t is)))) told
    | inr ne ↦ subst (λ (x : Option ArenaObject). All (IsTold texts tuples) (held x)) (sym (get_or-set_other h.objects t n (Some o) None ne)) (all.told n)
  ];
}

pub told_fill : (texts : StrNo → Option (List ℕ)) (tuples : ConstNo → Option (List Value)) (a b : Heap Value ℕ) (t at : ℕ) (v : Value) → IsA a.objects ATuple t → AllTold texts tuples a.objects → IsTold texts tuples v
    → b ≡ with_tuple a t (set (items_at a t) at v) → AllTold texts tuples b.objects
told_fill texts tuples a b t at v is all told e =
    subst (λ (w : Heap Value ℕ). AllTold texts tuples w.objects) (sym e)
    (told_put texts tuples a t ATuple is all (TupleObject (set (items_at a t) at v))
    (All-set (IsTold texts tuples) (items_at a t) at v told (held_tuple (IsTold texts tuples) (object a.objects t) is (all.told t))))

tuple_kept : (o : Option ArenaObject) → kind_of o ≡ Some ATuple → Some (TupleObject (items_of o)) ≡ o
tuple_kept (Some (TupleObject items)) is = refl
tuple_kept _ is = absurd cc

-- a tuple that is filled by the items of values
module _ (tuples : ConstNo → Option (List Value)) (h : Heap Value ℕ) (t : ℕ) (is : IsA h.objects ATuple t) (source : Source) (apart : AreElsewhere t source) (count : ℕ)
    (items : length (source_items tuples h source) ≡ count) (room : length (items_at h t) ≡ count) where
  -- the items below k are filled
  abbrev pub filled_tuple : ℕ → Heap Value ℕ
  filled_tuple k = with_tuple h t (partly (source_items tuples h source) (items_at h t) k)

  pub tuple_begins : h ≡ filled_tuple 0
  tuple_begins =
      sym (ap (λ (o : Option ArenaObject). record h { objects = set h.objects t o }) (tuple_kept (object h.objects t) is)
      ∙ ap (λ (os : List (Option ArenaObject)). record h { objects = os }) (set-get_or h.objects t None))

  pub tuple_source : (a : Heap Value ℕ) (k : ℕ) → a ≡ filled_tuple k → source_items tuples a source ≡ source_items tuples h source
  tuple_source a k e = ap (λ (w : Heap Value ℕ). source_items tuples w source) e ∙ source_elsewhere tuples h t (TupleObject (partly (source_items tuples h source) (items_at h t) k)) source apart

  pub tuple_partly : (a : Heap Value ℕ) (k : ℕ) → a ≡ filled_tuple k → items_at a t ≡ partly (source_items tuples h source) (items_at h t) k
  tuple_partly a k e = ap (λ (w : Heap Value ℕ). items_at w t) e ∙ ap items_of (object_put_there tuples h t (TupleObject (partly (source_items tuples h source) (items_at h t) k)) ATuple is)

  pub tuple_length : (a : Heap Value ℕ) (k : ℕ) → a ≡ filled_tuple k → k ≤ count → length (items_at a t) ≡ count
  tuple_length a k e le = ap (λ (xs : List Value). length xs) (tuple_partly a k e) ∙ partly_length (source_items tuples h source) (items_at h t) k count items room le

  pub tuple_step : (a b : Heap Value ℕ) (k : ℕ) (v : Value) → a ≡ filled_tuple k → k < count → v ≡ get_or (source_items tuples a source) k values.None → b ≡ with_tuple a t (set (items_at a t) k v) → b ≡ filled_tuple (k + 1)
  tuple_step a b k v e lt read put =
      let target = source_items tuples h source in
      let start = items_at h t in
      let now : v ≡ get_or target k values.None = read ∙ ap (λ (xs : List Value). get_or xs k values.None) (tuple_source a k e) in
      put ∙ (ap₂ (λ (xs : List Value) (x : Value). with_tuple a t (set xs k x)) (tuple_partly a k e) now
      ∙ (ap (λ (w : Heap Value ℕ). with_tuple w t (set (partly target start k) k (get_or target k values.None))) e
      ∙ (put_twice tuples h t (TupleObject (partly target start k)) (TupleObject (set (partly target start k) k (get_or target k values.None)))
      ∙ ap (λ (xs : List Value). with_tuple h t xs) (partly_more target start k values.None (omega arith) (omega arith)))))

  pub tuple_ends : (a : Heap Value ℕ) (k : ℕ) → k ≡ count → a ≡ filled_tuple k → a ≡ with_tuple h t (source_items tuples h source)
  tuple_ends a k end e = e ∙ ap (λ (xs : List Value). with_tuple h t xs) (partly_all (source_items tuples h source) (items_at h t) k (omega arith) (omega arith))

-- a tuple that was made, and then filled
pub tuple_made : {old made : Heap Value ℕ} {t : ℕ} (items : List Value) → Made old made t (TupleObject items) → (new : Heap Value ℕ) (target : List Value) → length items ≡ length target → new ≡ with_tuple made t target → Made old new t (TupleObject target)
tuple_made {old} {made} {t} items m new target len e = record {
  fits = subst (λ (n : ℕ). Fits old (suc n) 0) len m.fits;
  number = m.number;
  world = e ∙ (ap (λ (w : Heap Value ℕ). with_tuple w t target) m.world
      ∙ (ap (λ (os : List (Option ArenaObject)). record old { objects = os; bytes = old.bytes + 0 })
      (set_at old.objects (Some (TupleObject items)) (replicate (length items) None) (Some (TupleObject target)) t (sym m.number))
      ∙ ap (λ (n : ℕ). record old { objects = old.objects ++ (Some (TupleObject target) ∷ replicate n None); bytes = old.bytes + 0 }) len));
}

pub nothing_tuple : (heap : PlainHeap) (f : Value → Val) (items : List Value) → length items ≡ 0 → making_tuple heap (map f items) ≡ gives Empty heap
nothing_tuple heap f [] e = refl
nothing_tuple heap f (item ∷ items) e = absurd (omega arith)

pub tuple_making : (heap : PlainHeap) (f : Value → Val) (items : List Value) → 0 < length items → making_tuple heap (map f items) ≡ making heap (TupleObject (map f items))
tuple_making heap f [] some = absurd (omega arith)
tuple_making heap f (item ∷ items) some = refl

-- a list that is filled by the items of values
module _ (tuples : ConstNo → Option (List Value)) (h : Heap Value ℕ) (l : ℕ) (is : IsA h.objects AList l) (source : Source) (apart : AreElsewhere l source) where
  -- the items below k are there
  abbrev pub filled_list : ℕ → Heap Value ℕ
  filled_list k = with_list h l (take k (source_items tuples h source))

  list_kept : (o : Option ArenaObject) → kind_of o ≡ Some AList → length (items_of o) ≡ 0 → Some (ListObject [] (room_of o)) ≡ o
  list_kept (Some (ListObject [] room)) is e = refl
  list_kept (Some (ListObject (item ∷ items) room)) is e = absurd (omega arith)
  list_kept _ is e = absurd cc

  pub list_begins : length (items_at h l) ≡ 0 → h ≡ filled_list 0
  list_begins e =
      sym (ap (λ (o : Option ArenaObject). record h { objects = set h.objects l o }) (list_kept (object h.objects l) is e)
      ∙ ap (λ (os : List (Option ArenaObject)). record h { objects = os }) (set-get_or h.objects l None))

  pub list_source : (a : Heap Value ℕ) (k : ℕ) → a ≡ filled_list k → source_items tuples a source ≡ source_items tuples h source
  list_source a k e = ap (λ (w : Heap Value ℕ). source_items tuples w source) e ∙ source_elsewhere tuples h l (ListObject (take k (source_items tuples h source)) (room_at h l)) source apart

  there : (a : Heap Value ℕ) (k : ℕ) → a ≡ filled_list k → object a.objects l ≡ Some (ListObject (take k (source_items tuples h source)) (room_at h l))
  there a k e = ap (λ (w : Heap Value ℕ). object w.objects l) e ∙ object_put_there tuples h l (ListObject (take k (source_items tuples h source)) (room_at h l)) AList is

  pub list_items : (a : Heap Value ℕ) (k : ℕ) → a ≡ filled_list k → items_at a l ≡ take k (source_items tuples h source)
  list_items a k e = ap items_of (there a k e)

  pub list_room : (a : Heap Value ℕ) (k : ℕ) → a ≡ filled_list k → room_at a l ≡ room_at h l
  list_room a k e = ap room_of (there a k e)

  pub list_count : (a : Heap Value ℕ) (k : ℕ) → a ≡ filled_list k → k ≤ length (source_items tuples h source) → length (items_at a l) ≡ k
  list_count a k e le = ap (λ (xs : List Value). length xs) (list_items a k e) ∙ length-take-le k (source_items tuples h source) le

  put_behind : (a : Heap Value ℕ) (k : ℕ) (v : Value) → a ≡ filled_list k → k ≤ length (source_items tuples h source) → insert (items_at a l) k v ≡ items_at a l ++ v ∷ []
  put_behind a k v e le = ap (λ (j : ℕ). insert (items_at a l) j v) (sym (list_count a k e le)) ∙ insert_end (items_at a l) v

  pub list_step : (a b : Heap Value ℕ) (k : ℕ) (v : Value) → a ≡ filled_list k → k < length (source_items tuples h source) → v ≡ get_or (source_items tuples a source) k values.None → b ≡ with_list a l (insert (items_at a l) k v) → b ≡ filled_list (k + 1)
  list_step a b k v e lt read put =
      let target = source_items tuples h source in
      let one : suc k ≡ k + 1 = omega arith in
      let now : v ≡ get_or target k values.None = read ∙ ap (λ (xs : List Value). get_or xs k values.None) (list_source a k e) in
      let items : insert (items_at a l) k v ≡ take (k + 1) target =
      put_behind a k v e (omega arith) ∙ (ap₂ (λ (xs : List Value) (x : Value). xs ++ x ∷ []) (list_items a k e) now ∙ (sym (take-suc target k values.None lt) ∙ ap (λ (j : ℕ). take j target) one)) in
      put ∙ (ap₂ (λ (xs : List Value) (r : ℕ). with_object a l (ListObject xs r)) items (list_room a k e)
      ∙ (ap (λ (w : Heap Value ℕ). with_object w l (ListObject (take (k + 1) target) (room_at h l))) e
      ∙ put_twice tuples h l (ListObject (take k target) (room_at h l)) (ListObject (take (k + 1) target) (room_at h l))))

  pub list_told : (texts : StrNo → Option (List ℕ)) (a b : Heap Value ℕ) (k : ℕ) (v : Value) → a ≡ filled_list k → k ≤ length (source_items tuples h source) → IsA a.objects AList l → AllTold texts tuples a.objects → IsTold texts tuples v
      → b ≡ with_list a l (insert (items_at a l) k v) → AllTold texts tuples b.objects
  list_told texts a b k v e le is_list all told put =
      subst (λ (w : Heap Value ℕ). AllTold texts tuples w.objects) (sym (put ∙ ap (λ (xs : List Value). with_list a l xs) (put_behind a k v e le)))
      (told_list texts tuples a l is_list all (v ∷ []) (All-push (IsTold texts tuples) [] v (All-nil (IsTold texts tuples)) told))

  pub list_ends : (a : Heap Value ℕ) (k : ℕ) → k ≡ length (source_items tuples h source) → a ≡ filled_list k → a ≡ with_list h l (source_items tuples h source)
  list_ends a k end e = e ∙ ap (λ (xs : List Value). with_list h l xs) (take_all k (source_items tuples h source) (omega arith))

-- a list that was made, and then filled
pub list_made : {old made : Heap Value ℕ} {l room : ℕ} → Made old made l (ListObject [] room) → (new : Heap Value ℕ) (target : List Value) → new ≡ with_list made l target → Made old new l (ListObject target room)
list_made {old} {made} {l} {room} m new target e =
    let same : room_at made l ≡ room = ap room_of (object_made m) in
    record {
      fits = m.fits;
      number = m.number;
      world = e ∙ (ap (λ (r : ℕ). with_object made l (ListObject target r)) same
          ∙ (ap (λ (w : Heap Value ℕ). with_object w l (ListObject target room)) m.world
          ∙ ap (λ (os : List (Option ArenaObject)). record old { objects = os; bytes = old.bytes + 0 })
          (set_at old.objects (Some (ListObject [] room)) (replicate (2 + room) None) (Some (ListObject target room)) l (sym m.number))));
    }

-- a new tuple
pub told_nones : (texts : StrNo → Option (List ℕ)) (tuples : ConstNo → Option (List Value)) {old made : Heap Value ℕ} {t : ℕ} (len : ℕ) → Made old made t (TupleObject (replicate len values.None)) → AllTold texts tuples old.objects
    → AllTold texts tuples made.objects
told_nones texts tuples len m all = told_made texts tuples m all (All-replicate (IsTold texts tuples) len values.None tt)

pub nones_made : {old made : Heap Value ℕ} {t : ℕ} (len : ℕ) → Made old made t (TupleObject (replicate len values.None)) → length (items_at made t) ≡ len
nones_made len m = ap (λ (o : Option ArenaObject). length (items_of o)) (object_made m) ∙ length-replicate len values.None

-- a new list
pub told_empty : (texts : StrNo → Option (List ℕ)) (tuples : ConstNo → Option (List Value)) {old made : Heap Value ℕ} {l room : ℕ} → Made old made l (ListObject [] room) → AllTold texts tuples old.objects → AllTold texts tuples made.objects
told_empty texts tuples m all = told_made texts tuples m all (All-nil (IsTold texts tuples))

pub empty_made : {old made : Heap Value ℕ} {l room : ℕ} → Made old made l (ListObject [] room) → length (items_at made l) ≡ 0
empty_made m = ap (λ (o : Option ArenaObject). length (items_of o)) (object_made m)

pub room_made : {old made : Heap Value ℕ} {l room : ℕ} → Made old made l (ListObject [] room) → room_at made l ≡ room
room_made m = ap room_of (object_made m)

-- an object that is told among others
pub held_told : (texts : StrNo → Option (List ℕ)) (tuples : ConstNo → Option (List Value)) (h : Heap Value ℕ) (n : ℕ) (o : ArenaObject) → AllTold texts tuples h.objects → object h.objects n ≡ Some o → All (IsTold texts tuples) (held (Some o))
held_told texts tuples h n o all e = subst (λ (x : Option ArenaObject). All (IsTold texts tuples) (held x)) e (all.told n)
