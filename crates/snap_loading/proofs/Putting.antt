-- Objects that are put into the place of an object, one behind the other.
use Rattle.std.proofs.Common.{◌≡◌, ℕ, zero, suc, ◌-◌, ◌<◌, ◌≤◌, List, [], ◌∷◌, ◌++◌, length, map, take, replicate, Option, Some, None, slice_get, refl, sym, ap, ◌∙◌, arith, append_assoc, get_or-set_same}
use Rattle.std.specs.Prelude.{slice_set}
use Rattle.std.specs.List.{insert}
use Rattle.std.proofs.lemmas.List.{set-get_or, set-set, set-append_right}
use Rattle.std.proofs.lemmas.List.Edits.{insert_end}
use Rattle.mpy_base.specs.World.{Heap, Later, ListObject, TupleObject, DictObject, ObjectKind, object, kind_of, items_of, items_at, pairs_of, pairs_at, room_of, with_object, with_list, with_tuple, with_dict}
use Rattle.mpy_base.proofs.Worlds.{is_within, later_set}
use Rattle.arena_heap.specs.declared.value.Value.{Value}
use Rattle.arena_heap.specs.declared.value.Value.TheVariants as values
use Rattle.arena_heap.specs.Values.{ArenaObject}

-- one item more
pub take_next : {A B : Type 0} (f : A → B) (xs : List A) (k : ℕ) (x : A) → slice_get xs k ≡ Some x → map f (take (suc k) xs) ≡ map f (take k xs) ++ f x ∷ []
take_next f [] zero x e = absurd cc
take_next f [] (suc k) x e = absurd cc
take_next f (y ∷ ys) zero x e = let same : y ≡ x = cc in ap (λ z. f z ∷ []) same
take_next f (y ∷ ys) (suc k) x e = ap (λ zs. f y ∷ zs) (take_next f ys k x e)

pub take_none : {A B : Type 0} (f : A → B) (xs : List A) → map f (take 0 xs) ≡ []
take_none f [] = refl
take_none f (x ∷ xs) = refl

pub take_whole : {A B : Type 0} (f : A → B) (xs : List A) → map f (take (length xs) xs) ≡ map f xs
take_whole f [] = refl
take_whole f (x ∷ xs) = ap (λ zs. f x ∷ zs) (take_whole f xs)

pub take_long : {A B : Type 0} (f : A → B) (xs : List A) (k : ℕ) → k ≤ length xs → length (map f (take k xs)) ≡ k
take_long f [] zero le = refl
take_long f [] (suc k) le = absurd (omega (arith, le))
take_long f (x ∷ xs) zero le = refl
take_long f (x ∷ xs) (suc k) le = let less : k ≤ length xs = omega (arith, le) in ap suc (take_long f xs k less)

module _ (h : Heap Value ℕ) (n : ℕ) where
  abbrev pub put : ArenaObject → Heap Value ℕ
  put o = with_object h n o

  pub put_begins : (o : ArenaObject) → object h.objects n ≡ Some o → h ≡ put o
  put_begins o e =
      sym (ap (λ (r : Option ArenaObject). record h { objects = slice_set h.objects n r }) (sym e)
      ∙ ap (λ (os : List (Option ArenaObject)). record h { objects = os }) (set-get_or h.objects n None))

  pub put_within : (o : ArenaObject) (kind : ObjectKind) → object h.objects n ≡ Some o → kind_of (Some o) ≡ Some kind → n < length h.objects
  put_within o kind e k = is_within h.objects kind n (ap kind_of e ∙ k)

  pub put_there : (o : ArenaObject) → n < length h.objects → object (put o).objects n ≡ Some o
  put_there o lt = get_or-set_same h.objects n (Some o) None lt

  pub put_again : (a b : ArenaObject) → with_object (put a) n b ≡ put b
  put_again a b = ap (λ (os : List (Option ArenaObject)). record h { objects = os }) (set-set h.objects n (Some a) (Some b))

  -- kinds stay
  pub put_later : (a o : ArenaObject) → object h.objects n ≡ Some a → kind_of (Some a) ≡ kind_of (Some o) → Later h.objects (put o).objects
  put_later a o e same = later_set h.objects n (Some o) (λ kind q. sym same ∙ (sym (ap kind_of e) ∙ q))

  -- a list gets one item more
  pub list_step : (xs : List Value) (room k : ℕ) (v : Value) (a b : Heap Value ℕ) → n < length h.objects → a ≡ put (ListObject xs room) → k ≡ length xs → b ≡ with_list a n (insert (items_at a n) k v) → b ≡ put (ListObject (xs ++ v ∷ []) room)
  list_step xs room k v a b lt e at done =
      done
      ∙ (ap (λ (w : Heap Value ℕ). with_list w n (insert (items_at w n) k v)) e
      ∙ (ap (λ (r : Option ArenaObject). with_object (put (ListObject xs room)) n (ListObject (insert (items_of r) k v) (room_of r))) (put_there (ListObject xs room) lt)
      ∙ (ap (λ j. with_object (put (ListObject xs room)) n (ListObject (insert xs j v) room)) at
      ∙ (ap (λ zs. with_object (put (ListObject xs room)) n (ListObject zs room)) (insert_end xs v)
      ∙ put_again (ListObject xs room) (ListObject (xs ++ v ∷ []) room)))))

  -- a dict gets one pair more
  pub dict_step : (ps : List (Value × Value)) (room : ℕ) (p : Value × Value) (a b : Heap Value ℕ) → n < length h.objects → a ≡ put (DictObject ps room) → b ≡ with_dict a n (pairs_at a n ++ p ∷ []) → b ≡ put (DictObject (ps ++ p ∷ []) room)
  dict_step ps room p a b lt e done =
      done
      ∙ (ap (λ (w : Heap Value ℕ). with_dict w n (pairs_at w n ++ p ∷ [])) e
      ∙ (ap (λ (r : Option ArenaObject). with_object (put (DictObject ps room)) n (DictObject (pairs_of r ++ p ∷ []) (room_of r))) (put_there (DictObject ps room) lt)
      ∙ put_again (DictObject ps room) (DictObject (ps ++ p ∷ []) room)))

  -- a tuple gets an item in a place that had none
  pub tuple_step : (xs : List Value) (m k : ℕ) (v : Value) (a b : Heap Value ℕ) → n < length h.objects → a ≡ put (TupleObject (xs ++ replicate (suc m) values.None)) → k ≡ length xs → b ≡ with_tuple a n (slice_set (items_at a n) k v)
      → b ≡ put (TupleObject ((xs ++ v ∷ []) ++ replicate m values.None))
  tuple_step xs m k v a b lt e at done =
      let none : k - k ≡ 0 = omega arith in
      let le : k ≤ k = omega arith in
      let old = TupleObject (xs ++ replicate (suc m) values.None) in
      done
      ∙ (ap (λ (w : Heap Value ℕ). with_tuple w n (slice_set (items_at w n) k v)) e
      ∙ (ap (λ (r : Option ArenaObject). with_object (put old) n (TupleObject (slice_set (items_of r) k v))) (put_there old lt)
      ∙ (ap (λ zs. with_object (put old) n (TupleObject zs))
      (set-append_right xs (replicate (suc m) values.None) k k v (sym at) le
      ∙ (ap (λ j. xs ++ slice_set (replicate (suc m) values.None) j v) none
      ∙ sym (append_assoc xs (v ∷ []) (replicate m values.None))))
      ∙ put_again old (TupleObject ((xs ++ v ∷ []) ++ replicate m values.None)))))
