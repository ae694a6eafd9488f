-- Outcomes that are put together alike.
use Rattle.std.proofs.Common.{◌≡◌, ℕ, zero, suc, ◌+◌, ◌*◌, Bool, true, false, cond, leb, List, [], ◌∷◌, length, map, replicate, Option, Some, None, Result, Ok, Err, refl, sym, ap, subst, ◌∙◌}
use Rattle.std.specs.Option.{option_map}
use Rattle.std.proofs.lemmas.List.{length-map}
use Rattle.bc_machine.specs.mpy_base.World.{Object, ListObject, TupleObject, TextObject, DictObject, FunctionObject, ExceptionObject, MethodObject, RangeObject, ModuleObject, object, items_of, room_of, pairs_of, items_at, room_at, pairs_at, with_object, with_list, with_tuple, with_dict}
use Rattle.bc_machine.specs.mpy_base.Weights.{used, cells_of, bytes_of, does_fit, no_room, with_made, with_used, room_for, list_growth, dict_growth, grown_room, with_list_room, with_items, with_pairs}
use Rattle.bc_machine.specs.mpy_base.Val.{Val, Nil, Truth, Int, Str, Fixed, Empty, Built, At}
use Rattle.bc_machine.specs.py_values.Shown.{PlainHeap}
use Rattle.bc_machine.specs.py_values.Equality.{Walk}
use Rattle.bc_machine.specs.py_values.Names.{type_name, object_type}
use Rattle.bc_machine.specs.py_primitives.Faults.{Fault, TooDeep}
use Rattle.bc_machine.specs.py_primitives.Outcome.{Stop, Raises, Full, Outcome, gives, raises, is_full, with_visits, go_on_with, followed_by, after_answer, after_walk, making, making_text, making_tuple, making_list, making_texts, list_of, tuple_of}
use Rattle.bc_machine.specs.py_primitives.Walks.{walk_map, go_on, and_then}
use Rattle.bc_machine.specs.py_values.Equality.{after}
use Rattle.snap_laws.specs.Renamed.{Renaming, value, pair, object_as, IsRenamed}
use Rattle.snap_laws.specs.Outcomes.{IsOutcome, fault_as, answer_as}
use Rattle.snap_laws.proofs.Changes.{cells_as, bytes_as, set_as, used_as, made_as, number_as}

module _ (r : Renaming) where
  -- what is given, raised and refused
  pub given : {A : Type 0} (f : A → A) (h k : PlainHeap) → IsRenamed r h k → (a b : A) → b ≡ f a
      → IsOutcome r f (gives a h) (gives b k)
  given f h k is a b e = record { answer = ap Ok e; heap = is; visits = refl }

  pub raised : {A : Type 0} (f : A → A) (h k : PlainHeap) → IsRenamed r h k → (x y : Fault) → y ≡ fault_as r x
      → IsOutcome r f (raises x h) (raises y k)
  raised f h k is x y e = record { answer = ap (λ z. Err (Raises z)) e; heap = is; visits = refl }

  fits_as : (h k : PlainHeap) → IsRenamed r h k → (c b c' b' : ℕ) → c' ≡ c → b' ≡ b
      → does_fit k c' b' ≡ does_fit h c b
  fits_as h k is c b c' b' e f = rw (e, f, is.cells, is.bytes, is.cell_size, is.byte_size) refl

  room_told : (h k : PlainHeap) → IsRenamed r h k → (c b c' b' : ℕ) → c' ≡ c → b' ≡ b
      → no_room k c' b' ≡ no_room h c b
  room_told h k is c b c' b' e f = rw (e, f, is.cells, is.bytes, is.cell_size, is.byte_size) refl

  full : {A : Type 0} (f : A → A) (h k : PlainHeap) → IsRenamed r h k → (c b c' b' : ℕ) → c' ≡ c → b' ≡ b
      → IsOutcome r f (is_full h c b) (is_full k c' b')
  full f h k is c b c' b' e g =
      record { answer = ap (λ z. Err (Full z)) (room_told h k is c b c' b' e g); heap = is; visits = refl }

  -- a choice by tests that agree
  pub either : {A : Type 0} (f : A → A) (b c : Bool) (x y x' y' : Outcome A) → c ≡ b → IsOutcome r f x x'
      → IsOutcome r f y y' → IsOutcome r f (cond b x y) (cond c x' y')
  either f b c x y x' y' e p q = subst (λ z. IsOutcome r f (cond b x y) (cond z x' y')) (sym e) (chosen b)
    where
      chosen : (d : Bool) → IsOutcome r f (cond d x y) (cond d x' y')
      chosen true = p
      chosen false = q

  -- what takes room, where it fits
  pub fitting : {A : Type 0} (f : A → A) (h k : PlainHeap) → IsRenamed r h k → (c b c' b' : ℕ) → c' ≡ c → b' ≡ b
      → (x x' : Outcome A) → IsOutcome r f x x'
      → IsOutcome r f (cond (does_fit h c b) x (is_full h c b)) (cond (does_fit k c' b') x' (is_full k c' b'))
  fitting f h k is c b c' b' e g x x' p =
      either f (does_fit h c b) (does_fit k c' b') x (is_full h c b) x' (is_full k c' b')
      (fits_as h k is c b c' b' e g) p (full f h k is c b c' b' e g)

  pub visited : {A : Type 0} (f : A → A) (m n : ℕ) → n ≡ m → (o p : Outcome A) → IsOutcome r f o p
      → IsOutcome r f (with_visits m o) (with_visits n p)
  visited f m n e o p same =
      record {
        answer = same.answer;
        heap = same.heap;
        visits = ap (λ z. z + p.visits) e ∙ ap (λ z. m + z)
            same.visits;
      }

  -- one outcome behind another
  pub followed : {A B : Type 0} (f : A → A) (g : B → B) (o p : Outcome A) (next next' : A → PlainHeap → Outcome B)
      → IsOutcome r f o p → ((a : A) (h k : PlainHeap) → IsRenamed r h k → IsOutcome r g (next a h) (next' (f a) k))
      → IsOutcome r g (followed_by o next) (followed_by p next')
  followed f g o p next next' same on =
      subst (λ z. IsOutcome r g (followed_by o next) (go_on_with z p.heap p.visits next')) (sym same.answer)
      (subst (λ z. IsOutcome r g (followed_by o next) (go_on_with (answer_as r f o.answer) p.heap z next'))
      (sym same.visits)
      (gone o.answer))
    where
      gone : (a : Result _ Stop) → IsOutcome r g (go_on_with a o.heap o.visits next)
          (go_on_with (answer_as r f a) p.heap o.visits next')
      gone (Ok a) =
          visited g o.visits o.visits refl (next a o.heap) (next' (f a) p.heap) (on a o.heap p.heap same.heap)
      gone (Err stop) = record { answer = refl; heap = same.heap; visits = refl }

  -- what comes behind a walk
  pub walked : {A B : Type 0} (f : A → A) (g : B → B) (h k : PlainHeap) → IsRenamed r h k
      → (w v : Walk A) (next next' : A → Outcome B) → v ≡ walk_map f w
      → ((a : A) → IsOutcome r g (next a) (next' (f a))) → IsOutcome r g (after_walk h w next) (after_walk k v next')
  walked f g h k is w v next next' e on =
      subst (λ z. IsOutcome r g (after_walk h w next) (after_walk k z next')) (sym e)
      (visited g w.visits w.visits refl (after_answer w.answer h next) (after_answer (option_map f w.answer) k next')
      (gone w.answer))
    where
      gone : (o : Option _) → IsOutcome r g (after_answer o h next) (after_answer (option_map f o) k next')
      gone (Some a) = on a
      gone None = raised g h k is TooDeep TooDeep refl

  -- one that answers the same
  pub walked_same : {A B : Type 0} (g : B → B) (h k : PlainHeap) → IsRenamed r h k
      → (w v : Walk A) (next next' : A → Outcome B) → v ≡ w → ((a : A) → IsOutcome r g (next a) (next' a))
      → IsOutcome r g (after_walk h w next) (after_walk k v next')
  walked_same g h k is w v next next' e on =
      subst (λ z. IsOutcome r g (after_walk h w next) (after_walk k z next')) (sym e)
      (visited g w.visits w.visits refl (after_answer w.answer h next) (after_answer w.answer k next')
      (gone w.answer))
    where
      gone : (o : Option _) → IsOutcome r g (after_answer o h next) (after_answer o k next')
      gone (Some a) = on a
      gone None = raised g h k is TooDeep TooDeep refl

  -- parts of an object
  pub room_as : (o : Option (Object Val (List ℕ))) → room_of (option_map (object_as r) o) ≡ room_of o
  room_as None = refl
  room_as (Some (ListObject items room)) = refl
  room_as (Some (TupleObject items)) = refl
  room_as (Some (TextObject bytes)) = refl
  room_as (Some (DictObject pairs room)) = refl
  room_as (Some (FunctionObject name module_name code names defaults)) = refl
  room_as (Some (ExceptionObject kind args file line name)) = refl
  room_as (Some (MethodObject v method)) = refl
  room_as (Some (RangeObject start stop step)) = refl
  room_as (Some (ModuleObject name names)) = refl

  items_same : (o : Option (Object Val (List ℕ))) → items_of (option_map (object_as r) o) ≡ map (value r) (items_of o)
  items_same None = refl
  items_same (Some (ListObject items room)) = refl
  items_same (Some (TupleObject items)) = refl
  items_same (Some (TextObject bytes)) = refl
  items_same (Some (DictObject pairs room)) = refl
  items_same (Some (FunctionObject name module_name code names defaults)) = refl
  items_same (Some (ExceptionObject kind args file line name)) = refl
  items_same (Some (MethodObject v method)) = refl
  items_same (Some (RangeObject start stop step)) = refl
  items_same (Some (ModuleObject name names)) = refl

  pairs_same : (o : Option (Object Val (List ℕ))) → pairs_of (option_map (object_as r) o) ≡ map (pair r) (pairs_of o)
  pairs_same None = refl
  pairs_same (Some (ListObject items room)) = refl
  pairs_same (Some (TupleObject items)) = refl
  pairs_same (Some (TextObject bytes)) = refl
  pairs_same (Some (DictObject pairs room)) = refl
  pairs_same (Some (FunctionObject name module_name code names defaults)) = refl
  pairs_same (Some (ExceptionObject kind args file line name)) = refl
  pairs_same (Some (MethodObject v method)) = refl
  pairs_same (Some (RangeObject start stop step)) = refl
  pairs_same (Some (ModuleObject name names)) = refl

  type_object : (o : Option (Object Val (List ℕ))) → object_type (option_map (object_as r) o) ≡ object_type o
  type_object None = refl
  type_object (Some (ListObject items room)) = refl
  type_object (Some (TupleObject items)) = refl
  type_object (Some (TextObject bytes)) = refl
  type_object (Some (DictObject pairs room)) = refl
  type_object (Some (FunctionObject name module_name code names defaults)) = refl
  type_object (Some (ExceptionObject kind args file line name)) = refl
  type_object (Some (MethodObject v method)) = refl
  type_object (Some (RangeObject start stop step)) = refl
  type_object (Some (ModuleObject name names)) = refl

  nils_as : (n : ℕ) → map (value r) (replicate n Nil) ≡ replicate n Nil
  nils_as zero = refl
  nils_as (suc n) = ap (λ z. Nil ∷ z) (nils_as n)

  module _ (h k : PlainHeap) (is : IsRenamed r h k) where
    pub type_as : (v : Val) → type_name k (value r v) ≡ type_name h v
    type_as Nil = refl
    type_as (Truth b) = refl
    type_as (Int z) = refl
    type_as (Str bytes) = refl
    type_as (Fixed items) = refl
    type_as Empty = refl
    type_as (Built b) = refl
    type_as (At n) = ap object_type (is.objects n) ∙ type_object (object h.objects n)

    -- the object that the next making makes
    pub next_number : used k ≡ r.to (used h)
    next_number = is.cells ∙ sym (r.fixed (used h) is.above)

    module _ (n m : ℕ) (e : m ≡ r.to n) where
      pub room_of_object : room_at k m ≡ room_at h n
      room_of_object =
          ap (λ z. room_of (object k.objects z)) e ∙ ap room_of (is.objects n) ∙ room_as (object h.objects n)

      pub items_of_object : items_at k m ≡ map (value r) (items_at h n)
      items_of_object =
          ap (λ z. items_of (object k.objects z)) e ∙ ap items_of (is.objects n) ∙ items_same (object h.objects n)

      pub pairs_of_object : pairs_at k m ≡ map (pair r) (pairs_at h n)
      pairs_of_object =
          ap (λ z. pairs_of (object k.objects z)) e ∙ ap pairs_of (is.objects n) ∙ pairs_same (object h.objects n)

      -- an object in the place of one
      pub put : (o p : Object Val (List ℕ)) → p ≡ object_as r o → IsRenamed r (with_object h n o) (with_object k m p)
      put o p f =
          subst (λ z. IsRenamed r (with_object h n o) (with_object k z p)) (sym e)
          (subst (λ z. IsRenamed r (with_object h n o) (with_object k (r.to n) z)) (sym f) (set_as r h k is n o))

      pub put_list : (xs ys : List Val) → ys ≡ map (value r) xs → IsRenamed r (with_list h n xs) (with_list k m ys)
      put_list xs ys f =
          put (ListObject xs (room_at h n)) (ListObject ys (room_at k m))
          (ap (ListObject ys) room_of_object ∙ ap (λ z. ListObject z (room_at h n)) f)

      pub put_tuple : (xs ys : List Val) → ys ≡ map (value r) xs → IsRenamed r (with_tuple h n xs) (with_tuple k m ys)
      put_tuple xs ys f = put (TupleObject xs) (TupleObject ys) (ap TupleObject f)

      pub put_dict : (ps qs : List (Val × Val)) → qs ≡ map (pair r) ps
          → IsRenamed r (with_dict h n ps) (with_dict k m qs)
      put_dict ps qs f =
          put (DictObject ps (room_at h n)) (DictObject qs (room_at k m))
          (ap (DictObject qs) room_of_object ∙ ap (λ z. DictObject z (room_at h n)) f)

      -- lists and dicts that grow
      module _ (c d : ℕ) (f : d ≡ c) where
        pub list_growth_as : list_growth k m d ≡ list_growth h n c
        list_growth_as = ap (λ z. list_growth k m z) f ∙ ap (λ z. cond (leb c z) 0 (room_for c)) room_of_object

        pub dict_growth_as : dict_growth k m d ≡ dict_growth h n c
        dict_growth_as = ap (λ z. dict_growth k m z) f ∙ ap (λ z. cond (leb c z) 0 (3 * room_for c)) room_of_object

        pub grown_as : grown_room k m d ≡ grown_room h n c
        grown_as = ap (λ z. grown_room k m z) f ∙ ap (λ z. cond (leb c z) z (room_for c)) room_of_object

  -- cells that are used, and an object in the place of one
  grown : (h k : PlainHeap) → IsRenamed r h k → (n m : ℕ) → m ≡ r.to n → (c d : ℕ) → d ≡ c
      → (o p : Object Val (List ℕ)) → p ≡ object_as r o
      → IsRenamed r (with_object (with_used h c) n o) (with_object (with_used k d) m p)
  grown h k is n m e c d f o p g =
      put (with_used h c) (with_used k d) (subst (λ z. IsRenamed r (with_used h c) (with_used k z)) (sym f)
      (used_as r h k is c)) n m e o p g

  pub grown_list : (h k : PlainHeap) → IsRenamed r h k → (n m : ℕ) → m ≡ r.to n → (xs ys : List Val)
      → ys ≡ map (value r) xs → IsRenamed r (with_items h n xs) (with_items k m ys)
  grown_list h k is n m e xs ys f =
      let long : length ys ≡ length xs = ap length f ∙ length-map xs (value r) in
      grown h k is n m e (list_growth h n (length xs)) (list_growth k m (length ys))
      (list_growth_as h k is n m e (length xs) (length ys) long)
      (ListObject xs (grown_room h n (length xs))) (ListObject ys (grown_room k m (length ys)))
      (ap (ListObject ys) (grown_as h k is n m e (length xs) (length ys) long) ∙ ap
      (λ z. ListObject z (grown_room h n (length xs))) f)

  pub grown_dict : (h k : PlainHeap) → IsRenamed r h k → (n m : ℕ) → m ≡ r.to n → (ps qs : List (Val × Val))
      → qs ≡ map (pair r) ps → IsRenamed r (with_pairs h n ps) (with_pairs k m qs)
  grown_dict h k is n m e ps qs f =
      let long : length qs ≡ length ps = ap length f ∙ length-map ps (pair r) in
      grown h k is n m e (dict_growth h n (length ps)) (dict_growth k m (length qs))
      (dict_growth_as h k is n m e (length ps) (length qs) long)
      (DictObject ps (grown_room h n (length ps))) (DictObject qs (grown_room k m (length qs)))
      (ap (DictObject qs) (grown_as h k is n m e (length ps) (length qs) long) ∙ ap
      (λ z. DictObject z (grown_room h n (length ps))) f)

  pub grown_room_of : (h k : PlainHeap) → IsRenamed r h k → (n m : ℕ) → m ≡ r.to n → (c d : ℕ) → d ≡ c
      → IsRenamed r (with_list_room h n c) (with_list_room k m d)
  grown_room_of h k is n m e c d f =
      grown h k is n m e (list_growth h n c) (list_growth k m d) (list_growth_as h k is n m e c d f)
      (ListObject (items_at h n) (grown_room h n c)) (ListObject (items_at k m) (grown_room k m d))
      (ap (ListObject (items_at k m)) (grown_as h k is n m e c d f) ∙ ap (λ z. ListObject z (grown_room h n c))
      (items_of_object h k is n m e))

  -- makings
  pub making_as : (h k : PlainHeap) → IsRenamed r h k → (o : Object Val (List ℕ))
      → IsOutcome r (value r) (making h o) (making k (object_as r o))
  making_as h k is o =
      fitting (value r) h k is (cells_of o) (bytes_of o) (cells_of (object_as r o)) (bytes_of (object_as r o))
      (ap suc (cells_as r o)) (bytes_as r o)
      (gives (At (used h)) (with_made h o)) (gives (At (used k)) (with_made k (object_as r o)))
      (record { answer = ap Ok (sym (number_as r h k is)); heap = made_as r h k is o; visits = refl })

  pub text_made : (h k : PlainHeap) → IsRenamed r h k → (bytes : List ℕ)
      → IsOutcome r (value r) (making_text h bytes) (making_text k bytes)
  text_made h k is [] = given (value r) h k is (Str []) (Str []) refl
  text_made h k is (b ∷ bytes) = making_as h k is (TextObject (b ∷ bytes))

  tuple_made : (h k : PlainHeap) → IsRenamed r h k → (items : List Val)
      → IsOutcome r (value r) (making_tuple h items) (making_tuple k (map (value r) items))
  tuple_made h k is [] = given (value r) h k is Empty Empty refl
  tuple_made h k is (v ∷ items) = making_as h k is (TupleObject (v ∷ items))

  pub tuple_as : (h k : PlainHeap) → IsRenamed r h k → (xs ys : List Val) → ys ≡ map (value r) xs
      → IsOutcome r (value r) (making_tuple h xs) (making_tuple k ys)
  tuple_as h k is xs ys e =
      subst (λ z. IsOutcome r (value r) (making_tuple h xs) (making_tuple k z)) (sym e) (tuple_made h k is xs)

  pub list_as : (h k : PlainHeap) → IsRenamed r h k → (xs ys : List Val) → ys ≡ map (value r) xs
      → IsOutcome r (value r) (making_list h xs) (making_list k ys)
  list_as h k is xs ys e =
      subst (λ z. IsOutcome r (value r) (making_list h xs) (making_list k z)) (sym e)
      (subst (λ n. IsOutcome r (value r) (making_list h xs) (making k (ListObject (map (value r) xs) (room_for n))))
      (sym (length-map xs (value r)))
      (making_as h k is (ListObject xs (room_for (length xs)))))

  -- one value in front of others
  pub one_before : (o p : Outcome Val) → IsOutcome r (value r) o p → (others others' : PlainHeap → Outcome (List Val))
      → ((h k : PlainHeap) → IsRenamed r h k → IsOutcome r (map (value r)) (others h) (others' k))
      → IsOutcome r (map (value r)) (followed_by o (λ v behind. followed_by (others behind)
      (λ vs last. gives (v ∷ vs) last))) (followed_by p
      (λ v behind. followed_by (others' behind) (λ vs last. gives (v ∷ vs) last)))
  one_before o p same others others' on =
      followed (value r) (map (value r)) o p (λ v behind. followed_by (others behind)
      (λ vs last. gives (v ∷ vs) last)) (λ v behind. followed_by (others' behind)
      (λ vs last. gives (v ∷ vs) last)) same
      (λ v h k is. followed (map (value r)) (map (value r)) (others h) (others' k) (λ vs last. gives (v ∷ vs) last)
      (λ vs last. gives (value r v ∷ vs) last) (on h k is)
      (λ vs i j at. given (map (value r)) i j at (v ∷ vs) (value r v ∷ map (value r) vs) refl))

  pub texts_made : (h k : PlainHeap) → IsRenamed r h k → (texts : List (List ℕ))
      → IsOutcome r (map (value r)) (making_texts h texts) (making_texts k texts)
  texts_made h k is [] = given (map (value r)) h k is [] [] refl
  texts_made h k is (text ∷ texts) =
      one_before (making_text h text) (making_text k text) (text_made h k is text)
      (λ behind. making_texts behind texts) (λ behind. making_texts behind texts)
      (λ i j at. texts_made i j at texts)

  pub list_of_as : (h k : PlainHeap) → IsRenamed r h k → (m n : ℕ) → n ≡ m
      → (kept kept' : PlainHeap → Outcome (List Val))
      → ((i j : PlainHeap) → IsRenamed r i j → IsOutcome r (map (value r)) (kept i) (kept' j))
      → IsOutcome r (value r) (list_of h m kept) (list_of k n kept')
  list_of_as h k is m n e kept kept' on =
      subst (λ z. IsOutcome r (value r) (list_of h m kept) (list_of k z kept')) (sym e)
      (followed (value r) (value r) (making h (ListObject [] (room_for m))) (making k (ListObject [] (room_for m)))
      (λ made behind. followed_by (kept behind) (λ items last. gives made (with_list last (used h) items)))
      (λ made behind. followed_by (kept' behind) (λ items last. gives made (with_list last (used k) items)))
      (making_as h k is (ListObject [] (room_for m)))
      (λ made i j at. followed (map (value r)) (value r) (kept i) (kept' j)
      (λ items last. gives made (with_list last (used h) items))
      (λ items last. gives (value r made) (with_list last (used k) items)) (on i j at)
      (λ items a b was. given (value r) (with_list a (used h) items) (with_list b (used k) (map (value r) items))
      (put_list a b was (used h) (used k) (next_number h k is) items (map (value r) items) refl) made
      (value r made) refl)))

  tuple_of_same : (h k : PlainHeap) → IsRenamed r h k → (m : ℕ) → (kept kept' : PlainHeap → Outcome (List Val))
      → ((i j : PlainHeap) → IsRenamed r i j → IsOutcome r (map (value r)) (kept i) (kept' j))
      → IsOutcome r (value r) (tuple_of h m kept) (tuple_of k m kept')
  tuple_of_same h k is zero kept kept' on = given (value r) h k is Empty Empty refl
  tuple_of_same h k is (suc m) kept kept' on =
      followed (value r) (value r) (making h (TupleObject (replicate (suc m) Nil)))
      (making k (TupleObject (replicate (suc m) Nil)))
      (λ made behind. followed_by (kept behind) (λ items last. gives made (with_tuple last (used h) items)))
      (λ made behind. followed_by (kept' behind) (λ items last. gives made (with_tuple last (used k) items)))
      (subst (λ z. IsOutcome r (value r) (making h (TupleObject (replicate (suc m) Nil))) (making k (TupleObject z)))
      (nils_as (suc m)) (making_as h k is (TupleObject (replicate (suc m) Nil))))
      (λ made i j at. followed (map (value r)) (value r) (kept i) (kept' j)
      (λ items last. gives made (with_tuple last (used h) items))
      (λ items last. gives (value r made) (with_tuple last (used k) items)) (on i j at)
      (λ items a b was. given (value r) (with_tuple a (used h) items) (with_tuple b (used k) (map (value r) items))
      (put_tuple a b was (used h) (used k) (next_number h k is) items (map (value r) items) refl) made
      (value r made) refl))

  pub tuple_of_as : (h k : PlainHeap) → IsRenamed r h k → (m n : ℕ) → n ≡ m
      → (kept kept' : PlainHeap → Outcome (List Val))
      → ((i j : PlainHeap) → IsRenamed r i j → IsOutcome r (map (value r)) (kept i) (kept' j))
      → IsOutcome r (value r) (tuple_of h m kept) (tuple_of k n kept')
  tuple_of_as h k is m n e kept kept' on =
      subst (λ z. IsOutcome r (value r) (tuple_of h m kept) (tuple_of k z kept')) (sym e)
      (tuple_of_same h k is m kept kept' on)

-- walks
-- =====

-- the second walk over what the first one answers, changed alike
pub then_mapped : {A B : Type 0} (f : A → A) (g : B → B) (w v : Walk A) (next next' : A → Walk B) → v ≡ walk_map f w
    → ((a : A) → next' (f a) ≡ walk_map g (next a)) → and_then v next' ≡ walk_map g (and_then w next)
then_mapped f g w v next next' e on = ap (λ z. and_then z next') e ∙ gone w.answer
  where
    gone : (o : Option _) → go_on (option_map f o) w.visits next' ≡ walk_map g (go_on o w.visits next)
    gone None = refl
    gone (Some a) = ap (after w.visits) (on a)

pub then_same : {A B : Type 0} (g : B → B) (w v : Walk A) (next next' : A → Walk B) → v ≡ w
    → ((a : A) → next' a ≡ walk_map g (next a)) → and_then v next' ≡ walk_map g (and_then w next)
then_same g w v next next' e on = ap (λ z. and_then z next') e ∙ gone w.answer
  where
    gone : (o : Option _) → go_on o w.visits next' ≡ walk_map g (go_on o w.visits next)
    gone None = refl
    gone (Some a) = ap (after w.visits) (on a)

pub then_equal : {A B : Type 0} (w v : Walk A) (next next' : A → Walk B) → v ≡ w → ((a : A) → next' a ≡ next a)
    → and_then v next' ≡ and_then w next
then_equal w v next next' e on = ap (λ z. and_then z next') e ∙ gone w.answer
  where
    gone : (o : Option _) → go_on o w.visits next' ≡ go_on o w.visits next
    gone None = refl
    gone (Some a) = ap (after w.visits) (on a)
