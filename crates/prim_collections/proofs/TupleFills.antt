-- Tuples that are filled with what is kept of an iterable's items.
use Rattle.std.proofs.Common.{◌≡◌, ℕ, ◌+◌, ◌*◌, ◌<◌, ◌≤◌, List, ◌++◌, length, get_or, set, Bool, true, false, cond, Option, Some, None, refl, sym, ap, ap₂, ◌∙◌, arith, get_or-set_other}
use Rattle.std.proofs.lemmas.List.{set-get_or, append-nil}
use Rattle.std.proofs.lemmas.List.FromFn.{length-map-range_with_len, get_or-map-range_with_len}
use Rattle.prim_builtins.specs.arena_heap.declared.value.Value.{Value}
use Rattle.prim_builtins.specs.arena_heap.declared.value.Value.TheVariants as values
use Rattle.prim_builtins.specs.arena_heap.declared.value.StrNo.{StrNo}
use Rattle.prim_builtins.specs.arena_heap.declared.value.ConstNo.{ConstNo}
use Rattle.prim_builtins.specs.mpy_base.World.{TupleObject, Heap, Objects, ATuple, AText, IsA, Later, object, kind_of, items_of, items_at, with_object, with_tuple}
use Rattle.prim_builtins.specs.arena_heap.Values.{ArenaObject}
use Rattle.prim_builtins.specs.arena_objects.Iterables.{given, items_in, spelled, texts_from}
use Rattle.prim_builtins.specs.prim_operators.Sources.{IsElsewhere}
use Rattle.prim_builtins.proofs.prim_operators_lemmas.TextFills.{partly, partly_more, partly_all, partly_length}
use Rattle.prim_builtins.proofs.prim_operators_lemmas.ItemFills.{object_put_there, put_twice}
use Rattle.prim_collections.specs.Collected.{is_iterable, is_str, kept_length, kept_values, AreLetters}

-- the text at a place
pub text_there : (first count at : ℕ) → at < count → values.Text (record { cell = first + 2 * at }) ≡ get_or (texts_from first count) at values.None
text_there first count at lt = sym (get_or-map-range_with_len (λ (k : ℕ). values.Text (record { cell = first + 2 * k })) 0 count at at values.None lt (omega arith))

pub texts_length : (first count : ℕ) → length (texts_from first count) ≡ count
texts_length first count = length-map-range_with_len (λ (k : ℕ). values.Text (record { cell = first + 2 * k })) 0 count

pub letters_later : (old new : Objects Value ℕ) → Later old new → (first count : ℕ) (v : Value) → AreLetters old first count v → AreLetters new first count v
letters_later old new later first count v are = λ str k lt. later.keeps AText (first + 2 * k) (are str k lt)

-- all that is kept
pub values_all : (texts : StrNo → Option (List ℕ)) (tuples : ConstNo → Option (List Value)) (h : Heap Value ℕ) (first count : ℕ) (v : Value) → is_iterable v ≡ true → count ≡ kept_length texts tuples h v
    → kept_values tuples h first count v ≡ items_in tuples h v ++ texts_from first (length (spelled texts h v))
values_all texts tuples h first count (values.Str s) is e = ap (texts_from first) (omega (arith, e))
values_all texts tuples h first count (values.Text t) is e = ap (texts_from first) (omega (arith, e))
values_all texts tuples h first count (values.Fixed c) is e = sym (append-nil (items_in tuples h (values.Fixed c)))
values_all texts tuples h first count values.Empty is e = refl
values_all texts tuples h first count (values.List l) is e = sym (append-nil (items_in tuples h (values.List l)))
values_all texts tuples h first count (values.Tuple l) is e = sym (append-nil (items_in tuples h (values.Tuple l)))
values_all texts tuples h first count (values.Dict l) is e = sym (append-nil (items_in tuples h (values.Dict l)))
values_all texts tuples h first count (values.Range l) is e = sym (append-nil (items_in tuples h (values.Range l)))
values_all texts tuples h first count _ is e = absurd cc

values_apart : (tuples : ConstNo → Option (List Value)) (h : Heap Value ℕ) (t : ℕ) (o : ArenaObject) (first count : ℕ) (v : Value) → IsElsewhere t v → kept_values tuples (with_object h t o) first count v ≡ kept_values tuples h first count v
values_apart tuples h t o first count (values.List m) other = ap given (get_or-set_other h.objects t m.cell (Some o) None other)
values_apart tuples h t o first count (values.Tuple m) other = ap given (get_or-set_other h.objects t m.cell (Some o) None other)
values_apart tuples h t o first count (values.Dict m) other = ap given (get_or-set_other h.objects t m.cell (Some o) None other)
values_apart tuples h t o first count (values.Range m) other = ap given (get_or-set_other h.objects t m.cell (Some o) None other)
values_apart tuples h t o first count _ other = refl

-- a str keeps texts, and another iterable its items
pub values_str : (tuples : ConstNo → Option (List Value)) (h : Heap Value ℕ) (first count : ℕ) (v : Value) → is_str v ≡ true → kept_values tuples h first count v ≡ texts_from first count
values_str tuples h first count v e = ap (λ (b : Bool). cond b (texts_from first count) (items_in tuples h v)) e

pub values_other : (tuples : ConstNo → Option (List Value)) (h : Heap Value ℕ) (first count : ℕ) (v : Value) → is_str v ≡ false → kept_values tuples h first count v ≡ items_in tuples h v
values_other tuples h first count v e = ap (λ (b : Bool). cond b (texts_from first count) (items_in tuples h v)) e

tuple_kept : (o : Option ArenaObject) → kind_of o ≡ Some ATuple → Some (TupleObject (items_of o)) ≡ o
tuple_kept (Some (TupleObject items)) is = refl
tuple_kept _ is = absurd cc

module _ (tuples : ConstNo → Option (List Value)) (h : Heap Value ℕ) (t : ℕ) (is : IsA h.objects ATuple t) (v : Value) (apart : IsElsewhere t v) (first count : ℕ)
    (items : length (kept_values tuples h first count v) ≡ count) (room : length (items_at h t) ≡ count) where
  abbrev target : List Value
  target = kept_values tuples h first count v

  abbrev start : List Value
  start = items_at h t

  -- the items below k are filled
  abbrev pub filled : ℕ → Heap Value ℕ
  filled k = with_tuple h t (partly target start k)

  pub fill_begins : h ≡ filled 0
  fill_begins =
      sym (ap (λ (o : Option ArenaObject). record h { objects = set h.objects t o }) (tuple_kept (object h.objects t) is)
      ∙ ap (λ (os : List (Option ArenaObject)). record h { objects = os }) (set-get_or h.objects t None))

  pub fill_values : (a : Heap Value ℕ) (k : ℕ) → a ≡ filled k → kept_values tuples a first count v ≡ target
  fill_values a k e = ap (λ (w : Heap Value ℕ). kept_values tuples w first count v) e ∙ values_apart tuples h t (TupleObject (partly target start k)) first count v apart

  fill_partly : (a : Heap Value ℕ) (k : ℕ) → a ≡ filled k → items_at a t ≡ partly target start k
  fill_partly a k e = ap (λ (w : Heap Value ℕ). items_at w t) e ∙ ap items_of (object_put_there tuples h t (TupleObject (partly target start k)) ATuple is)

  pub fill_length : (a : Heap Value ℕ) (k : ℕ) → a ≡ filled k → k ≤ count → length (items_at a t) ≡ count
  fill_length a k e le = ap (λ (xs : List Value). length xs) (fill_partly a k e) ∙ partly_length target start k count items room le

  pub fill_step : (a b : Heap Value ℕ) (k : ℕ) (x : Value) → a ≡ filled k → k < count → x ≡ get_or (kept_values tuples a first count v) k values.None → b ≡ with_tuple a t (set (items_at a t) k x) → b ≡ filled (k + 1)
  fill_step a b k x e lt read put =
      let now : x ≡ get_or target k values.None = read ∙ ap (λ (xs : List Value). get_or xs k values.None) (fill_values a k e) in
      put ∙ (ap₂ (λ (xs : List Value) (y : Value). with_tuple a t (set xs k y)) (fill_partly a k e) now
      ∙ (ap (λ (w : Heap Value ℕ). with_tuple w t (set (partly target start k) k (get_or target k values.None))) e
      ∙ (put_twice tuples h t (TupleObject (partly target start k)) (TupleObject (set (partly target start k) k (get_or target k values.None)))
      ∙ ap (λ (xs : List Value). with_tuple h t xs) (partly_more target start k values.None (omega arith) (omega arith)))))

  pub fill_ends : (a : Heap Value ℕ) (k : ℕ) → k ≡ count → a ≡ filled k → a ≡ with_tuple h t target
  fill_ends a k end e = e ∙ ap (λ (xs : List Value). with_tuple h t xs) (partly_all target start k (omega arith) (omega arith))
