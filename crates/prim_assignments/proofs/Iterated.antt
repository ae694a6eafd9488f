-- The items of an arena's iterables as they are kept, as the meaning has them.
use Rattle.std.proofs.Common.{◌≡◌, ℕ, pos, ◌+◌, ◌*◌, ◌+ℤ◌, ◌*ℤ◌, ◌<◌, List, [], ◌∷◌, ◌++◌, length, take, map, Option, Some, None, Ok, Err, refl, sym, ap, ◌∙◌, subst, arith}
use Rattle.std.specs.Prelude.{IsSome}
use Rattle.std.specs.List.{range_with_len}
use Rattle.std.proofs.lemmas.List.{length-map, append-nil}
use Rattle.std.proofs.lemmas.Simd.{map-map}
use Rattle.prim_operators.specs.arena_heap.declared.value.Value.{Value}
use Rattle.prim_operators.specs.arena_heap.declared.value.Value.TheVariants as values
use Rattle.prim_operators.specs.arena_heap.declared.value.StrNo.{StrNo}
use Rattle.prim_operators.specs.arena_heap.declared.value.ConstNo.{ConstNo}
use Rattle.prim_operators.specs.mpy_base.World.{ListObject, TupleObject, DictObject, FunctionObject, ExceptionObject, MethodObject, RangeObject, ModuleObject, Heap, ObjectKind, AList, ATuple, ADict, ARange, AFunction, AnException, AMethod, AModule, object, kind_of}
use Rattle.prim_operators.specs.mpy_base.Weights.{used, Fits}
use Rattle.prim_operators.specs.mpy_base.Val.{Val}
use Rattle.prim_operators.specs.arena_heap.Values.{ArenaObject, Leads}
use Rattle.prim_operators.specs.arena_objects.Iterables as arena
use Rattle.prim_operators.specs.arena_objects.Iterables.{or_nothing, given, spelled, with_texts, texts_from}
use Rattle.prim_operators.specs.py_values.Shown.{PlainHeap, Shown, Text, range_len, shown, shown_object}
use Rattle.prim_operators.specs.py_values.Names.{type_name}
use Rattle.prim_operators.specs.py_primitives.Faults.{NotIterable}
use Rattle.prim_operators.specs.py_primitives.Outcome as primitives
use Rattle.prim_operators.specs.py_primitives.Outcome.{Outcome, gives, raises, is_full}
use Rattle.prim_operators.specs.py_primitives.Iterables.{letter, shown_items, items_in, kept_items, over_items}
use Rattle.prim_operators.specs.prim_walks.Plain.{plain, plain_pair, plain_object, plain_heap}
use Rattle.prim_operators.proofs.prim_walks_lemmas.PlainValues.{object_plain, fixed_shown}
use Rattle.prim_operators.specs.Operands.{HasItems, IsNested}
use Rattle.prim_operators.proofs.ItemsShown.{str_shown}
use Rattle.prim_assignments.proofs.Letters.{letters_fit, letters_fail}

-- what `iter` tells of a value
pub iterable_by : (heap : PlainHeap) (v w : Val) (o : Option (List Val)) → Ok w ≡ (over_items heap v o (λ items. gives v heap)).answer → IsSome o
iterable_by heap v w (Some items) e = refl
iterable_by heap v w None e = absurd cc

pub raised_by : {A : Type 0} (heap : PlainHeap) (v : Val) (o : Option (List Val)) (stop : primitives.Stop) (next : List Val → Outcome A) → Err stop ≡ (over_items heap v o (λ items. gives v heap)).answer
    → over_items heap v o next ≡ raises (NotIterable (type_name heap v)) heap
raised_by heap v (Some items) stop next e = absurd cc
raised_by heap v None stop next e = refl

abbrev Gives : Option ObjectKind → Type 0
Gives (Some AList) = Unit {0}
Gives (Some ATuple) = Unit {0}
Gives (Some ADict) = Unit {0}
Gives (Some ARange) = Unit {0}
Gives _ = ⊥

-- objects that are no iterables
abbrev GivesNone : Option ObjectKind → Type 0
GivesNone (Some AFunction) = Unit {0}
GivesNone (Some AnException) = Unit {0}
GivesNone (Some AMethod) = Unit {0}
GivesNone (Some AModule) = Unit {0}
GivesNone _ = ⊥

module _ (texts : StrNo → Option (List ℕ)) (tuples : ConstNo → Option (List Value)) where
  -- items that are there
  record Shows (s : Shown) (items : List Value) : Type 0 where
    shows : shown_items s ≡ Some (map (plain texts tuples) items)
    keeps : (heap : PlainHeap) (vs : List Val) → kept_items heap vs s ≡ gives vs heap

  keys_plain : (pairs : List (Value × Value)) → map (λ (q : Val × Val). q.0) (map (plain_pair texts tuples) pairs) ≡ map (plain texts tuples) (map (λ (q : Value × Value). q.0) pairs)
  keys_plain [] = refl
  keys_plain (pair ∷ pairs) = ap (λ (vs : List Val). plain texts tuples pair.0 ∷ vs) (keys_plain pairs)

  object_shows : (o : Option ArenaObject) → Gives (kind_of o) → Shows (shown_object (plain_object texts tuples o)) (given o)
  object_shows (Some (ListObject items room)) g = record { shows = refl; keeps = λ heap vs. refl }
  object_shows (Some (TupleObject items)) g = record { shows = refl; keeps = λ heap vs. refl }
  object_shows (Some (DictObject pairs room)) g = record { shows = ap (λ (vs : List Val). Some vs) (keys_plain pairs); keeps = λ heap vs. refl }
  object_shows (Some (RangeObject start stop step)) g = record {
    shows = ap (λ (vs : List Val). Some vs) (sym (map-map (plain texts tuples) (λ (k : ℕ). values.Int (start +ℤ pos k *ℤ step)) (range_with_len 0 (range_len start stop step))));
    keeps = λ heap vs. refl;
  }
  object_shows _ g = absurd g

  module _ (h : Heap Value ℕ) where
    here : (n : ℕ) (kind : ObjectKind) → kind_of (object h.objects n) ≡ Some kind → Gives (Some kind) → Shows (shown_object (object (plain_heap texts tuples h).objects n)) (given (object h.objects n))
    here n kind is g =
        subst (λ o. Shows (shown_object o) (given (object h.objects n))) (sym (object_plain texts tuples h.objects n)) (object_shows (object h.objects n) (subst Gives (sym is) g))

    items_shown : (v : Value) → HasItems v → Leads h.objects v → IsNested tuples v → Shows (shown (plain_heap texts tuples h) (plain texts tuples v)) (arena.items_in tuples h v)
    items_shown (values.Fixed c) has leads nests =
        subst (λ (s : Shown). Shows s (or_nothing (tuples c))) (sym (fixed_shown texts tuples (plain_heap texts tuples h) c nests)) (record { shows = refl; keeps = λ heap vs. refl })
    items_shown values.Empty has leads nests = record { shows = refl; keeps = λ heap vs. refl }
    items_shown (values.List l) has leads nests = here l.cell AList leads.meets tt
    items_shown (values.Tuple l) has leads nests = here l.cell ATuple leads.meets tt
    items_shown (values.Dict l) has leads nests = here l.cell ADict leads.meets tt
    items_shown (values.Range l) has leads nests = here l.cell ARange leads.meets tt
    items_shown _ has leads nests = absurd has

    -- the items, and the texts that are made for those of a str
    pub record Iterated (v : Value) : Type 0 where
      pub items : List Val
      pub shows : items_in (plain_heap texts tuples h) (plain texts tuples v) ≡ Some items
      pub count : length items ≡ length (arena.items_in tuples h v) + length (spelled texts h v)
      pub kept : (g : Heap Value ℕ) → Fits g (2 * length (spelled texts h v)) (length (spelled texts h v))
          → kept_items (plain_heap texts tuples g) items (shown (plain_heap texts tuples h) (plain texts tuples v))
          ≡ gives (map (plain texts tuples) (arena.items_in tuples h v ++ texts_from (used g) (length (spelled texts h v)))) (plain_heap texts tuples (with_texts g (spelled texts h v)))
      pub stopped : (g : Heap Value ℕ) (made : ℕ) → made < length (spelled texts h v) → Fits g (2 * made) made → (Fits (with_texts g (take made (spelled texts h v))) 2 1 → ⊥)
          → kept_items (plain_heap texts tuples g) items (shown (plain_heap texts tuples h) (plain texts tuples v)) ≡ is_full (plain_heap texts tuples (with_texts g (take made (spelled texts h v)))) 2 1

    pub of_text : (v : Value) → arena.items_in tuples h v ≡ [] → shown (plain_heap texts tuples h) (plain texts tuples v) ≡ Text (spelled texts h v) → Iterated v
    of_text v none shows =
        let bytes = spelled texts h v in
        record {
          items = map letter bytes;
          shows = ap shown_items shows;
          count = omega (arith, length-map bytes letter, ap (λ (xs : List Value). length xs) none);
          kept = λ g fits. ap (λ (s : Shown). kept_items (plain_heap texts tuples g) (map letter bytes) s) shows
              ∙ (letters_fit texts tuples bytes g fits
              ∙ ap (λ (xs : List Value). gives (map (plain texts tuples) (xs ++ texts_from (used g) (length bytes))) (plain_heap texts tuples (with_texts g bytes))) (sym none));
          stopped = λ g made few fits unfit. ap (λ (s : Shown). kept_items (plain_heap texts tuples g) (map letter bytes) s) shows ∙ letters_fail texts tuples bytes made g few fits unfit;
        }

    no_bytes : (v : Value) → HasItems v → spelled texts h v ≡ []
    no_bytes (values.Fixed c) has = refl
    no_bytes values.Empty has = refl
    no_bytes (values.List l) has = refl
    no_bytes (values.Tuple l) has = refl
    no_bytes (values.Dict l) has = refl
    no_bytes (values.Range l) has = refl
    no_bytes _ has = absurd has

    of_items : (v : Value) → HasItems v → Leads h.objects v → IsNested tuples v → Iterated v
    of_items v has leads nests =
        let xs = arena.items_in tuples h v in
        let none = no_bytes v has in
        let all = items_shown v has leads nests in
        record {
          items = map (plain texts tuples) xs;
          shows = all.shows;
          count = omega (arith, length-map xs (plain texts tuples), ap (λ (bs : List ℕ). length bs) none);
          kept = λ g fits. all.keeps (plain_heap texts tuples g) (map (plain texts tuples) xs)
              ∙ (ap (λ (ys : List Value). gives (map (plain texts tuples) ys) (plain_heap texts tuples g)) (sym (append-nil xs))
              ∙ ap (λ (bs : List ℕ). gives (map (plain texts tuples) (xs ++ texts_from (used g) (length bs))) (plain_heap texts tuples (with_texts g bs))) (sym none));
          stopped = λ g made few fits unfit. absurd (omega (arith, ap (λ (bs : List ℕ). length bs) none));
        }

    object_gives_none : (o : Option ArenaObject) → GivesNone (kind_of o) → shown_items (shown_object (plain_object texts tuples o)) ≡ None
    object_gives_none (Some (FunctionObject name module_name code names defaults)) g = refl
    object_gives_none (Some (ExceptionObject kind args file line name)) g = refl
    object_gives_none (Some (MethodObject bound method)) g = refl
    object_gives_none (Some (ModuleObject name names)) g = refl
    object_gives_none _ g = absurd g

    none_here : (n : ℕ) (kind : ObjectKind) → kind_of (object h.objects n) ≡ Some kind → GivesNone (Some kind) → IsSome (shown_items (shown_object (object (plain_heap texts tuples h).objects n))) → ⊥
    none_here n kind is g some =
        let none : IsSome {T = List Val} None = subst (λ (o : Option (List Val)). IsSome o)
        (ap (λ o. shown_items (shown_object o)) (object_plain texts tuples h.objects n) ∙ object_gives_none (object h.objects n) (subst GivesNone (sym is) g)) some in
        cc

    pub iterated : (v : Value) → Leads h.objects v → IsNested tuples v → IsSome (items_in (plain_heap texts tuples h) (plain texts tuples v)) → Iterated v
    iterated (values.Str s) leads nests some = of_text (values.Str s) refl (str_shown texts tuples h (values.Str s) tt leads)
    iterated (values.Text t) leads nests some = of_text (values.Text t) refl (str_shown texts tuples h (values.Text t) tt leads)
    iterated (values.Fixed c) leads nests some = of_items (values.Fixed c) tt leads nests
    iterated values.Empty leads nests some = of_items values.Empty tt leads nests
    iterated (values.List l) leads nests some = of_items (values.List l) tt leads nests
    iterated (values.Tuple l) leads nests some = of_items (values.Tuple l) tt leads nests
    iterated (values.Dict l) leads nests some = of_items (values.Dict l) tt leads nests
    iterated (values.Range l) leads nests some = of_items (values.Range l) tt leads nests
    iterated (values.Fun l) leads nests some = absurd (none_here l.cell AFunction leads.meets tt some)
    iterated (values.Exc l) leads nests some = absurd (none_here l.cell AnException leads.meets tt some)
    iterated (values.Method l) leads nests some = absurd (none_here l.cell AMethod leads.meets tt some)
    iterated (values.Module l) leads nests some = absurd (none_here l.cell AModule leads.meets tt some)
    iterated values.None leads nests some = absurd cc
    iterated (values.Bool b) leads nests some = absurd cc
    iterated (values.Int z) leads nests some = absurd cc
    iterated (values.Built b) leads nests some = absurd cc
