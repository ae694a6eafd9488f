-- Registered modules, which have their namespaces.
use Rattle.std.proofs.Common.{◌≡◌, ℕ, List, [], ◌∷◌, map, Bool, true, false, cond, Option, Some, None, refl, sym, ap, ◌∙◌, subst}
use Rattle.std.specs.Prelude.{bytes_eq, filter, option_and_then}
use Rattle.prim_assignments.specs.arena_heap.declared.value.Value.{Value}
use Rattle.prim_assignments.specs.arena_heap.declared.value.StrNo.{StrNo}
use Rattle.prim_assignments.specs.arena_heap.declared.value.ConstNo.{ConstNo}
use Rattle.mpy_base.specs.World.{Object, ModuleObject, Heap, AModule, object, kind_of, names_of}
use Rattle.mpy_base.specs.Val.{Val, Nil, Str, At, PlainWorld}
use Rattle.prim_assignments.specs.arena_heap.Values.{ArenaObject}
use Rattle.py_effects.specs.py_values.Shown.{PlainHeap}
use Rattle.py_effects.specs.py_primitives.Uses.{put_pair}
use Rattle.py_effects.specs.Effect.{Effect, on_heap, does}
use Rattle.py_effects.specs.Modules.{registered_as, last_part, stored_in, stored_under}
use Rattle.py_effects.specs.Heaps.{refers, HasNames, Registered}
use Rattle.prim_assignments.specs.prim_walks.Plain.{plain_object, plain_heap}
use Rattle.prim_assignments.proofs.prim_walks_lemmas.PlainValues.{object_plain}

-- a registered module has its names
one_has : (heap : PlainHeap) (m n : ℕ) (others : Option ℕ) (b : Bool) → HasNames heap m → (others ≡ Some n → HasNames heap n) → cond b (Some m) others ≡ Some n → HasNames heap n
one_has heap m n others true has rest is = let same : m ≡ n = cc in subst (HasNames heap) same has
one_has heap m n others false has rest is = rest is

named_has : (heap : PlainHeap) (modules : List (List ℕ × ℕ)) (name : List ℕ) (n : ℕ) → Registered modules heap → registered_as modules name ≡ Some n → HasNames heap n
named_has heap [] name n all is = absurd cc
named_has heap (m ∷ modules) name n all is =
    one_has heap (m.1) n (registered_as modules name) (bytes_eq (m.0) name) (all.0) (λ e. named_has heap modules name n (all.1) e) is

pub outer_has : (heap : PlainHeap) (modules : List (List ℕ × ℕ)) (outer : Option (List ℕ)) (n : ℕ) → Registered modules heap → Some n ≡ option_and_then (registered_as modules) outer → HasNames heap n
outer_has heap modules None n all is = absurd cc
outer_has heap modules (Some name) n all is = named_has heap modules name n all (sym is)

has_object : (o : Option (Object Val (List ℕ))) (names : ℕ) → kind_of o ≡ Some AModule → refers o ≡ Some names → (title : List ℕ) × (o ≡ Some (ModuleObject title (Some names)))
has_object (Some (ModuleObject title old)) names is has = (title, ap (λ (x : Option ℕ). let o : Option (Object Val (List ℕ)) = Some (ModuleObject title x) in o) has)
has_object _ names is has = absurd cc

arena_module : (texts : StrNo → Option (List ℕ)) (tuples : ConstNo → Option (List Value)) (o : Option ArenaObject) (title : List ℕ) (names : ℕ) → plain_object texts tuples o ≡ Some (ModuleObject title (Some names))
    → (own : ℕ) × (o ≡ Some (ModuleObject own (Some names)))
arena_module texts tuples (Some (ModuleObject own old)) title names is =
    let same : old ≡ Some names = cc in (own, ap (λ (x : Option ℕ). let o : Option ArenaObject = Some (ModuleObject own x) in o) same)
arena_module texts tuples _ title names is = absurd cc

-- a module of an arena that has its names there
pub arena_has : (texts : StrNo → Option (List ℕ)) (tuples : ConstNo → Option (List Value)) (h : Heap Value ℕ) (n : ℕ) (has : HasNames (plain_heap texts tuples h) n)
    → (own : ℕ) × (object h.objects n ≡ Some (ModuleObject own (Some has.names)))
arena_has texts tuples h n has =
    let is = has_object (object (plain_heap texts tuples h).objects n) has.names has.is_module has.has in
    arena_module texts tuples (object h.objects n) is.0 has.names (sym (object_plain texts tuples h.objects n) ∙ is.1)

-- stores
-- ======

module _ (w : PlainWorld) (name : List ℕ) (m : ℕ) where
  abbrev pick : Option ℕ → Effect Val
  pick found = elim found [ Some n ↦ stored_in w name m (names_of (object w.heap.objects n)) | None ↦ does Nil w ]

  pub stored_nowhere : (outer : Option (List ℕ)) → None ≡ option_and_then (registered_as w.modules) outer → stored_under w name m outer ≡ does Nil w
  stored_nowhere None is = refl
  stored_nowhere (Some front) is = ap pick (sym is)

  pub stored_there : (outer : Option (List ℕ)) (n names : ℕ) → Some n ≡ option_and_then (registered_as w.modules) outer → names_of (object w.heap.objects n) ≡ Some names
      → stored_under w name m outer ≡ on_heap w (put_pair w.heap names (Str (last_part name)) (At m))
  stored_there None n names is named = absurd cc
  stored_there (Some front) n names is named = ap pick (sym is) ∙ ap (λ (x : Option ℕ). stored_in w name m x) named

-- forgetting
-- ==========

one_kept : {X Y : Type 0} (f : X → Y) (x : X) (xs : List X) (ys : List Y) (b : Bool) → map f xs ≡ ys → map f (cond b (x ∷ xs) xs) ≡ cond b (f x ∷ ys) ys
one_kept {Y = Y} f x xs ys true rest = ap (λ (zs : List Y). f x ∷ zs) rest
one_kept f x xs ys false rest = rest

-- what stays of a list, seen by what it means
pub kept_plain : {X Y : Type 0} (f : X → Y) (p : Y → Bool) (xs : List X) → map f (filter (λ x. p (f x)) xs) ≡ filter p (map f xs)
kept_plain f p [] = refl
kept_plain f p (x ∷ xs) = one_kept f x (filter (λ y. p (f y)) xs) (filter p (map f xs)) (p (f x)) (kept_plain f p xs)
