-- Values of dicts by their keys, and what stands in for them.
use Rattle.std.proofs.Common.{◌≡◌, ℕ, ◌<◌, List, [], ◌∷◌, length, map, get_or, Bool, true, false, cond, Option, Some, None, refl, sym, ap, ◌∙◌, arith}
use Rattle.std.specs.Prelude.{is_some, codes}
use Rattle.std.specs.Option.{option_map}
use Rattle.std.specs.List.{remove}
use Rattle.std.proofs.lemmas.Option.{slice_get-get_or}
use Rattle.mpy_base.specs.World.{Heap, ADict, IsA, pairs_at, with_dict}
use Rattle.mpy_base.specs.Val.{Val, Nil}
use Rattle.prim_assignments.specs.arena_heap.declared.value.Value.{Value}
use Rattle.prim_assignments.specs.arena_heap.declared.value.StrNo.{StrNo}
use Rattle.prim_assignments.specs.arena_heap.declared.value.ConstNo.{ConstNo}
use Rattle.prim_assignments.specs.arena_heap.Values.{Sound}
use Rattle.prim_assignments.specs.arena_objects.Keys.{AllTold, StandsAt, IsValueOf, Lacks}
use Rattle.prim_assignments.proofs.arena_objects_lemmas.Places.{no_pair}
use Rattle.prim_builtins.specs.py_values.Shown.{PlainHeap}
use Rattle.prim_builtins.specs.py_values.Names.{type_name}
use Rattle.prim_builtins.specs.py_values.Keys.{key_of, value_of_key, without_key}
use Rattle.prim_builtins.specs.py_primitives.Faults.{UnsupportedOne, NoKey}
use Rattle.prim_builtins.specs.py_primitives.Outcome.{Outcome, gives, raises}
use Rattle.prim_builtins.specs.py_primitives.Operators.{with_key_of}
use Rattle.prim_builtins.specs.py_primitives.Methods.{pop_found}
use Rattle.prim_builtins.specs.py_primitives.Methods as methods
use Rattle.prim_assignments.specs.prim_walks.Plain.{plain, plain_pair, plain_heap}
use Rattle.prim_assignments.proofs.prim_operators_lemmas.DictKeys.{IsKnownKey, Stands, each_key, found_at, without_at, missing}

module _ {A : Type 0} (heap : PlainHeap) (key : Val) (next : Outcome A) where
  tested : (b : Bool) → is_some (key_of heap key) ≡ b → with_key_of heap key next ≡ cond b next (raises (UnsupportedOne (codes "__hash__") (type_name heap key)) heap)
  tested b e = ap (λ (c : Bool). cond c next (raises (UnsupportedOne (codes "__hash__") (type_name heap key)) heap)) e

  pub keyed : true ≡ is_some (key_of heap key) → with_key_of heap key next ≡ next
  keyed e = tested true (sym e)

  -- of what is no key
  pub unkeyed : false ≡ is_some (key_of heap key) → with_key_of heap key next ≡ raises (UnsupportedOne (codes "__hash__") (type_name heap key)) heap
  unkeyed e = tested false (sym e)

module _ (texts : StrNo → Option (List ℕ)) (tuples : ConstNo → Option (List Value)) (h : Heap Value ℕ) (d : ℕ) (is : IsA h.objects ADict d) (sound : Sound h.objects) (all : AllTold texts tuples h.objects)
    (key : Value) (known : IsKnownKey texts tuples h key) where
  stands_at : (at : ℕ) → StandsAt texts h d key at → Stands texts tuples h key known (pairs_at h d) at
  stands_at at s = record { within = s.within; equal = s.equal; first = s.first }

  pub value_there : (v : Value) → IsValueOf texts h d key v → value_of_key (plain_heap texts tuples h) (map (plain_pair texts tuples) (pairs_at h d)) (plain texts tuples key) ≡ Some (plain texts tuples v)
  value_there v there =
      let pairs = pairs_at h d in
      let read : Some (get_or pairs there.at no_pair).1 ≡ Some v =
      sym (ap (λ (o : Option (Value × Value)). option_map (λ (pair : Value × Value). pair.1) o) (slice_get-get_or pairs there.at no_pair there.stands.within)) ∙ there.value in
      let same : (get_or pairs there.at no_pair).1 ≡ v = cc in
      found_at texts tuples h key known pairs there.at (each_key texts tuples h d is sound all key known) (stands_at there.at there.stands) ∙ ap (λ (w : Value). Some (plain texts tuples w)) same

  pub value_missing : Lacks texts h d key → value_of_key (plain_heap texts tuples h) (map (plain_pair texts tuples) (pairs_at h d)) (plain texts tuples key) ≡ None
  value_missing lacks = missing texts tuples h key known (pairs_at h d) (each_key texts tuples h d is sound all key known) lacks.differs

  pub pairs_without : (at : ℕ) → StandsAt texts h d key at
      → without_key (plain_heap texts tuples h) (map (plain_pair texts tuples) (pairs_at h d)) (plain texts tuples key) ≡ map (plain_pair texts tuples) (remove (pairs_at h d) at)
  pairs_without at s = without_at texts tuples h key known (pairs_at h d) at (each_key texts tuples h d is sound all key known) (stands_at at s)

-- what stands in for a value that isn't there
module _ (f : Value → Val) where
  pub or_nil : (others : List Value) → length others ≡ 0 → methods.get_or None (map f others) ≡ Nil
  or_nil [] e = refl
  or_nil (other ∷ others) e = absurd (omega arith)

  pub or_other : (others : List Value) (d : Value) → 0 < length others → methods.get_or None (map f others) ≡ f (get_or others 0 d)
  or_other [] d some = absurd (omega arith)
  or_other (other ∷ others) d some = refl

  module _ (heap : PlainHeap) (dict : ℕ) (pairs : List (Val × Val)) (key : Val) where
    pub pops_nothing : (others : List Value) → length others ≡ 0 → pop_found heap dict pairs key (map f others) None ≡ raises (NoKey key) heap
    pops_nothing [] e = refl
    pops_nothing (other ∷ others) e = absurd (omega arith)

    pub pops_other : (others : List Value) (d : Value) → 0 < length others → pop_found heap dict pairs key (map f others) None ≡ gives (f (get_or others 0 d)) heap
    pops_other [] d some = absurd (omega arith)
    pops_other (other ∷ others) d some = refl

    pub pops_value : (others : List Val) (v : Val) → pop_found heap dict pairs key others (Some v) ≡ gives v (with_dict heap dict (without_key heap pairs key))
    pops_value [] v = refl
    pops_value (other ∷ others) v = refl
