-- Names in a namespace, as the meaning has them.
use Rattle.std.proofs.Common.{◌≡◌, ℕ, List, map, Option, Some, None, sym, ap, ◌∙◌}
use Rattle.std.specs.Prelude.{IsSome}
use Rattle.std.specs.List.{remove}
use Rattle.mpy_base.specs.World.{Heap, ADict, IsA, pairs_at, with_dict}
use Rattle.mpy_base.specs.Val.{Val, Str, PlainWorld}
use Rattle.prim_methods.specs.arena_heap.declared.value.Value.{Value}
use Rattle.prim_methods.specs.arena_heap.declared.value.Value.TheVariants as values
use Rattle.prim_methods.specs.arena_heap.declared.value.StrNo.{StrNo}
use Rattle.prim_methods.specs.arena_heap.declared.value.ConstNo.{ConstNo}
use Rattle.prim_methods.specs.arena_heap.Values.{Sound}
use Rattle.prim_methods.specs.arena_objects.Iterables.{or_nothing}
use Rattle.prim_methods.specs.arena_objects.Keys.{AllTold, StandsAt, IsValueOf, Lacks}
use Rattle.prim_raising.specs.py_effects.py_values.Keys.{value_of_key, without_key}
use Rattle.prim_raising.specs.py_effects.Names.{named_in}
use Rattle.prim_methods.specs.prim_walks.Plain.{plain, plain_pair, plain_heap}
use Rattle.prim_methods.proofs.prim_faults_lemmas.Heaps.{pairs_of_plain, dict_put}
use Rattle.prim_methods.proofs.prim_operators_lemmas.DictKeys.{IsKnownKey}
use Rattle.prim_methods.proofs.DictValues.{value_there, value_missing, pairs_without}
use Rattle.prim_methods.specs.prim_faults.Sights.{world_over}

module _ (texts : StrNo → Option (List ℕ)) (tuples : ConstNo → Option (List Value)) (h : Heap Value ℕ) (names : ℕ) (is : IsA h.objects ADict names) (sound : Sound h.objects) (all : AllTold texts tuples h.objects)
    (name : StrNo) (told : IsSome (texts name)) where
  known : IsKnownKey texts tuples h (values.Str name)
  known = record { key = tt; leads = record { meets = tt; small = tt }; told = told }

  read : (w : PlainWorld) → named_in (world_over texts tuples w h) names (or_nothing (texts name)) ≡ value_of_key (plain_heap texts tuples h) (map (plain_pair texts tuples) (pairs_at h names)) (Str (or_nothing (texts name)))
  read w = ap (λ (ps : List (Val × Val)). value_of_key (plain_heap texts tuples h) ps (Str (or_nothing (texts name)))) (pairs_of_plain texts tuples h names)

  pub named_there : (w : PlainWorld) (v : Value) → IsValueOf texts h names (values.Str name) v → named_in (world_over texts tuples w h) names (or_nothing (texts name)) ≡ Some (plain texts tuples v)
  named_there w v there = read w ∙ value_there texts tuples h names is sound all (values.Str name) known v there

  pub named_nowhere : (w : PlainWorld) → Lacks texts h names (values.Str name) → named_in (world_over texts tuples w h) names (or_nothing (texts name)) ≡ None
  named_nowhere w lacks = read w ∙ value_missing texts tuples h names is sound all (values.Str name) known lacks

  -- a namespace without the name
  pub name_deleted : (new : Heap Value ℕ) (at : ℕ) → StandsAt texts h names (values.Str name) at → new ≡ with_dict h names (remove (pairs_at h names) at)
      → with_dict (plain_heap texts tuples h) names (without_key (plain_heap texts tuples h) (pairs_at (plain_heap texts tuples h) names) (Str (or_nothing (texts name)))) ≡ plain_heap texts tuples new
  name_deleted new at stands deleted =
      let heap = plain_heap texts tuples h in
      ap (λ (ps : List (Val × Val)). with_dict heap names (without_key heap ps (Str (or_nothing (texts name))))) (pairs_of_plain texts tuples h names)
      ∙ (ap (λ (ps : List (Val × Val)). with_dict heap names ps) (pairs_without texts tuples h names is sound all (values.Str name) known at stands)
      ∙ (sym (dict_put texts tuples h names (remove (pairs_at h names) at)) ∙ sym (ap (plain_heap texts tuples) deleted)))
