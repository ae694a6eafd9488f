-- The keys and the values of a dict, as the meaning has them, and new lists of them.
use Rattle.std.proofs.Common.{◌≡◌, ℕ, List, [], ◌∷◌, length, map, Option, Result, refl, ap, subst}
use Rattle.std.specs.List.{All}
use Rattle.std.proofs.lemmas.List.Elements.{All-map}
use Rattle.mpy_base.specs.World.{Heap}
use Rattle.mpy_base.specs.Val.{Val}
use Rattle.prim_assignments.specs.arena_heap.declared.value.Value.{Value}
use Rattle.prim_assignments.specs.arena_heap.declared.value.StrNo.{StrNo}
use Rattle.prim_assignments.specs.arena_heap.declared.value.ConstNo.{ConstNo}
use Rattle.prim_assignments.proofs.arena_objects_lemmas.Tolds.{Both}
use Rattle.prim_builtins.specs.py_values.Shown.{PlainHeap}
use Rattle.prim_builtins.specs.py_primitives.Outcome.{Outcome, with_visits, making_list}
use Rattle.prim_builtins.specs.py_primitives.Methods.{dict_list}
use Rattle.prim_assignments.specs.prim_walks.Plain.{plain, plain_pair}
use Rattle.prim_assignments.specs.prim_faults.declared.stop.Stop.{Stop}
use Rattle.prim_assignments.specs.prim_faults.Outcomes.{IsOutcome}
use Rattle.prim_methods.specs.declared.halves.Half.{Half}
use Rattle.prim_methods.specs.declared.halves.Half.TheVariants as halves
use Rattle.prim_methods.specs.Halves.{half_of}

pub half_told : (P : Value → Type 0) (half : Half) (pairs : List (Value × Value)) → All (Both P) pairs → All P (map (half_of half) pairs)
half_told P halves.Keys pairs all = All-map P (λ (p : Value × Value). p.0) pairs (λ k d h. (all k d h).0)
half_told P halves.Values pairs all = All-map P (λ (p : Value × Value). p.1) pairs (λ k d h. (all k d h).1)

pub half_leads : (P : Value → Type 0) (half : Half) (key v : Value) → P key → P v → P (half_of half (key, v))
half_leads P halves.Keys key v k w = k
half_leads P halves.Values key v k w = w

module _ (texts : StrNo → Option (List ℕ)) (tuples : ConstNo → Option (List Value)) where
  pub keys_plain : (pairs : List (Value × Value)) → map (plain texts tuples) (map (half_of halves.Keys) pairs) ≡ map (λ (q : Val × Val). q.0) (map (plain_pair texts tuples) pairs)
  keys_plain [] = refl
  keys_plain (pair ∷ pairs) = ap (λ (vs : List Val). plain texts tuples pair.0 ∷ vs) (keys_plain pairs)

  pub values_plain : (pairs : List (Value × Value)) → map (plain texts tuples) (map (half_of halves.Values) pairs) ≡ map (λ (q : Val × Val). q.1) (map (plain_pair texts tuples) pairs)
  values_plain [] = refl
  values_plain (pair ∷ pairs) = ap (λ (vs : List Val). plain texts tuples pair.1 ∷ vs) (values_plain pairs)

  -- visits make no difference to what a call answers
  pub with_any_visits : (old new : Heap Value ℕ) (result : Result Value Stop) (outcome : Outcome Val) (visits : ℕ) → IsOutcome texts tuples old new result outcome → IsOutcome texts tuples old new result (with_visits visits outcome)
  with_any_visits old new result outcome visits is = record { answer = is.answer; heap = is.heap; known = is.known; later = is.later; all_told = is.all_told }

  -- a list of what a dict has
  pub listed : (old new : Heap Value ℕ) (result : Result Value Stop) (heap : PlainHeap) (vs ws : List Val) → vs ≡ ws → IsOutcome texts tuples old new result (making_list heap vs)
      → IsOutcome texts tuples old new result (dict_list heap ws)
  listed old new result heap vs ws e is = with_any_visits old new result (making_list heap ws) (length ws) (subst (λ (us : List Val). IsOutcome texts tuples old new result (making_list heap us)) e is)
