-- Effects that concern an arena's heap alone.
use Rattle.std.proofs.Common.{◌≡◌, ℕ, List, Option, Result, Ok, Err, refl, sym, ap, ◌∙◌}
use Rattle.prim_types.specs.arena_heap.declared.value.Value.{Value}
use Rattle.prim_types.specs.arena_heap.declared.value.StrNo.{StrNo}
use Rattle.prim_types.specs.arena_heap.declared.value.ConstNo.{ConstNo}
use Rattle.mpy_base.specs.World.{Heap}
use Rattle.mpy_base.specs.Val.{Val, PlainWorld}
use Rattle.prim_types.specs.arena_heap.Values.{Leads}
use Rattle.prim_types.specs.arena_heap.Constants.{IsTold}
use Rattle.prim_types.specs.arena_objects.Keys.{AllTold}
use Rattle.prim_types.specs.py_values.Shown.{PlainHeap}
use Rattle.prim_types.specs.py_primitives.Outcome.{Outcome, gives, raises}
use Rattle.py_effects.specs.Effect.{Effect, on_heap, does, faults}
use Rattle.prim_types.specs.prim_walks.Plain.{plain, plain_heap}
use Rattle.prim_types.specs.prim_faults.declared.fault.Fault.{Fault}
use Rattle.prim_types.specs.prim_faults.declared.stop.Stop.{Stop}
use Rattle.prim_types.specs.prim_faults.declared.stop.Stop.TheVariants.{Raises}
use Rattle.prim_types.specs.prim_faults.Faults.{plain_fault, IsKnownFault}
use Rattle.prim_types.specs.prim_faults.Outcomes.{IsOutcome}
use Rattle.prim_types.proofs.prim_faults_lemmas.Outcomes.{gives_outcome, raises_outcome}
use Rattle.prim_types.specs.prim_faults.Sights.{Sight, sight_of as sight, world_over}
use Rattle.prim_raising.specs.Worlds.{HasEffect}

module _ (texts : StrNo → Option (List ℕ)) (tuples : ConstNo → Option (List Value)) where
  -- the outcome of a primitive that makes no visits
  pub heap_effect : (old new : Heap Value ℕ) (result : Result Value Stop) (outcome : Outcome Val) (effect : PlainWorld → Sight → Effect Val) → IsOutcome texts tuples old new result outcome → outcome.visits ≡ 0
      → ((w : PlainWorld) → effect (world_over texts tuples w old) (sight texts tuples) ≡ on_heap (world_over texts tuples w old) outcome) → HasEffect texts tuples old new result effect
  heap_effect old new result outcome effect o visits is = record {
    answer = λ w. o.answer ∙ sym (ap (λ (e : Effect Val). e.answer) (is w));
    world = λ w. ap (λ (h : PlainHeap). record w { heap = h }) o.heap ∙ sym (ap (λ (e : Effect Val). e.world) (is w));
    visits = λ w. ap (λ (e : Effect Val). e.visits) (is w) ∙ visits;
    known = o.known;
    later = o.later;
    all_told = o.all_told;
  }

  -- a value, and nothing changed
  pub value_effect : (h : Heap Value ℕ) (v : Value) (effect : PlainWorld → Sight → Effect Val) → AllTold texts tuples h.objects → Leads h.objects v → IsTold texts tuples v
      → ((w : PlainWorld) → effect (world_over texts tuples w h) (sight texts tuples) ≡ does (plain texts tuples v) (world_over texts tuples w h)) → HasEffect texts tuples h h (Ok v) effect
  value_effect h v effect all leads told is =
      let outcome = gives (plain texts tuples v) (plain_heap texts tuples h) in
      heap_effect h h (Ok v) outcome effect (gives_outcome texts tuples h v outcome all leads told refl) refl is

  -- a fault, which changes nothing
  pub fault_effect : (h : Heap Value ℕ) (fault : Fault) (effect : PlainWorld → Sight → Effect Val) → AllTold texts tuples h.objects → IsKnownFault texts tuples h.objects fault
      → ((w : PlainWorld) → effect (world_over texts tuples w h) (sight texts tuples) ≡ faults (plain_fault texts tuples h fault) (world_over texts tuples w h)) → HasEffect texts tuples h h (Err (Raises fault)) effect
  fault_effect h fault effect all known is =
      let outcome : Outcome Val = raises (plain_fault texts tuples h fault) (plain_heap texts tuples h) in
      heap_effect h h (Err (Raises fault)) outcome effect (raises_outcome texts tuples h fault outcome all known refl) refl is

  -- an effect that is another
  pub same_effect : (old new : Heap Value ℕ) (result : Result Value Stop) (known effect : PlainWorld → Sight → Effect Val)
      → ((w : PlainWorld) → effect (world_over texts tuples w old) (sight texts tuples) ≡ known (world_over texts tuples w old) (sight texts tuples))
      → HasEffect texts tuples old new result known → HasEffect texts tuples old new result effect
  same_effect old new result known effect same has = record {
    answer = λ w. has.answer w ∙ sym (ap (λ (e : Effect Val). e.answer) (same w));
    world = λ w. has.world w ∙ sym (ap (λ (e : Effect Val). e.world) (same w));
    visits = λ w. ap (λ (e : Effect Val). e.visits) (same w) ∙ has.visits w;
    known = has.known;
    later = has.later;
    all_told = has.all_told;
  }
