-- Effects of calls that are a primitive's.
use Rattle.std.proofs.Common.{◌≡◌, ℕ, List, length, Bool, true, false, cond, Option, Result, Ok, refl, sym, ap, ◌∙◌}
use Rattle.mpy_base.specs.World.{Object, Heap, pairs_at}
use Rattle.mpy_base.specs.Weights.{used, does_fit, cells_of, bytes_of, with_made, dict_growth, with_pairs}
use Rattle.mpy_base.specs.Val.{Val, Nil, At, PlainWorld}
use Rattle.prim_assignments.specs.arena_heap.declared.value.Value.{Value}
use Rattle.prim_assignments.specs.arena_heap.declared.value.Value.TheVariants as values
use Rattle.prim_assignments.specs.arena_heap.declared.value.StrNo.{StrNo}
use Rattle.prim_assignments.specs.arena_heap.declared.value.ConstNo.{ConstNo}
use Rattle.py_effects.specs.py_values.Shown.{PlainHeap}
use Rattle.py_effects.specs.py_values.Keys.{with_key}
use Rattle.py_effects.specs.py_primitives.Outcome.{Outcome, gives, is_full, making}
use Rattle.py_effects.specs.py_primitives.Uses.{put_pair}
use Rattle.py_effects.specs.Effect.{Effect, on_heap, does}
use Rattle.prim_assignments.specs.prim_faults.declared.stop.Stop.{Stop as ArenaStop}
use Rattle.prim_assignments.specs.prim_faults.Outcomes.{IsOutcome}
use Rattle.prim_modules.specs.Registry.{Registry}
use Rattle.prim_assignments.specs.prim_faults.Sights.{world_over}
use Rattle.prim_modules.specs.Effects.{world_with, IsEffect, IsStored}

-- visits
-- ======

either_visits : {A : Type 0} (b : Bool) (x y : Outcome A) → x.visits ≡ 0 → y.visits ≡ 0 → (cond b x y).visits ≡ 0
either_visits true x y one two = one
either_visits false x y one two = two

pub making_visits : (heap : PlainHeap) (o : Object Val (List ℕ)) → (making heap o).visits ≡ 0
making_visits heap o = either_visits (does_fit heap (cells_of o) (bytes_of o)) (gives (At (used heap)) (with_made heap o)) (is_full heap (cells_of o) (bytes_of o)) refl refl

pub put_visits : (heap : PlainHeap) (d : ℕ) (key v : Val) → (put_pair heap d key v).visits ≡ 0
put_visits heap d key v =
    let pairs : List (Val × Val) = with_key heap (pairs_at heap d) key v in
    either_visits (does_fit heap (dict_growth heap d (length pairs)) 0) (gives Nil (with_pairs heap d pairs)) (is_full heap (dict_growth heap d (length pairs)) 0) refl refl

-- effects
-- =======

module _ (texts : StrNo → Option (List ℕ)) (tuples : ConstNo → Option (List Value)) (old new : Heap Value ℕ) (result : Result Value ArenaStop) (outcome : Outcome Val) (is : IsOutcome texts tuples old new result outcome) (free : outcome.visits ≡ 0) where
  pub effect_by : (effect : PlainWorld → Effect Val) → ((w : PlainWorld) → effect (world_over texts tuples w old) ≡ on_heap (world_over texts tuples w old) outcome) → IsEffect texts tuples old new result effect
  effect_by effect does = record {
    answer = λ w. is.answer ∙ sym (ap (λ (e : Effect Val). e.answer) (does w));
    world = λ w. ap (λ (heap : PlainHeap). record (world_over texts tuples w old) { heap = heap }) is.heap ∙ sym (ap (λ (e : Effect Val). e.world) (does w));
    visits = λ w. ap (λ (e : Effect Val). e.visits) (does w) ∙ free;
  }

  pub stored_by : (registry : Registry) (effect : PlainWorld → Effect Val) → ((w : PlainWorld) → effect (world_with texts tuples w old registry) ≡ on_heap (world_with texts tuples w old registry) outcome)
      → IsStored texts tuples old new registry result effect
  stored_by registry effect does = record {
    answer = λ w. is.answer ∙ sym (ap (λ (e : Effect Val). e.answer) (does w));
    world = λ w. ap (λ (heap : PlainHeap). record (world_with texts tuples w old registry) { heap = heap }) is.heap ∙ sym (ap (λ (e : Effect Val). e.world) (does w));
    visits = λ w. ap (λ (e : Effect Val). e.visits) (does w) ∙ free;
  }

-- nothing is stored
pub nothing_by : (texts : StrNo → Option (List ℕ)) (tuples : ConstNo → Option (List Value)) (h : Heap Value ℕ) (registry : Registry) (effect : PlainWorld → Effect Val)
    → ((w : PlainWorld) → effect (world_with texts tuples w h registry) ≡ does Nil (world_with texts tuples w h registry)) → IsStored texts tuples h h registry (Ok values.None) effect
nothing_by texts tuples h registry effect nothing = record {
  answer = λ w. sym (ap (λ (e : Effect Val). e.answer) (nothing w));
  world = λ w. sym (ap (λ (e : Effect Val). e.world) (nothing w));
  visits = λ w. ap (λ (e : Effect Val). e.visits) (nothing w);
}
