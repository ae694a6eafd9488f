-- What comes behind a walk over an arena's values.
use Rattle.std.proofs.Common.{◌≡◌, ℕ, List, Bool, Option, Some, None, Result, Ok, Err, refl, sym, ap, subst, arith}
use Rattle.prim_faults.specs.mpy_base.World.{Heap}
use Rattle.prim_faults.specs.mpy_base.Val.{Val, Truth}
use Rattle.prim_faults.specs.arena_heap.declared.value.Value.{Value}
use Rattle.prim_faults.specs.arena_heap.declared.value.Value.TheVariants as values
use Rattle.prim_faults.specs.arena_heap.declared.value.StrNo.{StrNo}
use Rattle.prim_faults.specs.arena_heap.declared.value.ConstNo.{ConstNo}
use Rattle.prim_faults.specs.arena_objects.Keys.{AllTold}
use Rattle.prim_faults.specs.py_values.Shown.{PlainHeap}
use Rattle.prim_faults.specs.py_values.Equality.{Walk}
use Rattle.prim_faults.specs.py_primitives.Outcome.{Outcome, gives, with_visits, after_answer, after_walk}
use Rattle.prim_faults.specs.prim_walks.Plain.{plain_heap}
use Rattle.prim_faults.specs.declared.fault.Fault.TheVariants as faults
use Rattle.prim_faults.specs.declared.stop.Stop.{Stop}
use Rattle.prim_faults.specs.declared.stop.Stop.TheVariants.{Raises}
use Rattle.prim_faults.specs.Outcomes.{IsOutcome}
use Rattle.prim_faults.proofs.Outcomes.{gives_outcome, raises_outcome}

module _ (texts : StrNo → Option (List ℕ)) (tuples : ConstNo → Option (List Value)) (h : Heap Value ℕ) (all : AllTold texts tuples h.objects) where
  -- visits change nothing
  visited : (n : ℕ) (r : Result Value Stop) (o : Outcome Val) → IsOutcome texts tuples h h r o → IsOutcome texts tuples h h r (with_visits n o)
  visited n r o is = record { answer = is.answer; heap = is.heap; known = is.known; later = is.later; all_told = is.all_told }

  pub gives_truth : (b c : Bool) → b ≡ c → IsOutcome texts tuples h h (Ok (values.Bool b)) (gives (Truth c) (plain_heap texts tuples h))
  gives_truth b c e = gives_outcome texts tuples h (values.Bool b) _ all (record { meets = tt; small = tt }) tt (ap (λ (t : Bool). gives (Truth t) (plain_heap texts tuples h)) (sym e))

  module _ {A : Type 0} (walk : Walk A) (next : A → Outcome Val) where
    pub walked : (a : A) (r : Result Value Stop) → walk.answer ≡ Some a → IsOutcome texts tuples h h r (next a) → IsOutcome texts tuples h h r (after_walk (plain_heap texts tuples h) walk next)
    walked a r e is =
        visited walk.visits r _ (subst (λ (o : Outcome Val). IsOutcome texts tuples h h r o) (sym (ap (λ (o : Option A). after_answer o (plain_heap texts tuples h) next) e)) is)

    pub too_deep : walk.answer ≡ None → IsOutcome texts tuples h h (Err (Raises faults.TooDeep)) (after_walk (plain_heap texts tuples h) walk next)
    too_deep e =
        visited walk.visits _ _ (raises_outcome texts tuples h faults.TooDeep _ all tt (ap (λ (o : Option A). after_answer o (plain_heap texts tuples h) next) e))

module _ {A : Type 0} (heap : PlainHeap) (next : A → Outcome Val) (free : (a : A) → (next a).visits ≡ 0) where
  answer_free : (o : Option A) → (after_answer o heap next).visits ≡ 0
  answer_free (Some a) = free a
  answer_free None = refl

  -- all visits are those of the walk
  pub visits_walked : (walk : Walk A) → (after_walk heap walk next).visits ≡ walk.visits
  visits_walked walk = let none = answer_free walk.answer in omega (arith, none)
