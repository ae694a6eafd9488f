-- Texts that a walk finds.
use Rattle.std.proofs.Common.{◌≡◌, ℕ, ◌^◌, ◌-◌, ◌≤◌, min, List, length, Option, Some, None, Result, Err, refl, sym, ap, subst}
use Rattle.std.specs.Prelude.{IsSome, IfSome, Vec}
use Rattle.std.specs.declared.alloc.Global.{Global}
use Rattle.std.specs.Option.{option_map}
use Rattle.mpy_base.specs.World.{Heap}
use Rattle.mpy_base.specs.Val.{Val}
use Rattle.prim_builtins.specs.arena_heap.declared.value.Value.{Value}
use Rattle.prim_builtins.specs.arena_heap.declared.value.StrNo.{StrNo}
use Rattle.prim_builtins.specs.arena_heap.declared.value.ConstNo.{ConstNo}
use Rattle.prim_builtins.specs.arena_objects.Iterables.{or_nothing}
use Rattle.prim_builtins.specs.arena_objects.Keys.{AllTold}
use Rattle.prim_builtins.specs.py_values.Shown.{PlainHeap}
use Rattle.prim_builtins.specs.py_values.Equality.{Walk}
use Rattle.prim_builtins.specs.py_primitives.Outcome.{Outcome, with_visits, after_answer, after_walk}
use Rattle.prim_builtins.specs.prim_walks.Plain.{plain_heap}
use Rattle.prim_builtins.specs.prim_faults.declared.fault.Fault.TheVariants as faults
use Rattle.prim_builtins.specs.prim_faults.declared.stop.Stop.{Stop}
use Rattle.prim_builtins.specs.prim_faults.declared.stop.Stop.TheVariants.{Raises}
use Rattle.prim_builtins.specs.prim_faults.Outcomes.{IsOutcome}
use Rattle.prim_builtins.proofs.prim_faults_lemmas.Outcomes.{raises_outcome}

pub measured_found : (len : ℕ) (o : Option (List ℕ)) → Some len ≡ option_map (λ text. min (length text) (2 ^ 64 - 1)) o → IsSome o
measured_found len None e = absurd cc
measured_found len (Some text) e = refl

pub measured_len : (len : ℕ) (o : Option (List ℕ)) → Some len ≡ option_map (λ text. min (length text) (2 ^ 64 - 1)) o → len ≡ min (length (or_nothing o)) (2 ^ 64 - 1)
measured_len len None e = absurd cc
measured_len len (Some text) e = cc

pub unmeasured : (o : Option (List ℕ)) → None ≡ option_map (λ text. min (length text) (2 ^ 64 - 1)) o → o ≡ None
unmeasured None e = refl
unmeasured (Some text) e = absurd cc

answer_follows : (heap : PlainHeap) (next : List ℕ → Outcome Val) (o : Option (List ℕ)) → IsSome o → after_answer o heap next ≡ next (or_nothing o)
answer_follows heap next None some = absurd cc
answer_follows heap next (Some text) some = refl

module _ (texts : StrNo → Option (List ℕ)) (tuples : ConstNo → Option (List Value)) (h new : Heap Value ℕ) where
  -- visits change nothing
  visited : (n : ℕ) (r : Result Value Stop) (o : Outcome Val) → IsOutcome texts tuples h new r o → IsOutcome texts tuples h new r (with_visits n o)
  visited n r o is = record { answer = is.answer; heap = is.heap; known = is.known; later = is.later; all_told = is.all_told }

  pub text_follows : (walk : Walk (List ℕ)) (next : List ℕ → Outcome Val) (r : Result Value Stop) → IsSome walk.answer → IsOutcome texts tuples h new r (next (or_nothing walk.answer))
      → IsOutcome texts tuples h new r (after_walk (plain_heap texts tuples h) walk next)
  text_follows walk next r some is =
      visited walk.visits r _ (subst (λ (o : Outcome Val). IsOutcome texts tuples h new r o) (sym (answer_follows (plain_heap texts tuples h) next walk.answer some)) is)

pub too_deep : (texts : StrNo → Option (List ℕ)) (tuples : ConstNo → Option (List Value)) (h : Heap Value ℕ) → AllTold texts tuples h.objects → (walk : Walk (List ℕ)) (next : List ℕ → Outcome Val) → walk.answer ≡ None
    → IsOutcome texts tuples h h (Err (Raises faults.TooDeep)) (after_walk (plain_heap texts tuples h) walk next)
too_deep texts tuples h all walk next e =
    visited texts tuples h h walk.visits _ _ (raises_outcome texts tuples h faults.TooDeep _ all tt (ap (λ (o : Option (List ℕ)). after_answer o (plain_heap texts tuples h) next) e))

-- where the text that is found fits, and where it is found in bytes
pub room_found : {room : ℕ} (o : Option (List ℕ)) → length (or_nothing o) ≤ room → IfSome o (λ text. length text ≤ room)
room_found None low = tt
room_found (Some text) low = low

pub items_found : (r : Option (Vec ℕ Global)) (o : Option (List ℕ)) → option_map (λ text. text.items) r ≡ o → IfSome r (λ text. text.items ≡ or_nothing o)
items_found None o e = tt
items_found (Some text) o e = ap or_nothing e
