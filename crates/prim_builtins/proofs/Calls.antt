-- Calls of built-ins with their arguments.
use Rattle.std.proofs.Common.{◌≡◌, ℕ, List, [], ◌∷◌, map, Option, Result, Err, sym, ap, ap₂, ◌∙◌, subst}
use Rattle.std.specs.List.{All}
use Rattle.std.proofs.lemmas.List.Elements.{All-head}
use Rattle.prim_operators.specs.arena_heap.declared.value.Value.{Value}
use Rattle.prim_operators.specs.arena_heap.declared.value.StrNo.{StrNo}
use Rattle.prim_operators.specs.arena_heap.declared.value.ConstNo.{ConstNo}
use Rattle.prim_operators.specs.mpy_base.declared.builtin.Builtin.{Builtin}
use Rattle.prim_operators.specs.mpy_base.World.{Heap}
use Rattle.prim_operators.specs.mpy_base.Val.{Val}
use Rattle.prim_operators.specs.arena_objects.Keys.{AllTold}
use Rattle.prim_operators.specs.py_primitives.Outcome.{Outcome}
use Rattle.prim_operators.specs.py_primitives.Methods.{call_method}
use Rattle.prim_operators.specs.py_primitives.Calls.{Counts, Exactly, counts_of, count_fault, unless_fault, call, called}
use Rattle.prim_operators.specs.prim_walks.Plain.{plain, plain_pair, plain_heap}
use Rattle.prim_operators.specs.prim_faults.declared.fault.Fault.{Fault}
use Rattle.prim_operators.specs.prim_faults.declared.stop.Stop.{Stop}
use Rattle.prim_operators.specs.prim_faults.declared.stop.Stop.TheVariants.{Raises}
use Rattle.prim_operators.specs.prim_faults.Faults.{IsKnown}
use Rattle.prim_operators.specs.prim_faults.Outcomes.{IsOutcome}
use Rattle.prim_operators.proofs.prim_faults_lemmas.Outcomes.{raises_outcome}
use Rattle.prim_builtins.specs.Arguments.{IsRefusal}

module _ (texts : StrNo → Option (List ℕ)) (tuples : ConstNo → Option (List Value)) (h : Heap Value ℕ) (args : List Value) where
  -- what is known of the only argument
  pub one_known : (v : Value) → args ≡ v ∷ [] → All (IsKnown texts tuples h.objects) args → IsKnown texts tuples h.objects v
  one_known v e known = All-head (IsKnown texts tuples h.objects) v [] (subst (All (IsKnown texts tuples h.objects)) e known)

  module _ (keys : List (Value × Value)) (b : Builtin) where
    -- arguments that are refused
    pub refused : (counts : Counts) (fault : Fault) → AllTold texts tuples h.objects → IsRefusal counts args keys fault → counts_of b ≡ counts
        → IsOutcome texts tuples h h (Err (Raises fault)) (call (plain_heap texts tuples h) b (map (plain texts tuples) args) (map (plain_pair texts tuples) keys))
    refused counts fault all r e = raises_outcome texts tuples h fault _ all (r.known texts tuples h) (r.raised texts tuples h b e)

    pub method_refused : (object : Val) (counts : Counts) (fault : Fault) → AllTold texts tuples h.objects → IsRefusal counts args keys fault → counts_of b ≡ counts
        → IsOutcome texts tuples h h (Err (Raises fault)) (call_method (plain_heap texts tuples h) b object (map (plain texts tuples) args) (map (plain_pair texts tuples) keys))
    method_refused object counts fault all r e = raises_outcome texts tuples h fault _ all (r.known texts tuples h) (r.method_raised texts tuples h b object e)

    -- one argument, as the built-in takes it
    pub with_one : (v : Value) → args ≡ v ∷ [] → keys ≡ [] → counts_of b ≡ Exactly 1
        → call (plain_heap texts tuples h) b (map (plain texts tuples) args) (map (plain_pair texts tuples) keys) ≡ called (plain_heap texts tuples h) b (plain texts tuples v ∷ [])
    with_one v is none counts =
        ap₂ (λ (vs : List Value) (ks : List (Value × Value)). call (plain_heap texts tuples h) b (map (plain texts tuples) vs) (map (plain_pair texts tuples) ks)) is none
        ∙ ap (λ (c : Counts). unless_fault (plain_heap texts tuples h) (count_fault c 1) (called (plain_heap texts tuples h) b (plain texts tuples v ∷ []))) counts

    pub one_called : (new : Heap Value ℕ) (v : Value) (result : Result Value Stop) → args ≡ v ∷ [] → keys ≡ [] → counts_of b ≡ Exactly 1
        → IsOutcome texts tuples h new result (called (plain_heap texts tuples h) b (plain texts tuples v ∷ []))
        → IsOutcome texts tuples h new result (call (plain_heap texts tuples h) b (map (plain texts tuples) args) (map (plain_pair texts tuples) keys))
    one_called new v result is none counts done = subst (λ (o : Outcome Val). IsOutcome texts tuples h new result o) (sym (with_one v is none counts)) done
