-- Calls with two arguments.
use Rattle.std.proofs.Common.{◌≡◌, ℕ, List, [], ◌∷◌, map, Option, Result, sym, ap, ap₂, ◌∙◌, subst, arith}
use Rattle.std.specs.List.{All}
use Rattle.prim_builtins.specs.arena_heap.declared.value.Value.{Value}
use Rattle.prim_builtins.specs.arena_heap.declared.value.StrNo.{StrNo}
use Rattle.prim_builtins.specs.arena_heap.declared.value.ConstNo.{ConstNo}
use Rattle.mpy_base.specs.declared.builtin.Builtin.{Builtin}
use Rattle.mpy_base.specs.World.{Heap}
use Rattle.mpy_base.specs.Val.{Val}
use Rattle.prim_builtins.specs.py_primitives.Outcome.{Outcome}
use Rattle.prim_builtins.specs.py_primitives.Calls.{Counts, Exactly, counts_of, count_fault, unless_fault, call, called}
use Rattle.prim_builtins.specs.prim_walks.Plain.{plain, plain_pair, plain_heap}
use Rattle.prim_builtins.specs.prim_faults.declared.stop.Stop.{Stop}
use Rattle.prim_builtins.specs.prim_faults.Faults.{IsKnown}
use Rattle.prim_builtins.specs.prim_faults.Outcomes.{IsOutcome}

module _ (texts : StrNo → Option (List ℕ)) (tuples : ConstNo → Option (List Value)) (h : Heap Value ℕ) (args : List Value) (a b : Value) (is : args ≡ a ∷ b ∷ []) where
  pub both_known : All (IsKnown texts tuples h.objects) args → IsKnown texts tuples h.objects a × IsKnown texts tuples h.objects b
  both_known known =
      let each = subst (All (IsKnown texts tuples h.objects)) is known in
      (each 0 a (omega arith), each 1 b (omega arith))

  -- as the built-in takes them
  pub two_called : (keys : List (Value × Value)) (built : Builtin) (new : Heap Value ℕ) (result : Result Value Stop) → keys ≡ [] → counts_of built ≡ Exactly 2
      → IsOutcome texts tuples h new result (called (plain_heap texts tuples h) built (plain texts tuples a ∷ plain texts tuples b ∷ []))
      → IsOutcome texts tuples h new result (call (plain_heap texts tuples h) built (map (plain texts tuples) args) (map (plain_pair texts tuples) keys))
  two_called keys built new result none counts done =
      let heap = plain_heap texts tuples h in
      let both = plain texts tuples a ∷ plain texts tuples b ∷ [] in
      let same =
      ap₂ (λ (vs : List Value) (ks : List (Value × Value)). call heap built (map (plain texts tuples) vs) (map (plain_pair texts tuples) ks)) is none
      ∙ ap (λ (c : Counts). unless_fault heap (count_fault c 2) (called heap built both)) counts in
      subst (λ (o : Outcome Val). IsOutcome texts tuples h new result o) (sym same) done
