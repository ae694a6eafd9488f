-- Calls of built-ins by their families.
use Rattle.std.proofs.Common.{◌≡◌, ℕ, List, Option, Result, Ok, Err, refl, sym, subst}
use Rattle.mpy_base.specs.declared.builtin.Builtin.{Builtin}
use Rattle.mpy_base.specs.declared.builtin.Builtin.TheVariants as builtins
use Rattle.mpy_base.specs.World.{Heap, Objects}
use Rattle.prim_methods.specs.arena_heap.declared.value.Value.{Value}
use Rattle.prim_methods.specs.arena_heap.declared.value.StrNo.{StrNo}
use Rattle.prim_methods.specs.arena_heap.declared.value.ConstNo.{ConstNo}
use Rattle.prim_types.specs.py_primitives.Outcome.{Outcome}
use Rattle.prim_types.specs.py_primitives.Calls.{call}
use Rattle.prim_methods.specs.prim_faults.declared.stop.Stop.{Stop}
use Rattle.prim_methods.specs.prim_faults.declared.stop.Stop.TheVariants as stops
use Rattle.prim_methods.specs.prim_faults.declared.fault.Fault.TheVariants as faults
use Rattle.prim_methods.specs.prim_faults.Faults.{IsKnown}
use Rattle.prim_methods.specs.prim_faults.Outcomes.{IsKnownAnswer}
use Rattle.prim_outputs.specs.declared.prints.PrintStop.{PrintStop}
use Rattle.prim_outputs.specs.declared.prints.PrintStop.TheVariants as prints
use Rattle.prim_outputs.specs.Prints.{IsPrint}
use Rattle.prim_calls.specs.declared.calls.CallStop.{CallStop}
use Rattle.prim_calls.specs.declared.calls.CallStop.TheVariants as calls
use Rattle.prim_calls.specs.Families.{IsOnHeap}
use Rattle.prim_calls.specs.Calls.{as_call, as_print, Seen, IsKnownCall, heap_of, plain_args, plain_keys, ActsOnHeap, IsCall}

module _ (texts : StrNo → Option (List ℕ)) (tuples : ConstNo → Option (List Value)) where
  as_known : (objects : Objects Value ℕ) (r : Result Value Stop) → IsKnownAnswer texts tuples objects r → IsKnownCall texts tuples objects (as_call r)
  as_known objects (Ok v) known = known
  as_known objects (Err stop) known = known

  -- the values of an answer
  pub known_call : (objects : Objects Value ℕ) (r : Result Value Stop) (result : Result Value CallStop) → result ≡ as_call r → IsKnownAnswer texts tuples objects r → IsKnownCall texts tuples objects result
  known_call objects r result is known = subst (IsKnownCall texts tuples objects) (sym is) (as_known objects r known)

  module _ {S : Type 0} (told : S → Option (List ℕ)) (count : S → ℕ) (heap : Heap Value ℕ) (old new : S) (outcome : Outcome (List ℕ)) where
    print_known : (r : Result Value PrintStop) → IsPrint told count texts tuples heap old new r outcome → IsKnownCall texts tuples heap.objects (as_print r)
    print_known (Ok v) is = subst (IsKnown texts tuples heap.objects) (sym is.0) (record { leads = record { meets = tt; small = tt }; told = tt })
    print_known (Err (prints.Raises fault)) is = is.known
    print_known (Err (prints.Out failed)) is = tt

    pub known_print : (r : Result Value PrintStop) (result : Result Value CallStop) → result ≡ as_print r → IsPrint told count texts tuples heap old new r outcome → IsKnownCall texts tuples heap.objects result
    known_print r result same is = subst (IsKnownCall texts tuples heap.objects) (sym same) (print_known r is)

-- a call that failed
pub failed_answer : (r : Result Value Stop) → as_call r ≡ Err (calls.Stops (stops.Raises faults.PortFailed)) → r ≡ Err (stops.Raises faults.PortFailed)
failed_answer (Ok v) is = absurd cc
failed_answer (Err stop) is = cc

-- the built-ins that concern the heap alone
pub on_heap_of : (b : Builtin) → (b ≡ builtins.Print → ⊥) → (b ≡ builtins.PortPut → ⊥) → (b ≡ builtins.PortGet → ⊥) → (b ≡ builtins.PortCount → ⊥) → (b ≡ builtins.Port → ⊥) → IsOnHeap b
on_heap_of builtins.Print print put get counts port = absurd (print refl)
on_heap_of builtins.PortPut print put get counts port = absurd (put refl)
on_heap_of builtins.PortGet print put get counts port = absurd (get refl)
on_heap_of builtins.PortCount print put get counts port = absurd (counts refl)
on_heap_of builtins.Port print put get counts port = absurd (port refl)
on_heap_of _ print put get counts port = tt

module _ {S : Type 0} (told : S → Option (List ℕ)) (count : S → ℕ) (texts : StrNo → Option (List ℕ)) (tuples : ConstNo → Option (List Value)) (old new : Seen S) (args : List Value) (keys : List (Value × Value)) (result : Result Value CallStop) where
  pub on_heap_call : (b : Builtin) → IsOnHeap b
      → ActsOnHeap told count texts tuples old new args keys result (call (heap_of told count texts tuples old new args keys result) b (plain_args told count texts tuples old new args keys result) (plain_keys told count texts tuples old new args keys result))
      → IsCall told count texts tuples old new args keys result b
  on_heap_call builtins.Print is acts = absurd is
  on_heap_call builtins.PortPut is acts = absurd is
  on_heap_call builtins.PortGet is acts = absurd is
  on_heap_call builtins.PortCount is acts = absurd is
  on_heap_call builtins.Port is acts = absurd is
  on_heap_call _ is acts = acts
